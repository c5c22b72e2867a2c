-- Each turn amends a payload with no bytes.
use Rattle.std.specs.Prelude.{◌≡◌}
use Rattle.edit_pack.specs.Packing.{cleared}
use Rattle.edit_pack.proofs.clear_empty.Given as goal

abbrev pub invariant-loop-i : goal.invariant-loop-i
invariant-loop-i l = l.table ≡ cleared l.i l.skip l.initial.table
