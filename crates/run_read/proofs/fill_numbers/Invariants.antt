-- Each turn writes a record.
use mathlib.Core.Path.{◌≡◌}
use Prim.Native.Nat.{◌-◌}
use lib.ListN.{length}
use Rattle.wire.specs.declared.WireType.TheVariants.{Varint}
use Rattle.run_read.specs.Packed.{packed}
use Rattle.run_read.specs.Runs.{into_table}
use Rattle.run_read.proofs.Going.{Filling}
use Rattle.run_read.proofs.fill_numbers.Given as goal

abbrev pub invariant-loop-p : goal.invariant-loop-p
invariant-loop-p l = Filling l.s Varint (into_table l.initial.table (packed l.s Varint)) l.p l.i l.table × (length l.table ≡ length l.initial.table)

abbrev pub decreases-loop-p : goal.decreases-loop-p
decreases-loop-p l = length l.s - l.p
