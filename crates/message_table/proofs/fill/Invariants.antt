-- Pass two: each turn writes the words of the next field.
use mathlib.Core.Path.{◌≡◌}
use Prim.Native.Nat.{◌-◌}
use lib.ListN.{length}
use Rattle.wire.specs.Marks.{marks}
use Rattle.wire.specs.Table.{filled}
use Rattle.message_table.proofs.Filling.{Filling}
use Rattle.message_table.proofs.fill.Given as goal

abbrev pub invariant-loop-p : goal.invariant-loop-p
invariant-loop-p l = Filling l.s l.end (filled l.initial.table (marks l.s l.start l.end)) l.p l.tag l.i l.table × (length l.table ≡ length l.initial.table)

abbrev pub decreases-loop-p : goal.decreases-loop-p
decreases-loop-p l = l.end - l.p
