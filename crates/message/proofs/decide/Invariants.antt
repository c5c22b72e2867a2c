-- Pass one: each turn reads a field, and the loop ends at the end or past it.
use mathlib.Core.Path.{◌≡◌}
use mathlib.Core.List.{List}
use Prim.Native.Nat.{◌-◌}
use lib.ListN.{length}
use Rattle.wire.specs.declared.Field.{Field}
use Rattle.message.proofs.Walking.{Walk}
use Rattle.message.proofs.decide.Given as goal

-- the fields passed so far, and their count
abbrev pub invariant-loop-p : goal.invariant-loop-p
invariant-loop-p l = (fs : List Field) × Walk l.s l.start l.end l.mark l.p l.last fs × (l.count ≡ length fs)

abbrev pub decreases-loop-p : goal.decreases-loop-p
decreases-loop-p l = l.end - l.p
