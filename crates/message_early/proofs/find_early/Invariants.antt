-- Each turn looks at a field; what was seen is told where the search stops.
use mathlib.Core.Path.{◌≡◌}
use mathlib.Core.List.{List}
use Prim.Native.Nat.{◌-◌}
use lib.ListN.{length}
use Rattle.wire.specs.declared.Field.{Field}
use Rattle.message.proofs.Seen.{Seen}
use Rattle.message_early.proofs.Going.{Going}
use Rattle.message_early.proofs.find_early.Given as goal

abbrev pub invariant-loop-p : goal.invariant-loop-p
invariant-loop-p l = (fs : List Field) × Going l.tag l.s l.p l.last fs × Seen l.tag 0 fs l.many l.found × (l.keys ≡ length fs)

abbrev pub decreases-loop-p : goal.decreases-loop-p
decreases-loop-p l = length l.s - l.p
