-- Each turn takes a step: a field is passed over, is where the walk stops, or is counted.
use Prim.Native.Nat.{◌-◌}
use lib.ListN.{length}
use Rattle.message.proofs.Going.{Going}
use Rattle.message.proofs.walk.Given as goal

abbrev pub invariant-loop-r : goal.invariant-loop-r
invariant-loop-r l = Going l.s l.at l.last (record { want = l.want; exact = l.exact; number = l.number; stop = l.stop }) l.p l.tag l.many l.found

abbrev pub decreases-loop-r : goal.decreases-loop-r
decreases-loop-r l = length l.s - l.p
