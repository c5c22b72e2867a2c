-- Each turn reads a field; one of the tag is counted.
use Prim.Native.Nat.{◌-◌}
use lib.ListN.{length}
use Rattle.correct_supply.proofs.Seeking.{Seeking}
use Rattle.correct_supply.proofs.seek.Given as goal

abbrev pub invariant-loop-p : goal.invariant-loop-p
invariant-loop-p l = Seeking l.s l.tag l.p l.last l.count l.found

abbrev pub decreases-loop-p : goal.decreases-loop-p
decreases-loop-p l = length l.s - l.p
