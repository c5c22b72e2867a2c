-- Each turn counts a tag of the correction, and what stands below it in the original.
use Prim.Native.Nat.{◌-◌}
use lib.ListN.{length}
use Rattle.correct_write.specs.Turning.{Measuring}
use Rattle.correct_write.proofs.measure.Given as goal

abbrev pub invariant-loop-q : goal.invariant-loop-q
invariant-loop-q l = Measuring l.original l.correction l.p l.last l.q l.tag l.n

abbrev pub decreases-loop-q : goal.decreases-loop-q
decreases-loop-q l = length l.correction - l.q
