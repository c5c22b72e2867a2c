-- Each turn puts what stands below a tag of the correction in the original, then the tag.
use Prim.Native.Nat.{◌-◌}
use lib.ListN.{length}
use Rattle.correct_write.specs.Turning.{Putting}
use Rattle.correct_write.proofs.put_all.Given as goal

abbrev pub invariant-loop-q : goal.invariant-loop-q
invariant-loop-q l = Putting l.initial.buf l.original l.correction l.buf l.at l.p l.last l.q l.tag

abbrev pub decreases-loop-q : goal.decreases-loop-q
decreases-loop-q l = length l.correction - l.q
