-- Each turn passes a field whose tag is below the limit.
use Prim.Native.Nat.{◌-◌}
use lib.ListN.{length}
use Rattle.correct_write.specs.Moving.{Passing}
use Rattle.correct_write.proofs.pass.Given as goal

abbrev pub invariant-loop-p : goal.invariant-loop-p
invariant-loop-p l = Passing l.s l.at l.last l.limit l.p l.tag

abbrev pub decreases-loop-p : goal.decreases-loop-p
decreases-loop-p l = length l.s - l.p
