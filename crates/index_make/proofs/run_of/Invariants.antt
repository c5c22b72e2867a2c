-- Each turn takes one more field of the tag.
use Prim.Native.Nat.{◌-◌}
use lib.ListN.{length}
use Rattle.index_make.proofs.Running.{Running}
use Rattle.index_make.proofs.run_of.Given as goal

abbrev pub invariant-loop-p : goal.invariant-loop-p
invariant-loop-p l = Running l.s l.tag l.at l.p l.count

abbrev pub decreases-loop-p : goal.decreases-loop-p
decreases-loop-p l = length l.s - l.p
