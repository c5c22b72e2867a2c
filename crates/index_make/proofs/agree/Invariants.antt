-- Each turn compares an entry.
use Prim.Native.Nat.{◌-◌}
use lib.ListN.{length}
use Rattle.index_make.proofs.Making.{Agreeing}
use Rattle.index_make.proofs.agree.Given as goal

abbrev pub invariant-loop-tag : goal.invariant-loop-tag
invariant-loop-tag l = Agreeing l.s l.index l.tags l.p l.last l.n l.i

abbrev pub decreases-loop-tag : goal.decreases-loop-tag
decreases-loop-tag l = length l.s - l.p
