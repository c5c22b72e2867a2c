-- Each turn counts a tag.
use Prim.Native.Nat.{◌-◌}
use lib.ListN.{length}
use Rattle.index_make.proofs.Making.{Counting}
use Rattle.index_make.proofs.count_tags.Given as goal

abbrev pub invariant-loop-r : goal.invariant-loop-r
invariant-loop-r l = Counting l.s l.p l.last l.n

abbrev pub decreases-loop-r : goal.decreases-loop-r
decreases-loop-r l = length l.s - l.p
