-- Each turn reads one more field of the tag.
use Rattle.index_pick.proofs.Following.{Following}
use Rattle.index_pick.proofs.follow.Given as goal

abbrev pub invariant-loop-left : goal.invariant-loop-left
invariant-loop-left l = Following l.s l.tag l.at l.count l.p l.left

abbrev pub decreases-loop-left : goal.decreases-loop-left
decreases-loop-left l = l.left
