-- Each turn tests an entry.
use Rattle.index_line.proofs.Turns.{Rising}
use Rattle.index_line.proofs.rising.Given as goal

abbrev pub invariant-loop-left : goal.invariant-loop-left
invariant-loop-left l = Rising l.line l.w l.tags l.p l.left l.least

abbrev pub decreases-loop-left : goal.decreases-loop-left
decreases-loop-left l = l.left
