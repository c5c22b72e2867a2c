-- Each turn reads a character.
use Rattle.index_line.proofs.Turns.{Numbering}
use Rattle.index_line.proofs.number_at.Given as goal

abbrev pub invariant-loop-left : goal.invariant-loop-left
invariant-loop-left l = Numbering l.line l.at l.k l.x l.i l.left

abbrev pub decreases-loop-left : goal.decreases-loop-left
decreases-loop-left l = l.left
