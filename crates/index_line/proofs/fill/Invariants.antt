-- Each turn stores an entry.
use Rattle.index_line.proofs.Turns.{Filling}
use Rattle.index_line.proofs.fill.Given as goal

abbrev pub invariant-loop-left : goal.invariant-loop-left
invariant-loop-left l = Filling l.line l.w l.tags l.initial.index l.index l.p l.left l.i

abbrev pub decreases-loop-left : goal.decreases-loop-left
decreases-loop-left l = l.left
