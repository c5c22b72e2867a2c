-- `write_message::prepend_all` meets its contract.
use Rattle.write_message.proofs.Turns.{Backward}
use Rattle.write_message.proofs.prepend_all.Given as goal

abbrev pub invariant-loop-i : goal.invariant-loop-i
invariant-loop-i l = Backward l.initial.buf l.source l.table l.count l.buf l.end l.i

abbrev pub decreases-loop-i : goal.decreases-loop-i
decreases-loop-i l = l.i
