-- The digits of what is left, put on top of what is there, are what was asked for.
use Rattle.text_digits.proofs.Turns.{Spelling}
use Rattle.text_digits.proofs.put_digits.Given as goal

abbrev pub invariant-loop-i : goal.invariant-loop-i
invariant-loop-i l = Spelling l.initial.buf l.at l.base l.width l.v l.buf l.x l.i
