-- The digits of the bytes that are left, put after those that are there, are what was asked for.
use Rattle.text_digits.proofs.Turns.{Hexing}
use Rattle.text_digits.proofs.put_hex_bytes.Given as goal

abbrev pub invariant-loop-b : goal.invariant-loop-b
invariant-loop-b l = Hexing l.initial.buf l.at l.bytes l.buf l.p l.b-index
