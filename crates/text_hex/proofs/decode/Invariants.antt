-- The bytes that are left, put after those that are there, are all bytes of the line.
use Rattle.text_hex.proofs.Chars.{Decoding}
use Rattle.text_hex.proofs.decode.Given as goal

abbrev pub invariant-loop-k : goal.invariant-loop-k
invariant-loop-k l = Decoding l.line l.initial.out l.out l.k
