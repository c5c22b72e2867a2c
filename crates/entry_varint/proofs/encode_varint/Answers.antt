-- What the core put, told as an answer.
use native.Mathlib.Omega.{arith}
use Rattle.wire.specs.VarintLaws.{length-pos}
use Rattle.entry_answer.specs.Stores.{at_front, puts_none, puts-done, puts-front}
use Rattle.entry_varint.proofs.encode_varint.Goals as goal

pub returns-then-n-eq0 : goal.returns-then-n-eq0
unfolding at_front
returns-then-n-eq0 c = puts_none (puts-front _ _ (length-pos _) _ _ c.put_varint-n.ensures) (omega arith)

pub returns : goal.returns
unfolding at_front
returns c = puts-done (puts-front _ _ (length-pos _) _ _ c.put_varint-n.ensures) (λ z. c.if-n-eq0.false (omega arith))
