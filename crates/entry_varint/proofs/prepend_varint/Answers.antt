-- What the core put, told as an answer.
use native.Mathlib.Omega.{arith}
use Rattle.wire.specs.VarintLaws.{length-pos}
use Rattle.place.specs.Place.{prepend-starts}
use Rattle.entry_answer.specs.Stores.{at_end, puts_none, puts-done, puts-end}
use Rattle.entry_varint.proofs.prepend_varint.Goals as goal

pub returns-then-start-end : goal.returns-then-start-end
unfolding at_end
returns-then-start-end c = puts_none (puts-end _ _ (length-pos _) _ _ c.prepend_varint-start.ensures) (omega arith)

pub overflow_sub-result : goal.overflow_sub-result
overflow_sub-result c = prepend-starts _ _ _ c.prepend_varint-start.ensures

pub returns : goal.returns
unfolding at_end
returns c = puts-done (puts-end _ _ (length-pos _) _ _ c.prepend_varint-start.ensures) (λ z. c.if-start-end.false (omega (arith, prepend-starts _ _ _ c.prepend_varint-start.ensures)))
