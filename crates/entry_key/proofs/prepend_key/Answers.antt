-- The order of tags, then what the core put.
use mathlib.Core.Path.{◌∙◌, sym}
use native.Mathlib.Omega.{arith}
use Rattle.wire.specs.VarintLaws.{length-pos}
use Rattle.place.specs.Place.{prepend-starts}
use Rattle.entry_answer.specs.Stores.{at_end, puts_none, puts-done, puts-end}
use Rattle.entry_key.specs.Keys.{end_falls, end-order}
use Rattle.entry_key.proofs.prepend_key.Goals as goal

pub returns-then-tag-last : goal.returns-then-tag-last
unfolding at_end
returns-then-tag-last c = sym (end_falls _ _ _ _ (omega arith))

pub returns-then-start-end : goal.returns-then-start-end
unfolding at_end
returns-then-start-end c = puts_none (puts-end _ _ (length-pos _) _ _ c.prepend_key-start.ensures) (omega arith) ∙ sym (end-order _ _ _ _ (omega arith))

pub overflow_sub-result : goal.overflow_sub-result
overflow_sub-result c = prepend-starts _ _ _ c.prepend_key-start.ensures

pub returns : goal.returns
unfolding at_end
returns c =
    puts-done (puts-end _ _ (length-pos _) _ _ c.prepend_key-start.ensures) (λ z. c.if-start-end.false (omega (arith, (prepend-starts _ _ _ c.prepend_key-start.ensures))))
    ∙ sym (end-order _ _ _ _ (omega arith))
