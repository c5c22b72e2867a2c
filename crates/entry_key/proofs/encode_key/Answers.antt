-- The order of tags, then what the core put.
use mathlib.Core.Path.{◌∙◌, sym}
use native.Mathlib.Omega.{arith}
use Rattle.wire.specs.VarintLaws.{length-pos}
use Rattle.entry_answer.specs.Stores.{at_front, puts_none, puts-done, puts-front}
use Rattle.entry_key.specs.Keys.{front-falls, front-order}
use Rattle.entry_key.proofs.encode_key.Goals as goal

pub returns-then-tag-last : goal.returns-then-tag-last
unfolding at_front
returns-then-tag-last c = sym (front-falls _ _ _ _ (omega arith))

pub returns-then-n-eq0 : goal.returns-then-n-eq0
unfolding at_front
returns-then-n-eq0 c = puts_none (puts-front _ _ (length-pos _) _ _ c.put_key-n.ensures) (omega arith) ∙ sym (front-order _ _ _ _ (omega arith))

pub returns : goal.returns
unfolding at_front
returns c =
    puts-done (puts-front _ _ (length-pos _) _ _ c.put_key-n.ensures) (λ z. c.if-n-eq0.false (omega arith))
    ∙ sym (front-order _ _ _ _ (omega arith))
