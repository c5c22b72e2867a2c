-- The tag; then a place inside the source, no key, or neither.
use Rattle.std.proofs.Common.{sym, ◌∙◌, arith}
use Rattle.wire.specs.Table.{key-inside, key-none, key-outside, head-above, head-key}
use Rattle.wire.proofs.good_head.Goals as goal

pub returns-then-tag-gt-LAST_TAG : goal.returns-then-tag-gt-LAST_TAG
returns-then-tag-gt-LAST_TAG c = sym (head-above _ _ _ (omega arith))

pub returns-then-key-len : goal.returns-then-key-len
returns-then-key-len c = sym (head-key _ _ _ (omega arith) ∙ key-inside _ _ c.if-key-len.true)

pub returns-then-key-eq-NO_KEY : goal.returns-then-key-eq-NO_KEY
returns-then-key-eq-NO_KEY c = sym (head-key _ _ _ (omega arith) ∙ key-none _ _ c.if-key-eq-NO_KEY.true)

pub returns : goal.returns
returns c = sym (head-key _ _ _ (omega arith) ∙ key-outside _ _ (omega arith) c.if-key-eq-NO_KEY.false)
