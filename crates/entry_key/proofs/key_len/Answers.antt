-- The order of tags, then the core.
use mathlib.Core.Path.{◌∙◌, ap, sym}
use native.Mathlib.Omega.{arith}
use Rattle.entry_answer.specs.declared.KeyLength.TheVariants.{Length}
use Rattle.entry_key.specs.Keys.{len-falls, len-order}
use Rattle.entry_key.proofs.key_len.Goals as goal

pub returns-then-tag-last : goal.returns-then-tag-last
returns-then-tag-last c = sym (len-falls _ _ (omega arith))

pub returns : goal.returns
returns c = ap Length c.key_len.ensures ∙ sym (len-order _ _ (omega arith))
