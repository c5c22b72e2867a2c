-- The key, then its value, unless it is above the tag.
use mathlib.Core.Path.{◌∙◌, sym}
use native.Mathlib.Omega.{arith}
use Rattle.message_early.specs.Laws.{sight-refused, sight-above, sight-value}
use Rattle.message_early.proofs.look.Goals as goal

pub returns-then-tag-t : goal.returns-then-tag-t
returns-then-tag-t c = sym (sight-above _ _ _ _ _ _ (sym c.decode_key.ensures ∙ c.in-Got.is) (omega (arith, c.if-tag-t.true)))

pub returns-in-Refused : goal.returns-in-Refused
returns-in-Refused c = sym (sight-refused _ _ _ _ _ (sym c.decode_key.ensures ∙ c.in-Refused.is))

pub returns-in-Refused-decode_value : goal.returns-in-Refused-decode_value
returns-in-Refused-decode_value c =
    sym
    (sight-value _ _ _ _ _ _ (sym c.decode_key.ensures ∙ c.in-Got.is) c.if-tag-t.false
    (sym c.decode_value.ensures ∙ c.in-Refused-decode_value.is))

pub returns-in-Got-decode_value : goal.returns-in-Got-decode_value
returns-in-Got-decode_value c =
    sym
    (sight-value _ _ _ _ _ _ (sym c.decode_key.ensures ∙ c.in-Got.is) c.if-tag-t.false
    (sym c.decode_value.ensures ∙ c.in-Got-decode_value.is))
