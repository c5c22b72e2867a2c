-- A number that is no wire type, or what the face answers.
use mathlib.Core.Path.{◌∙◌, ap, sym}
use Rattle.entry_answer.specs.Told.{value_told}
use Rattle.c_words.specs.Words.{value-unknown, value-known}
use Rattle.capgauze_c.proofs.capgauze_decode_value.Goals as goal

pub returns-in_default : goal.returns-in_default
returns-in_default c = c.value_read_words.ensures ∙ sym (value-unknown _ _ _ (sym c.typed_of.ensures ∙ c.in_default.is))

pub returns : goal.returns
returns c =
    c.value_read_words-2.ensures ∙ ap value_told c.decode_value.ensures
    ∙ sym (value-known _ _ _ _ (sym c.typed_of.ensures ∙ c.in-Is.is))
