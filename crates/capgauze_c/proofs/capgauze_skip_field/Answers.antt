-- A number that is no wire type, or what the face answers.
use mathlib.Core.Path.{◌∙◌, ap, sym}
use Rattle.entry_answer.specs.Told.{skipped_told}
use Rattle.c_words.specs.Words.{place-unknown, place-known}
use Rattle.capgauze_c.proofs.capgauze_skip_field.Goals as goal

pub returns-in_default : goal.returns-in_default
returns-in_default c = c.skipped_words.ensures ∙ sym (place-unknown _ _ _ (sym c.typed_of.ensures ∙ c.in_default.is))

pub returns : goal.returns
returns c =
    c.skipped_words-2.ensures ∙ ap skipped_told c.skip_field.ensures
    ∙ sym (place-known _ _ _ _ (sym c.typed_of.ensures ∙ c.in-Is.is))
