-- A number that is no wire type, or what the face answers.
use mathlib.Core.Path.{◌∙◌, ap, sym}
use Rattle.entry_answer.specs.Told.{run_count_told}
use Rattle.c_words.specs.Words.{as-unknown, as-known}
use Rattle.capgauze_c.proofs.capgauze_run_count.Goals as goal

pub returns-in_default : goal.returns-in_default
returns-in_default c = c.run_count_words.ensures ∙ sym (as-unknown _ _ _ (sym c.typed_of.ensures ∙ c.in_default.is))

pub returns : goal.returns
returns c =
    c.run_count_words-2.ensures ∙ ap run_count_told c.run_count.ensures
    ∙ sym (as-known _ _ _ _ (sym c.typed_of.ensures ∙ c.in-Is.is))
