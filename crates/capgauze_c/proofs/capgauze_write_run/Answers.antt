-- A number that is no wire type, or what the face answers and leaves.
use mathlib.Core.Path.{◌∙◌, ap, sym}
use Rattle.c_words.specs.Words.{handed, writing_told, as-unknown, as-known}
use Rattle.capgauze_c.proofs.capgauze_write_run.Goals as goal

pub returns-in_default : goal.returns-in_default
returns-in_default c = handed c.written_words.ensures (sym (as-unknown _ _ _ (sym c.typed_of.ensures ∙ c.in_default.is)))

pub returns : goal.returns
returns c =
    handed c.written_words-2.ensures
    (ap writing_told c.write_run.ensures ∙ sym (as-known _ _ _ _ (sym c.typed_of.ensures ∙ c.in-Is.is)))
