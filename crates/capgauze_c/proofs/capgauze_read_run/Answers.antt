-- A number that is no wire type, or what the face answers and leaves.
use mathlib.Core.Path.{◌∙◌, ap, sym}
use Rattle.c_words.specs.Words.{handed, run_told, as-unknown, as-known}
use Rattle.capgauze_c.proofs.capgauze_read_run.Goals as goal

pub returns-in_default : goal.returns-in_default
returns-in_default c = handed c.run_count_words.ensures (sym (as-unknown _ _ _ (sym c.typed_of.ensures ∙ c.in_default.is)))

pub returns : goal.returns
returns c =
    handed c.run_count_words-2.ensures
    (ap run_told c.read_run.ensures ∙ sym (as-known _ _ _ _ (sym c.typed_of.ensures ∙ c.in-Is.is)))
