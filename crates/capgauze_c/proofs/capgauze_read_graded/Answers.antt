-- A number that is no grade, or what the face answers and leaves.
use mathlib.Core.Path.{◌∙◌, ap, sym}
use Rattle.c_words.specs.Words.{handed}
use Rattle.c_graded.specs.Words.{graded_lent, grade-unknown, grade-known}
use Rattle.capgauze_c.proofs.capgauze_read_graded.Goals as goal

pub returns-in_default : goal.returns-in_default
returns-in_default c = handed c.graded_words.ensures (sym (grade-unknown _ _ _ (sym c.grade_of.ensures ∙ c.in_default.is)))

pub returns : goal.returns
returns c =
    handed c.graded_words-2.ensures
    (ap graded_lent c.read_graded.ensures ∙ sym (grade-known _ _ _ _ (sym c.grade_of.ensures ∙ c.in-Is.is)))
