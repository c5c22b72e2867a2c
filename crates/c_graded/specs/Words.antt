-- The words that C gets of a graded sounding: each is what the answer tells (rule B8).
use Rattle.std.specs.Prelude.{ℕ, zero, suc, ◌≤◌, ◌≡◌, refl, List}
use Rattle.std.proofs.Common.{arith}
use Rattle.wire.specs.Numbers.{number_of}
use Rattle.wire.specs.declared.Refusal.TheVariants.{BadRecord}
use Rattle.sounding_grade.specs.declared.Grade.{Grade}
use Rattle.sounding_grade.specs.declared.Grade.TheVariants.{NotCanonical, HasExtensions, Canonical}
use Rattle.sounding_graded.specs.Told.{GradedHeading, graded_told}
use Rattle.sounding_graded.specs.Words.{Outcome}
use Rattle.c_words.specs.Words.{Lent}
use Rattle.c_graded.specs.declared.Least.{Least}
use Rattle.c_graded.specs.declared.Least.TheVariants.{Is, Unknown}
use Rattle.c_graded.specs.declared.GradedWords.{GradedWords}

abbrev pub as_graded : GradedWords → GradedHeading
as_graded r = record { number = r.number; station = r.station; launch = r.launch; levels = r.levels; grade = r.grade }

unfoldable pub grade_of : ℕ → Least
grade_of zero = Is NotCanonical
grade_of (suc zero) = Is HasExtensions
grade_of (suc (suc zero)) = Is Canonical
grade_of (suc (suc (suc n))) = Unknown

-- a number above 2 is no grade
pub grade-above : (n : ℕ) → 3 ≤ n → grade_of n ≡ Unknown
unfolding grade_of
grade-above zero h = absurd (omega arith)
grade-above (suc zero) h = absurd (omega arith)
grade-above (suc (suc zero)) h = absurd (omega arith)
grade-above (suc (suc (suc n))) h = refl

abbrev pub graded_lent : Outcome → Lent GradedHeading
graded_lent o = record { told = graded_told o.answer; lent = o.levels }

-- Rule B8: such a number is 6 before all else
abbrev pub bad_least : GradedHeading
bad_least = record { number = number_of BadRecord; station = 0; launch = 0; levels = 0; grade = 0 }

unfoldable pub graded_as : List ℕ → Least → (Grade → Outcome) → Lent GradedHeading
graded_as t (Is g) f = graded_lent (f g)
graded_as t Unknown f = record { told = bad_least; lent = t }

module _ (t : List ℕ) (x : Least) (f : Grade → Outcome) where
  pub grade-unknown : x ≡ Unknown → graded_as t x f ≡ record { told = bad_least; lent = t }
  unfolding graded_as
  grade-unknown e = rw e

  pub grade-known : (g : Grade) → x ≡ Is g → graded_as t x f ≡ graded_lent (f g)
  unfolding graded_as
  grade-known g e = rw e
