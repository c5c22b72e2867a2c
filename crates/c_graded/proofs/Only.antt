-- Any two outcomes that a contract of this crate allows are equal.
use mathlib.Core.Path.{◌∙◌, sym}
use Rattle.wire.specs.Only.{One}
use Rattle.c_graded.specs.Words.{as_graded}
use Rattle.c_graded.proofs.grade_of.Kinds as grade-of
use Rattle.c_graded.proofs.grade_of.Reads as grade-of-reads
use Rattle.c_graded.proofs.grade_number.Kinds as grade-number
use Rattle.c_graded.proofs.grade_number.Reads as grade-number-reads
use Rattle.c_graded.proofs.graded_words.Kinds as graded-words
use Rattle.c_graded.proofs.graded_words.Reads as graded-words-reads

pub grade-of-one : One 0 grade-of.ps grade-of.r grade-of-reads.Post (λ κs r s. r)
grade-of-one κs a x y s t p q = p ∙ sym q

pub grade-number-one : One 0 grade-number.ps grade-number.r grade-number-reads.Post (λ κs r s. r)
grade-number-one κs a x y s t p q = p ∙ sym q

pub graded-words-one : One 0 graded-words.ps graded-words.r graded-words-reads.Post (λ κs r s. as_graded r)
graded-words-one κs a x y s t p q = p ∙ sym q
