-- Each number by itself, and all above 2.
use mathlib.Core.Path.{ap, sym}
use native.Mathlib.Omega.{arith}
use Rattle.c_graded.specs.Words.{grade_of, grade-above}
use Rattle.c_graded.proofs.grade_of.Goals as goal

pub returns-in-0 : goal.returns-in-0
unfolding grade_of
returns-in-0 c = sym (ap grade_of c.in-0.is)

pub returns-in-1 : goal.returns-in-1
unfolding grade_of
returns-in-1 c = sym (ap grade_of c.in-1.is)

pub returns-in-2 : goal.returns-in-2
unfolding grade_of
returns-in-2 c = sym (ap grade_of c.in-2.is)

pub returns-in_default : goal.returns-in_default
returns-in_default c = sym (grade-above c.args.number (omega arith))
