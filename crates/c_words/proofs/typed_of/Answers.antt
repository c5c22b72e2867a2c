-- Each number by itself, and all above 3.
use mathlib.Core.Path.{ap, sym}
use native.Mathlib.Omega.{arith}
use Rattle.c_words.specs.Words.{typed_of, typed-above}
use Rattle.c_words.proofs.typed_of.Goals as goal

pub returns-in-0 : goal.returns-in-0
unfolding typed_of
returns-in-0 c = sym (ap typed_of c.in-0.is)

pub returns-in-1 : goal.returns-in-1
unfolding typed_of
returns-in-1 c = sym (ap typed_of c.in-1.is)

pub returns-in-2 : goal.returns-in-2
unfolding typed_of
returns-in-2 c = sym (ap typed_of c.in-2.is)

pub returns-in-3 : goal.returns-in-3
unfolding typed_of
returns-in-3 c = sym (ap typed_of c.in-3.is)

pub returns-in_default : goal.returns-in_default
returns-in_default c = sym (typed-above c.args.kind (omega arith))
