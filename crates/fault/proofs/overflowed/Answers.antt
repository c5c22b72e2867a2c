-- TagOverflowed is the refusal of number 3.
use mathlib.Core.Path.{ap}
use Prim.Native.Nat.{ℕ}
use lib.Dec.{eqb}
use borrow.Author.Rules.{rules}
use Rattle.fault.proofs.overflowed.Goals as goal

pub returns : goal.returns
returns c = ap (λ (n : ℕ). eqb n 3) c.number_of.ensures
