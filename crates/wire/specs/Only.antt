-- Any two outcomes that a contract allows are equal: how each crate says it of its public functions.
use Rattle.std.specs.Prelude.{ℕ, ◌≡◌, List}
use Rattle.std.proofs.Common.{sym, ◌∙◌}
use contract.Lifetimes.{Lfts}
use borrow.Fn.Kinds.{ParamKind, ResultKind, Out, Dens, res_t, ended_of}
use denote.Triple.Clauses.{AtExit}

-- of a function with n lifetimes, parameters ps and result r, whose contract is post: what is seen of two outcomes, the answer and all
-- that was lent, is one thing
abbrev pub One : (n : ℕ) (ps : List (ParamKind n)) (r : ResultKind n) → Out n ps r → {S : Type 0}
    → ((κs : Lfts n) → (res_t r κs).Denot → AtExit (ended_of n ps r) κs → S) → Type 0
One n ps r post seen =
    (κs : Lfts n) (a : Dens κs ps) (x y : (res_t r κs).Denot) (s t : AtExit (ended_of n ps r) κs) → post κs a x s → post κs a y t → seen κs x s ≡ seen κs y t

-- THE GENERAL LAW: a contract that says what is seen by an equation over the arguments is such a one
module _ (n : ℕ) (ps : List (ParamKind n)) (r : ResultKind n) (post : Out n ps r) where
  pub one : {S : Type 0} (seen : (κs : Lfts n) → (res_t r κs).Denot → AtExit (ended_of n ps r) κs → S) (given : (κs : Lfts n) → Dens κs ps → S)
      → ((κs : Lfts n) (a : Dens κs ps) (x : (res_t r κs).Denot) (s : AtExit (ended_of n ps r) κs) → post κs a x s → seen κs x s ≡ given κs a)
      → One n ps r post seen
  one seen given e κs a x y s t p q = e κs a x s p ∙ sym (e κs a y t q)
