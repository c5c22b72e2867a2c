-- An order of refusals: conditions one behind the other, each with its refusal. What is told is the number of the first that holds, and 0 if
-- none does.
use Rattle.std.specs.Prelude.{ℕ, zero, suc, ◌≡◌, refl, Bool, true, false, List, [], ◌∷◌, ◌++◌}
use Rattle.std.proofs.Common.{ap, ◌∙◌, sym, arith}
use contract.Lifetimes.{Lfts}
use borrow.Fn.Kinds.{ParamKind, ResultKind, Out, Dens, res_t}
use Rattle.wire.specs.Choose.{choose}
use Rattle.wire.specs.Numbers.{number_of}
use Rattle.wire.specs.declared.Refusal.{Refusal}
use Rattle.wire.specs.declared.Refusal.TheVariants.{Truncated, InvalidVarint, TagOverflowed, TooLong, NoRoom, BadRecord, OutOfOrder, BadCap}
use Rattle.wire.specs.declared.Refusal.TheVariants.{WrongWireType, OutOfRange, Repeated, BadIndex, MissingField, NotCanonical, UnknownField}
use Rattle.demands_order.specs.Calls.{Every}

pub record Rule : Type 0 where
  pub holds : Bool
  pub why : Refusal

abbrev pub when : Bool → Refusal → Rule
when b r = record { holds = b; why = r }

abbrev pub first_of : List Rule → ℕ
first_of [] = 0
first_of (r ∷ rs) = choose r.holds (number_of r.why) (first_of rs)

-- no condition holds
abbrev pub None : List Rule → Type 0
None [] = Unit {0}
None (r ∷ rs) = (r.holds ≡ false) × None rs

-- the condition of a refusal with number k holds, and no earlier one does
pub record Answered (rs : List Rule) (k : ℕ) : Type 0 where
  pub before : List Rule
  pub rule : Rule
  pub behind : List Rule
  pub order : rs ≡ before ++ rule ∷ behind
  pub none : None before
  pub holds : rule.holds ≡ true
  pub number : number_of rule.why ≡ k

-- a number n that is told by an order: k is told exactly if its condition holds and no earlier one does, and 0 exactly if none holds
pub record Ordered (rs : List Rule) (n : ℕ) : Type 0 where
  pub computed : n ≡ first_of rs
  pub answered : (k : ℕ) → (k ≡ 0 → ⊥) → n ≡ k → Answered rs k
  pub answers : (k : ℕ) → Answered rs k → n ≡ k
  pub accepted : n ≡ 0 → None rs
  pub accepts : None rs → n ≡ 0

-- of a function, by its contract: every outcome's number is told by an order over the arguments
abbrev pub Numbered : (l : ℕ) (ps : List (ParamKind l)) (r : ResultKind l) → Out l ps r → ((κs : Lfts l) → (res_t r κs).Denot → ℕ)
    → ((κs : Lfts l) → Dens κs ps → List Rule) → Type 0
Numbered l ps r post number rules = Every l ps r post (λ κs a x s. Ordered (rules κs a) (number κs x))

-- ---- THE LAW

-- the first number that is not 0
abbrev pub or_else : ℕ → ℕ → ℕ
or_else zero n = n
or_else (suc k) n = suc k

-- no refusal's number is 0
pub refused-first : (r : Refusal) (n : ℕ) → or_else (number_of r) n ≡ number_of r
refused-first Truncated n = refl
refused-first InvalidVarint n = refl
refused-first TagOverflowed n = refl
refused-first TooLong n = refl
refused-first NoRoom n = refl
refused-first BadRecord n = refl
refused-first OutOfOrder n = refl
refused-first BadCap n = refl
refused-first WrongWireType n = refl
refused-first OutOfRange n = refl
refused-first Repeated n = refl
refused-first BadIndex n = refl
refused-first MissingField n = refl
refused-first NotCanonical n = refl
refused-first UnknownField n = refl

not-zero : (r : Refusal) → number_of r ≡ 0 → ⊥
not-zero r z = let e : ◌≡◌ {A = ℕ} 1 0 = ap (λ (k : ℕ). or_else k 1) (sym z) ∙ refused-first r 1 ∙ z in omega arith

-- an order behind another
pub first-behind : (xs ys : List Rule) → first_of (xs ++ ys) ≡ or_else (first_of xs) (first_of ys)
first-behind [] ys = refl
first-behind (r ∷ xs) ys = go (first-behind xs ys) r.holds refl
  where
    go : first_of (xs ++ ys) ≡ or_else (first_of xs) (first_of ys) → (b : Bool) → r.holds ≡ b → first_of ((r ∷ xs) ++ ys) ≡ or_else (first_of (r ∷ xs)) (first_of ys)
    go ih true b = rw b (sym (refused-first r.why (first_of ys)))
    go ih false b = rw b ih

first_found : (xs : List Rule) (r : Rule) (ys : List Rule) → None xs → r.holds ≡ true → first_of (xs ++ r ∷ ys) ≡ number_of r.why
first_found [] r ys n h = rw h
first_found (x ∷ xs) r ys n h = rw n.0 (first_found xs r ys n.1 h)

pub first-none : (rs : List Rule) → None rs → first_of rs ≡ 0
first-none [] n = refl
first-none (r ∷ rs) n = rw n.0 (first-none rs n.1)

none_first : (rs : List Rule) → first_of rs ≡ 0 → None rs
none_first [] z = tt
none_first (r ∷ rs) z = go (none_first rs) r.holds refl
  where
    go : (first_of rs ≡ 0 → None rs) → (b : Bool) → r.holds ≡ b → None (r ∷ rs)
    go ih true b = absurd (not-zero r.why (rw b at z))
    go ih false b = (b, ih (rw b at z))

answered-first : (rs : List Rule) (k : ℕ) → (k ≡ 0 → ⊥) → first_of rs ≡ k → Answered rs k
answered-first [] k z e = absurd (z (sym e))
answered-first (r ∷ rs) k z e = go (answered-first rs k z) r.holds refl
  where
    go : (first_of rs ≡ k → Answered rs k) → (b : Bool) → r.holds ≡ b → Answered (r ∷ rs) k
    go ih true b = record { before = []; rule = r; behind = rs; order = refl; none = tt; holds = b; number = rw b at e }
    go ih false b =
        let a = ih (rw b at e) in
        record {
          before = r ∷ a.before;
          rule = a.rule;
          behind = a.behind;
          order = ap (λ (xs : List Rule). r ∷ xs) a.order;
          none = (b, a.none);
          holds = a.holds;
          number = a.number;
        }

pub ordered : (rs : List Rule) (n : ℕ) → n ≡ first_of rs → Ordered rs n
ordered rs n e =
    record {
      computed = e;
      answered = λ k z h. answered-first rs k z (sym e ∙ h);
      answers = λ k a. e ∙ ap first_of a.order ∙ first_found a.before a.rule a.behind a.none a.holds ∙ a.number;
      accepted = λ z. none_first rs (sym e ∙ z);
      accepts = λ n. e ∙ first-none rs n;
    }
