-- What every reader tests before it reads (rule R3): 4, then 8.
use Rattle.std.specs.Prelude.{ℕ, ◌≤◌, ◌<◌, ◌≡◌, refl, Bool, true, false, leb}
use Rattle.std.proofs.Common.{ap, arith}
use borrow.Author.Tests.{le-leb, lt-leb, leb-true}
use Rattle.wire.specs.Choose.{choose}
use Rattle.wire.specs.Limits.{message_limit}
use Rattle.wire.specs.Numbers.{number_of}
use Rattle.wire.specs.declared.Refusal.{Refusal}
use Rattle.wire.specs.declared.Refusal.TheVariants.{TooLong, BadCap}
use Rattle.entry_answer.specs.declared.Gated.{Gated}
use Rattle.entry_answer.specs.declared.Gated.TheVariants.{Open, Shut}

-- Rules R3 and C1: of n bytes, a place and an end: a slice above the limit is TooLong; a place or an end above the slice's length is BadCap
unfoldable pub gated : ℕ → ℕ → ℕ → Gated
gated n at e = choose (leb n message_limit) (choose (leb at n) (choose (leb e n) Open (Shut BadCap)) (Shut BadCap)) (Shut TooLong)

-- an entry's answer: the gate's refusal, or what the core found
abbrev pub through : {A : Type 0} → Gated → (Refusal → A) → A → A
through Open refused found = found
through (Shut r) refused found = refused r

pub through-shut : {A : Type 0} {g : Gated} {r : Refusal} (refused : Refusal → A) (found : A) → g ≡ Shut r → through g refused found ≡ refused r
through-shut refused found e = rw e

pub through-open : {A : Type 0} {g : Gated} (refused : Refusal → A) (found : A) → g ≡ Open → through g refused found ≡ found
through-open refused found e = rw e

module _ (n at e : ℕ) where
  pub gated-long : message_limit < n → gated n at e ≡ Shut TooLong
  unfolding gated
  gated-long h = rw (lt-leb n message_limit h)

  pub gated-place : n ≤ message_limit → n < at → gated n at e ≡ Shut BadCap
  unfolding gated
  gated-place h a = rw (le-leb n message_limit h, lt-leb at n a)

  pub gated-end : n ≤ message_limit → at ≤ n → n < e → gated n at e ≡ Shut BadCap
  unfolding gated
  gated-end h a b = rw (le-leb n message_limit h, le-leb at n a, lt-leb e n b)

  pub gated-open : n ≤ message_limit → at ≤ n → e ≤ n → gated n at e ≡ Open
  unfolding gated
  gated-open h a b = rw (le-leb n message_limit h, le-leb at n a, le-leb e n b)

shuts : Gated → ℕ
shuts Open = 0
shuts (Shut r) = 1

-- an open gate: none of the tests refused
pub gated-opens : (n at e : ℕ) → gated n at e ≡ Open → (n ≤ message_limit) × (at ≤ n) × (e ≤ n)
unfolding gated shuts
gated-opens n at e h = go (leb n message_limit) refl (leb at n) refl (leb e n) refl
  where
    go : (a : Bool) → leb n message_limit ≡ a → (b : Bool) → leb at n ≡ b → (c : Bool) → leb e n ≡ c → (n ≤ message_limit) × (at ≤ n) × (e ≤ n)
    go true a true b true c = (leb-true n message_limit a, leb-true at n b, leb-true e n c)
    go true a true b false c = absurd (omega (arith, ap shuts (rw (a, b, c) at h)))
    go true a false b c x = absurd (omega (arith, ap shuts (rw (a, b) at h)))
    go false a b x c y = absurd (omega (arith, ap shuts (rw a at h)))

-- a shut gate: TooLong or BadCap
pub gated-number : (n at e : ℕ) (r : Refusal) → gated n at e ≡ Shut r → 4 ≤ number_of r
unfolding gated shuts
gated-number n at e r h = go (leb n message_limit) refl (leb at n) refl (leb e n) refl
  where
    bad-cap : Shut BadCap ≡ Shut r → 4 ≤ number_of r
    bad-cap z = let y : r ≡ BadCap = cc in rw y (omega arith)

    too_long : Shut TooLong ≡ Shut r → 4 ≤ number_of r
    too_long z = let y : r ≡ TooLong = cc in rw y (omega arith)

    go : (a : Bool) → leb n message_limit ≡ a → (b : Bool) → leb at n ≡ b → (c : Bool) → leb e n ≡ c → 4 ≤ number_of r
    go true a true b true c = absurd (omega (arith, ap shuts (rw (a, b, c) at h)))
    go true a true b false c = bad-cap (rw (a, b, c) at h)
    go true a false b c x = bad-cap (rw (a, b) at h)
    go false a b x c y = too_long (rw a at h)
