-- A number's length from its highest bit, once a part in 128 is taken off (`count_len`): 127 times a limit is a power of 128 less 128, so that what is left
-- of a number that lies between two limits lies between two powers.
use Prim.Native.Nat.{ℕ, zero, suc, ◌+◌, ◌-◌, ◌*◌, ◌/◌, ◌%◌, ◌^◌, ◌≤◌, ◌<◌}
use mathlib.Core.Path.{◌≡◌, refl, sym, ap, ◌∙◌}
use mathlib.Core.Bool.{Bool, true, false}
use mathlib.Core.Logic.{◌⊎◌, inl, inr, ⊎_elim}
use native.Mathlib.Omega.{arith}
use native.Mathlib.Nat.{pow-suc, pow-le-pow_right}
use borrow.Author.Tests.{ltb-true, ltb-false}
use lib.Dec.{ltb}
use lib.Pow.{pow-add}
use lib.Count.{count_leading_zeros, leading_top}
use lib.ListN.{length}
use Rattle.wire.specs.Varint.{encode}
use Rattle.wire.specs.VarintLength.{limit, limit-four}
use Rattle.wire.proofs.VarintLength.{length_at, length-top}

-- ---- between two limits, between two powers

limit-power : (n : ℕ) → 127 * limit n + 128 ≡ 128 * 128 ^ n
limit-power zero = refl
limit-power (suc n) = omega (arith, limit-power n, pow-suc 128 n)

-- the numbers of the code, by name: v made odd, a part in 128 taken off, made odd once more
pub record Thinned (v x z y : ℕ) : Type 0 where
  pub odd : x ≡ v - v % 2 + 1
  pub less : z ≡ x - x / 128
  pub again : y ≡ z - z % 2 + 1

pub thinned : (v : ℕ) → let x = v - v % 2 + 1 in let z = x - x / 128 in Thinned v x z (z - z % 2 + 1)
thinned v = record { odd = refl; less = refl; again = refl }

module _ {v x z y : ℕ} (t : Thinned v x z y) where
  from-power : (n : ℕ) → limit n ≤ v → 128 ^ n ≤ y
  from-power n h = omega (arith, t.odd, t.less, t.again, limit-power n, limit-four n)

  below_power : (n : ℕ) → v < limit (suc n) → y < 128 ^ suc n
  below_power n h =
      let a : x < limit (suc n) = omega (arith, t.odd, limit-four (suc n)) in
      let b : z < 128 ^ suc n = omega (arith, t.less, limit-power (suc n)) in
      omega (arith, t.again, pow-suc 128 n)

  pub thin-some : 0 < y
  thin-some = omega (arith, t.again)

  pub thin-fits : v < 2 ^ 64 → y < 2 ^ 64
  thin-fits h = omega (arith, t.odd, t.less, t.again)

-- the two limits around a number, of the first k
between : (k v : ℕ) → (limit k ≤ v) ⊎ ((n : ℕ) × (n < k) × (limit n ≤ v) × (v < limit (suc n)))
between zero v = inl (omega arith)
between (suc k) v = go (between k v) (ltb v (limit (suc k))) refl
  where
    go : (limit k ≤ v) ⊎ ((n : ℕ) × (n < k) × (limit n ≤ v) × (v < limit (suc n))) → (b : Bool) → ltb v (limit (suc k)) ≡ b
        → (limit (suc k) ≤ v) ⊎ ((n : ℕ) × (n < suc k) × (limit n ≤ v) × (v < limit (suc n)))
    go h false e = inl (ltb-false v (limit (suc k)) e)
    go (inl l) true e = inr (k, omega arith, l, ltb-true v (limit (suc k)) e)
    go (inr r) true e = inr (r.0, omega (arith, r.1), r.2, r.3)

-- ---- between two powers of 128, seven places for the highest bit

sevens : (n : ℕ) → 128 ^ n ≡ 2 ^ (7 * n)
sevens zero = refl
sevens (suc n) =
    let e : 7 * n + 7 ≡ 7 * suc n = omega arith in
    pow-suc 128 n ∙ ap (λ (x : ℕ). x * 128) (sevens n) ∙ sym (pow-add 2 (7 * n) 7) ∙ ap (λ (x : ℕ). 2 ^ x) e

exponent : (a b m : ℕ) → 2 ^ a ≤ m → m < 2 ^ b → a < b
exponent a b m h g = go (ltb a b) refl
  where
    go : (t : Bool) → ltb a b ≡ t → a < b
    go true e = ltb-true a b e
    go false e = omega (arith, pow-le-pow_right {n = 2} (omega arith) {i = b} {j = a} (ltb-false a b e))

module _ {v x z y : ℕ} (t : Thinned v x z y) (j : ℕ) (lo : 2 ^ j ≤ y) (hi : y < 2 ^ suc j) where
  least : (n : ℕ) → limit n ≤ v → 7 * n ≤ j
  least n h = omega (arith, exponent (7 * n) (suc j) y (rw (← sevens n) (from-power t n h)) hi)

  greatest : (n : ℕ) → v < limit (suc n) → j < 7 * n + 7
  greatest n h = omega (arith, exponent j (7 * suc n) y lo (rw (← sevens (suc n)) (below_power t n h)))

  place : j < 64 → (9 * j + 72) / 64 ≡ length (encode v)
  place f =
      ⊎_elim
      (λ h. let l : 56 ≤ j = omega (arith, least 8 h) in let e : (9 * j + 72) / 64 ≡ 9 = omega arith in e ∙ sym (length-top v h))
      (λ r.
      let n = r.0 in
      let e : (9 * j + 72) / 64 ≡ suc n = omega (arith, r.1, least n r.2, greatest n r.3) in
      e ∙ sym (length_at n v (omega (arith, r.1)) r.2 r.3))
      (between 8 v)

pub zeros-few : {v x z y : ℕ} → Thinned v x z y → v < 2 ^ 64 → count_leading_zeros 64 y ≤ 63
zeros-few {y = y} t h = let p = leading_top 64 y (thin-some t) (thin-fits t h) in omega (arith, p.1)

pub counts : {v x z y : ℕ} → Thinned v x z y → v < 2 ^ 64 → (9 * (63 - count_leading_zeros 64 y) + 72) / 64 ≡ length (encode v)
counts {v = v} {y = y} t h =
    let p = leading_top 64 y (thin-some t) (thin-fits t h) in
    let e : 63 - count_leading_zeros 64 y ≡ p.0 = omega (arith, p.1) in
    ap (λ (j : ℕ). (9 * j + 72) / 64) e ∙ place t p.0 p.2 p.3 (omega (arith, p.1))
