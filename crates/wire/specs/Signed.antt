-- The signed mapping, there (rule N1) and back (rule N2).
use Rattle.std.specs.Prelude.{ℕ, ◌+◌, ◌*◌, ◌/◌, ◌%◌, ◌≡◌, refl, Bool, true, false, eqb, ℤ, pos, negsuc}
use Rattle.std.proofs.Common.{arith, eq-eqb, ne_eqb, eqb-true}
use Rattle.std.proofs.lemmas.Bool.{eqb-false}
use Rattle.wire.specs.Choose.{choose}

-- Rule N1: negsuc n is −(n + 1), so that −2v − 1 is 2n + 1
abbrev pub to_unsigned : ℤ → ℕ
to_unsigned (pos n) = 2 * n
to_unsigned (negsuc n) = 2 * n + 1

-- Rule N2: an even number and an odd one
unfoldable pub to_signed : ℕ → ℤ
to_signed u = choose (eqb (u % 2) 0) (pos (u / 2)) (negsuc (u / 2))

pub signed-even : (u : ℕ) → u % 2 ≡ 0 → to_signed u ≡ pos (u / 2)
unfolding to_signed
signed-even u h = rw (eq-eqb (u % 2) 0 h)

pub signed_odd : (u : ℕ) → (u % 2 ≡ 0 → ⊥) → to_signed u ≡ negsuc (u / 2)
unfolding to_signed
signed_odd u h = rw (ne_eqb (u % 2) 0 h)

-- THE TWO ARE INVERSE, BOTH WAYS

pub signed-unsigned : (z : ℤ) → to_signed (to_unsigned z) ≡ z
signed-unsigned (pos n) = let e : 2 * n / 2 ≡ n = omega arith in rw (signed-even (2 * n) (omega arith), e)
signed-unsigned (negsuc n) = let e : (2 * n + 1) / 2 ≡ n = omega arith in rw (signed_odd (2 * n + 1) (λ h. omega arith), e)

pub unsigned_signed : (u : ℕ) → to_unsigned (to_signed u) ≡ u
unsigned_signed u = go (eqb (u % 2) 0) refl
  where
    go : (b : Bool) → eqb (u % 2) 0 ≡ b → to_unsigned (to_signed u) ≡ u
    go true b = rw (signed-even u (eqb-true (u % 2) 0 b)) (omega (arith, eqb-true (u % 2) 0 b))
    go false b = rw (signed_odd u (eqb-false (u % 2) 0 b)) (odd (eqb-false (u % 2) 0 b))
      where
        odd : (u % 2 ≡ 0 → ⊥) → 2 * (u / 2) + 1 ≡ u
        odd h = omega arith
