use Prim.Native.Nat.{ℕ, zero, suc, ◌+◌, ◌*◌, ◌/◌, ◌%◌, ◌<◌, ◌^◌}
use mathlib.Core.Path.{◌≡◌, refl, sym, ◌∙◌, ap}
use native.Mathlib.Omega.{arith}
use lib.IntN.{ℤ, pos, negsuc, ◌+ℤ◌, ◌-ℤ◌, nat_abs, +ℤ_one, -ℤ_one, +ℤ_idl}
use lib.Dec.{T}
use lib.Signed.{non_neg, le_z}
use mathlib.Core.Bool.{true, false}
use native.Mathlib.Nat.{not-suc-le-zero}
use borrow.Author.Tests.{leb-false}
use Rattle.wire.specs.Signed.{to_unsigned, to_signed, signed-even, signed_odd}
use mir.Syntax.{w64}
use mir.Val.{Fits, SFits, to_z, of_z}
use mir.ValLaws.{to_z-of_z, to_z_pos}

-- the bits of a number, read again, are the number
pub again : (z : ℤ) → SFits w64 z → to_z w64 (of_z w64 z) ≡ z
again z h = to_z-of_z w64 z h

-- less one, turned round: from -(n + 1) to n
pub turned : (n : ℕ) → pos 0 -ℤ (negsuc n +ℤ pos 1) ≡ pos n
turned zero = refl
turned (suc n) = rw (+ℤ_one (negsuc (suc n))) (+ℤ_idl (pos (suc n)))

-- and back
pub under : (n : ℕ) → (pos 0 -ℤ pos n) -ℤ pos 1 ≡ negsuc n
under zero = refl
under (suc n) = rw (-ℤ_one (pos 0 -ℤ pos (suc n)), +ℤ_idl (negsuc n))

nonneg : (z : ℤ) → le_z (pos 0) z ≡ true → (n : ℕ) × (z ≡ pos n)
nonneg (pos n) e = (n, refl)
nonneg (negsuc n) e = let z : ◌≡◌ {A = ℕ} 0 1 = cc in absurd (omega arith)

negative : (z : ℤ) → le_z (pos 0) z ≡ false → (n : ℕ) × (z ≡ negsuc n)
negative (pos n) e = absurd (not-suc-le-zero (leb-false 0 n e))
negative (negsuc n) e = (n, refl)

-- what is known of v where the test 0 ≤ v passed, of the number that the machine reads
module _ (v : ℤ) (f : SFits w64 v) (t : le_z (pos 0) (to_z w64 (of_z w64 v)) ≡ true) where
  abbrev r : ℤ
  r = to_z w64 (of_z w64 v)

  n : ℕ
  n = (nonneg r t).0

  is : r ≡ pos n
  unfolding n
  is = (nonneg r t).1

  v-is : v ≡ pos n
  v-is = sym (again v f) ∙ is

  small : n < 2 ^ 63
  small = (rw v-is at f).sfits

  pub casts : T (non_neg r) × Fits w64 (nat_abs r)
  casts = rw is (tt, record { fits = omega (arith, small) })

  pub doubles : Fits w64 (nat_abs r * 2)
  doubles = rw is (record { fits = omega (arith, small) })

  pub gives : nat_abs r * 2 ≡ to_unsigned v
  gives = let e : n * 2 ≡ 2 * n = omega arith in ap (λ (z : ℤ). nat_abs z * 2) is ∙ e ∙ sym (ap to_unsigned v-is)

module _ (v : ℤ) (f : SFits w64 v) (t : le_z (pos 0) (to_z w64 (of_z w64 v)) ≡ false) where
  abbrev r' : ℤ
  r' = to_z w64 (of_z w64 v)

  m : ℕ
  m = (negative r' t).0

  is' : r' ≡ negsuc m
  unfolding m
  is' = (negative r' t).1

  v-is' : v ≡ negsuc m
  v-is' = sym (again v f) ∙ is'

  small' : m < 2 ^ 63
  small' = (rw v-is' at f).sfits

  up_fits : (k : ℕ) → k < 2 ^ 63 → SFits w64 (negsuc k +ℤ pos 1)
  up_fits zero h = record { sfits = omega arith }
  up_fits (suc k) h = rw (+ℤ_one (negsuc (suc k))) (record { sfits = omega arith })

  pub ups : SFits w64 (r' +ℤ pos 1)
  ups = rw is' (up_fits m small')

  -- the number that the machine makes of r + 1, and of 0 less that
  mid : to_z w64 (of_z w64 (r' +ℤ pos 1)) ≡ r' +ℤ pos 1
  mid = again (r' +ℤ pos 1) ups

  flipped : pos 0 -ℤ to_z w64 (of_z w64 (r' +ℤ pos 1)) ≡ pos m
  flipped = rw (mid, is') (turned m)

  pub flips : SFits w64 (pos 0 -ℤ to_z w64 (of_z w64 (r' +ℤ pos 1)))
  flips = rw flipped (record { sfits = small' })

  end : to_z w64 (of_z w64 (pos 0 -ℤ to_z w64 (of_z w64 (r' +ℤ pos 1)))) ≡ pos m
  end = again _ flips ∙ flipped

  pub casts' : T (non_neg (to_z w64 (of_z w64 (pos 0 -ℤ to_z w64 (of_z w64 (r' +ℤ pos 1)))))) × Fits w64
      (nat_abs (to_z w64 (of_z w64 (pos 0 -ℤ to_z w64 (of_z w64 (r' +ℤ pos 1))))))
  casts' = rw end (tt, record { fits = omega (arith, small') })

  pub doubles' : Fits w64 (nat_abs (to_z w64 (of_z w64 (pos 0 -ℤ to_z w64 (of_z w64 (r' +ℤ pos 1))))) * 2)
  doubles' = rw end (record { fits = omega (arith, small') })

  pub adds' : Fits w64 (nat_abs (to_z w64 (of_z w64 (pos 0 -ℤ to_z w64 (of_z w64 (r' +ℤ pos 1))))) * 2 + 1)
  adds' = rw end (record { fits = omega (arith, small') })

  pub gives' : nat_abs (to_z w64 (of_z w64 (pos 0 -ℤ to_z w64 (of_z w64 (r' +ℤ pos 1))))) * 2 + 1 ≡ to_unsigned v
  gives' = let e : m * 2 + 1 ≡ 2 * m + 1 = omega arith in ap (λ (z : ℤ). nat_abs z * 2 + 1) end ∙ e ∙ sym (ap to_unsigned v-is')

-- the way back
module _ (u : ℕ) (f : u < 2 ^ 64) where
  half : u / 2 < 2 ^ 63
  half = omega arith

  h-is : to_z w64 (u / 2) ≡ pos (u / 2)
  h-is = to_z_pos w64 (u / 2) half

  pub even : u % 2 ≡ 0 → to_z w64 (u / 2) ≡ to_signed u
  even e = h-is ∙ sym (signed-even u e)

  down : (k : ℕ) → k < 2 ^ 63 → SFits w64 (pos 0 -ℤ pos k)
  down zero h = record { sfits = omega arith }
  down (suc k) h = rw (+ℤ_idl (negsuc k)) (record { sfits = omega arith })

  pub neg-fits : SFits w64 (pos 0 -ℤ to_z w64 (u / 2))
  neg-fits = rw h-is (down (u / 2) half)

  middle : to_z w64 (of_z w64 (pos 0 -ℤ to_z w64 (u / 2))) -ℤ pos 1 ≡ negsuc (u / 2)
  middle = rw (again (pos 0 -ℤ to_z w64 (u / 2)) neg-fits, h-is) (under (u / 2))

  pub less-fits : SFits w64 (to_z w64 (of_z w64 (pos 0 -ℤ to_z w64 (u / 2))) -ℤ pos 1)
  less-fits = rw middle (record { sfits = half })

  pub odd : (u % 2 ≡ 0 → ⊥) → to_z w64 (of_z w64 (to_z w64 (of_z w64 (pos 0 -ℤ to_z w64 (u / 2))) -ℤ pos 1)) ≡ to_signed u
  odd e = again _ less-fits ∙ middle ∙ sym (signed_odd u e)
