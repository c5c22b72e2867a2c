-- The cases of the digits' definitions, and how long digits are.
use Rattle.std.specs.Prelude.{ℕ, zero, suc, ◌+◌, ◌-◌, ◌*◌, ◌/◌, ◌%◌, ◌≤◌, ◌<◌, ◌≡◌, refl, Bool, true, false, Some, None, List, [], ◌∷◌, leb, ltb, length}
use Rattle.std.proofs.Common.{◌∙◌, arith, le-leb, lt-ltb, le-ltb, leb-true, ltb-true, length-append}
use Rattle.std.proofs.lemmas.Bool.{lt-leb}
use Rattle.text_digits.specs.Digits.{between, digit_of, glyph, digits, places_to, decimal, hexed}

-- ---- a run of characters

pub data Run (low high c : ℕ) : Type 0 where
  Inside : low ≤ c → c < high → between low high c ≡ true → Run low high c
  Outside : between low high c ≡ false → Run low high c

module _ (low high c : ℕ) where
  pub in-run : low ≤ c → c < high → between low high c ≡ true
  in-run g h = rw (le-leb low c g, lt-ltb c high h)

  pub below-run : c < low → between low high c ≡ false
  below-run h = rw (lt-leb low c h)

  pub above-run : high ≤ c → between low high c ≡ false
  above-run h = go (leb low c) refl
    where
      go : (t : Bool) → leb low c ≡ t → between low high c ≡ false
      go true e = rw (e, le-ltb c high h)
      go false e = rw e

  pub runs : Run low high c
  runs = go (leb low c) refl (ltb c high) refl
    where
      go : (s : Bool) → leb low c ≡ s → (t : Bool) → ltb c high ≡ t → Run low high c
      go false s t u = Outside (rw s)
      go true s true t = Inside (leb-true low c s) (ltb-true c high t) (rw (s, t))
      go true s false t = Outside (rw (s, t))

-- ---- a digit

module _ (c : ℕ) where
  pub figure : 48 ≤ c → c < 58 → digit_of c ≡ Some (c - 48)
  unfolding digit_of
  figure g h = rw (in-run 48 58 c g h)

  pub capital : 65 ≤ c → c < 71 → digit_of c ≡ Some (c - 55)
  unfolding digit_of
  capital g h = rw (above-run 48 58 c (omega arith), in-run 65 71 c g h)

  pub small : 97 ≤ c → c < 103 → digit_of c ≡ Some (c - 87)
  unfolding digit_of
  small g h = rw (above-run 48 58 c (omega arith), above-run 65 71 c (omega arith), in-run 97 103 c g h)

  pub strange : between 48 58 c ≡ false → between 65 71 c ≡ false → between 97 103 c ≡ false → digit_of c ≡ None
  unfolding digit_of
  strange p q r = rw (p, q, r)

-- what a digit's character says of its worth
pub record Digital (c v : ℕ) : Type 0 where
  pub below : v < 16
  pub worth : v ≡ c % 16 + c / 64 * 9

pub digital : (c v : ℕ) → digit_of c ≡ Some v → Digital c v
digital c v e = go (runs 48 58 c) (runs 65 71 c) (runs 97 103 c)
  where
    go : Run 48 58 c → Run 65 71 c → Run 97 103 c → Digital c v
    go (Inside g h t) q r = let z : v ≡ c - 48 = cc (figure c g h) in record { below = omega arith; worth = omega arith }
    go (Outside p) (Inside g h t) r = let z : v ≡ c - 55 = cc (capital c g h) in record { below = omega arith; worth = omega arith }
    go (Outside p) (Outside q) (Inside g h t) = let z : v ≡ c - 87 = cc (small c g h) in record { below = omega arith; worth = omega arith }
    go (Outside p) (Outside q) (Outside r) = let z : ◌≡◌ {A = ℕ} 0 1 = cc (strange c p q r) in absurd (omega arith)

-- ---- a digit's character

pub glyph-figure : (d : ℕ) → d < 10 → glyph d ≡ 48 + d
unfolding glyph
glyph-figure d h = rw (lt-ltb d 10 h)

pub glyph-letter : (d : ℕ) → 10 ≤ d → glyph d ≡ 55 + d
unfolding glyph
glyph-letter d h = rw (le-ltb d 10 h)

-- ---- lengths

pub length_digits : (base k v : ℕ) → length (digits base k v) ≡ k
unfolding digits
length_digits base zero v = refl
length_digits base (suc k) v = length-append (digits base k (v / base)) (glyph (v % base) ∷ []) ∙ omega (arith, length_digits base k (v / base))

pub length-hexed : (bs : List ℕ) → length (hexed bs) ≡ 2 * length bs
unfolding hexed
length-hexed [] = refl
length-hexed (b ∷ bs) = length-append (digits 16 2 b) (hexed bs) ∙ omega (arith, length_digits 16 2 b, length-hexed bs)

-- ---- decimal places

pub places-one : (k v : ℕ) → v < 10 → places_to k v ≡ 1
unfolding places_to
places-one zero v h = refl
places-one (suc k) v h = rw (lt-ltb v 10 h)

pub places-more : (k v : ℕ) → 10 ≤ v → places_to (suc k) v ≡ suc (places_to k (v / 10))
unfolding places_to
places-more k v h = rw (le-ltb v 10 h)

pub length-decimal : (v : ℕ) → length (decimal v) ≡ places_to 19 v
unfolding decimal
length-decimal v = length_digits 10 (places_to 19 v) v
