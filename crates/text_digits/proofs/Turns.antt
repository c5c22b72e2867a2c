-- The loops that put digits: where each stands, and what a turn does.
use Prim.Native.Nat.{ℕ, zero, suc, max, min, ◌+◌, ◌-◌, ◌*◌, ◌/◌, ◌%◌, ◌^◌, ◌≤◌, ◌<◌}
use mathlib.Core.Path.{◌≡◌, refl, sym, ◌∙◌}
use mathlib.Core.Logic.{◌⊎◌, inl, inr}
use Rattle.std.proofs.Math.Nat.{eq-or-lt_of_le}
use mathlib.Core.List.{List, [], ◌∷◌, ◌++◌}
use native.Mathlib.Omega.{arith}
use native.Mathlib.Nat.{pow-suc, one-le-pow}
use native.Mathlib.Numerals.{add-one}
use lib.ListN.{length, drop, set, get_or, length-set, drop_of_length-le}
use lib.Seq.{sets, drop-cons}
use Rattle.place.specs.Place.{put_at, put-none, put-roomy, put-before, Putting, put-start, put-more, put-inside, put-done}
use Rattle.text_digits.specs.Digits.{glyph, digits, places_to, hexed}
use Rattle.text_digits.specs.DigitLaws.{length_digits, length-hexed, places-one, places-more}

-- ---- digits, put from the last one to the first: the first ones of what is left, on top of what is there, are what was asked

pub record Spelling (b : List ℕ) (at base width v : ℕ) (buf : List ℕ) (x left : ℕ) : Type 0 where
  pub same : length buf ≡ length b
  pub roomy : at + width ≤ length b
  pub less : left ≤ width
  pub rest : sets buf at (digits base left x) ≡ sets b at (digits base width v)

pub spell-none : (b : List ℕ) (at base width v : ℕ) → length b < at + width → put_at b at (digits base width v) ≡ record { next = at; buf = b }
spell-none b at base width v h = put-none b at (digits base width v) (omega (arith, length_digits base width v))

pub spell-start : (b : List ℕ) (at base width v : ℕ) → at + width ≤ length b → Spelling b at base width v b v width
spell-start b at base width v h = record { same = refl; roomy = h; less = omega arith; rest = refl }

module _ {b : List ℕ} {at base width v : ℕ} {buf : List ℕ} {x left : ℕ} (w : Spelling b at base width v buf x left) where
  pub spell-inside : 0 < left → at + (left - 1) < length buf
  spell-inside h = omega (arith, w.same, w.roomy, w.less)

  pub spell-more : 0 < left → {g : ℕ} → g ≡ glyph (x % base) → Spelling b at base width v (set buf (at + (left - 1)) g) (x / base) (left - 1)
  unfolding digits
  spell-more h {g} q =
      let k = left - 1 in
      let e : left ≡ suc k = omega arith in
      let xs = digits base k (x / base) in
      let n : length xs ≡ k = length_digits base k (x / base) in
      let p : sets (sets buf (at + length xs) (g ∷ [])) at xs ≡ sets buf at (xs ++ g ∷ []) = put-before buf at xs (g ∷ []) in
      record {
        same = length-set buf (at + k) g ∙ w.same;
        roomy = w.roomy;
        less = omega (arith, w.less);
        rest = rw n at p ∙ rw q (rw e at w.rest);
      }

  pub spell-done : left ≤ 0 → record { next = at + width; buf = buf } ≡ put_at b at (digits base width v)
  unfolding digits
  spell-done h =
      let z : left ≡ 0 = omega arith in
      let r : buf ≡ sets b at (digits base width v) = rw z at w.rest in
      rw (put-roomy b at (digits base width v) (omega (arith, length_digits base width v, w.roomy)), length_digits base width v, r)

-- ---- decimal places: one more than the logarithm

pub places_to-power : (n k v : ℕ) → k ≤ n → 10 ^ k ≤ v → v < 10 * 10 ^ k → places_to n v ≡ k + 1
unfolding places_to
places_to-power zero k v f g h = omega arith
places_to-power (suc n) zero v f g h = places-one (suc n) v (omega arith)
places_to-power (suc n) (suc k) v f g h =
    let p = pow-suc 10 k in
    let pos : 1 ≤ 10 ^ k = one-le-pow k 10 (omega arith) in
    omega (arith, places-more n v (omega arith), places_to-power n k (v / 10) (omega arith) (omega arith) (omega arith))

-- v has as many places as w, which is v or, where v is below 10, any number from v to 9
pub places-max : (v w k : ℕ) → v ≤ w → w ≤ max v 9 → 10 ^ k ≤ w → w < 10 * 10 ^ k → k < 20 → k + 1 ≡ places_to 19 v
places-max v w k a b g h l = go (eq-or-lt_of_le (omega arith))
  where
    p : places_to 19 w ≡ k + 1
    p = places_to-power 19 k w (omega arith) g h

    go : (min v 10 ≡ 10) ⊎ (min v 10 < 10) → k + 1 ≡ places_to 19 v
    go (inl e) =
        let q : w ≡ v = omega arith in
        sym (rw q at p)
    go (inr e) = omega (arith, p, places-one 19 v (omega arith), places-one 19 w (omega arith))

-- ---- bytes, two digits each

pub record Hexing (b : List ℕ) (at : ℕ) (bytes : List ℕ) (buf : List ℕ) (p i : ℕ) : Type 0 where
  pub put : Putting b at (hexed bytes) buf p (hexed (drop i bytes))

pub hex-none : (b : List ℕ) (at : ℕ) (bytes : List ℕ) → length b < at + 2 * length bytes → put_at b at (hexed bytes) ≡ record { next = at; buf = b }
hex-none b at bytes h = put-none b at (hexed bytes) (omega (arith, length-hexed bytes))

pub hex-start : (b : List ℕ) (at : ℕ) (bytes : List ℕ) → at + 2 * length bytes ≤ length b → Hexing b at bytes b at 0
hex-start b at bytes h = record { put = put-start b at (hexed bytes) (omega (arith, length-hexed bytes)) }

module _ {b : List ℕ} {at : ℕ} {bytes buf : List ℕ} {p i : ℕ} (w : Hexing b at bytes buf p i) where
  module _ (h : i < length bytes) (small : get_or bytes i 0 < 256) where
    -- the two digits of the next byte
    two_digits : (g l : ℕ) → g ≡ glyph (get_or bytes i 0 / 16) → l ≡ glyph (get_or bytes i 0 % 16)
        → Putting b at (hexed bytes) buf p (g ∷ l ∷ hexed (drop (i + 1) bytes))
    unfolding hexed digits
    two_digits g l q r =
        let x = get_or bytes i 0 in
        let e : x / 16 % 16 ≡ x / 16 = omega arith in
        rw (q, r, add-one i, ← e) (rw (drop-cons bytes i 0 h) at w.put)

    pub hex-inside : p < length buf
    hex-inside = put-inside (two_digits _ _ refl refl)

    pub hex-next : (g : ℕ) → p + 1 < length (set buf p g)
    hex-next g =
        let first = glyph (get_or bytes i 0 / 16) in
        omega (arith, length-set buf p g, length-set buf p first, put-inside (put-more (two_digits first _ refl refl)))

    pub hex-more : {g l : ℕ} → g ≡ glyph (get_or bytes i 0 / 16) → l ≡ glyph (get_or bytes i 0 % 16)
        → Hexing b at bytes (set (set buf p g) (p + 1) l) (p + 2) (i + 1)
    hex-more {g} {l} q r =
        let e : p + 2 ≡ p + 1 + 1 = omega arith in
        record { put = rw e (put-more (put-more (two_digits g l q r))) }

  pub hex-done : length bytes ≤ i → record { next = p; buf = buf } ≡ put_at b at (hexed bytes)
  unfolding hexed
  hex-done h =
      let d : Putting b at (hexed bytes) buf p [] = rw (drop_of_length-le bytes {i = i} h) at w.put in
      put-done d
