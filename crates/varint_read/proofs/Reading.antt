-- Reading a varint a byte at a time: where a reader stands, and what each byte does to that.
use Prim.Native.Nat.{ℕ, zero, suc, ◌+◌, ◌-◌, ◌*◌, ◌/◌, ◌^◌, ◌≤◌, ◌<◌}
use mathlib.Core.Path.{◌≡◌, refl, ap, ◌∙◌}
use mathlib.Core.Bool.{Bool, true, false}
use mathlib.Core.List.{List, [], ◌∷◌}
use native.Mathlib.Omega.{arith}
use native.Mathlib.Numerals.{add-one}
use native.Mathlib.Nat.{not-suc-le-zero, mul-le-mul_right, mul-le-mul_left, pow-suc}
use mathlib.Core.Logic.{◌⊎◌, inl, inr}
use borrow.Author.Tests.{lt-ltb, le-ltb}
use lib.Dec.{ltb}
use lib.ListN.{length, drop, get_or, drop_of_length-le}
use lib.Seq.{drop-cons}
use Rattle.wire.specs.Choose.{choose}
use Rattle.wire.specs.Varint.{Sum, Adds, Stops, before, sum}
use Rattle.wire.specs.Reading.{judged, varint_at}
use Rattle.wire.specs.declared.Refusal.TheVariants.{Truncated, InvalidVarint}
use Rattle.wire.specs.declared.VarintFound.{VarintFound}
use Rattle.wire.specs.declared.VarintFound.TheVariants.{Got, Refused}

-- the answer of a reader at place p that has w already, where the next byte counts c times
abbrev pub from : ℕ → ℕ → ℕ → Sum → VarintFound
from p w c (Adds v n) = choose (ltb (w + c * v) (2 ^ 64)) (Got (w + c * v) (p + n)) (Refused InvalidVarint)
from p w c Stops = Refused Truncated

-- the same, of the bytes from p on, where up to k more may follow the next
abbrev pub stands : List ℕ → ℕ → ℕ → ℕ → ℕ → VarintFound
stands s p w c k = from p w c (sum k (drop p s))

judged-from : (at : ℕ) (r : Sum) → judged at r ≡ from at 0 1 r
judged-from at (Adds v n) = go (ltb v (2 ^ 64)) refl
  where
    one : 0 + 1 * v ≡ v
    one = omega arith

    go : (t : Bool) → ltb v (2 ^ 64) ≡ t → judged at (Adds v n) ≡ from at 0 1 (Adds v n)
    go true e = simp (one, e)
    go false e = simp (one, e)
judged-from at Stops = refl

pub start : (s : List ℕ) (at : ℕ) → varint_at s at ≡ stands s at 0 1 8
unfolding varint_at
start s at = judged-from at (sum 8 (drop at s))

sum-nil : (k : ℕ) → sum k [] ≡ Stops
sum-nil zero = refl
sum-nil (suc k) = refl

pub stop : (s : List ℕ) (p w c k : ℕ) → length s ≤ p → stands s p w c k ≡ Refused Truncated
stop s p w c k h = simp (drop_of_length-le s h, sum-nil)

from-before : (p w c b : ℕ) (r : Sum) → from p w c (before b r) ≡ from (suc p) (w + b * c) (c * 128) r
from-before p w c b (Adds v n) =
    let e : w + c * (b + 128 * v) ≡ w + b * c + c * 128 * v = omega arith in
    let q : p + suc n ≡ suc p + n = omega arith in
    simp (e, q)
from-before p w c b Stops = refl

pub step : (s : List ℕ) (p w c k : ℕ) → p < length s → 128 ≤ get_or s p 0 → 0 < k
    → stands s p w c k ≡ stands s (p + 1) (w + get_or s p 0 * c) (c * 128) (k - 1)
step s p w c zero h g z = absurd (not-suc-le-zero z)
step s p w c (suc k) h g z =
    let e : suc k - 1 ≡ k = omega arith in
    rw (add-one p, e, drop-cons s p 0 h, le-ltb (get_or s p 0) 128 g) (from-before p w c (get_or s p 0) (sum k (drop (suc p) s)))

sum-ends : (k b : ℕ) (bs : List ℕ) → (b < 128) ⊎ (k ≡ 0) → sum k (b ∷ bs) ≡ Adds b 1
sum-ends zero b bs h = refl
sum-ends (suc k) b bs (inl h) = simp (lt-ltb b 128 h)
sum-ends (suc k) b bs (inr h) = let z : ◌≡◌ {A = ℕ} 0 1 = omega arith in cc

module _ (s : List ℕ) (p w c k : ℕ) (h : p < length s) (end : (get_or s p 0 < 128) ⊎ (k ≡ 0)) where
  here : stands s p w c k ≡ from p w c (Adds (get_or s p 0) 1)
  here = rw (drop-cons s p 0 h, sum-ends k (get_or s p 0) (drop (suc p) s) end)

  pub last : w + get_or s p 0 * c < 2 ^ 64 → stands s p w c k ≡ Got (w + get_or s p 0 * c) (p + 1)
  last f =
      let e : c * get_or s p 0 ≡ get_or s p 0 * c = omega arith in
      here ∙ simp (e, lt-ltb (w + get_or s p 0 * c) (2 ^ 64) f)

  pub over : 2 ^ 64 ≤ w + get_or s p 0 * c → stands s p w c k ≡ Refused InvalidVarint
  over f =
      let e : c * get_or s p 0 ≡ get_or s p 0 * c = omega arith in
      here ∙ simp (e, le-ltb (w + get_or s p 0 * c) (2 ^ 64) f)

-- the sum of the bytes passed and the weight of the next, k before the ninth
pub record Passed (w c k : ℕ) : Type 0 where
  pub small : 127 * w + 255 ≤ 255 * c
  pub weight : c * 128 ^ k ≡ 2 ^ 56

pow-128 : (k : ℕ) → 1 ≤ 128 ^ k
pow-128 zero = omega arith
pow-128 (suc k) = omega (arith, pow-128 k)

pub scale_small : (w c k : ℕ) → Passed w c k → 0 < k → c * 128 ≤ 2 ^ 56
scale_small w c zero i z = absurd (not-suc-le-zero z)
scale_small w c (suc k) i z = omega (arith, mul-le-mul_left (c * 128) (pow-128 k), ap (λ (n : ℕ). c * n) (pow-suc 128 k), i.weight)

pub scale-last : (w c k : ℕ) → Passed w c k → k ≡ 0 → c ≡ 2 ^ 56
scale-last w c zero i z = omega arith
scale-last w c (suc k) i z = omega arith

pub product_small : (b c : ℕ) → b < 256 → b * c ≤ 255 * c
product_small b c h = mul-le-mul_right c (omega arith)

pub passed-more : (w c k b : ℕ) → Passed w c k → b < 256 → 0 < k → Passed (w + b * c) (c * 128) (k - 1)
passed-more w c zero b i h z = absurd (not-suc-le-zero z)
passed-more w c (suc k) b i h z =
    let e : suc k - 1 ≡ k = omega arith in
    record {
      small = omega (arith, product_small b c h);
      weight = rw e (omega (arith, ap (λ (n : ℕ). c * n) (pow-suc 128 k), i.weight));
    }

pub sum-small : (w c k b : ℕ) → Passed w c k → b < 256 → 0 < k → w + b * c < 2 ^ 64
sum-small w c k b i h z = omega (arith, product_small b c h, scale_small w c k i z, i.small)

-- the ninth byte ends it: a sum that fits, and one that does not
module _ (s : List ℕ) (p w c k : ℕ) (i : Passed w c k) (z : k ≡ 0) (h : p < length s) where
  pub ninth : w / 2 ^ 56 + get_or s p 0 ≤ 255 → stands s p w c k ≡ Got (w + get_or s p 0 * 2 ^ 56) (p + 1)
  ninth f = rw (scale-last w c k i z) (last s p w (2 ^ 56) k h (inr z) (omega arith))

  pub ninth-over : 255 < w / 2 ^ 56 + get_or s p 0 → stands s p w c k ≡ Refused InvalidVarint
  ninth-over f = rw (scale-last w c k i z) (over s p w (2 ^ 56) k h (inr z) (omega arith))

pub none_left : (s : List ℕ) (at : ℕ) → length s ≤ at → varint_at s at ≡ Refused Truncated
none_left s at h = start s at ∙ stop s at 0 1 8 h

pub one_byte : (s : List ℕ) (at : ℕ) → at < length s → get_or s at 0 < 128 → varint_at s at ≡ Got (get_or s at 0) (at + 1)
one_byte s at h g =
    let e : 0 + get_or s at 0 * 1 ≡ get_or s at 0 = omega arith in
    start s at ∙ rw e at (last s at 0 1 8 h (inl g) (omega arith))

pub two_bytes : (s : List ℕ) (at : ℕ) → at < length s → 128 ≤ get_or s at 0 → varint_at s at ≡ stands s (at + 1) (get_or s at 0) 128 7
two_bytes s at h g =
    let e : 0 + get_or s at 0 * 1 ≡ get_or s at 0 = omega arith in
    start s at ∙ rw e at (step s at 0 1 8 h g (omega arith))

pub two-byte : (s : List ℕ) (at : ℕ) → at + 1 < length s → 128 ≤ get_or s at 0 → get_or s at 0 < 256 → get_or s (at + 1) 0 < 128
    → varint_at s at ≡ Got (get_or s at 0 + 128 * get_or s (at + 1) 0) (at + 2)
two-byte s at h g b c =
    let e : get_or s at 0 + 128 * get_or s (at + 1) 0 ≡ get_or s at 0 + get_or s (at + 1) 0 * 128 = omega arith in
    let q : at + 2 ≡ at + 1 + 1 = omega arith in
    two_bytes s at (omega arith) g ∙ rw (e, q) (last s (at + 1) (get_or s at 0) 128 7 h (inl c) (omega arith))

pub three-byte : (s : List ℕ) (at : ℕ) → at + 2 < length s → 128 ≤ get_or s at 0 → get_or s at 0 < 256 → 128 ≤ get_or s (at + 1) 0 → get_or s (at + 1) 0 < 256
    → get_or s (at + 2) 0 < 128 → varint_at s at ≡ Got (get_or s at 0 + 128 * get_or s (at + 1) 0 + 16384 * get_or s (at + 2) 0) (at + 3)
three-byte s at h g b i d c =
    let e : get_or s at 0 + 128 * get_or s (at + 1) 0 ≡ get_or s at 0 + get_or s (at + 1) 0 * 128 = omega arith in
    let f : 16384 * get_or s (at + 2) 0 ≡ get_or s (at + 2) 0 * (128 * 128) = omega arith in
    let p : at + 2 ≡ at + 1 + 1 = omega arith in
    let q : at + 3 ≡ at + 2 + 1 = omega arith in
    let t : stands s (at + 1) (get_or s at 0) 128 7 ≡ stands s (at + 2) (get_or s at 0 + get_or s (at + 1) 0 * 128) (128 * 128) 6 =
    rw p (step s (at + 1) (get_or s at 0) 128 7 (omega arith) i (omega arith)) in
    two_bytes s at (omega arith) g
    ∙ t
    ∙ rw (e, f, q) (last s (at + 2) (get_or s at 0 + get_or s (at + 1) 0 * 128) (128 * 128) 6 h (inl c) (omega arith))
