-- A slice cut at a place: whatever was read before the cut is read in what is left, and the same.
use Rattle.std.specs.Prelude.{ℕ, zero, suc, ◌+◌, ◌-◌, ◌≤◌, ◌^◌, ◌≡◌, refl, List, [], ◌∷◌, length, take, drop}
use Rattle.std.proofs.Common.{ap, ◌∙◌, sym, arith, take-take, length-take-le}
use borrow.Author.Tests.{lt-ltb, le-ltb}
use Rattle.std.proofs.Math.Seq.{take-nil}
use Rattle.wire.specs.Varint.{Adds, sum}
use Rattle.wire.specs.VarintLaws.{Summed, ends, goes_on, summed, stops}
use Rattle.wire.proofs.VarintLaws.{sum-takes}
use Rattle.wire.specs.Fixed.{number}
use Rattle.wire.specs.Reading.{varint_at, capped_at, within, value_at, field_at}
use Rattle.wire.specs.ReadingLaws.{judged-got, renamed-got, number-got, payload-got, within-got, within-back}
use Rattle.wire.proofs.ReadingLaws.{value-moves, field_found_lem}
use Rattle.wire.specs.declared.WireType.{WireType}
use Rattle.wire.specs.declared.WireType.TheVariants as wire_type
use Rattle.wire.specs.declared.Value.{Value}
use Rattle.wire.specs.declared.Value.TheVariants as val
use Rattle.wire.specs.declared.Field.{Field}
use Rattle.wire.specs.declared.VarintFound.TheVariants as varint_found
use Rattle.wire.specs.declared.ValueFound.TheVariants as value_found
use Rattle.wire.specs.declared.FieldFound.TheVariants as field_found

pub drop-cut : (p c : ℕ) (s : List ℕ) → drop p (take c s) ≡ take (c - p) (drop p s)
drop-cut zero c s = let e : c - 0 ≡ c = omega arith in rw e
drop-cut (suc p) zero s = let e : 0 - suc p ≡ 0 = omega arith in rw e
drop-cut (suc p) (suc c) [] = sym (take-nil (suc c - suc p))
drop-cut (suc p) (suc c) (b ∷ s) = let e : suc c - suc p ≡ c - p = omega arith in rw e (drop-cut p c s)

pub sum-cut : (k : ℕ) (bs : List ℕ) (v n j : ℕ) → sum k bs ≡ Adds v n → n ≤ j → sum k (take j bs) ≡ Adds v n
sum-cut zero [] v n j e h = stops e
sum-cut (suc k) [] v n j e h = stops e
sum-cut k (b ∷ bs) v n zero e h = absurd (omega (arith, (sum-takes k (b ∷ bs) v n e).0))
sum-cut zero (b ∷ bs) v n (suc j) e h = e
sum-cut (suc k) (b ∷ bs) v n (suc j) e h = go (summed k b bs v n e) (sum-cut k bs)
  where
    go : Summed k b bs v n → ((w m i : ℕ) → sum k bs ≡ Adds w m → m ≤ i → sum k (take i bs) ≡ Adds w m) → sum (suc k) (b ∷ take j bs) ≡ Adds v n
    go (ends a x y) ih = rw (lt-ltb b 128 a, x, y)
    go (goes_on a w m q x y) ih = rw (le-ltb b 128 a, ih w m j q (omega arith), x, y)

same : {v w : Value} {q r : ℕ} → w ≡ v → r ≡ q → value_found.Got v q ≡ value_found.Got w r
same a b = rw (a, b)

module _ (s : List ℕ) (c : ℕ) (inside : c ≤ length s) where
  pub varint-cut : (p v q : ℕ) → varint_at s p ≡ varint_found.Got v q → q ≤ c → varint_at (take c s) p ≡ varint_found.Got v q
  unfolding varint_at
  varint-cut p v q e h =
      let j = judged-got p (sum 8 (drop p s)) v q e in
      let a : j.0 ≤ c - p = omega (arith, j.2) in
      rw (drop-cut p c s, sum-cut 8 (drop p s) v j.0 (c - p) j.1 a, lt-ltb v (2 ^ 64) j.3) (ap (varint_found.Got v) (sym j.2))

  -- the same under the end that the cut makes
  capped-cut : (p v q : ℕ) → varint_at s p ≡ varint_found.Got v q → q ≤ c → capped_at (take c s) c p ≡ varint_found.Got v q
  capped-cut p v q e h = rw (varint-cut p v q e h)

  cut-length : length (take c s) ≡ c
  cut-length = length-take-le c s inside

  within-cut : (q : ℕ) (v : Value) → q ≤ c → within (take c s) c q v ≡ value_found.Got v q
  within-cut q v h = within-back (take c s) c q v (rw cut-length h) h

  part_cut : (p k : ℕ) → p + k ≤ c → take k (drop p (take c s)) ≡ take k (drop p s)
  part_cut p k h = rw (drop-cut p c s) (take-take k (c - p) (drop p s) (omega arith))

  value-cut : (e p : ℕ) (w : WireType) (v : Value) (q : ℕ) → value_at s e p w ≡ value_found.Got v q → q ≤ c → value_at (take c s) c p w ≡ value_found.Got v q
  value-cut e p wire_type.Varint v q h g =
      let x = number-got (capped_at s e p) v q h in
      rw (capped-cut p x.0 q (renamed-got e p (varint_at s p) x.0 q x.1) g) (same x.2 refl)
  value-cut e p wire_type.LengthDelimited v q h g =
      let x = payload-got s e (varint_at s p) v q h in
      let i : x.1 + x.0 ≤ c = omega (arith, x.4) in
      rw (varint-cut p x.0 x.1 x.2 (omega arith)) (within-cut (x.1 + x.0) (val.LengthDelimited x.1 x.0) i ∙ same x.3 x.4)
  value-cut e p wire_type.ThirtyTwoBit v q h g =
      let x = within-got s e (p + 4) (val.ThirtyTwoBit (number (take 4 (drop p s)))) v q h in
      let i : p + 4 ≤ c = omega (arith, x.1) in
      rw (part_cut p 4 i) (within-cut (p + 4) (val.ThirtyTwoBit (number (take 4 (drop p s)))) i ∙ same x.0 x.1)
  value-cut e p wire_type.SixtyFourBit v q h g =
      let x = within-got s e (p + 8) (val.SixtyFourBit (number (take 8 (drop p s)))) v q h in
      let i : p + 8 ≤ c = omega (arith, x.1) in
      rw (part_cut p 8 i) (within-cut (p + 8) (val.SixtyFourBit (number (take 8 (drop p s)))) i ∙ same x.0 x.1)

  pub field_cut : (e p last : ℕ) (f : Field) (q : ℕ) → field_at s e p last ≡ field_found.Got f q → q ≤ c → field_at (take c s) c p last ≡ field_found.Got f q
  unfolding field_at
  field_cut e p last f q h g =
      let x = field_found_lem s e p last f q h in
      let k = x.key in
      let m = value-moves s e x.middle x.wire f.value q x.value in
      rw (
        capped-cut p k.key x.middle k.read (omega (arith, m.0)),
        ← k.tag,
        lt-ltb f.tag (2 ^ 32) k.small,
        ← k.wire,
        value-cut e x.middle x.wire f.value q x.value g,
      )
