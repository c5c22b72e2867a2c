-- Runs of fixed values: four bytes each, or eight. What a place holds, and how many a slice has.
use Rattle.std.specs.Prelude.{ℕ, zero, suc, ◌+◌, ◌/◌, ◌%◌, ◌≤◌, ◌<◌, ◌≡◌, refl, Bool, true, false, List, [], ltb, leb, eqb, length, take, drop}
use Rattle.std.proofs.Common.{ap, ◌∙◌, sym, arith, eqb-true}
use Rattle.std.proofs.lemmas.Bool.{eqb-false}
use Rattle.wire.specs.Choose.{choose}
use Rattle.wire.specs.Fixed.{number}
use Rattle.wire.specs.Reading.{within, value_at}
use Rattle.wire.specs.ReadingLaws.{within-back, within-slice}
use Rattle.wire.specs.declared.Refusal.{Refusal}
use Rattle.wire.specs.declared.Refusal.TheVariants.{Truncated}
use Rattle.wire.specs.declared.Value.{Value}
use Rattle.wire.specs.declared.Value.TheVariants as val
use Rattle.wire.specs.declared.ValueFound.{ValueFound}
use Rattle.wire.specs.declared.ValueFound.TheVariants as value_found
use Rattle.wire.specs.declared.WireType.{WireType}
use Rattle.wire.specs.declared.WireType.TheVariants.{ThirtyTwoBit, SixtyFourBit}
use Rattle.entry_answer.specs.declared.RunCount.{RunCount}
use Rattle.entry_answer.specs.declared.RunCount.TheVariants as count
use Rattle.run_read.specs.Packed.{Packed, Values, Refused, leading, packed_from, packed}
use Rattle.run_read.specs.Runs.{count_of}
use Rattle.run_read.specs.Theorem.{run-of-fours, run-of-eights}

-- ---- the two types

abbrev pub width : Bool → ℕ
width true = 8
width false = 4

abbrev pub wide_type : Bool → WireType
wide_type true = SixtyFourBit
wide_type false = ThirtyTwoBit

abbrev pub wide_value : Bool → List ℕ → ℕ → Value
wide_value true s p = val.SixtyFourBit (number (take 8 (drop p s)))
wide_value false s p = val.ThirtyTwoBit (number (take 4 (drop p s)))

pub width_four : (b : Bool) → 4 ≤ width b
width_four true = omega arith
width_four false = omega arith

-- what stands at a place
at : (b : Bool) (s : List ℕ) (p : ℕ) → value_at s (length s) p (wide_type b) ≡ within s (length s) (p + width b) (wide_value b s p)
at true s p = refl
at false s p = refl

pub wide-got : (b : Bool) (s : List ℕ) (p : ℕ) → p + width b ≤ length s
    → value_at s (length s) p (wide_type b) ≡ value_found.Got (wide_value b s p) (p + width b)
wide-got b s p h = at b s p ∙ within-back s (length s) (p + width b) (wide_value b s p) h h

pub wide_short : (b : Bool) (s : List ℕ) (p : ℕ) → length s < p + width b → value_at s (length s) p (wide_type b) ≡ value_found.Refused Truncated
wide_short b s p h = at b s p ∙ within-slice s (length s) (p + width b) (wide_value b s p) h

-- ---- how many there are

-- as many as the length says, if it leaves nothing over
abbrev pub fixed_count : ℕ → ℕ → RunCount
fixed_count len n = choose (eqb (len % n) 0) (count.Values (len / n)) (count.Refused Truncated)

leading-refused : (v : Value) (x : Packed) (r : Refusal) → leading v x ≡ Refused r → x ≡ Refused r
leading-refused v (Values vs) r e = let z : ◌≡◌ {A = ℕ} 0 1 = cc in absurd (omega arith)
leading-refused v (Refused q) r e = e

within-why : (s : List ℕ) (e q : ℕ) (v : Value) (r : Refusal) → within s e q v ≡ value_found.Refused r → r ≡ Truncated
within-why s e q v r h = go (leb q (length s)) refl (leb q e) refl
  where
    go : (a : Bool) → leb q (length s) ≡ a → (b : Bool) → leb q e ≡ b → r ≡ Truncated
    go true a true b =
        let z : value_found.Got v q ≡ value_found.Refused r = simp (a, b) at h in
        let y : ◌≡◌ {A = ℕ} 0 1 = cc in absurd (omega arith)
    go true a false b = let z : value_found.Refused Truncated ≡ value_found.Refused r = simp (a, b) at h in cc
    go false a b x = let z : value_found.Refused Truncated ≡ value_found.Refused r = simp a at h in cc

-- nothing else is wrong with them
why : (b : Bool) (s : List ℕ) (k p : ℕ) (r : Refusal) → packed_from k s (wide_type b) p ≡ Refused r → r ≡ Truncated
unfolding packed_from
why b s zero p r h = let z : ◌≡◌ {A = ℕ} 0 1 = cc in absurd (omega arith)
why b s (suc k) p r h = go (λ q. why b s k q r) (ltb p (length s)) refl (value_at s (length s) p (wide_type b)) refl
  where
    go : ((q : ℕ) → packed_from k s (wide_type b) q ≡ Refused r → r ≡ Truncated)
        → (c : Bool) → ltb p (length s) ≡ c → (o : ValueFound) → value_at s (length s) p (wide_type b) ≡ o → r ≡ Truncated
    go ih true c (value_found.Got v q) o =
        let z : leading v (packed_from k s (wide_type b) q) ≡ Refused r = simp (c, o) at h in
        ih q (leading-refused v (packed_from k s (wide_type b) q) r z)
    go ih true c (value_found.Refused x) o =
        let z : Refused x ≡ Refused r = simp (c, o) at h in
        let e : x ≡ r = cc in
        sym e ∙ within-why s (length s) (p + width b) (wide_value b s p) x (sym (at b s p) ∙ o)
    go ih false c o q =
        let z : Values [] ≡ Refused r = simp c at h in
        let y : ◌≡◌ {A = ℕ} 0 1 = cc in absurd (omega arith)

refused-so : (b : Bool) (s : List ℕ) (r : Refusal) → packed s (wide_type b) ≡ Refused r → r ≡ Truncated
unfolding packed
refused-so b s r h = why b s (length s) 0 r h

module _ (b : Bool) (s : List ℕ) where
  -- where the length leaves something over
  over : ((vs : List Value) → packed s (wide_type b) ≡ Values vs → ⊥) → count.Refused Truncated ≡ count_of (packed s (wide_type b))
  over never = go (packed s (wide_type b)) refl
    where
      go : (x : Packed) → packed s (wide_type b) ≡ x → count.Refused Truncated ≡ count_of (packed s (wide_type b))
      go (Values vs) e = absurd (never vs e)
      go (Refused r) e = ap count.Refused (sym (refused-so b s r e)) ∙ sym (ap count_of e)

  -- where it does not
  even : (m : ℕ) → (vs : List Value) × (packed s (wide_type b) ≡ Values vs) × (length vs ≡ m) → count.Values m ≡ count_of (packed s (wide_type b))
  even m x = ap count.Values (sym x.2) ∙ sym (ap count_of x.1)

pub fours-counted : (s : List ℕ) → fixed_count (length s) 4 ≡ count_of (packed s ThirtyTwoBit)
fours-counted s = go (eqb (length s % 4) 0) refl
  where
    go : (b : Bool) → eqb (length s % 4) 0 ≡ b → fixed_count (length s) 4 ≡ count_of (packed s ThirtyTwoBit)
    go true b = rw b (even false s (length s / 4) ((run-of-fours s).0 (length s / 4) (omega (arith, eqb-true (length s % 4) 0 b))))
    go false b =
        rw b (over false s (λ vs e. omega (arith, eqb-false (length s % 4) 0 b, (run-of-fours s).1 vs e)))

pub eights-counted : (s : List ℕ) → fixed_count (length s) 8 ≡ count_of (packed s SixtyFourBit)
eights-counted s = go (eqb (length s % 8) 0) refl
  where
    go : (b : Bool) → eqb (length s % 8) 0 ≡ b → fixed_count (length s) 8 ≡ count_of (packed s SixtyFourBit)
    go true b = rw b (even true s (length s / 8) ((run-of-eights s).0 (length s / 8) (omega (arith, eqb-true (length s % 8) 0 b))))
    go false b =
        rw b (over true s (λ vs e. omega (arith, eqb-false (length s % 8) 0 b, (run-of-eights s).1 vs e)))
