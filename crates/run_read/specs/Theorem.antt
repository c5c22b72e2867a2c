-- Runs (rule U6), once for every wire type: what is accepted is exactly what some list of good values of the type is written as, and there is one such list.
use Prim.Native.Nat.{ℕ, zero, suc, ◌+◌, ◌-◌, ◌*◌, ◌≤◌}
use Rattle.std.specs.Prelude.{◌≡◌, refl, drop}
use Rattle.std.proofs.Math.Path.{ap, sym}
use Rattle.std.proofs.Common.{◌∙◌, length-append, length-drop}
use mathlib.Core.List.{List, [], ◌∷◌}
use Rattle.std.proofs.Math.Nat.{mul-suc}
use native.Mathlib.Omega.{arith}
use Rattle.std.proofs.Math.ListN.{length, take}
use Rattle.std.proofs.Math.Seq.{take-length}
use Rattle.wire.specs.Fixed.{number}
use Rattle.wire.specs.VarintLaws.{Bytes}
use Rattle.wire.specs.Types.{wire-kind}
use Rattle.wire.specs.Written.{Content, content_kind, written_content}
use Rattle.wire.specs.Places.{part, join, behind}
use Rattle.wire.specs.Reading.{value_at, wire_of, within}
use Rattle.wire.specs.ReadingLaws.{within-got, within-back}
use Rattle.wire.proofs.ReadingLaws.{value-moves, value-took, value-back, content-pos}
use Rattle.wire.specs.declared.Refusal.{Refusal}
use Rattle.wire.specs.declared.WireType.{WireType}
use Rattle.wire.specs.declared.WireType.TheVariants as wire_type
use Rattle.wire.specs.declared.Value.{Value}
use Rattle.wire.specs.declared.Value.TheVariants as val
use Rattle.wire.specs.declared.ValueFound.TheVariants as value_found
use Rattle.run_read.specs.Packed.{Values, Refused, leading, packed_from, packed, packed-end, packed-value, refused-values, Stands, none, some, stands}
use Rattle.run_read.specs.Packed.{run_written, GoodRun, contents}

-- ---- READ, THEN WRITTEN

abbrev Took : List ℕ → WireType → ℕ → List Value → Type 0
Took s w p vs = (part s p (length s) ≡ run_written (contents s vs)) × GoodRun w (contents s vs) × (p + length vs ≤ length s)

took-none : (s : List ℕ) (w : WireType) (p : ℕ) (vs : List Value) → p ≤ length s → length s ≤ p → vs ≡ [] → Took s w p vs
took-none s w p vs i a b = let z : length s - p ≡ 0 = omega arith in rw (b, z) (refl, tt, omega arith)

run-took : (k : ℕ) (s : List ℕ) (w : WireType) (p : ℕ) (vs : List Value) → Bytes s → p ≤ length s → length s - p ≤ k → packed_from k s w p ≡ Values vs
    → Took s w p vs
unfolding packed_from
run-took zero s w p vs h i g r = let e : Values [] ≡ Values vs = r in took-none s w p vs i (omega arith) cc
run-took (suc k) s w p vs h i g r = go (λ q us. run-took k s w q us h) (stands k s w p vs r)
  where
    go : ((q : ℕ) (us : List Value) → q ≤ length s → length s - q ≤ k → packed_from k s w q ≡ Values us → Took s w q us) → Stands k s w p vs → Took s w p vs
    go ih (none a b) = took-none s w p vs i a b
    go ih (some v q us a b c d) =
        let m = value-moves s (length s) p w v q b in
        let x = value-took s h (length s) p w v q b in
        let y = ih q us m.1 (omega (arith, m.0)) c in
        rw d (
          sym (join s p q (length s) (omega (arith, m.0)) m.1) ∙ rw (x.0, y.0),
          ((x.1, x.2), y.1),
          omega (arith, m.0, y.2),
        )

-- ---- WRITTEN, THEN READ

run-back : (k : ℕ) (s : List ℕ) (w : WireType) (p : ℕ) (cs : List Content) → drop p s ≡ run_written cs → GoodRun w cs → p ≤ length s → length s - p ≤ k
    → (vs : List Value) × (packed_from k s w p ≡ Values vs) × (contents s vs ≡ cs)
run-back k s w p [] d g i j = ([], packed-end s w p k (omega (arith, length-drop p s, ap length d)), refl)
run-back zero s w p (c ∷ cs) d g i j =
    absurd (omega (arith, length-drop p s, ap length d, length-append (written_content c) (run_written cs), content-pos c))
run-back (suc k) s w p (c ∷ cs) d g i j =
    let a = written_content c in
    let n = length-append a (run_written cs) in
    let l = ap length d in
    let m = length-drop p s in
    let pos = content-pos c in
    let x = value-back s (length s) p c (run_written cs) d g.0.0 (omega (arith, n, l, m)) in
    let t : wire_of (content_kind c) ≡ w = ap wire_of g.0.1 ∙ wire-kind w in
    let r : value_at s (length s) p w ≡ value_found.Got x.0 (p + length a) = rw t at x.1 in
    let y = run-back k s w (p + length a) cs (behind s p a (run_written cs) d) g.1 (omega (arith, n, l, m)) (omega (arith, pos)) in (
      x.0 ∷ y.0,
      packed-value s w p k x.0 (p + length a) (omega (arith, n, l, m, pos)) r ∙ ap (leading x.0) y.1,
      rw (x.2, y.2),
    )

-- ---- THE THEOREM

-- the slice is what a list of good values of the type is written as
pub record Meant (w : WireType) (s : List ℕ) (cs : List Content) : Type 0 where
  pub good : GoodRun w cs
  pub bytes : run_written cs ≡ s

module _ (w : WireType) (s : List ℕ) where
  -- what is accepted is such a list; each value takes a byte
  pub accepted : Bytes s → (vs : List Value) → packed s w ≡ Values vs → Meant w s (contents s vs) × (length vs ≤ length s)
  unfolding packed
  accepted h vs r =
      let x = run-took (length s) s w 0 vs h (omega arith) (omega arith) r in
      let e : length s - 0 ≡ length s = omega arith in
      (record { good = x.1; bytes = sym x.0 ∙ ap (λ (n : ℕ). take n s) e ∙ take-length s }, omega (arith, x.2))

  -- such a list is read back
  pub complete : (cs : List Content) → Meant w s cs → (vs : List Value) × (packed s w ≡ Values vs) × (contents s vs ≡ cs)
  unfolding packed
  complete cs m = run-back (length s) s w 0 cs (sym m.bytes) m.good (omega arith) (omega arith)

  -- there is no other
  pub unique : (cs ds : List Content) → Meant w s cs → Meant w s ds → cs ≡ ds
  unique cs ds a b =
      let x = complete cs a in
      let y = complete ds b in
      let z : Values x.0 ≡ Values y.0 = sym x.1 ∙ y.1 in
      let f : x.0 ≡ y.0 = cc in
      sym x.2 ∙ ap (contents s) f ∙ y.2

  -- what is refused is written by none
  pub refused : (r : Refusal) (cs : List Content) → packed s w ≡ Refused r → Meant w s cs → ⊥
  refused r cs h m = let x = complete cs m in refused-values (sym h ∙ x.1)

-- ---- RUNS OF A FIXED WIDTH: accepted exactly if the slice has a whole number of values

module _ (s : List ℕ) (w : WireType) (n : ℕ) (pos : 1 ≤ n) (value : ℕ → Value)
    (at : (p : ℕ) → value_at s (length s) p w ≡ within s (length s) (p + n) (value p)) where
  wide_back : (k p m : ℕ) → p + n * m ≡ length s → length s - p ≤ k → (vs : List Value) × (packed_from k s w p ≡ Values vs) × (length vs ≡ m)
  wide_back k p zero e j = ([], packed-end s w p k (omega (arith, e)), refl)
  wide_back zero p (suc m) e j = absurd (omega (arith, e, mul-suc n m))
  wide_back (suc k) p (suc m) e j =
      let l = mul-suc n m in
      let y = wide_back k (p + n) m (omega (arith, e, l)) (omega (arith, pos)) in
      let r = at p ∙ within-back s (length s) (p + n) (value p) (omega (arith, e, l)) (omega (arith, e, l)) in (
        value p ∷ y.0,
        packed-value s w p k (value p) (p + n) (omega (arith, e, l, pos)) r ∙ ap (leading (value p)) y.1,
        ap suc y.2,
      )

  wide-took : (k p : ℕ) (vs : List Value) → p ≤ length s → length s - p ≤ k → packed_from k s w p ≡ Values vs → length s ≡ p + n * length vs
  unfolding packed_from
  wide-took zero p vs i j h = let e : vs ≡ [] = (let z : Values [] ≡ Values vs = h in cc) in rw e (omega arith)
  wide-took (suc k) p vs i j h = go (λ q us. wide-took k q us) (stands k s w p vs h)
    where
      go : ((q : ℕ) (us : List Value) → q ≤ length s → length s - q ≤ k → packed_from k s w q ≡ Values us → length s ≡ q + n * length us)
          → Stands k s w p vs → length s ≡ p + n * length vs
      go ih (none a b) = rw b (omega arith)
      go ih (some v q us a b c d) =
          let x = within-got s (length s) (p + n) (value p) v q (sym (at p) ∙ b) in
          let y = ih q us (omega (arith, x.1, x.2)) (omega (arith, x.1, pos)) c in
          rw d (omega (arith, x.1, y, mul-suc n (length us)))

  -- as many values as fit
  pub wide-accepted : (m : ℕ) → length s ≡ n * m → (vs : List Value) × (packed s w ≡ Values vs) × (length vs ≡ m)
  unfolding packed
  wide-accepted m e = wide_back (length s) 0 m (omega (arith, e)) (omega arith)

  pub wide-length : (vs : List Value) → packed s w ≡ Values vs → length s ≡ n * length vs
  unfolding packed
  wide-length vs h = let x = wide-took (length s) 0 vs (omega arith) (omega arith) h in omega (arith, x)

module _ (s : List ℕ) where
  four : (p : ℕ) → Value
  four p = val.ThirtyTwoBit (number (take 4 (drop p s)))

  eight : (p : ℕ) → Value
  eight p = val.SixtyFourBit (number (take 8 (drop p s)))

  pub run-of-fours : ((m : ℕ) → length s ≡ 4 * m → (vs : List Value) × (packed s wire_type.ThirtyTwoBit ≡ Values vs) × (length vs ≡ m))
      × ((vs : List Value) → packed s wire_type.ThirtyTwoBit ≡ Values vs → length s ≡ 4 * length vs)
  unfolding four
  run-of-fours =
      (wide-accepted s wire_type.ThirtyTwoBit 4 (omega arith) four (λ p. refl), wide-length s wire_type.ThirtyTwoBit 4 (omega arith) four (λ p. refl))

  pub run-of-eights : ((m : ℕ) → length s ≡ 8 * m → (vs : List Value) × (packed s wire_type.SixtyFourBit ≡ Values vs) × (length vs ≡ m))
      × ((vs : List Value) → packed s wire_type.SixtyFourBit ≡ Values vs → length s ≡ 8 * length vs)
  unfolding eight
  run-of-eights =
      (wide-accepted s wire_type.SixtyFourBit 8 (omega arith) eight (λ p. refl), wide-length s wire_type.SixtyFourBit 8 (omega arith) eight (λ p. refl))
