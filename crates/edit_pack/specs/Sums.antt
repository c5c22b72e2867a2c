-- How many bytes start before a place: the sum grows by one span at a time, in order of place.
use Rattle.std.specs.Prelude.{ℕ, zero, suc, ◌+◌, ◌≤◌, ◌<◌, ◌≡◌, refl, Bool, true, false, ltb, leb}
use Rattle.std.proofs.Common.{ap, inl, inr, arith, ltb-true, ltb-false, leb-true, leb-false, lt-ltb, le-ltb}
use Rattle.wire.specs.Choose.{choose}
use Rattle.edit_live.specs.Spans.{end, total}
use Rattle.edit_live.specs.SpanLaws.{Apart, apart-any-two}
use Rattle.edit_live.specs.declared.Span.{Span}
use Rattle.edit_pack.specs.Packing.{before}

-- what one span adds
abbrev part : Span → ℕ → ℕ
part a p = choose (ltb a.start p) a.len 0

-- it adds the same before p as before q, if it starts nowhere between
part_same : (a : Span) (p q : ℕ) → p ≤ q → (0 < a.len → p ≤ a.start → q ≤ a.start) → part a q ≡ part a p
part_same a p q h g = go (ltb a.start p) refl (ltb a.start q) refl
  where
    go : (x : Bool) → ltb a.start p ≡ x → (y : Bool) → ltb a.start q ≡ y → part a q ≡ part a p
    go true x true y = rw (x, y)
    go true x false y = absurd (omega (arith, ltb-true a.start p x, ltb-false a.start q y))
    go false x true y = rw (x, y) (none (ltb 0 a.len) refl)
      where
        none : (z : Bool) → ltb 0 a.len ≡ z → a.len ≡ 0
        none true z = absurd (omega (arith, g (ltb-true 0 a.len z) (ltb-false a.start p x), ltb-true a.start q y))
        none false z = omega (arith, ltb-false 0 a.len z)
    go false x false y = rw (x, y)

pub before-zero : (c : ℕ) (f : ℕ → Span) → before c f 0 ≡ 0
before-zero zero f = refl
before-zero (suc c) f = rw (before-zero c f, le-ltb (f c).start 0 (omega arith))

-- a stretch in which none starts
pub before-gap : (c : ℕ) (f : ℕ → Span) (p q : ℕ) → p ≤ q → ((i : ℕ) → i < c → 0 < (f i).len → p ≤ (f i).start → q ≤ (f i).start)
    → before c f q ≡ before c f p
before-gap zero f p q h g = refl
before-gap (suc c) f p q h g =
    let a = before-gap c f p q h (λ i l. g i (omega arith)) in
    let b = part_same (f c) p q h (g c (omega arith)) in
    omega (arith, a, b)

-- a stretch that one span fills
pub before-one : (c : ℕ) (f : ℕ → Span) (j : ℕ) → j < c → 0 < (f j).len
    → ((i : ℕ) → i < c → (i ≡ j → ⊥) → 0 < (f i).len → (f j).start ≤ (f i).start → end (f j) ≤ (f i).start)
    → before c f (end (f j)) ≡ before c f (f j).start + (f j).len
before-one zero f j h b g = absurd (omega arith)
before-one (suc c) f j h b g = go (λ l. before-one c f j l b (λ i m. g i (omega arith))) (leb c j) refl
  where
    go : (j < c → before c f (end (f j)) ≡ before c f (f j).start + (f j).len) → (x : Bool) → leb c j ≡ x
        → before (suc c) f (end (f j)) ≡ before (suc c) f (f j).start + (f j).len
    go ih true x =
        let e : j ≡ c = omega (arith, leb-true c j x) in
        let u = before-gap c f (f j).start (end (f j)) (omega arith) (λ i l. g i (omega arith) (λ z. omega arith)) in
        let v : part (f j) (end (f j)) ≡ (f j).len = rw (lt-ltb (f j).start (end (f j)) (omega arith)) in
        let w : part (f j) (f j).start ≡ 0 = rw (le-ltb (f j).start (f j).start (omega arith)) in
        let d = ap (λ (y : ℕ). part (f y) (end (f j))) e in
        let m = ap (λ (y : ℕ). part (f y) (f j).start) e in
        omega (arith, u, v, w, d, m)
    go ih false x =
        let l = leb-false c j x in
        let u = ih l in
        let v = part_same (f c) (f j).start (end (f j)) (omega arith) (g c (omega arith) (λ z. omega arith)) in
        omega (arith, u, v)

-- behind all
pub before-all : (c : ℕ) (f : ℕ → Span) (p : ℕ) → ((i : ℕ) → i < c → 0 < (f i).len → (f i).start < p) → before c f p ≡ total c f
before-all zero f p g = refl
before-all (suc c) f p g = omega (arith, before-all c f p (λ i l. g i (omega arith)), last (ltb (f c).start p) refl)
  where
    last : (x : Bool) → ltb (f c).start p ≡ x → part (f c) p ≡ (f c).len
    last true x = rw x
    last false x = rw x (none (ltb 0 (f c).len) refl)
      where
        none : (z : Bool) → ltb 0 (f c).len ≡ z → 0 ≡ (f c).len
        none true z = absurd (omega (arith, g c (omega arith) (ltb-true 0 (f c).len z), ltb-false (f c).start p x))
        none false z = omega (arith, ltb-false 0 (f c).len z)

-- ---- OF SPANS THAT ARE APART

pub before-up : (c : ℕ) (f : ℕ → Span) (p q : ℕ) → p ≤ q → before c f p ≤ before c f q
before-up zero f p q h = omega arith
before-up (suc c) f p q h = omega (arith, before-up c f p q h, last (ltb (f c).start p) refl (ltb (f c).start q) refl)
  where
    last : (x : Bool) → ltb (f c).start p ≡ x → (y : Bool) → ltb (f c).start q ≡ y → part (f c) p ≤ part (f c) q
    last true x true y = rw (x, y) (omega arith)
    last true x false y = absurd (omega (arith, ltb-true (f c).start p x, ltb-false (f c).start q y))
    last false x b y = rw x (omega arith)

module _ (c : ℕ) (f : ℕ → Span) (apart : (i j : ℕ) → i < j → j < c → Apart (f i) (f j)) where
  -- where a span is packed to, the bytes before its end are packed too
  pub before-end : (j : ℕ) → j < c → 0 < (f j).len → before c f (end (f j)) ≡ before c f (f j).start + (f j).len
  before-end j h b = before-one c f j h b (λ i g o l m. go i l m (apart-any-two c f apart i j g h o))
    where
      go : (i : ℕ) → 0 < (f i).len → (f j).start ≤ (f i).start → Apart (f i) (f j) → end (f j) ≤ (f i).start
      go i l m (inl x) = absurd (omega arith)
      go i l m (inr x) = x

  -- so that packed spans are apart
  pub before-apart : (i j : ℕ) → i < c → j < c → 0 < (f i).len → 0 < (f j).len → Apart (f i) (f j)
      → Apart (record { start = before c f (f i).start; len = (f i).len }) (record { start = before c f (f j).start; len = (f j).len })
  before-apart i j h g a b (inl x) = inl (omega (arith, before-end i h a, before-up c f (end (f i)) (f j).start x))
  before-apart i j h g a b (inr x) = inr (omega (arith, before-end j g b, before-up c f (end (f j)) (f i).start x))
