-- Gaps between spans: bytes that lie in a gap overlap none of them.
use Rattle.std.specs.Prelude.{ℕ, zero, suc, ◌≤◌, ◌<◌, ◌≡◌, refl, Bool, true, false, ◌⊎◌, ltb, leb}
use Rattle.std.proofs.Common.{ap, inl, inr, arith, ltb-true, ltb-false, leb-true, leb-false, lt-ltb, le-ltb}
use Rattle.wire.specs.Choose.{choose}
use Rattle.edit_live.specs.declared.Span.{Span}
use Rattle.edit_live.specs.Spans.{end, no_span, meets_any}
use Rattle.edit_live.specs.SpanLaws.{Apart, meets-both, apart-any, meets_any_lem}

-- the end of a gap in which bytes a lie, once span s is seen: 0 if they overlap
abbrev pub narrowed : Span → Span → ℕ → ℕ
narrowed s a high = choose (ltb s.start (end a)) (choose (ltb a.start (end s)) 0 high) (choose (ltb s.start high) s.start high)

-- and once the first spans are, in a room of n bytes
abbrev pub gap_end : ℕ → ℕ → (ℕ → Span) → Span → ℕ
gap_end n zero f a = n
gap_end n (suc i) f a = narrowed (f i) a (gap_end n i f a)

-- no span of the first i has a byte between two places
abbrev pub Clear : ℕ → (ℕ → Span) → ℕ → ℕ → Type 0
Clear i f low high = (k : ℕ) → k < i → (end (f k) ≤ low) ⊎ (high ≤ (f k).start)

-- bytes a and the first i spans: one of these overlaps them, or they end in a gap
pub record Hit (i : ℕ) (f : ℕ → Span) (a : Span) (r : ℕ) : Type 0 where
  pub none : r ≡ 0
  pub meet : meets_any i f a ≡ true

pub record Inside (i : ℕ) (f : ℕ → Span) (a : Span) (r : ℕ) : Type 0 where
  pub over : end a ≤ r
  pub free : Clear i f a.start r

abbrev pub Gap : ℕ → (ℕ → Span) → Span → ℕ → Type 0
Gap i f a r = Hit i f a r ⊎ Inside i f a r

pub inside-apart : {i : ℕ} {f : ℕ → Span} {a : Span} {r : ℕ} → Inside i f a r → meets_any i f a ≡ false
inside-apart {i} {f} {a} {r} w = apart-any i f a (λ k h. go k (w.free k h))
  where
    go : (k : ℕ) → (end (f k) ≤ a.start) ⊎ (r ≤ (f k).start) → Apart (f k) a
    go k (inl g) = inl g
    go k (inr g) = inr (omega (arith, w.over))

-- ---- what a span does to a gap

module _ (s a : Span) (high : ℕ) where
  pub narrow-hit : s.start < end a → a.start < end s → narrowed s a high ≡ 0
  narrow-hit g h = rw (lt-ltb s.start (end a) g, lt-ltb a.start (end s) h)

  pub narrow-before : s.start < end a → end s ≤ a.start → narrowed s a high ≡ high
  narrow-before g h = rw (lt-ltb s.start (end a) g, le-ltb a.start (end s) h)

  pub narrow-behind : end a ≤ s.start → s.start < high → narrowed s a high ≡ s.start
  narrow-behind g h = rw (le-ltb s.start (end a) g, lt-ltb s.start high h)

  pub narrow-far : end a ≤ s.start → high ≤ s.start → narrowed s a high ≡ high
  narrow-far g h = rw (le-ltb s.start (end a) g, le-ltb s.start high h)

-- a gap with one more span
clear-more : (i : ℕ) (f : ℕ → Span) (low high r : ℕ) → Clear i f low high → r ≤ high → (end (f i) ≤ low) ⊎ (r ≤ (f i).start) → Clear (suc i) f low r
clear-more i f low high r w m n k h = go (leb i k) refl
  where
    less : (end (f k) ≤ low) ⊎ (high ≤ (f k).start) → (end (f k) ≤ low) ⊎ (r ≤ (f k).start)
    less (inl g) = inl g
    less (inr g) = inr (omega arith)

    go : (b : Bool) → leb i k ≡ b → (end (f k) ≤ low) ⊎ (r ≤ (f k).start)
    go true b = let e : k ≡ i = omega (arith, leb-true i k b) in rw e n
    go false b = less (w k (leb-false i k b))

pub gap-case : (n i : ℕ) (f : ℕ → Span) (a : Span) → 0 < a.len → end a ≤ n → Gap i f a (gap_end n i f a)
gap-case n zero f a b h = inr (record { over = h; free = λ k g. absurd (omega arith) })
gap-case n (suc i) f a b h = go (gap-case n i f a b h) (ltb (f i).start (end a)) refl (ltb a.start (end (f i))) refl
  where
    -- one that was met stays met, since nothing starts below 0
    stays : Hit i f a (gap_end n i f a) → Hit (suc i) f a (gap_end n (suc i) f a)
    stays w = record { none = zeroes (ltb (f i).start (end a)) refl (ltb a.start (end (f i))) refl; meet = rw w.meet }
      where
        zeroes : (p : Bool) → ltb (f i).start (end a) ≡ p → (q : Bool) → ltb a.start (end (f i)) ≡ q → gap_end n (suc i) f a ≡ 0
        zeroes true p true q = rw (w.none, p, q)
        zeroes true p false q = rw (w.none, p, q)
        zeroes false p q m = rw (w.none, p, le-ltb (f i).start 0 (omega arith))

    go : Gap i f a (gap_end n i f a) → (p : Bool) → ltb (f i).start (end a) ≡ p → (q : Bool) → ltb a.start (end (f i)) ≡ q
        → Gap (suc i) f a (gap_end n (suc i) f a)
    go (inl w) p x q y = inl (stays w)
    go (inr w) true p true q =
        let x = ltb-true (f i).start (end a) p in
        let y = ltb-true a.start (end (f i)) q in
        inl (record { none = narrow-hit (f i) a (gap_end n i f a) x y; meet = meets_any_lem (suc i) f a i (omega arith) (meets-both (f i) a x y) })
    go (inr w) true p false q =
        let y = ltb-false a.start (end (f i)) q in
        let e = narrow-before (f i) a (gap_end n i f a) (ltb-true (f i).start (end a) p) y in
        inr (record { over = rw e w.over; free = rw e (clear-more i f a.start (gap_end n i f a) (gap_end n i f a) w.free (omega arith) (inl y)) })
    go (inr w) false p q m = far (ltb (f i).start (gap_end n i f a)) refl
      where
        x : end a ≤ (f i).start
        x = ltb-false (f i).start (end a) p

        far : (z : Bool) → ltb (f i).start (gap_end n i f a) ≡ z → Gap (suc i) f a (gap_end n (suc i) f a)
        far true z =
            let y = ltb-true (f i).start (gap_end n i f a) z in
            let e = narrow-behind (f i) a (gap_end n i f a) x y in
            inr (record { over = rw e x; free = rw e (clear-more i f a.start (gap_end n i f a) (f i).start w.free (omega arith) (inr (omega arith))) })
        far false z =
            let y = ltb-false (f i).start (gap_end n i f a) z in
            let e = narrow-far (f i) a (gap_end n i f a) x y in
            inr (record { over = rw e w.over; free = rw e (clear-more i f a.start (gap_end n i f a) (gap_end n i f a) w.free (omega arith) (inr y)) })

-- ---- the gap that a walk carries: none seen, bytes that lie in it, one more span behind it

pub clear_none : (f : ℕ → Span) (low high : ℕ) → Clear 0 f low high
clear_none f low high k h = absurd (omega arith)

pub clear-inside : (i : ℕ) (f : ℕ → Span) (a : Span) (low high : ℕ) → Clear i f low high → low ≤ a.start → end a ≤ high → Inside i f a high
clear-inside i f a low high w g h = record { over = h; free = λ k b. go k (w k b) }
  where
    go : (k : ℕ) → (end (f k) ≤ low) ⊎ (high ≤ (f k).start) → (end (f k) ≤ a.start) ⊎ (high ≤ (f k).start)
    go k (inl l) = inl (omega arith)
    go k (inr l) = inr l

pub clear-passed : {i : ℕ} {f : ℕ → Span} {r : ℕ} → Inside i f (f i) r → Clear (suc i) f (end (f i)) r
clear-passed {i} {f} {r} w k h = go (leb i k) refl
  where
    less : (end (f k) ≤ (f i).start) ⊎ (r ≤ (f k).start) → (end (f k) ≤ end (f i)) ⊎ (r ≤ (f k).start)
    less (inl g) = inl (omega arith)
    less (inr g) = inr g

    go : (b : Bool) → leb i k ≡ b → (end (f k) ≤ end (f i)) ⊎ (r ≤ (f k).start)
    go true b = let e : k ≡ i = omega (arith, leb-true i k b) in inl (rw e (omega arith))
    go false b = less (w.free k (leb-false i k b))

pub clear-skipped : (i : ℕ) (f : ℕ → Span) (low high : ℕ) → Clear i f low high → f i ≡ no_span → Clear (suc i) f low high
clear-skipped i f low high w e =
    clear-more i f low high high w (omega arith) (inl (let z : end (f i) ≡ 0 = ap (λ (a : Span). end a) e in omega arith))
