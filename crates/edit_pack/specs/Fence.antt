-- Payloads that come in the order of their index up to a place, the fence: the next of them in order of place is the next by index.
use Rattle.std.specs.Prelude.{ℕ, zero, suc, ◌+◌, ◌≤◌, ◌<◌, ◌≡◌, refl, Bool, true, false, ◌⊎◌, ltb, leb}
use Rattle.std.proofs.Common.{ap, ◌∙◌, sym, inl, inr, arith, ltb-true, ltb-false, leb-true, leb-false, le-leb}
use Rattle.std.proofs.lemmas.Bool.{lt-leb}
use Rattle.wire.specs.Choose.{choose}
use Rattle.edit_live.specs.Spans.{end, nearer, next_live}
use Rattle.edit_live.specs.SpanLaws.{same_or_not, near-true, near-is, near-false, Least, Nothing, next-case}
use Rattle.edit_live.specs.declared.Span.{Span}

-- the first index from i on, of k, whose span has bytes and starts between two places
abbrev pub first_between : ℕ → (ℕ → Span) → ℕ → ℕ → ℕ → ℕ
first_between zero f from fence i = i
first_between (suc k) f from fence i = choose (nearer (f i) from fence) i (first_between k f from fence (suc i))

-- of the first c, those below index `at` that start behind a place start at the fence or behind it; the others that start before the fence come one behind the
-- other
pub record Fenced (c : ℕ) (f : ℕ → Span) (from at fence : ℕ) : Type 0 where
  pub low : (k : ℕ) → k < at → k < c → 0 < (f k).len → from ≤ (f k).start → fence ≤ (f k).start
  pub rising : (j k : ℕ) → at ≤ j → j < k → k < c → nearer (f j) from fence ≡ true → nearer (f k) from fence ≡ true → end (f j) ≤ (f k).start

pub fence-none : (c : ℕ) (f : ℕ → Span) (from : ℕ) → Fenced c f from c 0
fence-none c f from = record { low = λ k h g b l. omega arith; rising = λ j k h g l a b. absurd (omega arith) }

-- a test that says yes or no
yes_or_no : (b : Bool) → (b ≡ true) ⊎ (b ≡ false)
yes_or_no true = inl refl
yes_or_no false = inr refl

no_both : {A : Type 0} {b : Bool} → b ≡ true → b ≡ false → A
no_both p q = let z : ◌≡◌ {A = ℕ} 0 1 = cc in absurd (omega arith)

-- ---- the first between

-- what is found: nothing up to i + k, or the first
pub record First (f : ℕ → Span) (from fence at i : ℕ) : Type 0 where
  pub above : at ≤ i
  pub none : (k : ℕ) → at ≤ k → k < i → nearer (f k) from fence ≡ false

pub first-is : (k : ℕ) (f : ℕ → Span) (from fence at : ℕ) → First f from fence at (first_between k f from fence at)
first-is zero f from fence at = record { above = omega arith; none = λ k h g. absurd (omega arith) }
first-is (suc k) f from fence at = go (first-is k f from fence (suc at)) (nearer (f at) from fence) refl
  where
    go : First f from fence (suc at) (first_between k f from fence (suc at)) → (b : Bool) → nearer (f at) from fence ≡ b
        → First f from fence at (first_between (suc k) f from fence at)
    go ih true b = rw b (record { above = omega arith; none = λ j h g. absurd (omega arith) })
    go ih false b = rw b (record { above = omega (arith, ih.above); none = λ j h g. last j h g (leb j at) refl })
      where
        last : (j : ℕ) → at ≤ j → j < first_between k f from fence (suc at) → (q : Bool) → leb j at ≡ q → nearer (f j) from fence ≡ false
        last j h g true q = let e : j ≡ at = omega (arith, leb-true j at q) in rw e b
        last j h g false q = ih.none j (leb-false j at q) g

pub first-yes : (k : ℕ) (f : ℕ → Span) (from fence at : ℕ) → first_between k f from fence at < at + k
    → nearer (f (first_between k f from fence at)) from fence ≡ true
first-yes zero f from fence at h = absurd (omega arith)
first-yes (suc k) f from fence at h = go (first-yes k f from fence (suc at)) (nearer (f at) from fence) refl
  where
    go : (first_between k f from fence (suc at) < suc at + k → nearer (f (first_between k f from fence (suc at))) from fence ≡ true) → (b : Bool)
        → nearer (f at) from fence ≡ b → nearer (f (first_between (suc k) f from fence at)) from fence ≡ true
    go ih true b = rw b b
    go ih false b = rw b (ih (let z : first_between k f from fence (suc at) < at + suc k = rw b at h in omega arith))

module _ (n : ℕ) {c : ℕ} {f : ℕ → Span} {from at fence : ℕ} (w : Fenced c f from at fence) (inside : (k : ℕ) → k < c → end (f k) ≤ n) where
  module _ {i : ℕ} (x : First f from fence at i) (h : i < c) (y : nearer (f i) from fence ≡ true) where
    t : (0 < (f i).len) × (from ≤ (f i).start) × ((f i).start < fence)
    t = near-true (f i) from fence y

    -- it is the next in order of place
    pub next-fenced : i ≡ next_live n c f from
    next-fenced = go (next-case n c f from inside)
      where
        same : (j : ℕ) → Least c f from j → i ≡ j
        same j l = side (ltb j at) refl
          where
            b : (f j).start ≤ (f i).start
            b = l.least i h t.0 t.1

            z : nearer (f j) from fence ≡ true
            z = near-is (f j) from fence l.bytes l.behind (omega (arith, b, t.2))

            order : at ≤ j → (p : Bool) → ltb j i ≡ p → (q : Bool) → ltb i j ≡ q → i ≡ j
            order a true p q m = no_both z (x.none j a (ltb-true j i p))
            order a false p true q = absurd (omega (arith, w.rising i j x.above (ltb-true i j q) l.index y z, b, t.0))
            order a false p false q = omega (arith, ltb-false j i p, ltb-false i j q)

            side : (p : Bool) → ltb j at ≡ p → i ≡ j
            side true p = absurd (omega (arith, w.low j (ltb-true j at p) l.index l.bytes l.behind, b, t.2))
            side false p = order (ltb-false j at p) (ltb j i) refl (ltb i j) refl

        go : ((next_live n c f from ≡ c) × Nothing c f from) ⊎ Least c f from (next_live n c f from) → i ≡ next_live n c f from
        go (inl u) = absurd (omega (arith, u.1 i h t.0, t.1))
        go (inr l) = same (next_live n c f from) l

    -- and the fence holds from there on
    pub fence-on : Fenced c f from i fence
    fence-on =
        record {
          low = λ k a g b l. under k a g b l (ltb k at) refl;
          rising = λ j k a g l p q. w.rising j k (omega (arith, x.above)) g l p q;
        }
      where
        under : (k : ℕ) → k < i → k < c → 0 < (f k).len → from ≤ (f k).start → (p : Bool) → ltb k at ≡ p → fence ≤ (f k).start
        under k a g b l true p = w.low k (ltb-true k at p) g b l
        under k a g b l false p = near-false (f k) from fence (x.none k (ltb-false k at p) a) b l

-- ---- A TURN: the next is moved down and amended; it starts before the place behind its bytes

module _ {c : ℕ} {f : ℕ → Span} {from j fence : ℕ} (w : Fenced c f from j fence) (l : Least c f from j) (f' : ℕ → Span) {to : ℕ}
    (new : f' j ≡ record { start = to; len = (f j).len }) (down : to ≤ from) (old : (i : ℕ) → i < c → (i ≡ j → ⊥) → f' i ≡ f i) where
  -- who is between the place behind it and the fence was between before, and is another
  was : (k : ℕ) → k < c → nearer (f' k) (end (f j)) fence ≡ true → (f' k ≡ f k) × (nearer (f k) from fence ≡ true)
  was k h y = go (same_or_not k j)
    where
      t : (0 < (f' k).len) × (end (f j) ≤ (f' k).start) × ((f' k).start < fence)
      t = near-true (f' k) (end (f j)) fence y

      go : (k ≡ j) ⊎ (k ≡ j → ⊥) → (f' k ≡ f k) × (nearer (f k) from fence ≡ true)
      go (inl e) =
          let s : (f' k).start ≡ to = ap (λ (x : ℕ). (f' x).start) e ∙ ap (λ (a : Span). a.start) new in
          absurd (omega (arith, t.1, s, l.behind, l.bytes))
      go (inr o) =
          let e = old k h o in
          let s : (f' k).start ≡ (f k).start = ap (λ (a : Span). a.start) e in
          let n : (f' k).len ≡ (f k).len = ap (λ (a : Span). a.len) e in
          (e, near-is (f k) from fence (omega (arith, t.0)) (omega (arith, t.1, l.behind)) (omega (arith, t.2)))

  pub fence-more : Fenced c f' (end (f j)) j fence
  fence-more =
      record {
        low = λ k h g b a.
            let e = old k g (λ z. omega arith) in
            let s : (f' k).start ≡ (f k).start = ap (λ (x : Span). x.start) e in
            let n : (f' k).len ≡ (f k).len = ap (λ (x : Span). x.len) e in
            omega (arith, w.low k h g (omega arith) (omega (arith, l.behind)));
        rising = λ i k h g a p q.
            let x = was i (omega arith) p in
            let y = was k a q in
            let u = w.rising i k h g a x.1 y.1 in
            omega (arith, ap end x.0, ap (λ (m : Span). m.start) y.0, u);
      }

-- ---- THE FENCE, record by record

-- one that is between follows in the order of the index: it is no earlier than `at`, and starts where the last of them ended, or behind
unfoldable pub follows : ℕ → ℕ → ℕ → Span → Bool
follows at i last a = choose (leb at i) (leb last a.start) false

pub follows-starts : (at i last : ℕ) (a : Span) → at ≤ i → leb last a.start ≡ follows at i last a
unfolding follows
follows-starts at i last a h = rw (le-leb at i h)

pub follows-early : (at i last : ℕ) (a : Span) → i < at → false ≡ follows at i last a
unfolding follows
follows-early at i last a h = rw (lt-leb at i h)

pub follows_is : (at i last : ℕ) (a : Span) → follows at i last a ≡ true → (at ≤ i) × (last ≤ a.start)
unfolding follows
follows_is at i last a e = go (leb at i) refl
  where
    go : (b : Bool) → leb at i ≡ b → (at ≤ i) × (last ≤ a.start)
    go true b = (leb-true at i b, leb-true last a.start (rw b at e))
    go false b = let z : false ≡ true = rw b at e in absurd (let y : ◌≡◌ {A = ℕ} 0 1 = cc in omega arith)

pub record Fencing (c : ℕ) (f : ℕ → Span) (from at fence last i : ℕ) : Type 0 where
  pub few : i ≤ c
  pub low : (k : ℕ) → k < i → k < at → 0 < (f k).len → from ≤ (f k).start → fence ≤ (f k).start
  pub under : (k : ℕ) → at ≤ k → k < i → nearer (f k) from fence ≡ true → end (f k) ≤ last
  pub rising : (j k : ℕ) → at ≤ j → j < k → k < i → nearer (f j) from fence ≡ true → nearer (f k) from fence ≡ true → end (f j) ≤ (f k).start

pub fence-start : (c : ℕ) (f : ℕ → Span) (from at n : ℕ) → Fencing c f from at n 0 0
fence-start c f from at n =
    record {
      few = omega arith;
      low = λ k h g b l. absurd (omega arith);
      under = λ k h g b. absurd (omega arith);
      rising = λ j k h g l a b. absurd (omega arith);
    }

module _ {c : ℕ} {f : ℕ → Span} {from at fence last i : ℕ} (w : Fencing c f from at fence last i) where
  pub fence-done : c ≤ i → Fenced c f from at fence
  fence-done h =
      record {
        low = λ k a g b l. w.low k (omega arith) a b l;
        rising = λ j k a g l p q. w.rising j k a g (omega arith) p q;
      }

  -- the last index or an earlier one
  one_of : (k : ℕ) → k < i + 1 → (k ≡ i) ⊎ (k < i)
  one_of k h = go (leb i k) refl
    where
      go : (b : Bool) → leb i k ≡ b → (k ≡ i) ⊎ (k < i)
      go true b = inl (omega (arith, leb-true i k b))
      go false b = inr (leb-false i k b)

  module _ (h : i < c) {a : Span} (e : a ≡ f i) where
    -- it is not between: nothing moves
    pub fence-other : nearer a from fence ≡ false → Fencing c f from at fence last (i + 1)
    fence-other z =
        record {
          few = omega arith;
          low = λ k g l b d. low k l b d (one_of k g);
          under = λ k g l y. under k g y (one_of k l);
          rising = λ j k g l m y u. rising j k g l y u (one_of k m);
        }
      where
        no : nearer (f i) from fence ≡ false
        no = ap (λ (x : Span). nearer x from fence) (sym e) ∙ z

        at_i : (k : ℕ) → k ≡ i → nearer (f k) from fence ≡ false
        at_i k q = ap (λ (x : ℕ). nearer (f x) from fence) q ∙ no

        low : (k : ℕ) → k < at → 0 < (f k).len → from ≤ (f k).start → (k ≡ i) ⊎ (k < i) → fence ≤ (f k).start
        low k l b d (inl q) = near-false (f k) from fence (at_i k q) b d
        low k l b d (inr q) = w.low k q l b d

        under : (k : ℕ) → at ≤ k → nearer (f k) from fence ≡ true → (k ≡ i) ⊎ (k < i) → end (f k) ≤ last
        under k g y (inl q) = no_both y (at_i k q)
        under k g y (inr q) = w.under k g q y

        rising : (j k : ℕ) → at ≤ j → j < k → nearer (f j) from fence ≡ true → nearer (f k) from fence ≡ true → (k ≡ i) ⊎ (k < i) → end (f j) ≤ (f k).start
        rising j k g l y u (inl q) = no_both u (at_i k q)
        rising j k g l y u (inr q) = w.rising j k g l q y u

    -- it follows: its end is the last
    pub fence-follows : follows at i last a ≡ true → Fencing c f from at fence (a.start + a.len) (i + 1)
    fence-follows z =
        record {
          few = omega arith;
          low = λ k g l b d. low k l b d (one_of k g);
          under = λ k g l y. under k g y (one_of k l);
          rising = λ j k g l m y u. rising j k g l y u (one_of k m);
        }
      where
        t : (at ≤ i) × (last ≤ a.start)
        t = follows_is at i last a z

        starts : a.start ≡ (f i).start
        starts = ap (λ (x : Span). x.start) e

        sized : a.len ≡ (f i).len
        sized = ap (λ (x : Span). x.len) e

        low : (k : ℕ) → k < at → 0 < (f k).len → from ≤ (f k).start → (k ≡ i) ⊎ (k < i) → fence ≤ (f k).start
        low k l b d (inl q) = absurd (omega (arith, t.0))
        low k l b d (inr q) = w.low k q l b d

        under : (k : ℕ) → at ≤ k → nearer (f k) from fence ≡ true → (k ≡ i) ⊎ (k < i) → end (f k) ≤ a.start + a.len
        under k g y (inl q) = omega (arith, ap (λ (x : ℕ). end (f x)) q, starts, sized)
        under k g y (inr q) = omega (arith, w.under k g q y, t.1)

        rising : (j k : ℕ) → at ≤ j → j < k → nearer (f j) from fence ≡ true → nearer (f k) from fence ≡ true → (k ≡ i) ⊎ (k < i) → end (f j) ≤ (f k).start
        rising j k g l y u (inl q) = omega (arith, w.under j g (omega arith) y, t.1, starts, ap (λ (x : ℕ). (f x).start) q)
        rising j k g l y u (inr q) = w.rising j k g l q y u

    -- it does not: the fence is where it starts
    pub fence-stops : nearer a from fence ≡ true → Fencing c f from at a.start last (i + 1)
    fence-stops z =
        record {
          few = omega arith;
          low = λ k g l b d. low k l b d (one_of k g);
          under = λ k g l y. under k g y (one_of k l);
          rising = λ j k g l m y u. rising j k g l y u (one_of k m);
        }
      where
        t : (0 < a.len) × (from ≤ a.start) × (a.start < fence)
        t = near-true a from fence z

        starts : a.start ≡ (f i).start
        starts = ap (λ (x : Span). x.start) e

        wider : (k : ℕ) → nearer (f k) from a.start ≡ true → nearer (f k) from fence ≡ true
        wider k y = let u = near-true (f k) from a.start y in near-is (f k) from fence u.0 u.1 (omega (arith, u.2, t.2))

        not-i : {A : Type 0} (k : ℕ) → k ≡ i → nearer (f k) from a.start ≡ true → A
        not-i k q y = let u = near-true (f k) from a.start y in absurd (omega (arith, u.2, starts, ap (λ (x : ℕ). (f x).start) q))

        low : (k : ℕ) → k < at → 0 < (f k).len → from ≤ (f k).start → (k ≡ i) ⊎ (k < i) → a.start ≤ (f k).start
        low k l b d (inl q) = omega (arith, starts, ap (λ (x : ℕ). (f x).start) q)
        low k l b d (inr q) = omega (arith, w.low k q l b d, t.2)

        under : (k : ℕ) → at ≤ k → nearer (f k) from a.start ≡ true → (k ≡ i) ⊎ (k < i) → end (f k) ≤ last
        under k g y (inl q) = not-i k q y
        under k g y (inr q) = w.under k g q (wider k y)

        rising : (j k : ℕ) → at ≤ j → j < k → nearer (f j) from a.start ≡ true → nearer (f k) from a.start ≡ true → (k ≡ i) ⊎ (k < i)
            → end (f j) ≤ (f k).start
        rising j k g l y u (inl q) = not-i k q u
        rising j k g l y u (inr q) = w.rising j k g l q (wider j y) (wider k u)
