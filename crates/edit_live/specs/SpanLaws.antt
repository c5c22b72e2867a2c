-- Laws of live payloads: a record's span, spans that are apart, sums and ends, the next in order of place.
use Prim.Native.Nat.{ℕ, zero, suc, ◌+◌, ◌-◌, ◌≤◌, ◌<◌}
use Rattle.std.specs.Prelude.{◌≡◌, Bool, List, None, Some, ◌⊎◌, eqb}
use Rattle.std.proofs.Math.Path.{refl}
use Rattle.std.proofs.Common.{ap, ◌∙◌, sym, inl, inr}
use Rattle.std.proofs.Math.Bool.{true, false}
use native.Mathlib.Omega.{arith}
use borrow.Author.Tests.{ltb-true, ltb-false, leb-true, leb-false, eqb-true, eqb-false, lt-ltb, le-ltb, le-leb, lt-leb, eq-eqb, ne_eqb}
use Rattle.std.proofs.Math.Dec.{ltb, leb}
use Rattle.wire.specs.Choose.{choose}
use Rattle.wire.specs.Limits.{no_key}
use Rattle.wire.specs.Table.{room}
use Rattle.write_record.specs.Taken.{record_in, record-none}
use Rattle.wire.specs.declared.Record.{Record}
use Rattle.edit_live.specs.declared.Span.{Span}
use Rattle.edit_live.specs.Spans.{end, no_span, span_of, span_in, meets, meets_any, first_where, found, first_overlap, keyed_at, first_keyed, last_end, nearer}
use Rattle.edit_live.specs.Spans.{Nearest, seek, next_live}

-- ---- WHAT IS ANSWERED OF AN INDEX

pub found-there : (c : ℕ) {i j : ℕ} → i < c → i ≡ j → Some i ≡ found c j
found-there c {i} {j} h e = rw (← e, lt-ltb i c h)

pub found-nowhere : (c : ℕ) {j : ℕ} → c ≤ j → None ≡ found c j
found-nowhere c {j} h = rw (le-ltb j c h)

pub found-is : (c j : ℕ) {i : ℕ} → Some i ≡ found c j → (i ≡ j) × (i < c)
found-is c j {i} = go (ltb j c) refl
  where
    go : (b : Bool) → ltb j c ≡ b → Some i ≡ choose b (Some j) None → (i ≡ j) × (i < c)
    go true b e = let z : i ≡ j = cc in (z, omega (arith, z, ltb-true j c b))
    go false b e = let z : ◌≡◌ {A = ℕ} 0 1 = cc in absurd (omega arith)

pub found-none : (c j : ℕ) → None ≡ found c j → c ≤ j
found-none c j = go (ltb j c) refl
  where
    go : (b : Bool) → ltb j c ≡ b → None ≡ choose b (Some j) None → c ≤ j
    go true b e = let z : ◌≡◌ {A = ℕ} 0 1 = cc in absurd (omega arith)
    go false b e = ltb-false j c b

-- two indices are one, or not
pub same_or_not : (i j : ℕ) → (i ≡ j) ⊎ (i ≡ j → ⊥)
same_or_not i j = go (eqb i j) refl
  where
    go : (b : Bool) → eqb i j ≡ b → (i ≡ j) ⊎ (i ≡ j → ⊥)
    go true b = inl (eqb-true i j b)
    go false b = inr (eqb-false i j b)

-- ---- A RECORD'S SPAN

module _ (n : ℕ) (r : Record) where
  pub span-other : (r.kind ≡ 1 → ⊥) → span_of n r ≡ no_span
  unfolding span_of
  span-other h = rw (ne_eqb r.kind 1 h)

  pub span-empty : r.kind ≡ 1 → r.length ≡ 0 → span_of n r ≡ no_span
  unfolding span_of
  span-empty k e = rw (eq-eqb r.kind 1 k, eq-eqb r.length 0 e)

  pub span-outside : r.kind ≡ 1 → (r.length ≡ 0 → ⊥) → n < r.value + r.length → span_of n r ≡ no_span
  unfolding span_of
  span-outside k e h = rw (eq-eqb r.kind 1 k, ne_eqb r.length 0 e, lt-leb (r.value + r.length) n h)

  pub span-live : r.kind ≡ 1 → (r.length ≡ 0 → ⊥) → r.value + r.length ≤ n → span_of n r ≡ record { start = r.value; len = r.length }
  unfolding span_of
  span-live k e h = rw (eq-eqb r.kind 1 k, ne_eqb r.length 0 e, le-leb (r.value + r.length) n h)

  -- a span that has bytes is that of a payload that lies inside
  pub record Live : Type 0 where
    pub payload : r.kind ≡ 1
    pub bytes : 0 < r.length
    pub inside : r.value + r.length ≤ n
    pub span : span_of n r ≡ record { start = r.value; len = r.length }

  pub span-case : (span_of n r ≡ no_span) ⊎ Live
  span-case = go (eqb r.kind 1) refl (eqb r.length 0) refl (leb (r.value + r.length) n) refl
    where
      go : (a : Bool) → eqb r.kind 1 ≡ a → (b : Bool) → eqb r.length 0 ≡ b → (d : Bool) → leb (r.value + r.length) n ≡ d
          → (span_of n r ≡ no_span) ⊎ Live
      go false a b p d q = inl (span-other (eqb-false r.kind 1 a))
      go true a true b d q = inl (span-empty (eqb-true r.kind 1 a) (eqb-true r.length 0 b))
      go true a false b false d =
          inl (span-outside (eqb-true r.kind 1 a) (eqb-false r.length 0 b) (leb-false (r.value + r.length) n d))
      go true a false b true d =
          let k = eqb-true r.kind 1 a in
          let e = eqb-false r.length 0 b in
          let i = leb-true (r.value + r.length) n d in
          inr (record { payload = k; bytes = omega arith; inside = i; span = span-live k e i })

  pub is_live : 0 < (span_of n r).len → Live
  is_live h = go span-case
    where
      go : (span_of n r ≡ no_span) ⊎ Live → Live
      go (inl e) = let z : (span_of n r).len ≡ 0 = ap (λ (a : Span). a.len) e in absurd (omega arith)
      go (inr w) = w

  pub span-of-inside : end (span_of n r) ≤ n
  span-of-inside = go span-case
    where
      go : (span_of n r ≡ no_span) ⊎ Live → end (span_of n r) ≤ n
      go (inl e) = rw e (omega arith)
      go (inr w) = rw w.span w.inside

-- the record left out has none
pub span-skip : (n : ℕ) (t : List ℕ) (k i : ℕ) → i ≡ k → span_in n t k i ≡ no_span
unfolding span_in
span-skip n t k i e = rw (eq-eqb i k e)

pub span-there : (n : ℕ) (t : List ℕ) (k i : ℕ) → (i ≡ k → ⊥) → span_in n t k i ≡ span_of n (record_in t i)
unfolding span_in
span-there n t k i e = rw (ne_eqb i k e)

-- no span leaves the room
pub span-inside : (n : ℕ) (t : List ℕ) (k i : ℕ) → end (span_in n t k i) ≤ n
span-inside n t k i = go (eqb i k) refl
  where
    go : (b : Bool) → eqb i k ≡ b → end (span_in n t k i) ≤ n
    go true b = rw (span-skip n t k i (eqb-true i k b)) (omega arith)
    go false b = rw (span-there n t k i (eqb-false i k b)) (span-of-inside n (record_in t i))

-- a span with no bytes stands at 0
pub span_none : (n : ℕ) (t : List ℕ) (k i : ℕ) → (span_in n t k i).len ≡ 0 → span_in n t k i ≡ no_span
span_none n t k i h = go (eqb i k) refl
  where
    go : (b : Bool) → eqb i k ≡ b → span_in n t k i ≡ no_span
    go true b = span-skip n t k i (eqb-true i k b)
    go false b = case (span-case n (record_in t i))
      where
        e : span_in n t k i ≡ span_of n (record_in t i)
        e = span-there n t k i (eqb-false i k b)

        case : (span_of n (record_in t i) ≡ no_span) ⊎ Live n (record_in t i) → span_in n t k i ≡ no_span
        case (inl d) = e ∙ d
        case (inr w) =
            let z : (span_in n t k i).len ≡ (record_in t i).length = ap (λ (a : Span). a.len) (e ∙ w.span) in
            absurd (omega (arith, w.bytes))

-- the cases of record i, another than the one left out
module _ (n : ℕ) (t : List ℕ) (k i : ℕ) {r : Record} (e : r ≡ record_in t i) (o : i ≡ k → ⊥) where
  spans : span_in n t k i ≡ span_of n r
  spans = span-there n t k i o ∙ ap (span_of n) (sym e)

  pub in-other : (r.kind ≡ 1 → ⊥) → no_span ≡ span_in n t k i
  in-other h = sym (spans ∙ span-other n r h)

  pub in-empty : r.kind ≡ 1 → r.length ≡ 0 → no_span ≡ span_in n t k i
  in-empty h l = sym (spans ∙ span-empty n r h l)

  pub in-outside : r.kind ≡ 1 → (r.length ≡ 0 → ⊥) → n < r.value + r.length → no_span ≡ span_in n t k i
  in-outside h l g = sym (spans ∙ span-outside n r h l g)

  pub in-live : r.kind ≡ 1 → (r.length ≡ 0 → ⊥) → r.value + r.length ≤ n → record { start = r.value; len = r.length } ≡ span_in n t k i
  in-live h l g = sym (spans ∙ span-live n r h l g)

-- what a span with bytes says of its record: it is another than the one left out, stands in the table, and is a payload inside the room
pub record Held (n : ℕ) (t : List ℕ) (k i : ℕ) : Type 0 where
  pub other : i ≡ k → ⊥
  pub index : i < room t
  pub live : Live n (record_in t i)
  pub span : span_in n t k i ≡ record { start = (record_in t i).value; len = (record_in t i).length }

pub is_held : (n : ℕ) (t : List ℕ) (k i : ℕ) → 0 < (span_in n t k i).len → Held n t k i
is_held n t k i h = go (eqb i k) refl
  where
    there : (i ≡ k → ⊥) → Held n t k i
    there o = row (leb (room t) i) refl
      where
        w : Live n (record_in t i)
        w = is_live n (record_in t i) (let e = ap (λ (a : Span). a.len) (span-there n t k i o) in omega arith)

        row : (b : Bool) → leb (room t) i ≡ b → Held n t k i
        row true b =
            let e = ap (λ (r : Record). r.kind) (record-none t i (leb-true (room t) i b)) in
            absurd (omega (arith, w.payload))
        row false b = record { other = o; index = leb-false (room t) i b; live = w; span = span-there n t k i o ∙ w.span }

    go : (b : Bool) → eqb i k ≡ b → Held n t k i
    go true b =
        let e = ap (λ (a : Span). a.len) (span-skip n t k i (eqb-true i k b)) in
        absurd (omega arith)
    go false b = there (eqb-false i k b)

-- ---- APART

-- one ends where the other starts, or before
abbrev pub Apart : Span → Span → Type 0
Apart a b = (end a ≤ b.start) ⊎ (end b ≤ a.start)

-- the order of two indices does not matter
pub apart-any-two : (c : ℕ) (f : ℕ → Span) → ((i j : ℕ) → i < j → j < c → Apart (f i) (f j)) → (i j : ℕ) → i < c → j < c → (i ≡ j → ⊥) → Apart (f i) (f j)
apart-any-two c f a i j h g o = go (ltb i j) refl
  where
    turn : Apart (f j) (f i) → Apart (f i) (f j)
    turn (inl x) = inr x
    turn (inr x) = inl x

    go : (b : Bool) → ltb i j ≡ b → Apart (f i) (f j)
    go true b = a i j (ltb-true i j b) g
    go false b = turn (a j i (above (ltb-false i j b)) h)
      where
        above : j ≤ i → j < i
        above x = go2 (ltb j i) refl
          where
            go2 : (b : Bool) → ltb j i ≡ b → j < i
            go2 true b = ltb-true j i b
            go2 false b = absurd (o (omega (arith, ltb-false j i b)))

pub meets-apart : (a b : Span) → meets a b ≡ false → Apart a b
meets-apart a b e = go (ltb a.start (end b)) refl
  where
    go : (p : Bool) → ltb a.start (end b) ≡ p → Apart a b
    go true p = inl (ltb-false b.start (end a) (rw p at e))
    go false p = inr (ltb-false a.start (end b) p)

pub apart-meets : (a b : Span) → Apart a b → meets a b ≡ false
apart-meets a b (inl h) = rw (le-ltb b.start (end a) h) (both (ltb a.start (end b)))
  where
    both : (p : Bool) → choose p false false ≡ false
    both true = refl
    both false = refl
apart-meets a b (inr h) = rw (le-ltb a.start (end b) h)

pub meets-both : (a b : Span) → a.start < end b → b.start < end a → meets a b ≡ true
meets-both a b g h = rw (lt-ltb a.start (end b) g, lt-ltb b.start (end a) h)

-- of several
pub any-apart : (i : ℕ) (f : ℕ → Span) (a : Span) → meets_any i f a ≡ false → (k : ℕ) → k < i → Apart (f k) a
any-apart zero f a e k h = absurd (omega arith)
any-apart (suc i) f a e k h = go (λ z. any-apart i f a z k) (meets_any i f a) refl (leb i k) refl
  where
    go : (meets_any i f a ≡ false → k < i → Apart (f k) a) → (p : Bool) → meets_any i f a ≡ p → (q : Bool) → leb i k ≡ q → Apart (f k) a
    go ih true p q x = let z : true ≡ false = rw p at e in absurd (let y : ◌≡◌ {A = ℕ} 0 1 = cc in omega arith)
    go ih false p true q =
        let d : k ≡ i = omega (arith, leb-true i k q) in
        rw d (meets-apart (f i) a (rw p at e))
    go ih false p false q = ih p (leb-false i k q)

pub apart-any : (i : ℕ) (f : ℕ → Span) (a : Span) → ((k : ℕ) → k < i → Apart (f k) a) → meets_any i f a ≡ false
apart-any zero f a h = refl
apart-any (suc i) f a h = rw (apart-any i f a (λ k g. h k (omega arith))) (apart-meets (f i) a (h i (omega arith)))

pub meets_any_lem : (i : ℕ) (f : ℕ → Span) (a : Span) (k : ℕ) → k < i → meets (f k) a ≡ true → meets_any i f a ≡ true
meets_any_lem zero f a k h e = absurd (omega arith)
meets_any_lem (suc i) f a k h e = last (λ z. meets_any_lem i f a k z e) (leb i k) refl
  where
    both : (p : Bool) → choose p true true ≡ true
    both true = refl
    both false = refl

    last : (k < i → meets_any i f a ≡ true) → (q : Bool) → leb i k ≡ q → meets_any (suc i) f a ≡ true
    last ih true q =
        let d : i ≡ k = omega (arith, leb-true i k q) in
        rw (d, e) (both (meets_any k f a))
    last ih false q = rw (ih (leb-false i k q))

-- ---- THE FIRST INDEX AT WHICH A TEST SAYS YES

module _ (p : ℕ → Bool) where
  pub first_some : (j : ℕ) → first_where j p < j → first_where (suc j) p ≡ first_where j p
  unfolding first_where
  first_some j h = rw (lt-ltb (first_where j p) j h)

  pub first-here : (j : ℕ) → first_where j p ≡ j → p j ≡ true → first_where (suc j) p ≡ j
  unfolding first_where
  first-here j e h = rw (le-ltb (first_where j p) j (omega arith), h)

  pub first_on : (j : ℕ) → first_where j p ≡ j → p j ≡ false → first_where (suc j) p ≡ suc j
  unfolding first_where
  first_on j e h = rw (le-ltb (first_where j p) j (omega arith), h)

  pub first-most : (j : ℕ) → first_where j p ≤ j
  unfolding first_where
  first-most zero = omega arith
  first-most (suc j) = go (ltb (first_where j p) j) refl (p j) refl
    where
      go : (a : Bool) → ltb (first_where j p) j ≡ a → (b : Bool) → p j ≡ b → first_where (suc j) p ≤ suc j
      go true a b q = rw a (omega (arith, ltb-true (first_where j p) j a))
      go false a true b = rw (a, b) (omega arith)
      go false a false b = rw (a, b) (omega arith)

  -- once found, it stays
  pub first-stays : (d j : ℕ) → first_where j p < j → first_where (d + j) p ≡ first_where j p
  first-stays zero j h = let e : 0 + j ≡ j = omega arith in rw e
  first-stays (suc d) j h =
      let e : suc d + j ≡ suc (d + j) = omega arith in
      let ih = first-stays d j h in
      rw e (first_some (d + j) (omega (arith, ih)) ∙ ih)

  -- at an index below the count, no earlier one having it
  pub first_found : (c j : ℕ) → j < c → first_where j p ≡ j → p j ≡ true → first_where c p ≡ j
  first_found c j h e y =
      let n : (c - suc j) + suc j ≡ c = omega arith in
      let a = first-here j e y in
      ap (λ (x : ℕ). first_where x p) (sym n) ∙ first-stays (c - suc j) (suc j) (omega (arith, a)) ∙ a

  pub first-none : (c : ℕ) → first_where c p ≡ c → (j : ℕ) → j < c → p j ≡ false
  unfolding first_where
  first-none zero e j h = absurd (omega arith)
  first-none (suc c) e j h = go (λ z. first-none c z j) (ltb (first_where c p) c) refl (p c) refl (leb c j) refl
    where
      go : (first_where c p ≡ c → j < c → p j ≡ false) → (a : Bool) → ltb (first_where c p) c ≡ a → (b : Bool) → p c ≡ b → (q : Bool) → leb c j ≡ q
          → p j ≡ false
      go ih true a b q x y = let z : first_where c p ≡ suc c = rw a at e in absurd (omega (arith, ltb-true (first_where c p) c a))
      go ih false a true b x y = let z : c ≡ suc c = rw (a, b) at e in absurd (omega arith)
      go ih false a false b true q = let d : j ≡ c = omega (arith, leb-true c j q) in rw d b
      go ih false a false b false q = ih (omega (arith, ltb-false (first_where c p) c a, first-most c)) (leb-false c j q)

  pub none_first : (c : ℕ) → ((j : ℕ) → j < c → p j ≡ false) → first_where c p ≡ c
  unfolding first_where
  none_first zero h = refl
  none_first (suc c) h = first_on c (none_first c (λ j g. h j (omega arith))) (h c (omega arith))

-- all are apart, exactly if no overlap is found
pub over-apart : (c : ℕ) (f : ℕ → Span) → first_overlap c f ≡ c → (i j : ℕ) → i < j → j < c → Apart (f i) (f j)
over-apart c f e i j h g = any-apart j f (f j) (first-none (λ j. meets_any j f (f j)) c e j g) i h

pub apart-over : (c : ℕ) (f : ℕ → Span) → ((i j : ℕ) → i < j → j < c → Apart (f i) (f j)) → first_overlap c f ≡ c
apart-over c f h = none_first (λ j. meets_any j f (f j)) c (λ j g. apart-any j f (f j) (λ k l. h k j l g))

-- all key words are all ones, exactly if none is found that is not
module _ (t : List ℕ) (i : ℕ) where
  pub keyed-not : (record_in t i).key ≡ no_key → keyed_at t i ≡ false
  unfolding keyed_at
  keyed-not e = rw (eq-eqb (record_in t i).key no_key e)

  pub keyed-is : ((record_in t i).key ≡ no_key → ⊥) → keyed_at t i ≡ true
  unfolding keyed_at
  keyed-is e = rw (ne_eqb (record_in t i).key no_key e)

  pub not-keyed : keyed_at t i ≡ false → (record_in t i).key ≡ no_key
  not-keyed h = go (eqb (record_in t i).key no_key) refl
    where
      go : (b : Bool) → eqb (record_in t i).key no_key ≡ b → (record_in t i).key ≡ no_key
      go true b = eqb-true (record_in t i).key no_key b
      go false b = let e = keyed-is (eqb-false (record_in t i).key no_key b) in absurd (let y : ◌≡◌ {A = ℕ} 0 1 = cc in omega arith)

pub keyed-none : (c : ℕ) (t : List ℕ) → first_keyed c t ≡ c → (i : ℕ) → i < c → (record_in t i).key ≡ no_key
keyed-none c t e i h = not-keyed t i (first-none (keyed_at t) c e i h)

pub none-keyed : (c : ℕ) (t : List ℕ) → ((i : ℕ) → i < c → (record_in t i).key ≡ no_key) → first_keyed c t ≡ c
none-keyed c t h = none_first (keyed_at t) c (λ i g. keyed-not t i (h i g))

-- ---- ENDS AND SUMS

pub end-most : (i : ℕ) (f : ℕ → Span) (k : ℕ) → k < i → end (f k) ≤ last_end i f
end-most zero f k h = absurd (omega arith)
end-most (suc i) f k h = go (end-most i f k) (leb i k) refl
  where
    go : (k < i → end (f k) ≤ last_end i f) → (b : Bool) → leb i k ≡ b → end (f k) ≤ last_end (suc i) f
    go ih true b = let d : k ≡ i = omega (arith, leb-true i k b) in rw d (omega arith)
    go ih false b = omega (arith, ih (leb-false i k b))

-- ---- THE NEXT IN ORDER OF PLACE

-- j is the index of a span with bytes, of the first i, with the least start from a place on
pub record Least (i : ℕ) (f : ℕ → Span) (from j : ℕ) : Type 0 where
  pub index : j < i
  pub bytes : 0 < (f j).len
  pub behind : from ≤ (f j).start
  pub least : (k : ℕ) → k < i → 0 < (f k).len → from ≤ (f k).start → (f j).start ≤ (f k).start

-- there is none
abbrev pub Nothing : ℕ → (ℕ → Span) → ℕ → Type 0
Nothing i f from = (k : ℕ) → k < i → 0 < (f k).len → (f k).start < from

pub record Found (i : ℕ) (f : ℕ → Span) (from : ℕ) (s : Nearest) : Type 0 where
  pub where-it-is : Least i f from s.index
  pub starts : s.start ≡ (f s.index).start

pub record Missed (i : ℕ) (f : ℕ → Span) (from : ℕ) (s : Nearest) (none n : ℕ) : Type 0 where
  pub nothing : Nothing i f from
  pub same : s ≡ record { index = none; start = n }

pub near-true : (a : Span) (from low : ℕ) → nearer a from low ≡ true → (0 < a.len) × (from ≤ a.start) × (a.start < low)
near-true a from low e = go (ltb 0 a.len) refl (leb from a.start) refl
  where
    go : (p : Bool) → ltb 0 a.len ≡ p → (q : Bool) → leb from a.start ≡ q → (0 < a.len) × (from ≤ a.start) × (a.start < low)
    go true p true q = (ltb-true 0 a.len p, leb-true from a.start q, ltb-true a.start low (rw (p, q) at e))
    go true p false q = let z : false ≡ true = rw (p, q) at e in absurd (let y : ◌≡◌ {A = ℕ} 0 1 = cc in omega arith)
    go false p q m = let z : false ≡ true = rw p at e in absurd (let y : ◌≡◌ {A = ℕ} 0 1 = cc in omega arith)

pub near-is : (a : Span) (from low : ℕ) → 0 < a.len → from ≤ a.start → a.start < low → nearer a from low ≡ true
near-is a from low b h g = rw (lt-ltb 0 a.len b, le-leb from a.start h, lt-ltb a.start low g)

pub near-starts : (a : Span) (from low : ℕ) → 0 < a.len → from ≤ a.start → ltb a.start low ≡ nearer a from low
near-starts a from low b h = rw (lt-ltb 0 a.len b, le-leb from a.start h)

pub near_before : (a : Span) (from low : ℕ) → 0 < a.len → a.start < from → false ≡ nearer a from low
near_before a from low b h = rw (lt-ltb 0 a.len b, lt-leb from a.start h)

pub near_none : (a : Span) (from low : ℕ) → a.len ≤ 0 → false ≡ nearer a from low
near_none a from low h = rw (le-ltb 0 a.len h)

pub near-false : (a : Span) (from low : ℕ) → nearer a from low ≡ false → 0 < a.len → from ≤ a.start → low ≤ a.start
near-false a from low e b h = ltb-false a.start low (rw (lt-ltb 0 a.len b, le-leb from a.start h) at e)

module _ (n none : ℕ) (f : ℕ → Span) (from : ℕ) where
  pub seek-case : (i : ℕ) → ((k : ℕ) → k < i → end (f k) ≤ n)
      → Missed i f from (seek n none i f from) none n ⊎ Found i f from (seek n none i f from)
  seek-case zero h = inl (record { nothing = λ k g b. absurd (omega arith); same = refl })
  seek-case (suc i) h = go (nearer (f i) from (seek n none i f from).start) refl (seek-case i (λ k g. h k (omega arith)))
    where
      go : (p : Bool) → nearer (f i) from (seek n none i f from).start ≡ p
          → Missed i f from (seek n none i f from) none n ⊎ Found i f from (seek n none i f from)
          → Missed (suc i) f from (seek n none (suc i) f from) none n ⊎ Found (suc i) f from (seek n none (suc i) f from)
      go true p old = inr (rw p (record { where-it-is = here; starts = refl }))
        where
          t : (0 < (f i).len) × (from ≤ (f i).start) × ((f i).start < (seek n none i f from).start)
          t = near-true (f i) from (seek n none i f from).start p

          least : (k : ℕ) → k < suc i → 0 < (f k).len → from ≤ (f k).start → (f i).start ≤ (f k).start
          least k g b l = last (leb i k) refl old
            where
              last : (q : Bool) → leb i k ≡ q → Missed i f from (seek n none i f from) none n ⊎ Found i f from (seek n none i f from)
                  → (f i).start ≤ (f k).start
              last true q o = let d : k ≡ i = omega (arith, leb-true i k q) in rw d (omega arith)
              last false q (inl w) = absurd (omega (arith, w.nothing k (leb-false i k q) b))
              last false q (inr w) = omega (arith, w.where-it-is.least k (leb-false i k q) b l, w.starts, t.2)

          here : Least (suc i) f from i
          here = record { index = omega arith; bytes = t.0; behind = t.1; least = least }
      go false p (inl w) = inl (rw p (record { nothing = nothing; same = w.same }))
        where
          nothing : (k : ℕ) → k < suc i → 0 < (f k).len → (f k).start < from
          nothing k g b = last (leb i k) refl (leb from (f k).start) refl
            where
              last : (q : Bool) → leb i k ≡ q → (d : Bool) → leb from (f k).start ≡ d → (f k).start < from
              last true q true d =
                  let e : k ≡ i = omega (arith, leb-true i k q) in
                  let s : (seek n none i f from).start ≡ n = ap (λ (x : Nearest). x.start) w.same in
                  let b2 : 0 < (f i).len = rw e at b in
                  let d2 : from ≤ (f i).start = rw e at (leb-true from (f k).start d) in
                  absurd (omega (arith, near-false (f i) from (seek n none i f from).start p b2 d2, h i (omega arith)))
              last true q false d = leb-false from (f k).start d
              last false q d m = w.nothing k (leb-false i k q) b
      go false p (inr w) = inr (rw p (record { where-it-is = there; starts = w.starts }))
        where
          there : Least (suc i) f from (seek n none i f from).index
          there =
              record {
                index = omega (arith, w.where-it-is.index);
                bytes = w.where-it-is.bytes;
                behind = w.where-it-is.behind;
                least = least;
              }
            where
              least : (k : ℕ) → k < suc i → 0 < (f k).len → from ≤ (f k).start → (f (seek n none i f from).index).start ≤ (f k).start
              least k g b l = last (leb i k) refl
                where
                  last : (q : Bool) → leb i k ≡ q → (f (seek n none i f from).index).start ≤ (f k).start
                  last true q =
                      let e : k ≡ i = omega (arith, leb-true i k q) in
                      let b2 : 0 < (f i).len = rw e at b in
                      let l2 : from ≤ (f i).start = rw e at l in
                      rw e (omega (arith, near-false (f i) from (seek n none i f from).start p b2 l2, w.starts))
                  last false q = w.where-it-is.least k (leb-false i k q) b l

-- of the first c: c where there is none, or the index
pub next-case : (n c : ℕ) (f : ℕ → Span) (from : ℕ) → ((k : ℕ) → k < c → end (f k) ≤ n)
    → ((next_live n c f from ≡ c) × Nothing c f from) ⊎ Least c f from (next_live n c f from)
unfolding next_live
next-case n c f from h = go (seek-case n c f from c h)
  where
    go : Missed c f from (seek n c c f from) c n ⊎ Found c f from (seek n c c f from)
        → (((seek n c c f from).index ≡ c) × Nothing c f from) ⊎ Least c f from (seek n c c f from).index
    go (inl w) = inl (ap (λ (x : Nearest). x.index) w.same, w.nothing)
    go (inr w) = inr w.where-it-is

-- spans that are alike from a place on have the same next
pub seek-same : (n none : ℕ) (f g : ℕ → Span) (from i : ℕ)
    → ((k : ℕ) → k < i → (f k ≡ g k) ⊎ (((f k).start < from) × ((g k).start < from))) → seek n none i f from ≡ seek n none i g from
seek-same n none f g from zero h = refl
seek-same n none f g from (suc i) h = go (seek-same n none f g from i (λ k b. h k (omega arith))) (h i (omega arith))
  where
    far : (a : Span) (low : ℕ) → a.start < from → nearer a from low ≡ false
    far a low b = rw (lt-leb from a.start b) (both (ltb 0 a.len))
      where
        both : (p : Bool) → choose p false false ≡ false
        both true = refl
        both false = refl

    go : seek n none i f from ≡ seek n none i g from → (f i ≡ g i) ⊎ (((f i).start < from) × ((g i).start < from))
        → seek n none (suc i) f from ≡ seek n none (suc i) g from
    go ih (inl e) = rw (e, ih)
    go ih (inr w) = rw (far (f i) (seek n none i f from).start w.0, far (g i) (seek n none i g from).start w.1) ih
