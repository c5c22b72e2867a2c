-- PACKING, OVER A TABLE: no word moves but the starts of payloads, each payload has the bytes that it had, and all lie at the front.
use Prim.Native.Nat.{ℕ, zero, suc, ◌+◌, ◌-◌, ◌≤◌, ◌<◌}
use Rattle.std.proofs.Math.Path.{◌≡◌, refl, ap}
use Rattle.std.proofs.Common.{◌∙◌, sym, inl, inr, arith}
use Rattle.std.specs.Prelude.{Bool, List, ◌++◌, ◌⊎◌, leb, eqb, length, take, drop}
use Rattle.std.proofs.Math.Bool.{true, false}
use borrow.Author.Tests.{ltb-true, ltb-false, leb-true, leb-false, eqb-true, eqb-false, lt-ltb, le-ltb, eq-eqb, ne_eqb}
use Rattle.std.proofs.Math.Dec.{ltb}
use Rattle.std.proofs.lemmas.List.Edits.{sets}
use Rattle.wire.specs.Table.{room}
use Rattle.wire.specs.Choose.{choose}
use Rattle.write_record.specs.Taken.{record_in, record-none}
use Rattle.wire.specs.declared.Record.{Record}
use Rattle.edit_live.specs.Spans.{end, span_in, total, next_live}
use Rattle.edit_live.specs.SpanLaws.{same_or_not, span-inside, Held, is_held, Apart, Least, Nothing, next-case}
use Rattle.edit_live.specs.declared.Span.{Span}
use Rattle.edit_pack.specs.Packing.{bytes_of, amended, Packed, next_in, span_next, pack_from, empty_at, cleared, packed, ordered, joined, before}
use Rattle.edit_pack.specs.PackLaws.{Idle, Done, Packing, pack-start, waiting, pack-more, settled, pack-total, pack-room}
use Rattle.edit_pack.specs.Amending.{with_value, amend-room, amend-here, amend-other, amend-span, amend-spans}

-- ---- the cases of the loop

module _ (c k : ℕ) (s t : List ℕ) (from to : ℕ) where
  pub pack-turn : (m : ℕ) → next_in c k s t from < c
      → pack_from (suc m) c k s t from to
      ≡ pack_from m c k (sets s to (bytes_of s (span_next c k s t from))) (amended t (next_in c k s t from) to) (end (span_next c k s t from))
      (to + (span_next c k s t from).len)
  unfolding pack_from
  pack-turn m h = rw (lt-ltb (next_in c k s t from) c h)

  pub pack-stop : (m : ℕ) → c ≤ next_in c k s t from → pack_from m c k s t from to ≡ record { total = to; room = s; table = t }
  unfolding pack_from
  pack-stop zero h = refl
  pack-stop (suc m) h = rw (le-ltb (next_in c k s t from) c h)

-- ---- what the loop leaves

-- a payload of the first c, once all are packed
pub record Rests (c : ℕ) (s₀ s : List ℕ) (f₀ f : ℕ → Span) (i : ℕ) : Type 0 where
  pub span : f i ≡ record { start = before c f₀ (f₀ i).start; len = (f₀ i).len }
  pub low : end (f i) ≤ total c f₀
  pub kept : bytes_of s (f i) ≡ bytes_of s₀ (f₀ i)

pub record Tidy (c k : ℕ) (s t : List ℕ) (p : Packed) : Type 0 where
  pub whole : p.total ≡ total c (span_in (length s) t k)
  pub low : p.total ≤ length s
  pub bytes : p.room ≡ joined s (ordered (length s) (length s) c (span_in (length s) t k) 0) ++ drop (total c (span_in (length s) t k)) s
  pub size : length p.room ≡ length s
  pub rows : room p.table ≡ room t
  pub words : (i : ℕ) → record_in p.table i ≡ with_value (record_in t i) (record_in p.table i).value
  pub others : (i : ℕ) → (c ≤ i) ⊎ ((span_in (length s) t k i).len ≡ 0) → record_in p.table i ≡ record_in t i
  pub rests : (i : ℕ) → i < c → 0 < (span_in (length s) t k i).len
      → Rests c s p.room (span_in (length s) t k) (span_in (length s) p.table k) i

module _ (c k : ℕ) (s₀ t₀ : List ℕ)
    (apart : (i j : ℕ) → i < j → j < c → Apart (span_in (length s₀) t₀ k i) (span_in (length s₀) t₀ k j)) where
  abbrev f₀ : ℕ → Span
  f₀ = span_in (length s₀) t₀ k

  -- the table as the loop goes
  record Amends (t : List ℕ) : Type 0 where
    rows : room t ≡ room t₀
    words : (i : ℕ) → record_in t i ≡ with_value (record_in t₀ i) (record_in t i).value
    others : (i : ℕ) → (c ≤ i) ⊎ ((f₀ i).len ≡ 0) → record_in t i ≡ record_in t₀ i

  inside : (i : ℕ) → i < c → end (f₀ i) ≤ length s₀
  inside i h = span-inside (length s₀) t₀ k i

  module _ {s t : List ℕ} {from to m : ℕ} (w : Packing c s₀ f₀ s (span_in (length s₀) t k) from to m) (high : from ≤ length s₀) (a : Amends t) where
    abbrev f : ℕ → Span
    f = span_in (length s₀) t k

    -- the end
    module _ (e : next_live (length s₀) c (span_in (length s₀) t k) from ≡ c) (x : Nothing c (span_in (length s₀) t k) from) where
      rested : (i : ℕ) → 0 < (f₀ i).len → Idle f₀ f i ⊎ Done c s₀ s f₀ f from to i → Rests c s₀ s f₀ f i
      rested i b (inl y) = absurd (omega (arith, y.none))
      rested i b (inr y) = record { span = y.span; low = omega (arith, y.low, pack-total c s₀ f₀ inside apart w e x); kept = y.kept }

      ended : Tidy c k s₀ t₀ (pack_from m c k s t from to)
      ended =
          let n : c ≤ next_in c k s t from = rw (w.size, e) (omega arith) in
          rw (pack-stop c k s t from to m n)
          (record {
            whole = pack-total c s₀ f₀ inside apart w e x;
            low = omega (arith, w.low);
            bytes = pack-room c s₀ f₀ inside apart w e x;
            size = w.size;
            rows = a.rows;
            words = a.words;
            others = a.others;
            rests = λ i h b. rested i b (settled c s₀ f₀ inside apart w e x i h);
          })

    -- a turn
    module _ {j : ℕ} (is : next_live (length s₀) c (span_in (length s₀) t k) from ≡ j) (l : Least c (span_in (length s₀) t k) from j) where
      held : Held (length s₀) t k j
      held = is_held (length s₀) t k j l.bytes

      fits : to + (f j).len ≤ length s₀
      fits = omega (arith, w.low, l.behind, span-inside (length s₀) t k j)

      turn-words : (i : ℕ) → (i ≡ j) ⊎ (i ≡ j → ⊥) → record_in (amended t j to) i ≡ with_value (record_in t₀ i) (record_in (amended t j to) i).value
      turn-words i (inl e) =
          let x : record_in (amended t j to) j ≡ with_value (record_in t₀ j) to =
          amend-here t j to held.index ∙ ap (λ (r : Record). with_value r to) (a.words j) in
          let y : (record_in (amended t j to) j).value ≡ to = ap (λ (r : Record). r.value) x in
          rw e (x ∙ ap (with_value (record_in t₀ j)) (sym y))
      turn-words i (inr o) =
          let x = amend-other t j to i o in
          x ∙ a.words i ∙ ap (λ (r : Record). with_value (record_in t₀ i) r.value) (sym x)

      turn-others : (i : ℕ) → (c ≤ i) ⊎ ((f₀ i).len ≡ 0) → record_in (amended t j to) i ≡ record_in t₀ i
      turn-others i u = amend-other t j to i (not-it u) ∙ a.others i u
        where
          not-it : (c ≤ i) ⊎ ((f₀ i).len ≡ 0) → i ≡ j → ⊥
          not-it (inl g) e = omega (arith, l.index)
          not-it (inr g) e =
              let z : (f₀ i).len ≡ (f₀ j).len = ap (λ (x : ℕ). (f₀ x).len) e in
              omega (arith, (waiting c s₀ f₀ inside apart w is l).bytes)

      amends : Amends (amended t j to)
      amends = record { rows = amend-room t j to ∙ a.rows; words = λ i. turn-words i (same_or_not i j); others = turn-others }

      turned : Packing c s₀ f₀ (sets s to (bytes_of s (f j))) (span_in (length s₀) (amended t j to) k) (end (f j)) (to + (f j).len) (m - 1)
      turned =
          pack-more c s₀ f₀ inside apart w is l (span_in (length s₀) (amended t j to) k) (amend-span t j to (length s₀) k held fits)
          (λ i h o. amend-spans t j to (length s₀) k i o)

  loop : (m : ℕ) (s t : List ℕ) (from to : ℕ) → Packing c s₀ f₀ s (span_in (length s₀) t k) from to m → from ≤ length s₀ → Amends t
      → Tidy c k s₀ t₀ (pack_from m c k s t from to)
  loop zero s t from to w high a = go (next-case (length s₀) c (span_in (length s₀) t k) from (λ i h. span-inside (length s₀) t k i))
    where
      go : ((next_live (length s₀) c (span_in (length s₀) t k) from ≡ c) × Nothing c (span_in (length s₀) t k) from)
          ⊎ Least c (span_in (length s₀) t k) from (next_live (length s₀) c (span_in (length s₀) t k) from)
          → Tidy c k s₀ t₀ (pack_from zero c k s t from to)
      go (inl x) = ended w high a x.0 x.1
      go (inr l) =
          let b = span-inside (length s₀) t k (next_live (length s₀) c (span_in (length s₀) t k) from) in
          absurd (omega (arith, w.fuel, l.behind, l.bytes, b))
  loop (suc m) s t from to w high a =
      go (loop m) (next-case (length s₀) c (span_in (length s₀) t k) from (λ i h. span-inside (length s₀) t k i))
    where
      go : ((u v : List ℕ) (p q : ℕ) → Packing c s₀ f₀ u (span_in (length s₀) v k) p q m → p ≤ length s₀ → Amends v → Tidy c k s₀ t₀ (pack_from m c k u v p q))
          → ((next_live (length s₀) c (span_in (length s₀) t k) from ≡ c) × Nothing c (span_in (length s₀) t k) from)
          ⊎ Least c (span_in (length s₀) t k) from (next_live (length s₀) c (span_in (length s₀) t k) from)
          → Tidy c k s₀ t₀ (pack_from (suc m) c k s t from to)
      go ih (inl x) = ended w high a x.0 x.1
      go ih (inr l) =
          let j = next_live (length s₀) c (span_in (length s₀) t k) from in
          let n : next_in c k s t from < c = rw w.size l.index in
          let e : suc m - 1 ≡ m = omega arith in
          let b = span-inside (length s₀) t k j in
          let u = ih (sets s to (bytes_of s (span_in (length s₀) t k j))) (amended t j to) (end (span_in (length s₀) t k j)) (to + (span_in (length s₀) t k j).len)
          (rw e at (turned w high a refl l)) b (amends w high a refl l) in
          rw (pack-turn c k s t from to m n, w.size) u

  pub tidy-loop : Tidy c k s₀ t₀ (pack_from (length s₀) c k s₀ t₀ 0 0)
  tidy-loop =
      loop (length s₀) s₀ t₀ 0 0 (pack-start c s₀ f₀ inside) (omega arith) (record { rows = refl; words = λ i. refl; others = λ i u. refl })

-- ---- those with no bytes, cleared

module _ (t : List ℕ) (k i : ℕ) where
  pub empty-skip : i ≡ k → empty_at t k i ≡ false
  unfolding empty_at
  empty-skip e = rw (eq-eqb i k e)

  pub empty-other : (i ≡ k → ⊥) → ((record_in t i).kind ≡ 1 → ⊥) → empty_at t k i ≡ false
  unfolding empty_at
  empty-other e o = rw (ne_eqb i k e, ne_eqb (record_in t i).kind 1 o)

  pub empty-length : (i ≡ k → ⊥) → (record_in t i).kind ≡ 1 → empty_at t k i ≡ eqb (record_in t i).length 0
  unfolding empty_at
  empty-length e p = rw (ne_eqb i k e, eq-eqb (record_in t i).kind 1 p)

  pub record Empty : Type 0 where
    pub other : i ≡ k → ⊥
    pub payload : (record_in t i).kind ≡ 1
    pub none : (record_in t i).length ≡ 0

  pub is-empty : empty_at t k i ≡ true → Empty
  is-empty h = go (eqb i k) refl (eqb (record_in t i).kind 1) refl
    where
      no : empty_at t k i ≡ false → Empty
      no e = absurd (let z : ◌≡◌ {A = ℕ} 0 1 = cc in omega arith)

      go : (a : Bool) → eqb i k ≡ a → (b : Bool) → eqb (record_in t i).kind 1 ≡ b → Empty
      go true a b q = no (empty-skip (eqb-true i k a))
      go false a false b = no (empty-other (eqb-false i k a) (eqb-false (record_in t i).kind 1 b))
      go false a true b =
          let o = eqb-false i k a in
          let p = eqb-true (record_in t i).kind 1 b in
          record { other = o; payload = p; none = eqb-true (record_in t i).length 0 (sym (empty-length o p) ∙ h) }

  -- it stands in the table
  pub empty-row : empty_at t k i ≡ true → i < room t
  empty-row h = go (ltb i (room t)) refl
    where
      go : (b : Bool) → ltb i (room t) ≡ b → i < room t
      go true b = ltb-true i (room t) b
      go false b =
          let e = ap (λ (r : Record). r.kind) (record-none t i (ltb-false i (room t) b)) in
          absurd (omega (arith, (is-empty h).payload))

-- the same record is empty in both tables
empty-same : (t u : List ℕ) (k i : ℕ) → record_in t i ≡ record_in u i → empty_at t k i ≡ empty_at u k i
unfolding empty_at
empty-same t u k i e = rw e

-- what one turn of clearing leaves
clear-rows : (c k : ℕ) (t : List ℕ) → room (cleared c k t) ≡ room t
clear-rows zero k t = refl
clear-rows (suc c) k t = go (clear-rows c k t) (empty_at (cleared c k t) k c) refl
  where
    go : room (cleared c k t) ≡ room t → (b : Bool) → empty_at (cleared c k t) k c ≡ b → room (cleared (suc c) k t) ≡ room t
    go ih true b = rw b (amend-room (cleared c k t) c 0 ∙ ih)
    go ih false b = rw b ih

clear-turn : (c k : ℕ) (t : List ℕ) (i : ℕ) → (i ≡ c → ⊥) → record_in (cleared (suc c) k t) i ≡ record_in (cleared c k t) i
clear-turn c k t i o = go (empty_at (cleared c k t) k c) refl
  where
    go : (b : Bool) → empty_at (cleared c k t) k c ≡ b → record_in (cleared (suc c) k t) i ≡ record_in (cleared c k t) i
    go true b = rw b (amend-other (cleared c k t) c 0 i o)
    go false b = rw b

pub clear_later : (c k : ℕ) (t : List ℕ) (i : ℕ) → c ≤ i → record_in (cleared c k t) i ≡ record_in t i
clear_later zero k t i h = refl
clear_later (suc c) k t i h = clear-turn c k t i (λ e. omega arith) ∙ clear_later c k t i (omega arith)

pub clear_at : (c k : ℕ) (t : List ℕ) (i : ℕ) → i < c
    → record_in (cleared c k t) i ≡ choose (empty_at t k i) (with_value (record_in t i) 0) (record_in t i)
clear_at zero k t i h = absurd (omega arith)
clear_at (suc c) k t i h = go (clear_at c k t i) (leb c i) refl
  where
    here : record_in (cleared c k t) c ≡ record_in t c
    here = clear_later c k t c (omega arith)

    last : (b : Bool) → empty_at t k c ≡ b → record_in (cleared (suc c) k t) c ≡ choose (empty_at t k c) (with_value (record_in t c) 0) (record_in t c)
    last true b =
        let e : empty_at (cleared c k t) k c ≡ true = empty-same (cleared c k t) t k c here ∙ b in
        rw (e, b) (amend-here (cleared c k t) c 0 (empty-row (cleared c k t) k c e) ∙ ap (λ (r : Record). with_value r 0) here)
    last false b = let e : empty_at (cleared c k t) k c ≡ false = empty-same (cleared c k t) t k c here ∙ b in rw (e, b) here

    go : (i < c → record_in (cleared c k t) i ≡ choose (empty_at t k i) (with_value (record_in t i) 0) (record_in t i))
        → (b : Bool) → leb c i ≡ b → record_in (cleared (suc c) k t) i ≡ choose (empty_at t k i) (with_value (record_in t i) 0) (record_in t i)
    go ih true b = let e : i ≡ c = omega (arith, leb-true c i b) in rw e (last (empty_at t k c) refl)
    go ih false b = let l = leb-false c i b in clear-turn c k t i (λ e. omega arith) ∙ ih l

-- ---- PACKED: THE TWO CLOSED FORMS, and every record

-- record i of the first c, which has live bytes
pub record Packs (c k : ℕ) (s t : List ℕ) (p : Packed) (i : ℕ) : Type 0 where
  pub row : record_in p.table i ≡ with_value (record_in t i) (before c (span_in (length s) t k) (span_in (length s) t k i).start)
  pub inside : before c (span_in (length s) t k) (span_in (length s) t k i).start + (span_in (length s) t k i).len ≤ p.total
  pub bytes :
      take (span_in (length s) t k i).len (drop (before c (span_in (length s) t k) (span_in (length s) t k i).start) p.room)
      ≡ bytes_of s (span_in (length s) t k i)

pub record Neat (c k : ℕ) (s t : List ℕ) (p : Packed) : Type 0 where
  pub whole : p.total ≡ total c (span_in (length s) t k)
  pub low : p.total ≤ length s
  pub bytes : p.room ≡ joined s (ordered (length s) (length s) c (span_in (length s) t k) 0) ++ drop (total c (span_in (length s) t k)) s
  pub size : length p.room ≡ length s
  pub rows : room p.table ≡ room t
  pub live : (i : ℕ) → i < c → 0 < (span_in (length s) t k i).len → Packs c k s t p i
  pub empty : (i : ℕ) → i < c → empty_at t k i ≡ true → record_in p.table i ≡ with_value (record_in t i) 0
  pub others : (i : ℕ) → (c ≤ i) ⊎ (((span_in (length s) t k i).len ≡ 0) × (empty_at t k i ≡ false)) → record_in p.table i ≡ record_in t i

-- a live record has bytes
live-full : (n : ℕ) (t : List ℕ) (k i : ℕ) → 0 < (span_in n t k i).len → empty_at t k i ≡ false
live-full n t k i h = go (empty_at t k i) refl
  where
    go : (b : Bool) → empty_at t k i ≡ b → empty_at t k i ≡ false
    go false b = b
    go true b = absurd (omega (arith, (is_held n t k i h).live.bytes, (is-empty t k i b).none))

module _ (c k : ℕ) (s t : List ℕ) (apart : (i j : ℕ) → i < j → j < c → Apart (span_in (length s) t k i) (span_in (length s) t k j)) where
  abbrev q : Packed
  q = pack_from (length s) c k s t 0 0

  w : Tidy c k s t q
  w = tidy-loop c k s t apart

  -- what becomes of a record that the loop leaves alone
  alone : (i : ℕ) → i < c → (span_in (length s) t k i).len ≡ 0
      → record_in (cleared c k q.table) i ≡ choose (empty_at t k i) (with_value (record_in t i) 0) (record_in t i)
  alone i h e =
      let same = w.others i (inr e) in
      clear_at c k q.table i h ∙ rw (empty-same q.table t k i same, same)

  moved : (i : ℕ) → i < c → 0 < (span_in (length s) t k i).len
      → record_in (cleared c k q.table) i ≡ with_value (record_in t i) (before c (span_in (length s) t k) (span_in (length s) t k i).start)
  moved i h b =
      let r = w.rests i h b in
      let n : (span_in (length s) q.table k i).len ≡ (span_in (length s) t k i).len = ap (λ (a : Span). a.len) r.span in
      let l : 0 < (span_in (length s) q.table k i).len = omega arith in
      let v : (record_in q.table i).value ≡ before c (span_in (length s) t k) (span_in (length s) t k i).start =
      ap (λ (a : Span). a.start) (sym (is_held (length s) q.table k i l).span ∙ r.span) in
      clear_at c k q.table i h ∙ rw (live-full (length s) q.table k i l) (w.words i ∙ ap (with_value (record_in t i)) v)

  pub neat : Neat c k s t (packed c k s t)
  unfolding packed
  neat =
      record {
        whole = w.whole;
        low = w.low;
        bytes = w.bytes;
        size = w.size;
        rows = clear-rows c k q.table ∙ w.rows;
        live = λ i h b.
            let r = w.rests i h b in
            let n : (span_in (length s) q.table k i).len ≡ (span_in (length s) t k i).len = ap (λ (a : Span). a.len) r.span in
            record {
              row = moved i h b;
              inside = omega (arith, r.low, ap end r.span, w.whole);
              bytes = ap (λ (a : Span). bytes_of q.room a) (sym r.span) ∙ r.kept;
            };
        empty = λ i h e. alone i h (none i e) ∙ rw e;
        others = λ i u. other i u;
      }
    where
      none : (i : ℕ) → empty_at t k i ≡ true → (span_in (length s) t k i).len ≡ 0
      none i e = go (ltb 0 (span_in (length s) t k i).len) refl
        where
          go : (b : Bool) → ltb 0 (span_in (length s) t k i).len ≡ b → (span_in (length s) t k i).len ≡ 0
          go true b =
              let z = live-full (length s) t k i (ltb-true 0 (span_in (length s) t k i).len b) in
              absurd (let y : ◌≡◌ {A = ℕ} 0 1 = cc in omega arith)
          go false b = omega (arith, ltb-false 0 (span_in (length s) t k i).len b)

      other : (i : ℕ) → (c ≤ i) ⊎ (((span_in (length s) t k i).len ≡ 0) × (empty_at t k i ≡ false)) → record_in (cleared c k q.table) i ≡ record_in t i
      other i (inl g) = clear_later c k q.table i g ∙ w.others i (inl g)
      other i (inr u) = inner (ltb i c) refl
        where
          inner : (b : Bool) → ltb i c ≡ b → record_in (cleared c k q.table) i ≡ record_in t i
          inner true b = alone i (ltb-true i c b) u.0 ∙ rw u.1
          inner false b = other-late (ltb-false i c b)
            where
              other-late : c ≤ i → record_in (cleared c k q.table) i ≡ record_in t i
              other-late g = clear_later c k q.table i g ∙ w.others i (inl g)

-- ---- of any table, whether its payloads are apart or not, the records are as many as they were

pack-rows : (m c k : ℕ) (s t : List ℕ) (from to : ℕ) → room (pack_from m c k s t from to).table ≡ room t
unfolding pack_from
pack-rows zero c k s t from to = refl
pack-rows (suc m) c k s t from to = go (λ u v p q. pack-rows m c k u v p q) (ltb (next_in c k s t from) c) refl
  where
    go : ((u v : List ℕ) (p q : ℕ) → room (pack_from m c k u v p q).table ≡ room v) → (b : Bool) → ltb (next_in c k s t from) c ≡ b
        → room (pack_from (suc m) c k s t from to).table ≡ room t
    go ih true b =
        let j = next_in c k s t from in
        let a = span_next c k s t from in
        rw b (ih (sets s to (bytes_of s a)) (amended t j to) (end a) (to + a.len) ∙ amend-room t j to)
    go ih false b = rw b

pub packed-rows : (c k : ℕ) (s t : List ℕ) → room (packed c k s t).table ≡ room t
unfolding packed
packed-rows c k s t = clear-rows c k (pack_from (length s) c k s t 0 0).table ∙ pack-rows (length s) c k s t 0 0
