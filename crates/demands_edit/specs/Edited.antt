-- The records of a working copy after an edit: it is a working copy again, and stands for the plain list with the same edit. Over the definitions that the
-- contracts cite.
use Rattle.std.specs.Prelude.{ℕ, zero, suc, ◌+◌, ◌-◌, ◌*◌, ◌/◌, ◌^◌, ◌≤◌, ◌<◌, ◌≡◌, refl, Bool, true, false, List, [], ◌∷◌, ◌++◌, ◌⊎◌, leb, ltb, eqb, length, take, drop, get_or, set}
use Rattle.std.proofs.Common.{ap, ◌∙◌, sym, inl, inr, arith, length-set, get_or-take, get_or-drop, get_or-set_same, get_or-set_other}
use borrow.Author.Tests.{leb-true, leb-false, ltb-true, ltb-false, le-leb, lt-ltb, le-ltb, eqb-true, eqb-false}
use Rattle.std.proofs.lemmas.List.Edits.{sets, sets-eq}
use Rattle.std.proofs.Math.Seq.{length-sets}
use Rattle.wire.specs.Choose.{choose}
use Rattle.wire.specs.Limits.{message_limit, record_words, no_key}
use Rattle.wire.specs.Written.{Item}
use Rattle.wire.specs.Places.{part, shown, item_of, items}
use Rattle.wire.specs.Table.{words, room, record_at, value_of, field_in, fields_from, good_head, good_value, good, head-key, key-none}
use Rattle.write_record.specs.Taken.{record-there}
use Rattle.write_message.specs.WritingLaws.{checked-tests, checked-fine}
use Rattle.write_insertion.specs.Insertion.{spot, inserted}
use Rattle.write_insertion.specs.InsertionLaws.{spot-inside}
use Rattle.edit_pack.specs.PackTable.{neat}
use Rattle.place.specs.Place.{length_part}
use Rattle.edit_live.specs.Spans.{end, span_of, span_in, total}
use Rattle.edit_live.specs.SpanLaws.{same_or_not, span-other, span-live, span-empty, span-skip, Apart, apart-over, none-keyed}
use Rattle.edit_live.specs.declared.Span.{Span}
use Rattle.edit.specs.Edits.{Laid, removed}
use Rattle.wire.specs.declared.Record.{Record}
use Rattle.demands_message.specs.Inserting.{stays, holds, same-record, stored, before-spot, behind-spot, at-spot, inserted-fields, lower-before, higher-behind}
use Rattle.demands_message.specs.Inserting.{stays-good}
use Rattle.demands_edit.specs.Plain.{payload, without, given, load, loads, loads-join, without-there, given-there, among, among_there, Low, High}
use Rattle.demands_edit.specs.Copies.{Copy, Rows, span-row, copy-rows, rows-copy, rows-there, short, item_at, listed, items-same, items-split, items-join}
use Rattle.demands_edit.specs.Copies.{items-length}
use Rattle.demands_edit.specs.Keeping.{Kinds, other, empty, live, kinds-of, Stays, Over, Lays, skip-apart}

-- ---- ROWS THAT ARE SOME OF OTHERS, in their order

rows-order : {n c : ℕ} {r : ℕ → Record} → Rows n c r → (d i : ℕ) → i + d < c → (r i).tag ≤ (r (i + d)).tag
rows-order {n} {c} {r} w zero i h = let e : i + 0 ≡ i = omega arith in rw e (omega arith)
rows-order {n} {c} {r} w (suc d) i h =
    let e : i + suc d ≡ suc (i + d) = omega arith in
    let a = rows-order w d i (omega arith) in
    let b = w.order (i + d) (omega arith) in
    rw e (omega (arith, a, b))

pub rows-some : {n c m : ℕ} {r q : ℕ → Record} (g : ℕ → ℕ) → Rows n c r → ((j : ℕ) → j < m → g j < c)
    → ((i j : ℕ) → i < j → j < m → g i < g j) → ((j : ℕ) → j < m → q j ≡ r (g j)) → Rows n m q
rows-some {n} {c} {m} {r} {q} g w inside up same =
    record {
      fine = λ i h. rw (same i h) (w.fine (g i) (inside i h));
      order = λ i h.
          let a = same i (omega arith) in
          let b = same (suc i) h in
          let u = up i (suc i) (omega arith) h in
          let e : g i + (g (suc i) - g i) ≡ g (suc i) = omega arith in
          let z = rows-order w (g (suc i) - g i) (g i) (omega (arith, inside (suc i) h)) in
          rw (a, b) (rw e at z);
      apart = λ i j h l. rw (same i (omega arith), same j l) (w.apart (g i) (g j) (up i j h l) (inside j l));
      keys = λ i h. rw (same i h) (w.keys (g i) (inside i h));
    }

-- ---- REMOVED

module _ (t : List ℕ) (c i : ℕ) (h : i < c) (g : c ≤ room t) where
  abbrev moved : List ℕ
  moved = part t (record_words * suc i) (record_words * c)

  sized : length moved ≡ record_words * c - record_words * suc i
  sized = length_part t (record_words * suc i) (record_words * c - record_words * suc i) (omega arith)

  pub removed-stored : removed t c i ≡ sets t (record_words * i) (part t (record_words * suc i) (record_words * c))
  removed-stored =
      let e : record_words * i + length moved ≡ record_words * (c - 1) = omega (arith, sized) in
      sym (sets-eq moved t (record_words * i) (omega (arith, sized)) ∙ ap (λ (n : ℕ). take (record_words * i) t ++ moved ++ drop n t) e)

  pub removed-before : (j : ℕ) → j < i → record_at (removed t c i) j ≡ record_at t j
  removed-before j l =
      rw removed-stored
      (same-record (sets t (record_words * i) moved) t j j (λ k m. stays t (record_words * i) moved (record_words * j + k) (omega arith)))

  pub removed-behind : (j : ℕ) → i ≤ j → suc j < c → record_at (removed t c i) j ≡ record_at t (suc j)
  removed-behind j l m = rw removed-stored (same-record (sets t (record_words * i) moved) t j (suc j) (λ k b. word k b))
    where
      word : (k : ℕ) → k < record_words → get_or (sets t (record_words * i) moved) (record_words * j + k) 0 ≡ get_or t (record_words * suc j + k) 0
      word k b =
          let x : record_words * j + k ≡ record_words * i + (record_words * j - record_words * i + k) = omega arith in
          let y : record_words * suc i + (record_words * j - record_words * i + k) ≡ record_words * suc j + k = omega arith in
          rw x
          (holds t (record_words * i) moved (record_words * j - record_words * i + k) (omega (arith, sized)) (omega arith)
          ∙ get_or-take (record_words * c - record_words * suc i) (drop (record_words * suc i) t) (record_words * j - record_words * i + k) 0 (omega arith)
          ∙ get_or-drop (record_words * suc i) t (record_words * j - record_words * i + k) 0
          ∙ ap (λ (n : ℕ). get_or t n 0) y)

module _ {s t : List ℕ} {c : ℕ} (w : Copy s t c) (i : ℕ) (h : i < c) where
  -- the index that a record had
  abbrev old : ℕ → ℕ
  old j = choose (ltb j i) j (suc j)

  old-low : (j : ℕ) → j < i → old j ≡ j
  old-low j l = rw (lt-ltb j i l)

  old-high : (j : ℕ) → i ≤ j → old j ≡ suc j
  old-high j l = rw (le-ltb j i l)

  side : (j : ℕ) → (j < i) ⊎ (i ≤ j)
  side j = go (ltb j i) refl
    where
      go : (b : Bool) → ltb j i ≡ b → (j < i) ⊎ (i ≤ j)
      go true b = inl (ltb-true j i b)
      go false b = inr (ltb-false j i b)

  old-inside : (j : ℕ) → j < c - 1 → old j < c
  old-inside j l = go (side j)
    where
      go : (j < i) ⊎ (i ≤ j) → old j < c
      go (inl x) = omega (arith, old-low j x)
      go (inr x) = omega (arith, old-high j x)

  old-up : (j k : ℕ) → j < k → k < c - 1 → old j < old k
  old-up j k l m = go (side j) (side k)
    where
      go : (j < i) ⊎ (i ≤ j) → (k < i) ⊎ (i ≤ k) → old j < old k
      go (inl x) (inl y) = omega (arith, old-low j x, old-low k y)
      go (inl x) (inr y) = omega (arith, old-low j x, old-high k y)
      go (inr x) (inl y) = absurd (omega arith)
      go (inr x) (inr y) = omega (arith, old-high j x, old-high k y)

  old-record : (j : ℕ) → j < c - 1 → record_at (removed t c i) j ≡ record_at t (old j)
  old-record j l = go (side j)
    where
      go : (j < i) ⊎ (i ≤ j) → record_at (removed t c i) j ≡ record_at t (old j)
      go (inl x) = removed-before t c i h (rows-there w) j x ∙ ap (record_at t) (sym (old-low j x))
      go (inr x) = removed-behind t c i h (rows-there w) j x (omega arith) ∙ ap (record_at t) (sym (old-high j x))

  pub removed-rows : room (removed t c i) ≡ room t
  removed-rows = rw (removed-stored t c i h (rows-there w), length-sets t (record_words * i) (part t (record_words * suc i) (record_words * c)))

  pub removed-copy : Copy s (removed t c i) (c - 1)
  removed-copy =
      rows-copy s (removed t c i) (c - 1) (short w) (omega (arith, removed-rows, rows-there w))
      (rows-some old (copy-rows w) old-inside old-up old-record)

  -- a copy's list, with item i in sight
  pub listed_at : listed s t c ≡ items s (fields_from i t 0) ++ item_at s t i ∷ items s (fields_from (c - suc i) t (suc i))
  listed_at =
      let n : i + suc (c - suc i) ≡ c = omega arith in
      let z : i + 0 ≡ i = omega arith in
      ap (λ (x : ℕ). items s (fields_from x t 0)) (sym n) ∙ items-split s t i (suc (c - suc i)) 0
      ∙ ap (λ (x : ℕ). items s (fields_from i t 0) ++ items s (fields_from (suc (c - suc i)) t x)) z

  pub removed-list : listed s (removed t c i) (c - 1) ≡ without i (listed s t c)
  removed-list =
      let u = removed t c i in
      let n : i + (c - suc i) ≡ c - 1 = omega arith in
      let z : i + 0 ≡ i = omega arith in
      let front = items-same s s u t i 0 0
      (λ x l. let e : 0 + x ≡ x = omega arith in rw e (ap (λ (r : Record). item_of s (field_in r)) (removed-before t c i h (rows-there w) x l))) in
      let back = items-same s s u t (c - suc i) i (suc i)
      (λ x l.
      let e : suc i + x ≡ suc (i + x) = omega arith in
      rw e (ap (λ (r : Record). item_of s (field_in r)) (removed-behind t c i h (rows-there w) (i + x) (omega arith) (omega arith)))) in
      let y = items s (fields_from i t 0) in
      ap (λ (x : ℕ). items s (fields_from x u 0)) (sym n) ∙ items-split s u i (c - suc i) 0
      ∙ ap (λ (x : ℕ). items s (fields_from i u 0) ++ items s (fields_from (c - suc i) u x)) z
      ∙ ap (λ (x : List Item). x ++ items s (fields_from (c - suc i) u i)) front
      ∙ ap (λ (x : List Item). y ++ x) back
      ∙ sym (without-there y (item_at s t i) (items s (fields_from (c - suc i) t (suc i))))
      ∙ ap (λ (x : ℕ). without x (y ++ item_at s t i ∷ items s (fields_from (c - suc i) t (suc i)))) (items-length s t i 0)
      ∙ ap (without i) (sym listed_at)

-- a list that is another but for item i
around : (s u t v : List ℕ) (c i : ℕ) → i < c → ((j : ℕ) → j < c → (j ≡ i → ⊥) → item_at u v j ≡ item_at s t j)
    → listed u v c ≡ items s (fields_from i t 0) ++ item_at u v i ∷ items s (fields_from (c - suc i) t (suc i))
around s u t v c i h same =
    let n : i + suc (c - suc i) ≡ c = omega arith in
    let z : i + 0 ≡ i = omega arith in
    let front = items-same u s v t i 0 0 (λ x l. let e : 0 + x ≡ x = omega arith in rw e (same x (omega arith) (λ q. omega arith))) in
    let back = items-same u s v t (c - suc i) (suc i) (suc i) (λ x l. same (suc i + x) (omega arith) (λ q. omega arith)) in
    ap (λ (x : ℕ). items u (fields_from x v 0)) (sym n) ∙ items-split u v i (suc (c - suc i)) 0
    ∙ ap (λ (x : ℕ). items u (fields_from i v 0) ++ items u (fields_from (suc (c - suc i)) v x)) z
    ∙ ap (λ (x : List Item). x ++ item_at u v i ∷ items u (fields_from (c - suc i) v (suc i))) front
    ∙ ap (λ (x : List Item). items s (fields_from i t 0) ++ item_at u v i ∷ x) back

-- ---- REPLACED: the words of a record's start and length

module _ (u : List ℕ) (i p n : ℕ) (h : i < room u) where
  abbrev pair : List ℕ
  pair = sets u (record_words * i + 2) (p ∷ n ∷ [])

  pair-other : (q : ℕ) → (q ≡ record_words * i + 2 → ⊥) → (q ≡ suc (record_words * i + 2) → ⊥) → get_or pair q 0 ≡ get_or u q 0
  pair-other q a b =
      get_or-set_other (set u (record_words * i + 2) p) (suc (record_words * i + 2)) q n 0 b ∙ get_or-set_other u (record_words * i + 2) q p 0 a

  pair-start : get_or pair (record_words * i + 2) 0 ≡ p
  pair-start =
      get_or-set_other (set u (record_words * i + 2) p) (suc (record_words * i + 2)) (record_words * i + 2) n 0 (λ e. omega arith)
      ∙ get_or-set_same u (record_words * i + 2) p 0 (omega arith)

  pair-length : get_or pair (record_words * i + 3) 0 ≡ n
  pair-length =
      let e : record_words * i + 3 ≡ suc (record_words * i + 2) = omega arith in
      rw e (get_or-set_same (set u (record_words * i + 2) p) (suc (record_words * i + 2)) n 0 (rw (length-set u (record_words * i + 2) p) (omega arith)))

  pub pair-here : record_at pair i ≡ record { tag = (record_at u i).tag; kind = (record_at u i).kind; value = p; length = n; key = (record_at u i).key }
  unfolding record_at
  pair-here =
      rw (
        pair-other (record_words * i) (λ e. omega arith) (λ e. omega arith),
        pair-other (record_words * i + 1) (λ e. omega arith) (λ e. omega arith),
        pair-start,
        pair-length,
        pair-other (record_words * i + 4) (λ e. omega arith) (λ e. omega arith),
      )

  pub pair-others : (j : ℕ) → (j ≡ i → ⊥) → record_at pair j ≡ record_at u j
  pair-others j o = same-record pair u j j (λ k l. pair-other (record_words * j + k) (λ e. o (omega arith)) (λ e. o (omega arith)))

-- ---- a record of new bytes

module _ (n : ℕ) (q : Record) (k : q.kind ≡ 1) (inside : q.value + q.length ≤ n) where
  pub good_new : good_head n q.tag q.key ≡ true → good n q ≡ true
  unfolding good good_value
  good_new g = rw (g, k, le-leb (q.value + q.length) n inside)

  -- it is apart from what ends where it starts, or before
  pub apart-new : (a : Span) → end a ≤ q.value → Apart a (span_of n q)
  apart-new a h = go (eqb q.length 0) refl
    where
      go : (b : Bool) → eqb q.length 0 ≡ b → Apart a (span_of n q)
      go true b = rw (span-empty n q k (eqb-true q.length 0 b)) (inr (omega arith))
      go false b = rw (span-live n q k (eqb-false q.length 0 b) inside) (inl h)

apart-back : (a b : Span) → Apart a b → Apart b a
apart-back a b (inl x) = inr x
apart-back a b (inr x) = inl x

good-head : (n : ℕ) (r : Record) → good n r ≡ true → good_head n r.tag r.key ≡ true
unfolding good
good-head n r g = go (good_head n r.tag r.key) refl
  where
    go : (b : Bool) → good_head n r.tag r.key ≡ b → good_head n r.tag r.key ≡ true
    go true b = b
    go false b = let z : false ≡ true = rw b at g in absurd (let y : ◌≡◌ {A = ℕ} 0 1 = cc in omega arith)

-- ---- REPLACED: a copy again, with other bytes in item i

module _ {s t : List ℕ} {c : ℕ} (w : Copy s t c) (i : ℕ) (h : i < c) (k : (record_at t i).kind ≡ 1) (b : List ℕ) {l : Laid} (x : Lays w i b l) where
  abbrev n : ℕ
  n = length s

  abbrev v : List ℕ
  v = sets l.table (record_words * i + 2) (l.start ∷ length b ∷ [])

  there : i < room l.table
  there = omega (arith, x.over.rows, rows-there w)

  abbrev new : Record
  new = record { tag = (record_at t i).tag; kind = (record_at t i).kind; value = l.start; length = length b; key = (record_at t i).key }

  at_i : record_at v i ≡ new
  at_i = pair-here l.table i l.start (length b) there ∙ rw (x.over.self h)

  at_other : (j : ℕ) → (j ≡ i → ⊥) → record_at v j ≡ record_at l.table j
  at_other j o = pair-others l.table i l.start (length b) there j o

  kept : (j : ℕ) → j < c → (j ≡ i → ⊥) → Stays (length s) s l.room (record_at t j) (record_at v j) l.start
  kept j g o = rw (at_other j o) (x.over.stays j g o)

  fine-new : good (length s) new ≡ true
  fine-new = good_new (length s) new k x.fits (good-head (length s) (record_at t i) ((copy-rows w).fine i h))

  tags : (j : ℕ) → j < c → (record_at v j).tag ≡ (record_at t j).tag
  tags j g = go (same_or_not j i)
    where
      go : (j ≡ i) ⊎ (j ≡ i → ⊥) → (record_at v j).tag ≡ (record_at t j).tag
      go (inl e) = rw e (ap (λ (r : Record). r.tag) at_i)
      go (inr o) = ap (λ (r : Record). r.tag) (kept j g o).words

  rows-fine : (j : ℕ) → j < c → good (length s) (record_at v j) ≡ true
  rows-fine j g = go (same_or_not j i)
    where
      go : (j ≡ i) ⊎ (j ≡ i → ⊥) → good (length s) (record_at v j) ≡ true
      go (inl e) = rw (e, at_i) fine-new
      go (inr o) = (kept j g o).fine

  rows-keys : (j : ℕ) → j < c → (record_at v j).key ≡ no_key
  rows-keys j g = go (same_or_not j i)
    where
      go : (j ≡ i) ⊎ (j ≡ i → ⊥) → (record_at v j).key ≡ no_key
      go (inl e) = rw e (ap (λ (r : Record). r.key) at_i ∙ (copy-rows w).keys i h)
      go (inr o) = ap (λ (r : Record). r.key) (kept j g o).words ∙ (copy-rows w).keys j g

  beside : (j : ℕ) → j < c → (j ≡ i → ⊥) → Apart (span_of (length s) (record_at v j)) (span_of (length s) (record_at v i))
  beside j g o = rw at_i (apart-new (length s) new k x.fits (span_of (length s) (record_at v j)) (kept j g o).under)

  rows_apart : (a d : ℕ) → a < d → d < c → Apart (span_of (length s) (record_at v a)) (span_of (length s) (record_at v d))
  rows_apart a d m g = go (same_or_not a i) (same_or_not d i)
    where
      go : (a ≡ i) ⊎ (a ≡ i → ⊥) → (d ≡ i) ⊎ (d ≡ i → ⊥) → Apart (span_of (length s) (record_at v a)) (span_of (length s) (record_at v d))
      go (inl e) q =
          let o : d ≡ i → ⊥ = λ z. omega arith in
          rw e (apart-back (span_of (length s) (record_at v d)) (span_of (length s) (record_at v i)) (beside d g o))
      go (inr o) (inl e) = rw e (beside a (omega arith) o)
      go (inr o) (inr p) = rw (at_other a o, at_other d p) (x.over.apart a d m g o p)

  pub replaced-rows : room (sets l.table (record_words * i + 2) (l.start ∷ length b ∷ [])) ≡ room t
  replaced-rows = ap (λ (y : ℕ). y / record_words) (length-sets l.table (record_words * i + 2) (l.start ∷ length b ∷ [])) ∙ x.over.rows

  pub replaced-copy : Copy l.room v c
  replaced-copy =
      rows-copy l.room v c (omega (arith, x.over.size, short w)) (omega (arith, replaced-rows, rows-there w))
      (rw x.over.size
      (record {
        fine = rows-fine;
        order = λ j g. omega (arith, tags j (omega arith), tags (suc j) g, (copy-rows w).order j g);
        apart = rows_apart;
        keys = rows-keys;
      }))

  item-new : item_at l.room v i ≡ payload (item_at s t i).tag b
  item-new =
      ap (λ (r : Record). item_of l.room (field_in r)) at_i
      ∙ rw (k, x.there)

  pub replaced-list : listed l.room v c ≡ given i b (listed s t c)
  replaced-list =
      let y = items s (fields_from i t 0) in
      let z = items s (fields_from (c - suc i) t (suc i)) in
      around s l.room t v c i h (λ j g o. (kept j g o).item)
      ∙ ap (λ (a : Item). y ++ a ∷ z) item-new
      ∙ sym (given-there y (item_at s t i) z b)
      ∙ ap (λ (a : ℕ). given a b (y ++ item_at s t i ∷ z)) (items-length s t i 0)
      ∙ ap (given i b) (sym (listed_at w i h))

-- ---- INSERTED: a copy again, with the new item behind all of an equal or lower tag

-- all records stay: the same list over another room
module _ {s t : List ℕ} {c : ℕ} (w : Copy s t c) {u v : List ℕ} {low : ℕ} (x : Over s t c c u v low) where
  no-skip : (j : ℕ) → j < c → j ≡ c → ⊥
  no-skip j g e = omega arith

  stay : (j : ℕ) → j < c → Stays (length s) s u (record_at t j) (record_at v j) low
  stay j g = x.stays j g (no-skip j g)

  pub over-copy : Copy u v c
  over-copy =
      rows-copy u v c (omega (arith, x.size, short w)) (omega (arith, x.rows, rows-there w))
      (rw x.size
      (record {
        fine = λ j g. (stay j g).fine;
        order = λ j g.
            let a = ap (λ (r : Record). r.tag) (stay j (omega arith)).words in
            let b = ap (λ (r : Record). r.tag) (stay (suc j) g).words in
            omega (arith, a, b, (copy-rows w).order j g);
        apart = λ i j h g. x.apart i j h g (no-skip i (omega arith)) (no-skip j g);
        keys = λ j g. ap (λ (r : Record). r.key) (stay j g).words ∙ (copy-rows w).keys j g;
      }))

  pub over-list : listed u v c ≡ listed s t c
  over-list = items-same u s v t c 0 0 (λ j g. let e : 0 + j ≡ j = omega arith in rw e (stay j g).item)

-- one record more, behind no byte of which another has one
module _ {s t : List ℕ} {c : ℕ} (w : Copy s t c) (r : Record) (k : r.kind ≡ 1) (fits : r.value + r.length ≤ length s) (small : r.tag < 2 ^ 32)
    (key : r.key ≡ no_key)
    (under : (j : ℕ) → j < c → end (span_of (length s) (record_at t j)) ≤ r.value) (more : c < room t) where
  abbrev p : ℕ
  p = spot c t r.tag

  abbrev z : List ℕ
  z = inserted t c r p

  enough : record_words * c + record_words ≤ length t
  enough = omega arith

  below : p ≤ c
  below = spot-inside c t r.tag

  head-fine : good_head (length s) r.tag r.key ≡ true
  head-fine = head-key (length s) r.tag r.key small ∙ key-none (length s) r.key key

  pub new-good : good (length s) r ≡ true
  new-good = good_new (length s) r k fits head-fine

  at_new : record_at z p ≡ r
  at_new = at-spot t c r p below enough

  -- another record, by its index now and the index that it had
  data Was (j : ℕ) : Type 0 where
    before : j < p → record_at z j ≡ record_at t j → Was j
    itself : j ≡ p → Was j
    behind : (i : ℕ) → j ≡ suc i → p ≤ i → i < c → record_at z j ≡ record_at t i → Was j

  was : (j : ℕ) → j < suc c → Was j
  was j h = go (ltb j p) refl (leb j p) refl
    where
      go : (a : Bool) → ltb j p ≡ a → (b : Bool) → leb j p ≡ b → Was j
      go true a b q = before (ltb-true j p a) (before-spot t c r p below enough j (ltb-true j p a))
      go false a true b = itself (omega (arith, ltb-false j p a, leb-true j p b))
      go false a false b =
          let l = leb-false j p b in
          let e : j ≡ suc (j - 1) = omega arith in
          behind (j - 1) e (omega arith) (omega arith)
          (ap (record_at z) e ∙ behind-spot t c r p below enough (j - 1) (omega arith) (omega arith))

  apart_of : (i j : ℕ) → i < j → Was i → Was j → j < suc c → Apart (span_of (length s) (record_at z i)) (span_of (length s) (record_at z j))
  apart_of i j h (before a e) (before b d) g = rw (e, d) ((copy-rows w).apart i j h (omega (arith, below)))
  apart_of i j h (before a e) (itself b) g =
      rw (e, b, at_new) (apart-new (length s) r k fits (span_of (length s) (record_at t i)) (under i (omega (arith, below))))
  apart_of i j h (before a e) (behind m b l q d) g = rw (e, d) ((copy-rows w).apart i m (omega arith) q)
  apart_of i j h (itself a) (before b d) g = absurd (omega arith)
  apart_of i j h (itself a) (itself b) g = absurd (omega arith)
  apart_of i j h (itself a) (behind m b l q d) g =
      rw (a, d, at_new)
      (apart-back (span_of (length s) (record_at t m)) (span_of (length s) r) (apart-new (length s) r k fits (span_of (length s) (record_at t m)) (under m q)))
  apart_of i j h (behind m a l q e) (before b d) g = absurd (omega arith)
  apart_of i j h (behind m a l q e) (itself b) g = absurd (omega arith)
  apart_of i j h (behind m a l q e) (behind o b x y d) g = rw (e, d) ((copy-rows w).apart m o (omega arith) y)

  key-of : (j : ℕ) → Was j → j < suc c → (record_at z j).key ≡ no_key
  key-of j (before a e) g = ap (λ (q : Record). q.key) e ∙ (copy-rows w).keys j (omega (arith, below))
  key-of j (itself a) g = rw a (ap (λ (q : Record). q.key) at_new ∙ key)
  key-of j (behind m a l q e) g = ap (λ (q : Record). q.key) e ∙ (copy-rows w).keys m q

  pub inserted-rows : room (inserted t c r (spot c t r.tag)) ≡ room t
  inserted-rows =
      ap room (stored t c r p below enough)
      ∙ ap (λ (y : ℕ). y / record_words) (length-sets t (record_words * p) (words r ++ part t (record_words * p) (record_words * c)))

  pub inserted-copy : Copy s (inserted t c r (spot c t r.tag)) (suc c)
  inserted-copy =
      let f = checked-fine message_limit s t c w.fine in
      let o : suc c ≤ room z = omega (arith, inserted-rows) in
      record {
        fine = checked-tests message_limit s z (suc c) f.0 o ∙ stays-good (length s) t c r f.1.fine new-good enough;
        over = apart-over (suc c) (span_in (length s) z (suc c)) (λ i j h g. spans i j h g (apart_of i j h (was i (omega arith)) (was j g) g));
        keyed = none-keyed (suc c) z (λ i l. ap (λ (q : Record). q.key) (record-there z i (omega arith)) ∙ key-of i (was i l) l);
      }
    where
      spans : (i j : ℕ) → i < j → j < suc c → Apart (span_of (length s) (record_at z i)) (span_of (length s) (record_at z j))
          → Apart (span_in (length s) z (suc c) i) (span_in (length s) z (suc c) j)
      spans i j h g a =
          let m : suc c ≤ room z = omega (arith, inserted-rows) in
          let x = span-row (length s) z (suc c) (suc c) i m (omega arith) (λ e. omega arith) in
          let y = span-row (length s) z (suc c) (suc c) j m g (λ e. omega arith) in
          rw (x, y) a

  low-tags : (m i : ℕ) → i + m ≤ p → Low r.tag (items s (fields_from m t i))
  low-tags zero i h = tt
  low-tags (suc m) i h =
      (lower-before c (length s) t r.tag (checked-fine message_limit s t c w.fine).1.fine i (omega arith), low-tags m (suc i) (omega arith))

  high-tags : (m : ℕ) → p + m ≡ c → High r.tag (items s (fields_from m t p))
  high-tags zero h = tt
  high-tags (suc m) h = higher-behind c t r.tag p (omega arith) (omega arith)

  pub inserted-list : listed s (inserted t c r (spot c t r.tag)) (suc c)
      ≡ among (payload r.tag (take r.length (drop r.value s))) (listed s t c)
  inserted-list =
      let i : item_of s (field_in r) ≡ payload r.tag (take r.length (drop r.value s)) = rw k in
      let a = items s (fields_from p t 0) in
      let b = items s (fields_from (c - p) t p) in
      let n : p + (c - p) ≡ c = omega (arith, below) in
      let y : p + 0 ≡ p = omega arith in
      ap (items s) (inserted-fields t c r p below enough)
      ∙ items-join s (fields_from p t 0) (field_in r ∷ fields_from (c - p) t p)
      ∙ ap (λ (q : Item). a ++ q ∷ b) i
      ∙ sym (among_there (payload r.tag (take r.length (drop r.value s))) a b (low-tags p 0 (omega arith)) (high-tags (c - p) n))
      ∙ ap (among (payload r.tag (take r.length (drop r.value s))))
      (sym (ap (λ (q : ℕ). items s (fields_from q t 0)) (sym n) ∙ items-split s t p (c - p) 0
      ∙ ap (λ (q : ℕ). a ++ items s (fields_from (c - p) t q)) y))

-- ---- THE LIVE BYTES ARE THE LIST'S

load_of : (s : List ℕ) (k v l : ℕ) → (k ≡ 1 → ⊥) → load (shown s (value_of k v l)) ≡ 0
load_of s zero v l o = refl
load_of s (suc zero) v l o = absurd (o refl)
load_of s (suc (suc zero)) v l o = refl
load_of s (suc (suc (suc k))) v l o = refl

load-payload : (s : List ℕ) (r : Record) → r.kind ≡ 1 → load (item_of s (field_in r)).content ≡ length (take r.length (drop r.value s))
load-payload s r k = rw k

module _ {s t : List ℕ} {c : ℕ} (w : Copy s t c) where
  -- a record's bytes, in the room and in the list
  load_at : (i : ℕ) → i < c → (span_of (length s) (record_at t i)).len ≡ load (item_at s t i).content
  load_at i h = go (kinds-of (length s) (record_at t i) ((copy-rows w).fine i h))
    where
      go : Kinds (length s) (record_at t i) → (span_of (length s) (record_at t i)).len ≡ load (item_at s t i).content
      go (other o) =
          ap (λ (a : Span). a.len) (span-other (length s) (record_at t i) o)
          ∙ sym (load_of s (record_at t i).kind (record_at t i).value (record_at t i).length o)
      go (empty k l) =
          ap (λ (a : Span). a.len) (span-empty (length s) (record_at t i) k l)
          ∙ sym (load-payload s (record_at t i) k ∙ rw l)
      go (live x) =
          ap (λ (a : Span). a.len) x.span
          ∙ sym (load-payload s (record_at t i) x.payload ∙ length_part s (record_at t i).value (record_at t i).length x.inside)

  loads-snoc : (m : ℕ) → m < c → loads (items s (fields_from (suc m) t 0)) ≡ loads (items s (fields_from m t 0)) + load (item_at s t m).content
  loads-snoc m h =
      let n : m + 1 ≡ suc m = omega arith in
      let z : m + 0 ≡ m = omega arith in
      ap (λ (x : ℕ). loads (items s (fields_from x t 0))) (sym n)
      ∙ ap loads (items-split s t m 1 0)
      ∙ loads-join (items s (fields_from m t 0)) (items s (fields_from 1 t (m + 0)))
      ∙ ap (λ (x : ℕ). loads (items s (fields_from m t 0)) + loads (items s (fields_from 1 t x))) z
      ∙ omega arith

  -- up to an index, none left out
  up_to : (k m : ℕ) → m ≤ k → m ≤ c → total m (span_in (length s) t k) ≡ loads (items s (fields_from m t 0))
  up_to k zero h g = refl
  up_to k (suc m) h g =
      let a = up_to k m (omega arith) (omega arith) in
      let b = ap (λ (x : Span). x.len) (span-row (length s) t c k m (rows-there w) (omega arith) (λ e. omega arith)) in
      omega (arith, a, b, load_at m (omega arith), loads-snoc m (omega arith))

  pub total-all : total c (span_in (length s) t c) ≡ loads (listed s t c)
  total-all = up_to c c (omega arith) (omega arith)

  -- past the one left out
  past : (k m : ℕ) → k < c → suc k + m ≤ c
      → total (suc k + m) (span_in (length s) t k) + load (item_at s t k).content ≡ loads (items s (fields_from (suc k + m) t 0))
  past k zero h g =
      let e : suc k + 0 ≡ suc k = omega arith in
      let a = up_to k k (omega arith) (omega arith) in
      let b = ap (λ (x : Span). x.len) (span-skip (length s) t k k refl) in
      rw e (omega (arith, a, b, loads-snoc k h))
  past k (suc m) h g =
      let e : suc k + suc m ≡ suc (suc k + m) = omega arith in
      let a = past k m h (omega arith) in
      let b = ap (λ (x : Span). x.len) (span-row (length s) t c k (suc k + m) (rows-there w) (omega arith) (λ z. omega arith)) in
      rw e (omega (arith, a, b, load_at (suc k + m) (omega arith), loads-snoc (suc k + m) (omega arith)))

  pub total-without : (i : ℕ) → i < c → total c (span_in (length s) t i) ≡ loads (without i (listed s t c))
  total-without i h =
      let n : suc i + (c - suc i) ≡ c = omega arith in
      let a = past i (c - suc i) h (omega arith) in
      let b : total c (span_in (length s) t i) + load (item_at s t i).content ≡ loads (listed s t c) = rw n at a in
      let y = items s (fields_from i t 0) in
      let z = items s (fields_from (c - suc i) t (suc i)) in
      let d = ap loads (listed_at w i h) ∙ loads-join y (item_at s t i ∷ z) in
      let e : without i (listed s t c) ≡ y ++ z =
      ap (without i) (listed_at w i h) ∙ ap (λ (x : ℕ). without x (y ++ item_at s t i ∷ z)) (sym (items-length s t i 0)) ∙ without-there y (item_at s t i) z in
      let f = ap loads e ∙ loads-join y z in
      omega (arith, b, d, f)

  -- and they are no more than the room
  pub total-fits : (k : ℕ) → total c (span_in (length s) t k) ≤ length s
  total-fits k = let y = neat c k s t (skip-apart w k) in omega (arith, y.whole, y.low)
