-- A working copy and a plain list (rule H10): by the definitions that the contracts cite, an edit leaves a working copy, and the list that it stands for is the
-- plain one with the same edit.
use Rattle.std.specs.Prelude.{ℕ, zero, suc, ◌+◌, ◌-◌, ◌^◌, ◌≤◌, ◌<◌, ◌≡◌, refl, Bool, true, false, List, ◌∷◌, ◌++◌, leb, ltb, eqb, length}
use Rattle.std.proofs.Common.{ap, ◌∙◌, sym, subst, arith, leb-true, leb-false, ltb-true, ltb-false, le-leb, eqb-true, eq-eqb, ne_eqb}
use Rattle.std.proofs.lemmas.Bool.{lt-leb, eqb-false}
use Rattle.wire.specs.Limits.{message_limit}
use Rattle.wire.specs.Written.{Item}
use Rattle.wire.specs.Places.{shown, items}
use Rattle.wire.specs.Table.{room, stamped, record_at, value_of, fields_from, good, head-above}
use Rattle.write_record.specs.Taken.{record_in, record-there}
use Rattle.write_record.specs.Records.{AllFine}
use Rattle.write_insertion.specs.Insertion.{Insertion, spot, inserted}
use Rattle.write_insertion.specs.InsertionLaws.{aim-bad, aim-puts, inserts-refuses, inserts-puts}
use Rattle.edit_live.specs.Spans.{end, span_of, span_in, total}
use Rattle.edit.specs.Edits.{Edit, insertable, Laid, laid, remove_record, replace_payload, new_payload, insert_payload}
use Rattle.edit.proofs.EditLaws.{index-past, index-fine, replace-first, replace-other, replace-full, replace-fine, insert-full, insert-rows, insert-fine}
use Rattle.edit.specs.EditLaws.{remove_first, remove-done, replace-refused, replace-done, insert-refused, insert-done}
use Rattle.wire.specs.declared.Record.{Record}
use Rattle.wire.specs.declared.Refusal.TheVariants.{NoRoom, BadRecord}
use Rattle.wire.specs.declared.Inserted.{Inserted}
use Rattle.wire.specs.declared.Inserted.TheVariants.{Count, Refused}
use Rattle.demands_edit.specs.Plain.{Remove, Replace, Insert, payload, without, among, is_payload, payload_at, loads, edited}
use Rattle.demands_edit.specs.Plain.{without-past, payload-there, payload-past}
use Rattle.demands_edit.specs.Copies.{Copy, copy-vetted, rows-there, listed, item_at, items-length}
use Rattle.demands_edit.specs.Keeping.{Lays, laid-over}
use Rattle.demands_edit.specs.Edited.{removed-copy, removed-list, listed_at, replaced-copy, replaced-list, over-copy, over-list, new-good, inserted-copy}
use Rattle.demands_edit.specs.Edited.{inserted-list}
use Rattle.demands_edit.specs.Edited.{total-all, total-without, total-fits, removed-rows, replaced-rows, inserted-rows}

-- ---- A STATE: a room, a table, a count

pub record State : Type 0 where
  pub bytes : List ℕ
  pub table : List ℕ
  pub count : ℕ

-- the list that it stands for
abbrev pub list : State → List Item
list a = listed a.bytes a.table a.count

-- the count that is left
abbrev pub counted : ℕ → Inserted → ℕ
counted c (Count n) = n
counted c (Refused why i) = c

-- the state that an answer leaves
abbrev pub after : ℕ → Edit → State
after c e = record { bytes = e.room; table = e.table; count = counted c e.answer }

-- it is a working copy of the same room and the same table, for this list
pub record Keeps (n m : ℕ) (a : State) (xs : List Item) : Type 0 where
  pub copy : Copy a.bytes a.table a.count
  pub list : listed a.bytes a.table a.count ≡ xs
  pub size : length a.bytes ≡ n
  pub rows : room a.table ≡ m

-- ---- BY THE DEFINITIONS

-- a record whose tag is above all is not good
bad-new : (n : ℕ) (r : Record) → 2 ^ 32 ≤ r.tag → good n r ≡ false
unfolding good
bad-new n r h = rw (head-above n r.tag r.key h)

module _ {s t : List ℕ} {c : ℕ} (w : Copy s t c) where
  abbrev n : ℕ
  n = length s

  abbrev m : ℕ
  m = room t

  abbrev xs : List Item
  xs = listed s t c

  as_it_was : Keeps (length s) (room t) (record { bytes = s; table = t; count = c }) (listed s t c)
  as_it_was = record { copy = w; list = refl; size = refl; rows = refl }

  long : length (listed s t c) ≡ c
  long = items-length s t c 0

  -- removed
  abbrev taken : Insertion → Edit
  taken o = record { answer = o.answer; room = s; table = o.table }

  pub remove-keeps : (i : ℕ) → Keeps (length s) (room t) (after c (taken (remove_record s t c i))) (edited (length s) (room t) (Remove i) (listed s t c))
  remove-keeps i = go (ltb i c) refl
    where
      go : (b : Bool) → ltb i c ≡ b → Keeps (length s) (room t) (after c (taken (remove_record s t c i))) (without i (listed s t c))
      go true b =
          let h = ltb-true i c b in
          rw (← remove-done s t c i (index-fine s t c i (copy-vetted w) h) refl)
          (record { copy = removed-copy w i h; list = removed-list w i h; size = refl; rows = removed-rows w i h })
      go false b =
          let h = ltb-false i c b in
          rw (← remove_first s t c i BadRecord i (index-past s t c i (copy-vetted w) h), without-past i (listed s t c) (omega (arith, long))) as_it_was

  -- replaced
  kind-is : (k v l : ℕ) → is_payload (shown s (value_of k v l)) ≡ eqb k 1
  kind-is zero v l = refl
  kind-is (suc zero) v l = refl
  kind-is (suc (suc zero)) v l = refl
  kind-is (suc (suc (suc k))) v l = sym (ne_eqb (suc (suc (suc k))) 1 (λ e. omega arith))

  payload-is : (i : ℕ) → i < c → payload_at i (listed s t c) ≡ eqb (record_at t i).kind 1
  payload-is i h =
      let ys = items s (fields_from i t 0) in
      let zs = items s (fields_from (c - suc i) t (suc i)) in
      ap (payload_at i) (listed_at w i h)
      ∙ ap (λ (x : ℕ). payload_at x (ys ++ item_at s t i ∷ zs)) (sym (items-length s t i 0))
      ∙ payload-there ys (item_at s t i) zs
      ∙ kind-is (record_at t i).kind (record_at t i).value (record_at t i).length

  pub replace-keeps : (i : ℕ) (b : List ℕ)
      → Keeps (length s) (room t) (after c (replace_payload s t c i b)) (edited (length s) (room t) (Replace i b) (listed s t c))
  replace-keeps i b = go (ltb i c) refl
    where
      full : (h : i < c) → (record_at t i).kind ≡ 1 → length s < loads (without i (listed s t c)) + length b
          → Keeps (length s) (room t) (after c (replace_payload s t c i b)) (edited (length s) (room t) (Replace i b) (listed s t c))
      full h k g =
          let q : (record_in t i).kind ≡ 1 = ap (λ (r : Record). r.kind) (record-there t i (omega (arith, rows-there w))) ∙ k in
          let e = replace-full s t c i (length b) (index-fine s t c i (copy-vetted w) h) q (omega (arith, total-without w i h, total-fits w i)) in
          rw (
            ← replace-refused s t c i b NoRoom 0 e,
            payload-is i h,
            eq-eqb (record_at t i).kind 1 k,
            lt-leb (loads (without i (listed s t c)) + length b) (length s) g,
          )
          as_it_was

      done : (h : i < c) → (record_at t i).kind ≡ 1 → loads (without i (listed s t c)) + length b ≤ length s
          → Keeps (length s) (room t) (after c (replace_payload s t c i b)) (edited (length s) (room t) (Replace i b) (listed s t c))
      done h k g =
          let q : (record_in t i).kind ≡ 1 = ap (λ (r : Record). r.kind) (record-there t i (omega (arith, rows-there w))) ∙ k in
          let l : length b ≤ length s - total c (span_in (length s) t i) = omega (arith, total-without w i h, total-fits w i) in
          let e = replace-fine s t c i (length b) (index-fine s t c i (copy-vetted w) h) q l in
          let x = laid-over w i b l in
          rw (
            ← replace-done s t c i b e refl refl,
            payload-is i h,
            eq-eqb (record_at t i).kind 1 k,
            le-leb (loads (without i (listed s t c)) + length b) (length s) g,
          )
          (record { copy = replaced-copy w i h k b x; list = replaced-list w i h k b x; size = x.over.size; rows = replaced-rows w i h k b x })

      go : (a : Bool) → ltb i c ≡ a
          → Keeps (length s) (room t) (after c (replace_payload s t c i b)) (edited (length s) (room t) (Replace i b) (listed s t c))
      go false a =
          let h = ltb-false i c a in
          let e = replace-first s t c i (length b) BadRecord i (index-past s t c i (copy-vetted w) h) in
          rw (← replace-refused s t c i b BadRecord i e, payload-past i (listed s t c) (omega (arith, long))) as_it_was
      go true a = kind (eqb (record_at t i).kind 1) refl
        where
          h : i < c
          h = ltb-true i c a

          kind : (d : Bool) → eqb (record_at t i).kind 1 ≡ d
              → Keeps (length s) (room t) (after c (replace_payload s t c i b)) (edited (length s) (room t) (Replace i b) (listed s t c))
          kind false d =
              let o : (record_in t i).kind ≡ 1 → ⊥ =
              λ z. eqb-false (record_at t i).kind 1 d (ap (λ (r : Record). r.kind) (sym (record-there t i (omega (arith, rows-there w, h)))) ∙ z) in
              let e = replace-other s t c i (length b) (index-fine s t c i (copy-vetted w) h) o in
              rw (← replace-refused s t c i b BadRecord i e, payload-is i h, d) as_it_was
          kind true d = fit (leb (loads (without i (listed s t c)) + length b) (length s)) refl
            where
              fit : (f : Bool) → leb (loads (without i (listed s t c)) + length b) (length s) ≡ f
                  → Keeps (length s) (room t) (after c (replace_payload s t c i b)) (edited (length s) (room t) (Replace i b) (listed s t c))
              fit true f = done h (eqb-true (record_at t i).kind 1 d) (leb-true (loads (without i (listed s t c)) + length b) (length s) f)
              fit false f = full h (eqb-true (record_at t i).kind 1 d) (leb-false (loads (without i (listed s t c)) + length b) (length s) f)

  -- inserted
  module _ (tag : ℕ) (b : List ℕ) (f : length b ≤ length s - total c (span_in (length s) t c)) (h : c < room t) where
    abbrev l : Laid
    l = laid c c s t b

    abbrev r : Record
    r = stamped (new_payload tag l.start (length b))

    x : Lays w c b l
    x = laid-over w c b f

    v : Copy l.room l.table c
    v = over-copy w x.over

    fits : l.start + length b ≤ length l.room
    fits = omega (arith, x.fits, x.over.size)

    more : c < room l.table
    more = omega (arith, x.over.rows)

    under : (j : ℕ) → j < c → end (span_of (length l.room) (record_at l.table j)) ≤ l.start
    under j y = rw x.over.size (x.over.stays j y (λ k. omega arith)).under

    taken_in : insertable s t c (length b) ≡ AllFine
    taken_in = insert-fine s t c (length b) (copy-vetted w) f h

    pub insert-outcome : tag < 2 ^ 32
        → insert_payload s t c tag b ≡ record { answer = Count (c + 1); room = l.room; table = inserted l.table c r (spot c l.table tag) }
    insert-outcome small =
        sym (insert-done s t c tag b taken_in refl
        (inserts-puts l.table c r (spot c l.table tag)
        (aim-puts message_limit l.room l.table c r v.fine (new-good v r refl fits small refl under more) (λ k. omega (arith, more))) refl))

    -- a tag above 32 bits, which no caller can give
    pub insert-bad-tag : 2 ^ 32 ≤ tag → insert_payload s t c tag b ≡ record { answer = Refused BadRecord c; room = l.room; table = l.table }
    insert-bad-tag big =
        sym (insert-done s t c tag b taken_in refl
        (inserts-refuses l.table c r BadRecord c (aim-bad message_limit l.room l.table c r v.fine (bad-new (length l.room) r big))))

    put_keeps : tag < 2 ^ 32 → Keeps (length s) (room t) (after c (insert_payload s t c tag b)) (among (payload tag b) (listed s t c))
    put_keeps small =
        let n : suc c ≡ c + 1 = omega arith in
        let z = inserted l.table c r (spot c l.table tag) in
        rw (insert-outcome small)
        (record {
          copy = subst (λ (k : ℕ). Copy l.room z k) n (inserted-copy v r refl fits small refl under more);
          list =
              ap (λ (k : ℕ). listed l.room z k) (sym n) ∙ inserted-list v r refl fits small refl under more ∙ rw (x.there, over-list w x.over);
          size = x.over.size;
          rows = inserted-rows v r refl fits small refl under more ∙ x.over.rows;
        })

  pub insert-keeps : (tag : ℕ) (b : List ℕ) → tag < 2 ^ 32
      → Keeps (length s) (room t) (after c (insert_payload s t c tag b)) (edited (length s) (room t) (Insert tag b) (listed s t c))
  insert-keeps tag b small = go (leb (loads (listed s t c) + length b) (length s)) refl (ltb c (room t)) refl
    where
      go : (a : Bool) → leb (loads (listed s t c) + length b) (length s) ≡ a → (d : Bool) → ltb c (room t) ≡ d
          → Keeps (length s) (room t) (after c (insert_payload s t c tag b)) (edited (length s) (room t) (Insert tag b) (listed s t c))
      go false a d q =
          let g = leb-false (loads (listed s t c) + length b) (length s) a in
          let e = insert-full s t c (length b) (copy-vetted w) (omega (arith, total-all w, total-fits w c)) in
          rw (← insert-refused s t c tag b NoRoom 0 e, a) as_it_was
      go true a false d =
          let g = leb-true (loads (listed s t c) + length b) (length s) a in
          let e = insert-rows s t c (length b) (copy-vetted w) (omega (arith, total-all w, total-fits w c)) (ltb-false c (room t) d) in
          rw (← insert-refused s t c tag b NoRoom 0 e, a, long, d) as_it_was
      go true a true d =
          let g = leb-true (loads (listed s t c) + length b) (length s) a in
          let h = ltb-true c (room t) d in
          let f : length b ≤ length s - total c (span_in (length s) t c) = omega (arith, total-all w, total-fits w c) in
          rw (a, long, d) (put_keeps tag b f h small)
