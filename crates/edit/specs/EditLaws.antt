-- The cases of the tests of an edit, and of what is left.
use Rattle.std.specs.Prelude.{ℕ, zero, suc, ◌+◌, ◌-◌, ◌*◌, ◌≤◌, ◌<◌, ◌≡◌, Bool, List, [], ◌∷◌, ◌++◌, leb, take, drop}
use Rattle.std.proofs.Math.Path.{refl, ap}
use Rattle.std.proofs.Common.{◌∙◌, sym, arith}
use Rattle.std.proofs.Math.Bool.{true, false}
use borrow.Author.Tests.{le-leb, lt-leb, lt-ltb, le-ltb, leb-true, leb-false, ltb-true, ltb-false, eq-eqb, ne_eqb}
use Rattle.std.proofs.Math.Dec.{ltb}
use Rattle.std.proofs.Math.ListN.{length}
use Rattle.std.proofs.lemmas.List.Edits.{sets, sets-eq}
use Rattle.std.proofs.Math.Seq.{take-length}
use Rattle.wire.specs.Limits.{message_limit, record_words}
use Rattle.wire.specs.Table.{room, stamped}
use Rattle.wire.specs.Places.{part}
use Rattle.place.specs.Place.{Placed, put_at, put_part, put-roomy, part-inside, length_part}
use Rattle.write_record.specs.Taken.{record_in}
use Rattle.write_record.specs.Records.{Verdict, AllFine, First, checked}
use Rattle.write_message.specs.WritingLaws.{no-fine, checked-fine}
use Rattle.write_insertion.specs.Insertion.{Insertion, aim, inserts}
use Rattle.edit_live.specs.Spans.{span_in, first_overlap, first_keyed, last_end, total}
use Rattle.edit_live.specs.SpanLaws.{span-inside}
use Rattle.edit_pack.specs.Packing.{Packed, packed}
use Rattle.edit_pack.specs.PackTable.{packed-rows}
use Rattle.edit.specs.Edits.{vetted, vet_told, at_index, replaceable, insertable, Laid, laid, removed, remove_record}
use Rattle.edit.specs.Edits.{replace_payload, new_payload, insert_payload}
use Rattle.wire.specs.declared.Refusal.{Refusal}
use Rattle.wire.specs.declared.Refusal.TheVariants.{NoRoom, BadRecord}
use Rattle.wire.specs.declared.Inserted.{Inserted}
use Rattle.wire.specs.declared.Inserted.TheVariants.{Count, Refused}

-- ---- a verdict and what is said of it

pub told-first : (c : ℕ) {v : Verdict} (why : Refusal) (i : ℕ) → v ≡ First why i → Refused why i ≡ vet_told c v
told-first c why i e = rw e

pub told-fine : (c : ℕ) {v : Verdict} → v ≡ AllFine → Count c ≡ vet_told c v
told-fine c e = rw e

-- back
pub first-told : (c : ℕ) {v : Verdict} {o : Inserted} (why : Refusal) (i : ℕ) → o ≡ vet_told c v → o ≡ Refused why i → v ≡ First why i
first-told c {v} {o} why i e d = go v (sym e ∙ d)
  where
    go : (v : Verdict) → vet_told c v ≡ Refused why i → v ≡ First why i
    go AllFine z = let y : ◌≡◌ {A = ℕ} 0 1 = cc in absurd (omega arith)
    go (First r j) z = let y : r ≡ why = cc in let x : j ≡ i = cc in rw (y, x)

pub fine-told : (c : ℕ) {v : Verdict} {o : Inserted} (n : ℕ) → o ≡ vet_told c v → o ≡ Count n → v ≡ AllFine
fine-told c {v} {o} n e d = go v (sym e ∙ d)
  where
    go : (v : Verdict) → vet_told c v ≡ Count n → v ≡ AllFine
    go AllFine z = refl
    go (First r j) z = let y : ◌≡◌ {A = ℕ} 0 1 = cc in absurd (omega arith)

-- ---- the tests of every edit

-- ---- where new bytes go

module _ (c k : ℕ) (s t b : List ℕ) where
  pub laid-last : {e : ℕ} {u : List ℕ} → e ≡ last_end c (span_in (length s) t k) → e + length b ≤ length s → u ≡ sets s e b
      → record { start = e; room = u; table = t } ≡ laid c k s t b
  unfolding laid
  laid-last {e} {u} d h g = rw (← d, le-leb (e + length b) (length s) h, g)

  pub laid-packed : {e : ℕ} {p : Packed} {u : List ℕ} → e ≡ last_end c (span_in (length s) t k) → length s < e + length b → p ≡ packed c k s t
      → u ≡ (put_at p.room p.total b).buf → record { start = p.total; room = u; table = p.table } ≡ laid c k s t b
  unfolding laid
  laid-packed {e} {p} {u} d h q g = rw (← d, lt-leb (e + length b) (length s) h, ← q, g)

-- the table has as many records as it had
pub laid-rows : (c k : ℕ) (s t b : List ℕ) → room (laid c k s t b).table ≡ room t
unfolding laid
laid-rows c k s t b = go (leb (last_end c (span_in (length s) t k) + length b) (length s)) refl
  where
    go : (a : Bool) → leb (last_end c (span_in (length s) t k) + length b) (length s) ≡ a → room (laid c k s t b).table ≡ room t
    go true a = rw a
    go false a = rw a (packed-rows c k s t)

-- new bytes, all of them, put at a place
pub put_whole : {n : ℕ} {u : List ℕ} (s : List ℕ) (at : ℕ) (b : List ℕ) → ◌≡◌ {A = Placed} (record { next = n; buf = u }) (put_part s at b 0 (length b))
    → u ≡ (put_at s at b).buf
put_whole s at b e =
    let h : 0 + length b ≤ length b = omega arith in
    ap (λ (o : Placed). o.buf) (e ∙ part-inside s at b 0 (length b) h) ∙ ap (λ (l : List ℕ). (put_at s at l).buf) (take-length b)

pub put-fits : (s : List ℕ) (at : ℕ) (b : List ℕ) → at + length b ≤ length s → (put_at s at b).buf ≡ sets s at b
put-fits s at b h = ap (λ (o : Placed). o.buf) (put-roomy s at b h)

-- the last end is inside the room
pub last-inside : (n : ℕ) (t : List ℕ) (k c : ℕ) → last_end c (span_in n t k) ≤ n
last-inside n t k zero = omega arith
last-inside n t k (suc c) = omega (arith, last-inside n t k c, span-inside n t k c)

-- ---- what is left

-- the records behind one moved down
pub removed-is : (t : List ℕ) (c i m : ℕ) → i < c → c ≤ room t → m ≡ record_words * (c - 1 - i)
    → sets t (record_words * i) (take m (drop (record_words * i + record_words) t)) ≡ removed t c i
removed-is t c i m h g e =
    let a : record_words * i + record_words ≡ record_words * suc i = omega arith in
    let b : m ≡ record_words * c - record_words * suc i = omega arith in
    let xs = part t (record_words * suc i) (record_words * c) in
    let n : length xs ≡ record_words * c - record_words * suc i = length_part t (record_words * suc i) (record_words * c - record_words * suc i) (omega arith) in
    let d : record_words * i + length xs ≡ record_words * (c - 1) = omega (arith, n) in
    rw (a, b)
    (sets-eq xs t (record_words * i) (omega (arith, n)) ∙ ap (λ (x : ℕ). take (record_words * i) t ++ xs ++ drop x t) d)

module _ (s t : List ℕ) (c i : ℕ) where
  pub remove_first : (why : Refusal) (j : ℕ) → at_index s t c i ≡ First why j → record { answer = Refused why j; table = t } ≡ remove_record s t c i
  unfolding remove_record
  remove_first why j e = rw e

  pub remove-done : {u : List ℕ} → at_index s t c i ≡ AllFine → u ≡ removed t c i → record { answer = Count (c - 1); table = u } ≡ remove_record s t c i
  unfolding remove_record
  remove-done e d = rw (e, d)

  module _ (b : List ℕ) where
    pub replace-refused : (why : Refusal) (j : ℕ) → replaceable s t c i (length b) ≡ First why j
        → record { answer = Refused why j; room = s; table = t } ≡ replace_payload s t c i b
    unfolding replace_payload
    replace-refused why j e = rw e

    pub replace-done : {l : Laid} {u : List ℕ} → replaceable s t c i (length b) ≡ AllFine → l ≡ laid c i s t b
        → u ≡ sets l.table (record_words * i + 2) (l.start ∷ length b ∷ [])
        → record { answer = Count c; room = l.room; table = u } ≡ replace_payload s t c i b
    unfolding replace_payload
    replace-done {l} e d g = rw (e, ← d, g)

module _ (s t : List ℕ) (c tag : ℕ) (b : List ℕ) where
  pub insert-refused : (why : Refusal) (j : ℕ) → insertable s t c (length b) ≡ First why j
      → record { answer = Refused why j; room = s; table = t } ≡ insert_payload s t c tag b
  unfolding insert_payload
  insert-refused why j e = rw e

  pub insert-done : {l : Laid} {o : Inserted} {u : List ℕ} → insertable s t c (length b) ≡ AllFine → l ≡ laid c c s t b
      → record { answer = o; table = u }
      ≡ inserts l.table c (stamped (new_payload tag l.start (length b)))
      (aim message_limit l.room l.table c (stamped (new_payload tag l.start (length b))))
      → record { answer = o; room = l.room; table = u } ≡ insert_payload s t c tag b
  unfolding insert_payload
  insert-done {l} {o} {u} e d g = ap (λ (x : Insertion). record { answer = x.answer; room = l.room; table = x.table }) g ∙ rw (e, d)
