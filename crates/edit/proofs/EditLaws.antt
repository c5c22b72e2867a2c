-- The cases of the tests of an edit, and of what is left.
use Rattle.std.specs.Prelude.{ℕ, zero, suc, ◌+◌, ◌-◌, ◌*◌, ◌≤◌, ◌<◌, ◌≡◌, Bool, List, [], ◌∷◌, ◌++◌, leb, take, drop}
use Rattle.std.proofs.Math.Path.{refl, ap}
use Rattle.std.proofs.Common.{◌∙◌, sym, arith}
use Rattle.std.proofs.Math.Bool.{true, false}
use borrow.Author.Tests.{le-leb, lt-leb, lt-ltb, le-ltb, leb-true, leb-false, ltb-true, ltb-false, eq-eqb, ne_eqb}
use Rattle.std.proofs.Math.Dec.{ltb}
use Rattle.std.proofs.Math.ListN.{length}
use Rattle.std.proofs.lemmas.List.Edits.{sets, sets-eq}
use Rattle.std.proofs.Math.Seq.{take-length}
use Rattle.wire.specs.Limits.{message_limit, record_words}
use Rattle.wire.specs.Table.{room, stamped}
use Rattle.wire.specs.Places.{part}
use Rattle.place.specs.Place.{Placed, put_at, put_part, put-roomy, part-inside, length_part}
use Rattle.write_record.specs.Taken.{record_in}
use Rattle.write_record.specs.Records.{Verdict, AllFine, First, checked}
use Rattle.write_message.specs.WritingLaws.{no-fine, checked-fine}
use Rattle.write_insertion.specs.Insertion.{Insertion, aim, inserts}
use Rattle.edit_live.specs.Spans.{span_in, first_overlap, first_keyed, last_end, total}
use Rattle.edit_live.specs.SpanLaws.{span-inside}
use Rattle.edit_pack.specs.Packing.{Packed, packed}
use Rattle.edit_pack.specs.PackTable.{packed-rows}
use Rattle.edit.specs.Edits.{vetted, vet_told, at_index, replaceable, insertable, Laid, laid, removed, remove_record}
use Rattle.edit.specs.Edits.{replace_payload, new_payload, insert_payload}
use Rattle.wire.specs.declared.Refusal.{Refusal}
use Rattle.wire.specs.declared.Refusal.TheVariants.{NoRoom, BadRecord}
use Rattle.wire.specs.declared.Inserted.{Inserted}
use Rattle.wire.specs.declared.Inserted.TheVariants.{Count, Refused}

module _ (s t : List ℕ) (c : ℕ) where
  pub vet-first : (why : Refusal) (i : ℕ) → checked message_limit s t c ≡ First why i → vetted s t c ≡ First why i
  unfolding vetted
  vet-first why i e = rw e

  module _ (f : checked message_limit s t c ≡ AllFine) {o : ℕ} (e : o ≡ first_overlap c (span_in (length s) t c)) where
    pub vet-over : o < c → vetted s t c ≡ First BadRecord o
    unfolding vetted
    vet-over h = rw (f, ← e, lt-leb c o h)

    pub vet-keyed : {k : ℕ} → c ≤ o → k ≡ first_keyed c t → k < c → vetted s t c ≡ First BadRecord k
    unfolding vetted
    vet-keyed {k} h d g = rw (f, ← e, le-leb c o h, ← d, lt-leb c k g)

    pub vet-fine : {k : ℕ} → c ≤ o → k ≡ first_keyed c t → c ≤ k → vetted s t c ≡ AllFine
    unfolding vetted
    vet-fine {k} h d g = rw (f, ← e, le-leb c o h, ← d, le-leb c k g)

  -- no test refused: the count is inside the table
  pub vetted-count : vetted s t c ≡ AllFine → c ≤ room t
  unfolding vetted
  vetted-count e = go (checked message_limit s t c) refl
    where
      go : (v : Verdict) → checked message_limit s t c ≡ v → c ≤ room t
      go AllFine v = (checked-fine message_limit s t c v).1.count
      go (First why i) v = no-fine (sym (vet-first why i v) ∙ e)

  -- ---- then the index

  module _ (i : ℕ) where
    pub index-first : (why : Refusal) (j : ℕ) → vetted s t c ≡ First why j → at_index s t c i ≡ First why j
    unfolding at_index
    index-first why j e = rw e

    pub index-past : vetted s t c ≡ AllFine → c ≤ i → at_index s t c i ≡ First BadRecord i
    unfolding at_index
    index-past e h = rw (e, le-ltb i c h)

    pub index-fine : vetted s t c ≡ AllFine → i < c → at_index s t c i ≡ AllFine
    unfolding at_index
    index-fine e h = rw (e, lt-ltb i c h)

    -- ---- then the type, then the room

    module _ (n : ℕ) where
      pub replace-first : (why : Refusal) (j : ℕ) → at_index s t c i ≡ First why j → replaceable s t c i n ≡ First why j
      unfolding replaceable
      replace-first why j e = rw e

      pub replace-other : at_index s t c i ≡ AllFine → ((record_in t i).kind ≡ 1 → ⊥) → replaceable s t c i n ≡ First BadRecord i
      unfolding replaceable
      replace-other e h = rw (e, ne_eqb (record_in t i).kind 1 h)

      module _ (e : at_index s t c i ≡ AllFine) (h : (record_in t i).kind ≡ 1) where
        pub replace-full : length s - total c (span_in (length s) t i) < n → replaceable s t c i n ≡ First NoRoom 0
        unfolding replaceable
        replace-full g = rw (e, eq-eqb (record_in t i).kind 1 h, lt-leb n (length s - total c (span_in (length s) t i)) g)

        pub replace-fine : n ≤ length s - total c (span_in (length s) t i) → replaceable s t c i n ≡ AllFine
        unfolding replaceable
        replace-fine g = rw (e, eq-eqb (record_in t i).kind 1 h, le-leb n (length s - total c (span_in (length s) t i)) g)

      -- no test refused: the index is below the count
      pub replaced-index : replaceable s t c i n ≡ AllFine → (i < c) × (c ≤ room t)
      unfolding replaceable at_index
      replaced-index e = go (vetted s t c) refl (ltb i c) refl
        where
          go : (v : Verdict) → vetted s t c ≡ v → (b : Bool) → ltb i c ≡ b → (i < c) × (c ≤ room t)
          go AllFine v true b = (ltb-true i c b, vetted-count v)
          go AllFine v false b = no-fine (sym (replace-first BadRecord i (rw (v, b))) ∙ e)
          go (First why j) v b q = no-fine (sym (replace-first why j (index-first why j v)) ∙ e)

  -- ---- or the room, then the table's

  module _ (n : ℕ) where
    pub insert-first : (why : Refusal) (j : ℕ) → vetted s t c ≡ First why j → insertable s t c n ≡ First why j
    unfolding insertable
    insert-first why j e = rw e

    module _ (e : vetted s t c ≡ AllFine) where
      pub insert-full : length s - total c (span_in (length s) t c) < n → insertable s t c n ≡ First NoRoom 0
      unfolding insertable
      insert-full g = rw (e, lt-leb n (length s - total c (span_in (length s) t c)) g)

      module _ (g : n ≤ length s - total c (span_in (length s) t c)) where
        pub insert-rows : room t ≤ c → insertable s t c n ≡ First NoRoom 0
        unfolding insertable
        insert-rows h = rw (e, le-leb n (length s - total c (span_in (length s) t c)) g, le-ltb c (room t) h)

        pub insert-fine : c < room t → insertable s t c n ≡ AllFine
        unfolding insertable
        insert-fine h = rw (e, le-leb n (length s - total c (span_in (length s) t c)) g, lt-ltb c (room t) h)

    -- no test refused: there is room for all
    pub record Fits : Type 0 where
      pub fine : vetted s t c ≡ AllFine
      pub bytes : n ≤ length s - total c (span_in (length s) t c)
      pub row : c < room t

    pub inserted-fits : insertable s t c n ≡ AllFine → Fits
    inserted-fits e = go (vetted s t c) refl (leb n (length s - total c (span_in (length s) t c))) refl (ltb c (room t)) refl
      where
        go : (v : Verdict) → vetted s t c ≡ v → (a : Bool) → leb n (length s - total c (span_in (length s) t c)) ≡ a → (b : Bool) → ltb c (room t) ≡ b → Fits
        go (First why j) v a p b q = no-fine (sym (insert-first why j v) ∙ e)
        go AllFine v false p b q = no-fine (sym (insert-full v (leb-false n (length s - total c (span_in (length s) t c)) p)) ∙ e)
        go AllFine v true p false q =
            no-fine (sym (insert-rows v (leb-true n (length s - total c (span_in (length s) t c)) p) (ltb-false c (room t) q)) ∙ e)
        go AllFine v true p true q =
            record { fine = v; bytes = leb-true n (length s - total c (span_in (length s) t c)) p; row = ltb-true c (room t) q }
