-- Edits of a working copy: a table over one lent room. The order of the refusals, what each carries, and what is left.
use Rattle.std.specs.Prelude.{ℕ, suc, ◌+◌, ◌-◌, ◌*◌, Bool, true, false, List, [], ◌∷◌, ◌++◌, ltb, leb, eqb, length, take, drop}
use Rattle.std.proofs.lemmas.List.Edits.{sets}
use Rattle.wire.specs.Choose.{choose}
use Rattle.wire.specs.Limits.{message_limit, record_words}
use Rattle.wire.specs.Places.{part}
use Rattle.wire.specs.Table.{room, stamped}
use Rattle.place.specs.Place.{put_at}
use Rattle.write_record.specs.Taken.{record_in}
use Rattle.write_record.specs.Records.{Verdict, AllFine, First, checked}
use Rattle.write_insertion.specs.Insertion.{Insertion, aim, inserts}
use Rattle.edit_live.specs.Spans.{span_in, first_overlap, last_end, total, first_keyed}
use Rattle.edit_pack.specs.Packing.{Packed, packed}
use Rattle.wire.specs.declared.NewRecord.{NewRecord}
use Rattle.wire.specs.declared.Refusal.TheVariants.{NoRoom, BadRecord}
use Rattle.wire.specs.declared.Inserted.{Inserted}
use Rattle.wire.specs.declared.Inserted.TheVariants.{Count, Refused}

-- what is answered and left
pub record Edit : Type 0 where
  pub answer : Inserted
  pub room : List ℕ
  pub table : List ℕ

-- ---- Rule H9: the order of the tests, each behind the last

-- a test at an index
abbrev pub and_at : Verdict → Bool → ℕ → Verdict
and_at AllFine true i = AllFine
and_at AllFine false i = First BadRecord i
and_at (First why j) b i = First why j

-- the room
abbrev pub and_room : Verdict → Bool → Verdict
and_room AllFine true = AllFine
and_room AllFine false = First NoRoom 0
and_room (First why j) b = First why j

-- of every edit: the tests of the writers; no overlap; no key word but all ones
unfoldable pub vetted : List ℕ → List ℕ → ℕ → Verdict
vetted s t c =
    and_at
    (and_at (checked message_limit s t c) (leb c (first_overlap c (span_in (length s) t c))) (first_overlap c (span_in (length s) t c)))
    (leb c (first_keyed c t))
    (first_keyed c t)

-- what is said of a verdict: the count, or the refusal
abbrev pub vet_told : ℕ → Verdict → Inserted
vet_told c AllFine = Count c
vet_told c (First why i) = Refused why i

-- the index
unfoldable pub at_index : List ℕ → List ℕ → ℕ → ℕ → Verdict
at_index s t c i = and_at (vetted s t c) (ltb i c) i

-- so many bytes beside all live ones but those of record k
abbrev pub fitting : List ℕ → List ℕ → ℕ → ℕ → ℕ → Bool
fitting s t c k n = leb n (length s - total c (span_in (length s) t k))

unfoldable pub replaceable : List ℕ → List ℕ → ℕ → ℕ → ℕ → Verdict
replaceable s t c i n = and_room (and_at (at_index s t c i) (eqb (record_in t i).kind 1) i) (fitting s t c i n)

unfoldable pub insertable : List ℕ → List ℕ → ℕ → ℕ → Verdict
insertable s t c n = and_room (and_room (vetted s t c) (fitting s t c c n)) (ltb c (room t))

-- ---- Rule H4: where new bytes go

pub record Laid : Type 0 where
  pub start : ℕ
  pub room : List ℕ
  pub table : List ℕ

abbrev pub laid_behind : Packed → List ℕ → Laid
laid_behind p b = record { start = p.total; room = (put_at p.room p.total b).buf; table = p.table }

-- behind the last payload, or, once all are packed, behind them
unfoldable pub laid : ℕ → ℕ → List ℕ → List ℕ → List ℕ → Laid
laid c k s t b =
    choose (leb (last_end c (span_in (length s) t k) + length b) (length s))
    (record {
      start = last_end c (span_in (length s) t k);
      room = sets s (last_end c (span_in (length s) t k)) b;
      table = t;
    })
    (laid_behind (packed c k s t) b)

-- ---- what is left

-- Rule H6: a record taken out, those behind it moved down one, and every word from the last one's place on as it was
abbrev pub removed : List ℕ → ℕ → ℕ → List ℕ
removed t c i =
    take (record_words * i) t ++ part t (record_words * suc i) (record_words * c) ++ drop (record_words * (c - 1)) t

abbrev pub removes : List ℕ → ℕ → ℕ → Verdict → Insertion
removes t c i AllFine = record { answer = Count (c - 1); table = removed t c i }
removes t c i (First why j) = record { answer = Refused why j; table = t }

unfoldable pub remove_record : List ℕ → List ℕ → ℕ → ℕ → Insertion
remove_record s t c i = removes t c i (at_index s t c i)

-- Rule H7: the new start and the new length of a record
abbrev pub replaced_in : ℕ → ℕ → ℕ → Laid → Edit
replaced_in c i n l = record { answer = Count c; room = l.room; table = sets l.table (record_words * i + 2) (l.start ∷ n ∷ []) }

abbrev pub replaces : List ℕ → List ℕ → ℕ → ℕ → List ℕ → Verdict → Edit
replaces s t c i b AllFine = replaced_in c i (length b) (laid c i s t b)
replaces s t c i b (First why j) = record { answer = Refused why j; room = s; table = t }

unfoldable pub replace_payload : List ℕ → List ℕ → ℕ → ℕ → List ℕ → Edit
replace_payload s t c i b = replaces s t c i b (replaceable s t c i (length b))

-- Rule H8: a new record, as insertion puts it
abbrev pub new_payload : ℕ → ℕ → ℕ → NewRecord
new_payload tag start n = record { tag = tag; kind = 1; value = start; length = n }

abbrev pub inserted_of : List ℕ → Insertion → Edit
inserted_of s o = record { answer = o.answer; room = s; table = o.table }

abbrev pub inserted_in : ℕ → ℕ → ℕ → Laid → Edit
inserted_in c tag n l =
    inserted_of l.room
    (inserts l.table c (stamped (new_payload tag l.start n)) (aim message_limit l.room l.table c (stamped (new_payload tag l.start n))))

abbrev pub inserts_new : List ℕ → List ℕ → ℕ → ℕ → List ℕ → Verdict → Edit
inserts_new s t c tag b AllFine = inserted_in c tag (length b) (laid c c s t b)
inserts_new s t c tag b (First why j) = record { answer = Refused why j; room = s; table = t }

unfoldable pub insert_payload : List ℕ → List ℕ → ℕ → ℕ → List ℕ → Edit
insert_payload s t c tag b = inserts_new s t c tag b (insertable s t c (length b))
