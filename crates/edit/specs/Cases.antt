-- Rules H1 to H9 by example, computed.
use Rattle.std.specs.Prelude.{ℕ, ◌≡◌, refl, List, [], ◌∷◌, ◌++◌}
use Rattle.wire.specs.Limits.{no_key}
use Rattle.wire.specs.Table.{record_at, good_key, good_head, good_value, good}
use Rattle.place.specs.Place.{put_at}
use Rattle.write_record.specs.Taken.{record_in}
use Rattle.write_record.specs.Records.{Verdict, AllFine, First, judge, checked}
use Rattle.write_insertion.specs.Insertion.{Insertion, aim, inserts}
use Rattle.edit_live.specs.Spans.{span_of, span_in, first_where, keyed_at, next_live}
use Rattle.edit_pack.specs.Packing.{Packed, pack_from, empty_at, packed}
use Rattle.edit.specs.Edits.{Edit, vetted, at_index, replaceable, insertable, laid, remove_record, replace_payload, insert_payload}
use Rattle.wire.specs.declared.Refusal.TheVariants.{NoRoom, BadRecord}
use Rattle.wire.specs.declared.Inserted.TheVariants.{Count, Refused}

-- ---- the definitions, all that they rest on open

unfoldable vets : List ℕ → List ℕ → ℕ → Verdict
unfolding vetted checked judge good good_head good_key good_value record_at record_in span_of span_in first_where keyed_at
vets s t c = vetted s t c

unfoldable packs : ℕ → ℕ → List ℕ → List ℕ → Packed
unfolding packed pack_from empty_at next_live record_at record_in span_of span_in
packs c k s t = packed c k s t

unfoldable replaces : List ℕ → List ℕ → ℕ → ℕ → List ℕ → Edit
unfolding vets packs replace_payload replaceable at_index laid put_at
replaces s t c i b = replace_payload s t c i b

unfoldable puts : List ℕ → List ℕ → ℕ → ℕ → List ℕ → Edit
unfolding vets packs insert_payload insertable laid put_at aim inserts
puts s t c tag b = insert_payload s t c tag b

unfoldable removes : List ℕ → List ℕ → ℕ → ℕ → Insertion
unfolding vets remove_record at_index
removes s t c i = remove_record s t c i

-- ---- cases

-- a payload of tag 0 in a table: its start and its length
abbrev at : ℕ → ℕ → List ℕ
at p n = 0 ∷ 1 ∷ p ∷ n ∷ no_key ∷ []

-- H2: two that touch are fine; of two that overlap the later by index is told; of several the least such index
touch : vets (7 ∷ 7 ∷ 7 ∷ []) (at 0 2 ++ at 2 1) 2 ≡ AllFine
unfolding vets
touch = refl

later : vets (7 ∷ 7 ∷ 7 ∷ []) (at 1 2 ++ at 0 2) 2 ≡ First BadRecord 1
unfolding vets
later = refl

several : vets (7 ∷ 7 ∷ []) (((at 0 1 ++ at 1 1) ++ at 1 1) ++ at 0 1) 4 ≡ First BadRecord 2
unfolding vets
several = refl

-- H9: overlaps of all records come before key words of all records
before-keys : vets (7 ∷ 7 ∷ 7 ∷ []) (((0 ∷ 0 ∷ 5 ∷ 0 ∷ 0 ∷ []) ++ at 0 2) ++ at 1 2) 3 ≡ First BadRecord 2
unfolding vets
before-keys = refl

-- H7, H4: the bytes that are replaced are free
replaced : replaces (1 ∷ 9 ∷ []) (at 0 1) 1 0 (5 ∷ 6 ∷ []) ≡ record { answer = Count 1; room = 5 ∷ 6 ∷ []; table = at 0 2 }
unfolding replaces
replaced = refl

too_long : replaces (1 ∷ []) (at 0 1) 1 0 (5 ∷ 6 ∷ []) ≡ record { answer = Refused NoRoom 0; room = 1 ∷ []; table = at 0 1 }
unfolding replaces
too_long = refl

-- H5: in order of place, and every byte behind them as it was
packed-both : packs 2 2 (0 ∷ 0 ∷ 10 ∷ 11 ∷ 0 ∷ 12 ∷ []) (at 5 1 ++ at 2 2)
    ≡ record { total = 3; room = 10 ∷ 11 ∷ 12 ∷ 11 ∷ 0 ∷ 12 ∷ []; table = at 2 1 ++ at 0 2 }
unfolding packs
packed-both = refl

-- H8, H4: an empty payload is not in the way
put-at-0 : puts (1 ∷ 2 ∷ 3 ∷ []) (at 3 0 ++ at 9 9) 1 0 (5 ∷ 6 ∷ 7 ∷ [])
    ≡ record { answer = Count 2; room = 5 ∷ 6 ∷ 7 ∷ []; table = at 3 0 ++ at 0 3 }
unfolding puts
put-at-0 = refl

-- H6: the words from the old last record on stay
removed-first : removes (7 ∷ 7 ∷ 7 ∷ []) (at 0 2 ++ at 2 1) 2 0 ≡ record { answer = Count 1; table = at 2 1 ++ at 2 1 }
unfolding removes
removed-first = refl
