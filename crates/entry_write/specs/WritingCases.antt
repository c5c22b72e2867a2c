-- Worked cases of writing and insertion, each computed: those of FORMAT.md that are marked Q.
use Rattle.std.specs.Prelude.{ℕ, ◌^◌, ◌-◌, ◌≡◌, refl, List, [], ◌∷◌, ◌++◌, replicate}
use Rattle.wire.specs.Varint.{encode}
use Rattle.wire.specs.Limits.{message_limit, no_key}
use Rattle.wire.specs.Table.{stamped, record_at, good_value, good_key, good_head, good}
use Rattle.write_record.specs.Records.{judge, checked}
use Rattle.write_message.specs.Writing.{Plan, Writes, Refuses, plan, front, back}
use Rattle.write_insertion.specs.Insertion.{aim, inserts}
use Rattle.write_insertion.specs.Insertion as insertion
use Rattle.wire.specs.declared.Record.{Record}
use Rattle.wire.specs.declared.Refusal.TheVariants.{NoRoom, BadRecord, OutOfOrder}
use Rattle.wire.specs.declared.Written.TheVariants.{At, Refused}
use Rattle.wire.specs.declared.Inserted.TheVariants as inserted

abbrev planned : List ℕ → List ℕ → ℕ → Plan
planned s t c = plan message_limit s t c

-- three records over the source C0 DE: tag 1, the largest varint; tag 3, both bytes; tag 3, four bytes of 1; one with no key, two with some place of one
abbrev source : List ℕ
source = 0xc0 ∷ 0xde ∷ []

abbrev table : List ℕ
table = 1 ∷ 0 ∷ (2 ^ 64 - 1) ∷ 0 ∷ no_key ∷ 3 ∷ 1 ∷ 0 ∷ 2 ∷ 0 ∷ 3 ∷ 2 ∷ 1 ∷ 4 ∷ 1 ∷ []

abbrev bytes : List ℕ
bytes = 0x04 ∷ 0xff ∷ (replicate 8 0xfe ++ (0x09 ∷ 0x02 ∷ 0xc0 ∷ 0xde ∷ 0x02 ∷ 0x01 ∷ 0x00 ∷ 0x00 ∷ 0x00 ∷ []))

pub writing :
    (planned source table 3 ≡ Writes bytes)
    × (front (replicate 21 7) (planned source table 3) ≡ record { answer = At 0 19; buf = bytes ++ (7 ∷ 7 ∷ []) })
    × (back (replicate 21 7) (planned source table 3) ≡ record { answer = At 2 19; buf = 7 ∷ 7 ∷ bytes })
    × (front (replicate 18 7) (planned source table 3) ≡ record { answer = Refused NoRoom 0 19; buf = replicate 18 7 })
    × (back (replicate 18 7) (planned source table 3) ≡ record { answer = Refused NoRoom 0 19; buf = replicate 18 7 })
    -- no buffer: the length, and 0 where nothing is to be written
    × (front [] (planned source table 3) ≡ record { answer = Refused NoRoom 0 19; buf = [] })
    × (front [] (planned source table 0) ≡ record { answer = At 0 0; buf = [] })
    × (back (7 ∷ 7 ∷ []) (planned source table 0) ≡ record { answer = At 2 0; buf = 7 ∷ 7 ∷ [] })
    -- the source is not copied
    × (front (7 ∷ 7 ∷ []) (planned (0 ∷ 0 ∷ []) [] 0) ≡ record { answer = At 0 0; buf = 7 ∷ 7 ∷ [] })
    -- nine words have room for one record
    × (planned source (0 ∷ 0 ∷ 0 ∷ 0 ∷ 0 ∷ 0 ∷ 0 ∷ 0 ∷ 0 ∷ []) 2 ≡ Refuses BadRecord 1)
    -- not good before out of order, record by record
    × (planned source (1 ∷ 0 ∷ 0 ∷ 0 ∷ 0 ∷ 0 ∷ 0 ∷ 0 ∷ 1 ∷ 0 ∷ []) 2 ≡ Refuses BadRecord 1)
    × (planned source (1 ∷ 0 ∷ 0 ∷ 0 ∷ 0 ∷ 0 ∷ 0 ∷ 0 ∷ 0 ∷ 2 ∷ []) 2 ≡ Refuses BadRecord 1)
    × (planned source (1 ∷ 0 ∷ 0 ∷ 0 ∷ 0 ∷ 0 ∷ 0 ∷ 0 ∷ 0 ∷ 0 ∷ 9 ∷ 9 ∷ 9 ∷ 9 ∷ 9 ∷ []) 3 ≡ Refuses OutOfOrder 1)
    -- a sum that would wrap, an empty payload at the end, and one behind it, a four-byte value of 2^32, a type of 2^32
    × (planned source (0 ∷ 1 ∷ (2 ^ 64 - 1) ∷ 2 ∷ 0 ∷ []) 1 ≡ Refuses BadRecord 0)
    × (planned source (0 ∷ 1 ∷ 2 ∷ 0 ∷ 0 ∷ []) 1 ≡ Writes (1 ∷ 0 ∷ []))
    × (planned source (0 ∷ 1 ∷ 3 ∷ 0 ∷ 0 ∷ []) 1 ≡ Refuses BadRecord 0)
    × (planned source (0 ∷ 2 ∷ (2 ^ 32) ∷ 4 ∷ 0 ∷ []) 1 ≡ Refuses BadRecord 0)
    × (planned source (0 ∷ (2 ^ 32) ∷ 0 ∷ 0 ∷ 0 ∷ []) 1 ≡ Refuses BadRecord 0)
    -- a key's place at the end of the source, the largest one that is none, and an empty source, where only all ones is good
    × (planned source (0 ∷ 1 ∷ 0 ∷ 0 ∷ 2 ∷ []) 1 ≡ Refuses BadRecord 0)
    × (planned source (0 ∷ 1 ∷ 0 ∷ 0 ∷ (2 ^ 64 - 2) ∷ []) 1 ≡ Refuses BadRecord 0)
    × (planned [] (0 ∷ 1 ∷ 0 ∷ 0 ∷ 0 ∷ []) 1 ≡ Refuses BadRecord 0)
    × (planned [] (0 ∷ 1 ∷ 0 ∷ 0 ∷ no_key ∷ []) 1 ≡ Writes (1 ∷ 0 ∷ []))
unfolding plan checked front back encode record_at good_value good_key good_head good judge
writing = (refl, refl, refl, refl, refl, refl, refl, refl, refl, refl, refl, refl, refl, refl, refl, refl, refl, refl, refl, refl, refl, refl)

abbrev short : ℕ → ℕ → Record
short tag v = stamped (record { tag = tag; kind = 0; value = v; length = 0 })

pub inserting :
    -- behind a record of the same tag; the words behind the records stay
    (inserts (1 ∷ 0 ∷ 5 ∷ 0 ∷ 1 ∷ 3 ∷ 0 ∷ 6 ∷ 0 ∷ 0 ∷ 7 ∷ 7 ∷ 7 ∷ 7 ∷ 7 ∷ 8 ∷ []) 2 (short 1 9)
    (aim message_limit source (1 ∷ 0 ∷ 5 ∷ 0 ∷ 1 ∷ 3 ∷ 0 ∷ 6 ∷ 0 ∷ 0 ∷ 7 ∷ 7 ∷ 7 ∷ 7 ∷ 7 ∷ 8 ∷ []) 2 (short 1 9))
    ≡ record { answer = inserted.Count 3; table = 1 ∷ 0 ∷ 5 ∷ 0 ∷ 1 ∷ 1 ∷ 0 ∷ 9 ∷ 0 ∷ no_key ∷ 3 ∷ 0 ∷ 6 ∷ 0 ∷ 0 ∷ 8 ∷ [] })
    -- a new record that is not good comes before no room; a count above room carries the room
    × (aim message_limit [] (0 ∷ 0 ∷ 0 ∷ 0 ∷ no_key ∷ []) 1 (short (2 ^ 32) 0) ≡ insertion.Refuses BadRecord 1)
    × (aim message_limit [] (0 ∷ 0 ∷ 0 ∷ 0 ∷ no_key ∷ []) 1 (short 0 0) ≡ insertion.Refuses NoRoom 0)
    × (aim message_limit [] (0 ∷ 0 ∷ 0 ∷ 0 ∷ no_key ∷ []) 2 (short 0 0) ≡ insertion.Refuses BadRecord 1)
    -- a key past the source in the table that is there
    × (aim message_limit [] (0 ∷ 0 ∷ 0 ∷ 0 ∷ 0 ∷ []) 1 (short 0 0) ≡ insertion.Refuses BadRecord 0)
unfolding aim checked inserts record_at good_value good_key good_head good judge
inserting = (refl, refl, refl, refl, refl)
