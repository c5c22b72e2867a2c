-- Insertion: the order of its tests, the place of the new record, what is answered, and what the table then holds.
use Rattle.std.specs.Prelude.{ℕ, zero, suc, ◌+◌, ◌*◌, List, ◌++◌, leb, eqb, length, take, drop}
use Rattle.wire.specs.Choose.{choose}
use Rattle.wire.specs.Limits.{record_words}
use Rattle.wire.specs.Places.{part}
use Rattle.wire.specs.Table.{words, room, record_at, good}
use Rattle.write_record.specs.Records.{Verdict, AllFine, First, checked}
use Rattle.wire.specs.declared.Record.{Record}
use Rattle.wire.specs.declared.Refusal.{Refusal}
use Rattle.wire.specs.declared.Refusal.TheVariants.{NoRoom, BadRecord}
use Rattle.wire.specs.declared.Inserted.{Inserted}
use Rattle.wire.specs.declared.Inserted.TheVariants.{Count, Refused}

-- Rule I1: the index behind all of the first records, so many of them, whose tag is equal or lower
abbrev pub spot : ℕ → List ℕ → ℕ → ℕ
spot zero t tag = 0
spot (suc i) t tag = choose (leb (record_at t i).tag tag) (suc i) (spot i t tag)

-- where the new record goes, or the first refusal and the number that it carries
pub data Aim : Type 0 where
  Puts : ℕ → Aim
  Refuses : Refusal → ℕ → Aim

-- Rules R6 and R7: the tests of the records; the new record, which carries the count; the room
abbrev pub aimed : ℕ → List ℕ → ℕ → Record → Verdict → Aim
aimed n t c r AllFine = choose (good n r) (choose (eqb c (room t)) (Refuses NoRoom 0) (Puts (spot c t r.tag))) (Refuses BadRecord c)
aimed n t c r (First why i) = Refuses why i

-- a record put among the first c of a table, over a source of at most so many bytes
unfoldable pub aim : ℕ → List ℕ → List ℕ → ℕ → Record → Aim
aim most s t c r = aimed (length s) t c r (checked most s t c)

-- ---- what is answered and left

pub record Insertion : Type 0 where
  pub answer : Inserted
  pub table : List ℕ

-- Rule I2: the records before the new one, the new one, those behind it moved up one, and every word behind them as it was
abbrev pub inserted : List ℕ → ℕ → Record → ℕ → List ℕ
inserted t c r p =
    take (record_words * p) t ++ (words r ++ part t (record_words * p) (record_words * c)) ++ drop (record_words * (c + 1)) t

-- Rules I3 and R2: one record more, or the table as it was
unfoldable pub inserts : List ℕ → ℕ → Record → Aim → Insertion
inserts t c r (Puts p) = record { answer = Count (c + 1); table = inserted t c r p }
inserts t c r (Refuses why i) = record { answer = Refused why i; table = t }
