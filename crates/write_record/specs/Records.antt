-- The records of a table behind one another: how they are tested, and what they are written as.
use Rattle.std.specs.Prelude.{ℕ, zero, suc, ◌+◌, ◌-◌, ◌*◌, List, length, nat_le}
use Rattle.wire.specs.Choose.{choose}
use Rattle.wire.specs.Varint.{encode}
use Rattle.wire.specs.Written.{written_content, written_item, written_from, written}
use Rattle.wire.specs.Places.{shown, item_of, items}
use Rattle.wire.specs.Table.{room, record_at, value_of, field_in, fields_from, good_value, good}
use Rattle.wire.specs.declared.Record.{Record}
use Rattle.wire.specs.declared.Refusal.{Refusal}
use Rattle.wire.specs.declared.Refusal.TheVariants.{TooLong, BadRecord, OutOfOrder}
use Rattle.wire.specs.declared.Weight.{Weight}
use Rattle.wire.specs.declared.Weight.TheVariants as weight

-- Rule K1: the tag before record i; before the first it is 0
abbrev pub tag_before : List ℕ → ℕ → ℕ
tag_before t zero = 0
tag_before t (suc i) = (record_at t i).tag

-- ---- tests

pub data Judged : Type 0 where
  Fine : Judged
  Bad : Refusal → Judged

-- Rules R6 and K4: one record behind a tag, over a source of n bytes: BadRecord before OutOfOrder
unfoldable pub judge : ℕ → ℕ → Record → Judged
judge n prev r = choose (good n r) (choose (nat_le prev r.tag) Fine (Bad OutOfOrder)) (Bad BadRecord)

-- of several records: all are fine, or the first refusal and the number that it carries
pub data Verdict : Type 0 where
  AllFine : Verdict
  First : Refusal → ℕ → Verdict

-- then one more, record i
abbrev pub and_then : Verdict → Judged → ℕ → Verdict
and_then AllFine Fine i = AllFine
and_then AllFine (Bad r) i = First r i
and_then (First r j) q i = First r j

-- Rules R6 and R7: the first k records; a refusal carries the record's index
abbrev pub tested : ℕ → ℕ → List ℕ → Verdict
tested zero n t = AllFine
tested (suc i) n t = and_then (tested i n t) (judge n (tag_before t i) (record_at t i)) i

-- Rule R6: the order of writers and insertion: a source that is longer than most; a count above room, which carries the room; the records
unfoldable pub checked : ℕ → List ℕ → List ℕ → ℕ → Verdict
checked most s t c =
    choose (nat_le (length s) most) (choose (nat_le c (room t)) (tested c (length s) t) (First BadRecord (room t))) (First TooLong 0)

-- ---- bytes

-- a record's value over its source
unfoldable pub value_bytes : List ℕ → Record → List ℕ
value_bytes s r = written_content (shown s (value_of r.kind r.value r.length))

-- Rule E1: a record behind a tag: its key, then its value
unfoldable pub record_bytes : List ℕ → ℕ → Record → List ℕ
record_bytes s prev r = written_item prev (item_of s (field_in r))

-- how many bytes they are: a value's, and a record's, whose key is measured without its type (rule K5)
abbrev pub value_size : ℕ → ℕ → ℕ → ℕ
value_size zero v l = length (encode v)
value_size (suc zero) v l = length (encode l) + l
value_size (suc (suc zero)) v l = 4
value_size (suc (suc (suc k))) v l = 8

unfoldable pub record_size : ℕ → Record → ℕ
record_size prev r = length (encode (4 * (r.tag - prev))) + value_size r.kind r.value r.length

-- what is said of a record's value, over a source of n bytes: its size, or that it is not good
unfoldable pub weigh_value : ℕ → ℕ → ℕ → ℕ → Weight
weigh_value n k v l = choose (good_value n k v l) (weight.Bytes (value_size k v l)) (weight.Bad BadRecord)

-- and of a record behind a tag: its size, or why it is refused
abbrev pub sized : ℕ → Judged → Weight
sized k Fine = weight.Bytes k
sized k (Bad why) = weight.Bad why

unfoldable pub weigh : ℕ → ℕ → Record → Weight
weigh n prev r = sized (record_size prev r) (judge n prev r)

-- k records from record i on
abbrev pub run : List ℕ → List ℕ → ℕ → ℕ → List ℕ
run s t i k = written_from (tag_before t i) (items s (fields_from k t i))

-- Rule E2: the message of the first c records
abbrev pub message : List ℕ → List ℕ → ℕ → List ℕ
message s t c = written (items s (fields_from c t 0))
