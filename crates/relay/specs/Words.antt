-- The records of two tables (rule T1), one of a cap's fields and one of the cut's.
use Rattle.std.specs.Prelude.{ℕ, zero, suc, ◌+◌, ◌<◌, ◌≡◌, refl, List, [], ◌∷◌, ◌++◌, eqb, length}
use Rattle.std.proofs.Common.{ap, ◌∙◌, sym, arith}
use Rattle.wire.specs.Choose.{choose}
use Rattle.wire.specs.Marks.{Mark, fields_of}
use Rattle.wire.specs.Table.{record_of, records, record_at, record-first, record-behind}
use Rattle.wire.specs.declared.Value.{Value}
use Rattle.wire.specs.declared.Value.TheVariants as val
use Rattle.wire.specs.declared.Record.{Record}
use Rattle.relay.specs.Pairs.{moved_value}
use Rattle.relay.specs.Cap.{moved_mark, moved_marks}

-- a record whose key's place is moved, and its payload's start; a value of another type stays
abbrev pub moved_record : ℕ → Record → Record
moved_record a r =
    record {
      tag = r.tag;
      kind = r.kind;
      value = choose (eqb r.kind 1) (a + r.value) r.value;
      length = r.length;
      key = a + r.key;
    }

abbrev marked : ℕ → ℕ → Value → Mark
marked k t v = record { key = k; field = record { tag = t; value = v } }

pub record-moved : (a : ℕ) (m : Mark) → record_of (moved_mark a m) ≡ moved_record a (record_of m)
record-moved a m = go m.field.value
  where
    go : (v : Value) → record_of (marked (a + m.key) m.field.tag (moved_value a v)) ≡ moved_record a (record_of (marked m.key m.field.tag v))
    go (val.Varint v) = refl
    go (val.LengthDelimited p n) = refl
    go (val.ThirtyTwoBit v) = refl
    go (val.SixtyFourBit v) = refl

pub fields-moved : (a : ℕ) (ms : List Mark) → length (fields_of (moved_marks a ms)) ≡ length (fields_of ms)
fields-moved a [] = refl
fields-moved a (m ∷ ms) = ap suc (fields-moved a ms)
