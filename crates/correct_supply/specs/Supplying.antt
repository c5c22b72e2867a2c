-- Which message supplies a tag, the original or its correction, and the value's bytes there (rules G2 to G4).
use Rattle.std.specs.Prelude.{ℕ, zero, suc, ◌+◌, ◌-◌, List, [], ◌∷◌, eqb, length}
use Rattle.std.specs.Borrow.{Bor}
use Rattle.wire.specs.Choose.{choose}
use Rattle.wire.specs.Reading.{varint_at, Message, Fields, read_message}
use Rattle.wire.specs.Reading as reading
use Rattle.wire.specs.Marks.{Mark, marks}
use Rattle.wire.specs.declared.Refusal.TheVariants.{Repeated}
use Rattle.wire.specs.declared.Value.{Value}
use Rattle.wire.specs.declared.Value.TheVariants as val
use Rattle.wire.specs.declared.VarintFound.{VarintFound}
use Rattle.wire.specs.declared.VarintFound.TheVariants as varint_found
use Rattle.message_payload.specs.declared.Span.{Span}
use Rattle.entry_answer.specs.Gate.{gated, through}
use Rattle.entry_answer.specs.declared.Supplier.{Supplier}
use Rattle.entry_answer.specs.declared.Supplier.TheVariants as supplier
use Rattle.entry_message.specs.Messages.{Part, part_at}
use Rattle.correct_supply.specs.declared.Held.{Held}
use Rattle.correct_supply.specs.declared.Held.TheVariants as held_as
use Rattle.correct_supply.specs.declared.Supply.{Supply}
use Rattle.correct_supply.specs.declared.Supply.TheVariants as supply

-- ---- a value's own bytes (rule G3)

abbrev pub span : ℕ → ℕ → Span
span p n = record { start = p; length = n }

-- the empty part at a message's front
abbrev pub nowhere : Span
nowhere = span 0 0

-- the place behind a varint that is read
abbrev pub after : ℕ → VarintFound → ℕ
after p (varint_found.Got v q) = q
after p (varint_found.Refused r) = p

-- Rule G3: a payload without its length; else what stands behind the key: a varint, four bytes or eight
unfoldable pub bare_at : List ℕ → ℕ → Value → Span
bare_at s q (val.Varint v) = span q (after q (varint_at s q) - q)
bare_at s q (val.LengthDelimited p n) = span p n
bare_at s q (val.ThirtyTwoBit v) = span q 4
bare_at s q (val.SixtyFourBit v) = span q 8

-- of a field, by the place of its key
abbrev pub bare_of : List ℕ → Mark → Span
bare_of s m = bare_at s (after m.key (varint_at s m.key)) m.field.value

-- the same by the place behind the key and the one behind the value
abbrev pub between : Value → ℕ → ℕ → Span
between (val.Varint v) q n = span q (n - q)
between (val.LengthDelimited p l) q n = span p l
between (val.ThirtyTwoBit v) q n = span q (n - q)
between (val.SixtyFourBit v) q n = span q (n - q)

-- ---- what one message has of a tag

-- n fields, the first of them f, ahead of others
abbrev pub ahead : ℕ → Span → Held → Held
ahead n f (held_as.Fields c g) = held_as.Fields (n + c) (choose (eqb n 0) g f)
ahead n f (held_as.Refused r) = held_as.Refused r

-- how many fields of the tag, and the first one's value
unfoldable pub held_in : List ℕ → ℕ → List Mark → Held
held_in s t [] = held_as.Fields 0 nowhere
held_in s t (m ∷ ms) = choose (eqb m.field.tag t) (ahead 1 (bare_of s m) (held_in s t ms)) (held_in s t ms)

-- of a message that is accepted
abbrev pub accepting : Message → Held → Held
accepting (Fields fs) h = h
accepting (reading.Refused r p) h = held_as.Refused r

unfoldable pub held : List ℕ → ℕ → Held
held s t = through (gated (length s) 0 (length s)) held_as.Refused (accepting (read_message s 0 (length s)) (held_in s t (marks s 0 (length s))))

-- ---- who supplies the tag (rule G2)

-- the only one; Repeated where there are more
abbrev pub alone : (Span → Supply) → ℕ → Span → Supply
alone by zero p = supply.Absent
alone by (suc zero) p = by p
alone by (suc (suc n)) p = supply.Refused Repeated

-- the correction, if it has a field of the tag, else the original
abbrev pub chosen : ℕ → Span → ℕ → Span → Supply
chosen n p zero q = alone supply.Original n p
chosen n p (suc m) q = alone supply.Correction (suc m) q

-- the original's refusal, then the correction's
unfoldable pub judged : Held → Held → Supply
judged (held_as.Fields n p) (held_as.Fields m q) = chosen n p m q
judged (held_as.Fields n p) (held_as.Refused r) = supply.Refused r
judged (held_as.Refused r) h = supply.Refused r

unfoldable pub supply_of : List ℕ → List ℕ → ℕ → Supply
supply_of o c t = judged (held o t) (held c t)

-- ---- what a caller is told (rule G4)

abbrev pub supplier_of : Supply → Supplier
supplier_of (supply.Original p) = supplier.Original
supplier_of (supply.Correction p) = supplier.Correction
supplier_of supply.Absent = supplier.Absent
supplier_of (supply.Refused r) = supplier.Refused r

unfoldable pub supplied_by : List ℕ → List ℕ → ℕ → Supplier
supplied_by o c t = supplier_of (supply_of o c t)

-- Rule G4: a part of the message that supplies the tag; else the empty part at the original's front
abbrev pub part_in : Bor (List ℕ) → Bor (List ℕ) → Supply → Part
part_in o c (supply.Original p) = part_at o p
part_in o c (supply.Correction p) = part_at c p
part_in o c supply.Absent = part_at o nowhere
part_in o c (supply.Refused r) = part_at o nowhere

unfoldable pub corrected_part : Bor (List ℕ) → Bor (List ℕ) → ℕ → Part
corrected_part o c t = part_in o c (supply_of o.now c.now t)
