-- Reading at places of a slice s, up to an end e (rules C1 to C8).
use Rattle.std.specs.Prelude.{ℕ, zero, suc, ◌+◌, ◌-◌, ◌/◌, ◌%◌, ◌^◌, List, [], ◌∷◌, ltb, leb, eqb, length, take, drop}
use Rattle.wire.specs.Choose.{choose}
use Rattle.wire.specs.Varint.{Sum, Adds, Stops, sum}
use Rattle.wire.specs.Fixed.{number}
use Rattle.wire.specs.declared.Refusal.{Refusal}
use Rattle.wire.specs.declared.Refusal.TheVariants.{Truncated, InvalidVarint, TagOverflowed}
use Rattle.wire.specs.declared.WireType.{WireType}
use Rattle.wire.specs.declared.WireType.TheVariants as wire_type
use Rattle.wire.specs.declared.Value.{Value}
use Rattle.wire.specs.declared.Value.TheVariants as val
use Rattle.wire.specs.declared.Field.{Field}
use Rattle.wire.specs.declared.VarintFound.{VarintFound}
use Rattle.wire.specs.declared.VarintFound.TheVariants as varint_found
use Rattle.wire.specs.declared.KeyFound.{KeyFound}
use Rattle.wire.specs.declared.KeyFound.TheVariants as key_found
use Rattle.wire.specs.declared.ValueFound.{ValueFound}
use Rattle.wire.specs.declared.ValueFound.TheVariants as value_found
use Rattle.wire.specs.declared.FieldFound.{FieldFound}
use Rattle.wire.specs.declared.FieldFound.TheVariants as field_found
use Rattle.wire.specs.declared.Stepped.{Stepped}
use Rattle.wire.specs.declared.Stepped.TheVariants as stepped

-- ---- a varint

-- Rules V3 and V4: a sum of 2^64 or more is InvalidVarint; a slice that runs out before the last byte is Truncated
abbrev pub judged : ℕ → Sum → VarintFound
judged p (Adds v n) = choose (ltb v (2 ^ 64)) (varint_found.Got v (p + n)) (varint_found.Refused InvalidVarint)
judged p Stops = varint_found.Refused Truncated

-- Rules V1 to V4: the varint at place p, read from the slice as far as it goes
unfoldable pub varint_at : List ℕ → ℕ → VarintFound
varint_at s p = judged p (sum 8 (drop p s))

-- Rule C3: one that is refused and whose nine bytes pass the end is Truncated
abbrev pub renamed : ℕ → ℕ → VarintFound → VarintFound
renamed e p (varint_found.Got v q) = varint_found.Got v q
renamed e p (varint_found.Refused r) = varint_found.Refused (choose (ltb e (p + 9)) Truncated r)

-- Rules C2 and C3: the varint of a key or a value: read beyond the end too
abbrev pub capped_at : List ℕ → ℕ → ℕ → VarintFound
capped_at s e p = renamed e p (varint_at s p)

-- ---- a key

-- Rule K2: the wire type of a kind
abbrev pub wire_of : ℕ → WireType
wire_of zero = wire_type.Varint
wire_of (suc zero) = wire_type.LengthDelimited
wire_of (suc (suc zero)) = wire_type.ThirtyTwoBit
wire_of (suc (suc (suc n))) = wire_type.SixtyFourBit

-- Rules K1 and K3: a difference of tags and a wire type; a difference, or a tag, of 2^32 or more is TagOverflowed
abbrev pub key_of : ℕ → VarintFound → KeyFound
key_of last (varint_found.Got k q) =
    choose (ltb (last + k / 4) (2 ^ 32)) (key_found.Got (record { tag = last + k / 4; wire = wire_of (k % 4) }) q) (key_found.Refused TagOverflowed)
key_of last (varint_found.Refused r) = key_found.Refused r

-- Rule C7: wherever place p lies
abbrev pub key_at : List ℕ → ℕ → ℕ → ℕ → KeyFound
key_at s e p last = key_of last (capped_at s e p)

-- ---- a value

-- Rules C5 and C6: a value whose bytes go up to place q: they must be in the slice, and before the end
abbrev pub within : List ℕ → ℕ → ℕ → Value → ValueFound
within s e q v = choose (leb q (length s)) (choose (leb q e) (value_found.Got v q) (value_found.Refused Truncated)) (value_found.Refused Truncated)

-- Rule X1: a number
abbrev pub number_from : VarintFound → ValueFound
number_from (varint_found.Got v q) = value_found.Got (val.Varint v) q
number_from (varint_found.Refused r) = value_found.Refused r

-- Rules X2 and C5: a payload behind its length
abbrev pub payload_from : List ℕ → ℕ → VarintFound → ValueFound
payload_from s e (varint_found.Got n q) = within s e (q + n) (val.LengthDelimited q n)
payload_from s e (varint_found.Refused r) = value_found.Refused r

-- Rules X1, X2 and X3: a value of a wire type at place p; rule C4: a payload's length is read without the change of name
abbrev pub value_at : List ℕ → ℕ → ℕ → WireType → ValueFound
value_at s e p wire_type.Varint = number_from (capped_at s e p)
value_at s e p wire_type.LengthDelimited = payload_from s e (varint_at s p)
value_at s e p wire_type.ThirtyTwoBit = within s e (p + 4) (val.ThirtyTwoBit (number (take 4 (drop p s))))
value_at s e p wire_type.SixtyFourBit = within s e (p + 8) (val.SixtyFourBit (number (take 8 (drop p s))))

-- ---- a field: a key, then its value (rule M2)

abbrev pub tagged : ℕ → ValueFound → FieldFound
tagged t (value_found.Got v q) = field_found.Got (record { tag = t; value = v }) q
tagged t (value_found.Refused r) = field_found.Refused r

-- Rules M2 and C8: the value behind a key, also behind one that passed the end
abbrev pub field_of : List ℕ → ℕ → KeyFound → FieldFound
field_of s e (key_found.Got k q) = tagged k.tag (value_at s e q k.wire)
field_of s e (key_found.Refused r) = field_found.Refused r

unfoldable pub field_at : List ℕ → ℕ → ℕ → ℕ → FieldFound
field_at s e p last = field_of s e (key_at s e p last)

-- ---- one step (rule M3): a field before the end, none at it, Truncated past it (rule M1)

abbrev pub step_of : FieldFound → Stepped
step_of (field_found.Got f q) = stepped.Field f q
step_of (field_found.Refused r) = stepped.Refused r

unfoldable pub step_at : List ℕ → ℕ → ℕ → ℕ → Stepped
step_at s e p last = choose (ltb p e) (step_of (field_at s e p last)) (choose (eqb p e) stepped.End (stepped.Refused Truncated))

-- ---- a message: the fields, or a refusal and its place (rule M4)

pub data Message : Type 0 where
  Fields : List Field → Message
  Refused : Refusal → ℕ → Message

abbrev pub in_front : Field → Message → Message
in_front f (Fields fs) = Fields (f ∷ fs)
in_front f (Refused r p) = Refused r p

-- Rule M5: a refusal has the place of the field's first byte
abbrev pub onward : ℕ → FieldFound → (Field → ℕ → Message) → Message
onward p (field_found.Got f q) go = in_front f (go f q)
onward p (field_found.Refused r) go = Refused r p

-- Rules M1 and M6: not before the end: finished at it, Truncated past it, with the place m of the last field read
abbrev pub ended : ℕ → ℕ → ℕ → Message
ended e m p = choose (eqb p e) (Fields []) (Refused Truncated m)

-- from place p, in at most k fields
abbrev pub reads_from : ℕ → List ℕ → ℕ → ℕ → ℕ → ℕ → Message
reads_from zero s e m p last = ended e m p
reads_from (suc k) s e m p last =
    choose (ltb p e) (onward p (field_at s e p last) (λ f q. reads_from k s e p q f.tag)) (ended e m p)

-- Rule M4: the message from a place up to an end; every field takes a byte at least
unfoldable pub read_message : List ℕ → ℕ → ℕ → Message
read_message s start e = reads_from (e - start) s e start start 0
