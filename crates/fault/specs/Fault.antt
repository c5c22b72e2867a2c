-- Where the read of a key, a value, a field, a step or a message failed (rules F2, F3 and F5), carried up as they are read. Each is said of what is refused.
use Rattle.std.specs.Prelude.{ℕ, zero, suc, ◌-◌, List, ltb}
use Rattle.wire.specs.Choose.{choose}
use Rattle.wire.specs.Faults.{varint_fault, plain_fault}
use Rattle.wire.specs.Reading.{varint_at, key_at, field_at}
use Rattle.wire.specs.declared.Fault.{Fault}
use Rattle.wire.specs.declared.WireType.{WireType}
use Rattle.wire.specs.declared.WireType.TheVariants.{Varint, LengthDelimited, ThirtyTwoBit, SixtyFourBit}
use Rattle.wire.specs.declared.Field.{Field}
use Rattle.wire.specs.declared.VarintFound.{VarintFound}
use Rattle.wire.specs.declared.VarintFound.TheVariants as varint_found
use Rattle.wire.specs.declared.KeyFound.{KeyFound}
use Rattle.wire.specs.declared.KeyFound.TheVariants as key_found
use Rattle.wire.specs.declared.FieldFound.{FieldFound}
use Rattle.wire.specs.declared.FieldFound.TheVariants as field_found

-- what begins with a varint at place p: the varint is refused, or it was read and the rest is
abbrev pub begun_by : List ℕ → ℕ → VarintFound → Fault
begun_by s p (varint_found.Got v q) = plain_fault p
begun_by s p (varint_found.Refused r) = varint_fault s p

-- Rule F2: a key: a tag that is too large is no varint's failure
unfoldable pub key_fault : List ℕ → ℕ → Fault
key_fault s p = begun_by s p (varint_at s p)

-- Rule F3: a value: a length that is too long names its first byte
unfoldable pub value_fault : List ℕ → ℕ → WireType → Fault
value_fault s p Varint = varint_fault s p
value_fault s p LengthDelimited = begun_by s p (varint_at s p)
value_fault s p ThirtyTwoBit = plain_fault p
value_fault s p SixtyFourBit = plain_fault p

-- Rule F5: a field: its key's, or its value's
abbrev pub field_fault_of : List ℕ → ℕ → KeyFound → Fault
field_fault_of s p (key_found.Got k q) = value_fault s q k.wire
field_fault_of s p (key_found.Refused r) = key_fault s p

unfoldable pub field_fault : List ℕ → ℕ → ℕ → ℕ → Fault
field_fault s e p last = field_fault_of s p (key_at s e p last)

-- Rule F5: a step: the field's; past the end the place itself
unfoldable pub step_fault : List ℕ → ℕ → ℕ → ℕ → Fault
step_fault s e p last = choose (ltb p e) (field_fault s e p last) (plain_fault p)

-- a field that is read is passed
abbrev pub first_of : Fault → FieldFound → (Field → ℕ → Fault) → Fault
first_of x (field_found.Got f q) go = go f q
first_of x (field_found.Refused r) go = x

-- beside reads_from: from place p, in at most k fields
abbrev pub faults_from : ℕ → List ℕ → ℕ → ℕ → ℕ → Fault
faults_from zero s e p last = plain_fault p
faults_from (suc k) s e p last =
    choose (ltb p e) (first_of (field_fault s e p last) (field_at s e p last) (λ f q. faults_from k s e q f.tag)) (plain_fault p)

-- Rule F5: a message: the first field that fails; at the loop's top the place reached
unfoldable pub message_fault : List ℕ → ℕ → ℕ → Fault
message_fault s start e = faults_from (e - start) s e start 0
