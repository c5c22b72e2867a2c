-- Which refusals reading can give: Truncated, InvalidVarint and TagOverflowed, the first three.
use Rattle.std.specs.Prelude.{ℕ, zero, suc, ◌+◌, ◌-◌, ◌/◌, ◌^◌, ◌≤◌, ◌≡◌, refl, Bool, true, false, List, ltb, leb, eqb, length, drop}
use Rattle.std.proofs.Common.{arith}
use Rattle.wire.specs.Choose.{choose}
use Rattle.wire.specs.Varint.{Sum, Adds, Stops, sum}
use Rattle.wire.specs.Numbers.{number_of}
use Rattle.wire.specs.Reading.{judged, varint_at, renamed, capped_at, key_of, key_at, within, number_from, payload_from, value_at, tagged, field_of, field_at}
use Rattle.wire.specs.Reading.{Message, Fields, Refused, in_front, onward, ended, reads_from, read_message}
use Rattle.wire.specs.declared.Refusal.{Refusal}
use Rattle.wire.specs.declared.Refusal.TheVariants.{Truncated}
use Rattle.wire.specs.declared.WireType.{WireType}
use Rattle.wire.specs.declared.WireType.TheVariants as wire_type
use Rattle.wire.specs.declared.Value.{Value}
use Rattle.wire.specs.declared.Field.{Field}
use Rattle.wire.specs.declared.VarintFound.{VarintFound}
use Rattle.wire.specs.declared.VarintFound.TheVariants as varint_found
use Rattle.wire.specs.declared.KeyFound.{KeyFound}
use Rattle.wire.specs.declared.KeyFound.TheVariants as key_found
use Rattle.wire.specs.declared.ValueFound.{ValueFound}
use Rattle.wire.specs.declared.ValueFound.TheVariants as value_found
use Rattle.wire.specs.declared.FieldFound.{FieldFound}
use Rattle.wire.specs.declared.FieldFound.TheVariants as field_found

abbrev pub Format : Refusal → Type 0
Format r = (1 ≤ number_of r) × (number_of r ≤ 3)

-- an answer that is no refusal, or one of the three
abbrev pub VarintOk : VarintFound → Type 0
VarintOk (varint_found.Got v q) = Unit {0}
VarintOk (varint_found.Refused r) = Format r

abbrev pub KeyOk : KeyFound → Type 0
KeyOk (key_found.Got k q) = Unit {0}
KeyOk (key_found.Refused r) = Format r

abbrev pub ValueOk : ValueFound → Type 0
ValueOk (value_found.Got v q) = Unit {0}
ValueOk (value_found.Refused r) = Format r

abbrev pub FieldOk : FieldFound → Type 0
FieldOk (field_found.Got f q) = Unit {0}
FieldOk (field_found.Refused r) = Format r

abbrev pub MessageOk : Message → Type 0
MessageOk (Fields fs) = Unit {0}
MessageOk (Refused r p) = Format r

truncated : Format Truncated
truncated = (omega arith, omega arith)

judged-ok : (p : ℕ) (a : Sum) → VarintOk (judged p a)
judged-ok p (Adds v n) = go (ltb v (2 ^ 64)) refl
  where
    go : (t : Bool) → ltb v (2 ^ 64) ≡ t → VarintOk (judged p (Adds v n))
    go true t = rw t tt
    go false t = rw t (omega arith, omega arith)
judged-ok p Stops = truncated

varint-ok : (s : List ℕ) (p : ℕ) → VarintOk (varint_at s p)
unfolding varint_at
varint-ok s p = judged-ok p (sum 8 (drop p s))

renamed-ok : (e p : ℕ) (r : VarintFound) → VarintOk r → VarintOk (renamed e p r)
renamed-ok e p (varint_found.Got v q) h = tt
renamed-ok e p (varint_found.Refused r) h = go (ltb e (p + 9)) refl
  where
    go : (t : Bool) → ltb e (p + 9) ≡ t → Format (choose (ltb e (p + 9)) Truncated r)
    go true t = rw t truncated
    go false t = rw t h

key-ok : (last : ℕ) (r : VarintFound) → VarintOk r → KeyOk (key_of last r)
key-ok last (varint_found.Got k q) h = go (ltb (last + k / 4) (2 ^ 32)) refl
  where
    go : (t : Bool) → ltb (last + k / 4) (2 ^ 32) ≡ t → KeyOk (key_of last (varint_found.Got k q))
    go true t = rw t tt
    go false t = rw t (omega arith, omega arith)
key-ok last (varint_found.Refused r) h = h

within-ok : (s : List ℕ) (e q : ℕ) (v : Value) → ValueOk (within s e q v)
within-ok s e q v = go (leb q (length s)) refl (leb q e) refl
  where
    go : (a : Bool) → leb q (length s) ≡ a → (b : Bool) → leb q e ≡ b → ValueOk (within s e q v)
    go true a true b = rw (a, b) tt
    go true a false b = rw (a, b) truncated
    go false a true b = rw a truncated
    go false a false b = rw a truncated

number_ok : (r : VarintFound) → VarintOk r → ValueOk (number_from r)
number_ok (varint_found.Got v q) h = tt
number_ok (varint_found.Refused r) h = h

payload-ok : (s : List ℕ) (e : ℕ) (r : VarintFound) → VarintOk r → ValueOk (payload_from s e r)
payload-ok s e (varint_found.Got n q) h = within-ok s e (q + n) _
payload-ok s e (varint_found.Refused r) h = h

value-ok : (s : List ℕ) (e p : ℕ) (w : WireType) → ValueOk (value_at s e p w)
value-ok s e p wire_type.Varint = number_ok (capped_at s e p) (renamed-ok e p (varint_at s p) (varint-ok s p))
value-ok s e p wire_type.LengthDelimited = payload-ok s e (varint_at s p) (varint-ok s p)
value-ok s e p wire_type.ThirtyTwoBit = within-ok s e (p + 4) _
value-ok s e p wire_type.SixtyFourBit = within-ok s e (p + 8) _

tagged_ok : (t : ℕ) (r : ValueFound) → ValueOk r → FieldOk (tagged t r)
tagged_ok t (value_found.Got v q) h = tt
tagged_ok t (value_found.Refused r) h = h

field-of-ok : (s : List ℕ) (e : ℕ) (k : KeyFound) → KeyOk k → FieldOk (field_of s e k)
field-of-ok s e (key_found.Got k q) h = tagged_ok k.tag (value_at s e q k.wire) (value-ok s e q k.wire)
field-of-ok s e (key_found.Refused r) h = h

pub field-ok : (s : List ℕ) (e p last : ℕ) → FieldOk (field_at s e p last)
unfolding field_at
field-ok s e p last = field-of-ok s e (key_at s e p last) (key-ok last (capped_at s e p) (renamed-ok e p (varint_at s p) (varint-ok s p)))

in-front-ok : (f : Field) (m : Message) → MessageOk m → MessageOk (in_front f m)
in-front-ok f (Fields fs) h = tt
in-front-ok f (Refused r p) h = h

onward-ok : (p : ℕ) (o : FieldFound) (go : Field → ℕ → Message) → FieldOk o → ((f : Field) (q : ℕ) → MessageOk (go f q)) → MessageOk (onward p o go)
onward-ok p (field_found.Got f q) go h g = in-front-ok f (go f q) (g f q)
onward-ok p (field_found.Refused r) go h g = h

ended-ok : (e m p : ℕ) → MessageOk (ended e m p)
ended-ok e m p = go (eqb p e) refl
  where
    go : (t : Bool) → eqb p e ≡ t → MessageOk (ended e m p)
    go true t = rw t tt
    go false t = rw t truncated

reads_ok : (k : ℕ) (s : List ℕ) (e m p last : ℕ) → MessageOk (reads_from k s e m p last)
reads_ok zero s e m p last = ended-ok e m p
reads_ok (suc k) s e m p last = go (λ f q. reads_ok k s e p q f.tag) (ltb p e) refl
  where
    go : ((f : Field) (q : ℕ) → MessageOk (reads_from k s e p q f.tag)) → (t : Bool) → ltb p e ≡ t → MessageOk (reads_from (suc k) s e m p last)
    go ih true t = rw t (onward-ok p (field_at s e p last) (λ f q. reads_from k s e p q f.tag) (field-ok s e p last) ih)
    go ih false t = rw t (ended-ok e m p)

message-ok : (m : Message) (r : Refusal) (p : ℕ) → MessageOk m → m ≡ Refused r p → Format r
message-ok (Fields fs) r p h e = let z : ◌≡◌ {A = ℕ} 0 1 = cc in absurd (omega arith)
message-ok (Refused x q) r p h e = let a : r ≡ x = cc in rw a h

-- a refused message has one of the first three numbers
pub refused-format : (s : List ℕ) (start e : ℕ) (r : Refusal) (p : ℕ) → read_message s start e ≡ Refused r p → Format r
unfolding read_message
refused-format s start e r p h = message-ok (read_message s start e) r p (reads_ok (e - start) s e start start 0) h
