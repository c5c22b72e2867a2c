-- Which refusals each entry has, in their order: order R of the readers (rule R3), order T of the writers, of measuring and of insertion
-- (rule R6).
use Rattle.std.specs.Prelude.{ℕ, zero, suc, ◌+◌, ◌-◌, ◌/◌, ◌^◌, Bool, true, false, not, List, [], ◌∷◌, ◌++◌, ltb, leb, eqb, length, drop, get_or}
use Rattle.wire.specs.Choose.{choose}
use Rattle.wire.specs.Limits.{message_limit}
use Rattle.wire.specs.Varint.{Sum, Adds, Stops, sum, encode}
use Rattle.wire.specs.Reading.{varint_at, capped_at, key_at, field_at, wire_of}
use Rattle.wire.specs.Skipping.{past_at, repeats}
use Rattle.wire.specs.Table.{room, record_at, good}
use Rattle.write_record.specs.Records.{tag_before}
use Rattle.write_record.specs.Records as records
use Rattle.wire.specs.declared.Refusal.TheVariants.{Truncated, InvalidVarint, TagOverflowed, TooLong, NoRoom, BadRecord, OutOfOrder, BadCap, Repeated}
use Rattle.wire.specs.declared.WireType.{WireType}
use Rattle.wire.specs.declared.WireType.TheVariants.{Varint, LengthDelimited, ThirtyTwoBit, SixtyFourBit}
use Rattle.wire.specs.declared.VarintFound.{VarintFound}
use Rattle.wire.specs.declared.VarintFound.TheVariants as varint_found
use Rattle.wire.specs.declared.KeyFound.{KeyFound}
use Rattle.wire.specs.declared.KeyFound.TheVariants as key_found
use Rattle.wire.specs.declared.FieldFound.{FieldFound}
use Rattle.wire.specs.declared.FieldFound.TheVariants as field_found
use Rattle.wire.specs.declared.Reached.{Reached}
use Rattle.wire.specs.declared.Reached.TheVariants as reached
use Rattle.wire.specs.declared.Field.{Field}
use Rattle.wire.specs.declared.Record.{Record}
use Rattle.message_payload.specs.Payload.{payload}
use Rattle.message.specs.Tags.{of_tag}
use Rattle.message_early.specs.Early as early
use Rattle.entry_key.specs.Keys.{key_bytes}
use Rattle.demands_order.specs.Order.{Rule, when}

-- ---- ORDER R, of the readers (rule R3): 4 for a slice above the limit; 8 for a place or an end above the slice's length; then 1, 2, 3 as met, and 5

abbrev pub order_r : List ℕ → ℕ → ℕ → List Rule → List Rule
order_r s at e met = when (ltb message_limit (length s)) TooLong ∷ when (ltb (length s) at) BadCap ∷ when (ltb (length s) e) BadCap ∷ met

-- Rules V3 and V4: a varint at a place: 1 if the slice runs out before it ends, 2 if its sum is 2^64 or more
abbrev pub runs_out : Sum → Bool
runs_out (Adds v n) = false
runs_out Stops = true

abbrev pub too_large : Sum → Bool
too_large (Adds v n) = leb (2 ^ 64) v
too_large Stops = false

abbrev pub sum_at : List ℕ → ℕ → Sum
sum_at s p = sum 8 (drop p s)

abbrev pub varint_rules : List ℕ → ℕ → List Rule
varint_rules s p = when (runs_out (sum_at s p)) Truncated ∷ when (too_large (sum_at s p)) InvalidVarint ∷ []

-- Rule C3: under an end: 1 also for a sum that is too large, if nine bytes pass the end
abbrev pub capped_rules : List ℕ → ℕ → ℕ → List Rule
capped_rules s e p =
    when (runs_out (sum_at s p)) Truncated ∷ when (choose (ltb e (p + 9)) (too_large (sum_at s p)) false) Truncated ∷ when (too_large (sum_at s p)) InvalidVarint ∷ []

-- Rule K3: a key: its varint under the end, then 3 if the last tag and the difference are 2^32 or more
abbrev pub overflows : ℕ → VarintFound → Bool
overflows last (varint_found.Got k q) = leb (2 ^ 32) (last + k / 4)
overflows last (varint_found.Refused r) = false

abbrev pub key_rules : List ℕ → ℕ → ℕ → ℕ → List Rule
key_rules s e p last = capped_rules s e p ++ (when (overflows last (capped_at s e p)) TagOverflowed ∷ [])

-- Rules C5 and C6: bytes up to a place: 1 if the slice has not so many, 1 if they pass the end
abbrev pub bytes_rules : List ℕ → ℕ → ℕ → List Rule
bytes_rules s e q = when (ltb (length s) q) Truncated ∷ when (ltb e q) Truncated ∷ []

-- Rules C2, C4, C5 and C6: a value: a number's varint is under the end; a payload's length is not, but its bytes are
abbrev pub payload_rules : List ℕ → ℕ → VarintFound → List Rule
payload_rules s e (varint_found.Got n q) = bytes_rules s e (q + n)
payload_rules s e (varint_found.Refused r) = []

abbrev pub value_rules : List ℕ → ℕ → ℕ → WireType → List Rule
value_rules s e p Varint = capped_rules s e p
value_rules s e p LengthDelimited = varint_rules s p ++ payload_rules s e (varint_at s p)
value_rules s e p ThirtyTwoBit = bytes_rules s e (p + 4)
value_rules s e p SixtyFourBit = bytes_rules s e (p + 8)

-- Rule M2: a field: its key, then the value behind it
abbrev pub behind_key : List ℕ → ℕ → KeyFound → List Rule
behind_key s e (key_found.Got k q) = value_rules s e q k.wire
behind_key s e (key_found.Refused r) = []

abbrev pub field_rules : List ℕ → ℕ → ℕ → ℕ → List Rule
field_rules s e p last = key_rules s e p last ++ behind_key s e (key_at s e p last)

-- Rule M1: not before the end: 1 if not at it
abbrev pub end_rules : ℕ → ℕ → List Rule
end_rules e p = when (not (eqb p e)) Truncated ∷ []

abbrev pub step_rules : List ℕ → ℕ → ℕ → ℕ → List Rule
step_rules s e p last = choose (ltb p e) (field_rules s e p last) (end_rules e p)

-- Rule M4: a message: its fields, one behind the other
abbrev pub behind_field : FieldFound → (Field → ℕ → List Rule) → List Rule
behind_field (field_found.Got f q) go = go f q
behind_field (field_found.Refused r) go = []

abbrev pub fields_rules : ℕ → List ℕ → ℕ → ℕ → ℕ → List Rule
fields_rules zero s e p last = end_rules e p
fields_rules (suc k) s e p last =
    choose (ltb p e) (field_rules s e p last ++ behind_field (field_at s e p last) (λ f q. fields_rules k s e q f.tag)) (end_rules e p)

abbrev pub message_rules : List ℕ → ℕ → ℕ → List Rule
message_rules s a e = fields_rules (e - a) s e a 0

-- Rules S1 to S5: skipping: one value, a length under the end too, its bytes held against the slice alone; then those of the same tag behind it
abbrev pub skipped_payload : List ℕ → VarintFound → List Rule
skipped_payload s (varint_found.Got n q) = when (ltb (length s) (q + n)) Truncated ∷ []
skipped_payload s (varint_found.Refused r) = []

abbrev pub past_rules : List ℕ → ℕ → ℕ → WireType → List Rule
past_rules s e p Varint = capped_rules s e p
past_rules s e p LengthDelimited = capped_rules s e p ++ skipped_payload s (capped_at s e p)
past_rules s e p ThirtyTwoBit = when (ltb (length s) (p + 4)) Truncated ∷ []
past_rules s e p SixtyFourBit = when (ltb (length s) (p + 8)) Truncated ∷ []

abbrev pub beyond_rules : List ℕ → ℕ → Reached → (ℕ → WireType → List Rule) → List Rule
beyond_rules s e (reached.To q) go = choose (repeats s e q) (go (suc q) (wire_of (get_or s q 0))) []
beyond_rules s e (reached.Refused r f) go = []

abbrev pub skip_rules : ℕ → List ℕ → ℕ → ℕ → WireType → List Rule
skip_rules zero s e p w = past_rules s e p w
skip_rules (suc k) s e p w = past_rules s e p w ++ beyond_rules s e (past_at s e p w) (skip_rules k s e)

-- the fields of a message that are read, up to its end or to a refusal
abbrev pub one_more : FieldFound → (Field → ℕ → List Field) → List Field
one_more (field_found.Got f q) go = f ∷ go f q
one_more (field_found.Refused r) go = []

abbrev pub fields_read : ℕ → List ℕ → ℕ → ℕ → ℕ → List Field
fields_read zero s e p last = []
fields_read (suc k) s e p last = choose (ltb p e) (one_more (field_at s e p last) (λ f q. fields_read k s e q f.tag)) []

abbrev pub fields_in : List ℕ → ℕ → ℕ → List Field
fields_in s a e = fields_read (e - a) s e a 0

-- Rule P6: a search for a tag from the front: the fields before the first key above the tag, the value behind which is not read; and the fields
-- that it reads
abbrev pub early_rules : ℕ → ℕ → List ℕ → ℕ → ℕ → List Rule
early_rules zero tag s p last = []
early_rules (suc k) tag s p last =
    choose (ltb p (length s))
    (choose (early.above tag (key_at s (length s) p last)) []
    (field_rules s (length s) p last ++ behind_field (field_at s (length s) p last) (λ f q. early_rules k tag s q f.tag)))
    []

abbrev pub early_read : ℕ → ℕ → List ℕ → ℕ → ℕ → List Field
early_read zero tag s p last = []
early_read (suc k) tag s p last =
    choose (ltb p (length s))
    (choose (early.above tag (key_at s (length s) p last)) [] (one_more (field_at s (length s) p last) (λ f q. early_read k tag s q f.tag)))
    []

-- ---- bytes put into a buffer: 5 if they are more than it has (rule R8)

abbrev pub room_rules : List ℕ → List ℕ → List Rule
room_rules b xs = when (ltb (length b) (length xs)) NoRoom ∷ []

-- ---- ORDER T, of the writers (rule R6): 4 for a source above the limit; 6 for a count above the room; for each record 6 if it is not good, then 7 if its tag
-- falls; and what each has behind these

abbrev pub record_rules : ℕ → List ℕ → ℕ → List Rule
record_rules n t i = when (not (good n (record_at t i))) BadRecord ∷ when (ltb (record_at t i).tag (tag_before t i)) OutOfOrder ∷ []

abbrev pub records_rules : ℕ → ℕ → List ℕ → List Rule
records_rules zero n t = []
records_rules (suc i) n t = records_rules i n t ++ record_rules n t i

abbrev pub order_t : List ℕ → List ℕ → ℕ → List Rule → List Rule
order_t s t c rest = when (ltb message_limit (length s)) TooLong ∷ when (ltb (room t) c) BadRecord ∷ (records_rules c (length s) t ++ rest)

-- Rule R6: 4 for a message above the limit
abbrev pub output_rule : List ℕ → List ℕ → ℕ → Rule
output_rule s t c = when (ltb message_limit (length (records.message s t c))) TooLong

-- ---- THE ENTRIES that refuse, each with its order

abbrev pub decode_varint_order : List ℕ → ℕ → List Rule
decode_varint_order s at = order_r s at (length s) (varint_rules s at)

abbrev pub decode_varint_capped_order : List ℕ → ℕ → ℕ → List Rule
decode_varint_capped_order s at e = order_r s at e (capped_rules s e at)

abbrev pub decode_key_order : List ℕ → ℕ → ℕ → ℕ → List Rule
decode_key_order s at e last = order_r s at e (key_rules s e at last)

abbrev pub decode_value_order : List ℕ → ℕ → ℕ → WireType → List Rule
decode_value_order s at e w = order_r s at e (value_rules s e at w)

abbrev pub skip_field_order : List ℕ → ℕ → ℕ → WireType → List Rule
skip_field_order s at e w = order_r s at e (skip_rules (length s - at) s e at w)

abbrev pub step_at_order : List ℕ → ℕ → ℕ → ℕ → List Rule
step_at_order s at e last = order_r s at e (step_rules s e at last)

-- Rule M9: 1 for a place past the end
abbrev pub more_at_order : List ℕ → ℕ → ℕ → List Rule
more_at_order s at e = order_r s at e (when (ltb e at) Truncated ∷ [])

-- Rule T5: 5, behind all of the message's own, if its fields are more than the table has room for
abbrev pub table_rules : List ℕ → ℕ → ℕ → List ℕ → List Rule
table_rules s a e t = when (ltb (room t) (length (fields_in s a e))) NoRoom ∷ []

abbrev pub read_message_order : List ℕ → ℕ → ℕ → List ℕ → List Rule
read_message_order s a e t = order_r s a e (message_rules s a e ++ table_rules s a e t)

-- counted: the message's alone
abbrev pub count_fields_order : List ℕ → ℕ → ℕ → List Rule
count_fields_order s a e = order_r s a e (message_rules s a e)

-- copied: 5, behind all of the reader's, for a buffer that is shorter than the message
abbrev pub copy_message_order : List ℕ → List ℕ → List ℕ → List ℕ → List Rule
copy_message_order s t f b = read_message_order s 0 (length s) t ++ (room_rules f s ++ room_rules b s)

abbrev pub read_payload_order : List ℕ → Record → List ℕ → List Rule
read_payload_order m r t = let p = payload m r in read_message_order p 0 (length p) t

-- Rules P4, P5 and P7: the whole message's, and behind these 11 if the tag stands more than once; at a number, the message's alone; from the front,
-- as far as it is read
abbrev pub repeated_rules : ℕ → List Field → List Rule
repeated_rules tag fs = when (ltb 1 (length (of_tag tag fs))) Repeated ∷ []

abbrev pub pick_order : List ℕ → ℕ → List Rule
pick_order s tag = order_r s 0 (length s) (message_rules s 0 (length s) ++ repeated_rules tag (fields_in s 0 (length s)))

abbrev pub pick_at_order : List ℕ → List Rule
pick_at_order s = order_r s 0 (length s) (message_rules s 0 (length s))

abbrev pub pick_early_order : List ℕ → ℕ → List Rule
pick_early_order s tag = order_r s 0 (length s) (early_rules (length s) tag s 0 0 ++ repeated_rules tag (early_read (length s) tag s 0 0))

-- Rule R8: a varint put at either end of a buffer; a key: 7 for a tag below the last one, first; a key measured: that alone
abbrev pub put_varint_order : ℕ → List ℕ → List Rule
put_varint_order v b = room_rules b (encode v)

abbrev pub put_key_order : ℕ → ℕ → WireType → List ℕ → List Rule
put_key_order last tag w b = when (ltb tag last) OutOfOrder ∷ room_rules b (key_bytes last tag w)

abbrev pub key_len_order : ℕ → ℕ → List Rule
key_len_order last tag = when (ltb tag last) OutOfOrder ∷ []

-- Rule R6: a message written at either end of a buffer: 5 last
abbrev pub write_order : List ℕ → List ℕ → ℕ → List ℕ → List Rule
write_order s t c b = order_t s t c (output_rule s t c ∷ room_rules b (records.message s t c))

-- Rule R6: insertion: 6 for a new record that is not good, then 5 if the records fill the room
abbrev pub new_rules : List ℕ → List ℕ → ℕ → Record → List Rule
new_rules s t c r = when (not (good (length s) r)) BadRecord ∷ when (eqb c (room t)) NoRoom ∷ []

abbrev pub insert_order : List ℕ → List ℕ → ℕ → Record → List Rule
insert_order s t c r = order_t s t c (new_rules s t c r)

-- ---- for C: 6 for a wire type above 3, before all else

abbrev pub typed_order : ℕ → (WireType → List Rule) → List Rule
typed_order kind rules = when (ltb 3 kind) BadRecord ∷ rules (wire_of kind)
