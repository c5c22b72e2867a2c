-- The cases of FORMAT.md that are marked P, held against the definitions: one table, one theorem. Crate `demands` takes the same table to the programs.
use Rattle.std.specs.Prelude.{ℕ, ◌^◌, ◌-◌, ◌≡◌, refl, List, [], ◌∷◌, ◌++◌, length, replicate}
use Rattle.wire.specs.Varint.{encode}
use Rattle.wire.specs.Reading.{varint_at, field_at, Message, Fields, Refused, read_message}
use Rattle.wire.specs.Faults.{looks}
use Rattle.wire.specs.Skipping.{past_at, skip_at}
use Rattle.wire.specs.declared.Refusal.TheVariants.{Truncated, InvalidVarint, TagOverflowed}
use Rattle.wire.specs.declared.WireType.{WireType}
use Rattle.wire.specs.declared.WireType.TheVariants as wire_type
use Rattle.wire.specs.declared.Value.TheVariants as val
use Rattle.wire.specs.declared.VarintFound.{VarintFound}
use Rattle.wire.specs.declared.VarintFound.TheVariants as varint_found
use Rattle.wire.specs.declared.Reached.{Reached}
use Rattle.wire.specs.declared.Reached.TheVariants as reached

pub data Case : Type 0 where
  -- a number and its bytes: written so, and read back
  Encodes : ℕ → List ℕ → Case
  -- a varint at the front of bytes
  Varint : List ℕ → VarintFound → Case
  -- a message of bytes, from a start up to an end
  Reads : List ℕ → ℕ → ℕ → Message → Case
  -- skipping in bytes, up to an end, from a place, a value of a type
  Skips : List ℕ → ℕ → ℕ → WireType → Reached → Case

abbrev pub Right : Case → Type 0
Right (Encodes v bs) = (encode v ≡ bs) × (varint_at bs 0 ≡ varint_found.Got v (length bs))
Right (Varint bs found) = varint_at bs 0 ≡ found
Right (Reads bs start e told) = read_message bs start e ≡ told
Right (Skips bs e at w to) = skip_at bs e at w ≡ to

abbrev pub All : {A : Type 0} → (A → Type 0) → List A → Type 0
All P [] = Unit {0}
All P (x ∷ xs) = P x × All P xs

-- numbers
abbrev pub numbers : List Case
numbers =
    Encodes 127 (0x7f ∷ [])
    ∷ Encodes 128 (0x80 ∷ 0x00 ∷ [])
    ∷ Encodes 16511 (0xff ∷ 0x7f ∷ [])
    ∷ Encodes 16512 (0x80 ∷ 0x80 ∷ 0x00 ∷ [])
    ∷ Encodes 0x102_0408_1020_407f (replicate 7 0xff ++ (0x7f ∷ []))
    ∷ Encodes 0x102_0408_1020_4080 (replicate 8 0x80 ++ (0x00 ∷ []))
    ∷ Encodes (2 ^ 64 - 1) (0xff ∷ replicate 8 0xfe)
    ∷ Varint (0x80 ∷ 0xff ∷ replicate 7 0xfe) (varint_found.Refused InvalidVarint)
    ∷ []

-- messages, and fields passed over
abbrev pub messages : List Case
messages =
    Reads [] 0 0 (Fields [])
    ∷ Reads (0xfc ∷ 0xfe ∷ 0xfe ∷ 0xfe ∷ 0x3e ∷ 0x00 ∷ []) 0 6 (Fields (record { tag = 4294967295; value = val.Varint 0 } ∷ []))
    ∷ Reads (0x80 ∷ 0xff ∷ 0xfe ∷ 0xfe ∷ 0x3e ∷ 0x00 ∷ []) 0 6 (Refused TagOverflowed 0)
    ∷ Reads (0xfc ∷ 0xfe ∷ 0xfe ∷ 0xfe ∷ 0x3e ∷ 0x00 ∷ 0x04 ∷ 0x00 ∷ []) 0 8 (Refused TagOverflowed 6)
    ∷ Reads (0x00 ∷ 0x80 ∷ 0x00 ∷ []) 0 2 (Refused Truncated 0)
    ∷ Reads (0x00 ∷ 0x80 ∷ 0x00 ∷ []) 0 3 (Fields (record { tag = 0; value = val.Varint 128 } ∷ []))
    ∷ Reads (0x00 ∷ replicate 9 0xff) 0 5 (Refused Truncated 0)
    ∷ Reads (0x00 ∷ replicate 9 0xff) 0 10 (Refused InvalidVarint 0)
    ∷ Reads (0x01 ∷ replicate 9 0xff) 0 5 (Refused InvalidVarint 0)
    ∷ Skips (0x01 ∷ replicate 9 0xff) 5 1 wire_type.LengthDelimited (reached.Refused Truncated (record { place = 1; bytes = 9 }))
    ∷ Skips (0x05 ∷ 0x00 ∷ 0x06 ∷ 0x04 ∷ 0x07 ∷ []) 5 0 wire_type.Varint (reached.To 3)
    ∷ []

-- a case each for rules of the end, of fixed bytes, of skipping and of places
abbrev pub edges : List Case
edges =
    Reads (0x00 ∷ replicate 9 0xff) 0 9 (Refused Truncated 0)
    ∷ Reads (0x01 ∷ 0x00 ∷ []) 0 2 (Fields (record { tag = 0; value = val.LengthDelimited 2 0 } ∷ []))
    ∷ Reads (0x01 ∷ 0x00 ∷ []) 0 1 (Refused Truncated 0)
    ∷ Reads (0x01 ∷ 0x02 ∷ 0xaa ∷ []) 0 3 (Refused Truncated 0)
    ∷ Reads (0x02 ∷ 0x01 ∷ 0x00 ∷ 0x00 ∷ []) 0 4 (Refused Truncated 0)
    ∷ Reads (0x00 ∷ 0x00 ∷ []) 1 0 (Refused Truncated 1)
    ∷ Reads (0x80 ∷ 0xff ∷ 0xfe ∷ 0xfe ∷ 0x3e ∷ []) 0 1 (Refused TagOverflowed 0)
    ∷ Reads (0x81 ∷ 0x00 ∷ replicate 9 0xff) 0 1 (Refused InvalidVarint 0)
    ∷ Reads (0x82 ∷ 0x00 ∷ 0x00 ∷ 0x00 ∷ 0x00 ∷ 0x00 ∷ []) 0 1 (Refused Truncated 0)
    ∷ Reads (0x00 ∷ 0x00 ∷ 0x00 ∷ 0x00 ∷ []) 0 3 (Refused Truncated 2)
    ∷ Reads (0x01 ∷ 0xff ∷ replicate 8 0xfe) 0 10 (Refused Truncated 0)
    ∷ Reads (0x06 ∷ 0x01 ∷ 0x02 ∷ 0x00 ∷ 0x00 ∷ []) 0 5 (Fields (record { tag = 1; value = val.ThirtyTwoBit 513 } ∷ []))
    ∷ Skips (0x02 ∷ 0x00 ∷ 0x00 ∷ []) 1 0 wire_type.LengthDelimited (reached.To 3)
    ∷ Skips (0x00 ∷ 0x00 ∷ 0x00 ∷ 0x00 ∷ []) 1 0 wire_type.ThirtyTwoBit (reached.To 4)
    ∷ Skips (0x00 ∷ 0x01 ∷ 0x05 ∷ []) 3 0 wire_type.Varint (reached.Refused Truncated (record { place = 2; bytes = 0 }))
    ∷ Skips (0x05 ∷ 0x00 ∷ 0x06 ∷ 0x04 ∷ 0x07 ∷ []) 1 0 wire_type.Varint (reached.To 1)
    ∷ Skips (0x05 ∷ []) 0 0 wire_type.Varint (reached.To 1)
    ∷ []

abbrev pub table : List Case
table = numbers ++ (messages ++ edges)

-- what holds of two lists holds of both in one
pub joined : (xs ys : List Case) → All Right xs → All Right ys → All Right (xs ++ ys)
joined [] ys h g = g
joined (x ∷ xs) ys h g = (h.0, joined xs ys h.1 g)

pub numbers-right : All Right numbers
unfolding encode varint_at field_at read_message looks past_at skip_at
numbers-right = ((refl, refl), ((refl, refl), ((refl, refl), ((refl, refl), ((refl, refl), ((refl, refl), ((refl, refl), (refl, tt))))))))

pub messages-right : All Right messages
unfolding encode varint_at field_at read_message looks past_at skip_at
messages-right = (refl, (refl, (refl, (refl, (refl, (refl, (refl, (refl, (refl, (refl, (refl, tt)))))))))))

pub edges-right : All Right edges
unfolding encode varint_at field_at read_message looks past_at skip_at
edges-right = (refl, (refl, (refl, (refl, (refl, (refl, (refl, (refl, (refl, (refl, (refl, (refl, (refl, (refl, (refl, (refl, (refl, tt)))))))))))))))))
