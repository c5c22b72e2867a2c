-- Skipping: the values of one tag, one behind the other, passed over (rules S1 to S5).
use Rattle.std.specs.Prelude.{ℕ, zero, suc, ◌+◌, ◌-◌, Bool, false, List, ltb, leb, length, get_or}
use Rattle.wire.specs.Choose.{choose}
use Rattle.wire.specs.Reading.{capped_at, wire_of}
use Rattle.wire.specs.Faults.{varint_fault, plain_fault}
use Rattle.wire.specs.declared.Refusal.TheVariants.{Truncated}
use Rattle.wire.specs.declared.WireType.{WireType}
use Rattle.wire.specs.declared.WireType.TheVariants.{Varint, LengthDelimited, ThirtyTwoBit, SixtyFourBit}
use Rattle.wire.specs.declared.VarintFound.{VarintFound}
use Rattle.wire.specs.declared.VarintFound.TheVariants as varint_found
use Rattle.wire.specs.declared.Reached.{Reached}
use Rattle.wire.specs.declared.Reached.TheVariants.{To, Refused}

-- Rule F4: of all that is skipped, the value that fails is named, by its own place p

-- Rule S3: bytes up to place q are passed if the slice has them; the end is not asked
abbrev pub in_slice : List ℕ → ℕ → ℕ → Reached
in_slice s p q = choose (leb q (length s)) (To q) (Refused Truncated (plain_fault p))

abbrev pub past_number : List ℕ → ℕ → VarintFound → Reached
past_number s p (varint_found.Got v q) = To q
past_number s p (varint_found.Refused r) = Refused r (varint_fault s p)

abbrev pub past_payload : List ℕ → ℕ → VarintFound → Reached
past_payload s p (varint_found.Got n q) = in_slice s p (q + n)
past_payload s p (varint_found.Refused r) = Refused r (varint_fault s p)

-- Rules S1, S2 and S3: one value; a length too is read with the change of name
unfoldable pub past_at : List ℕ → ℕ → ℕ → WireType → Reached
past_at s e p Varint = past_number s p (capped_at s e p)
past_at s e p LengthDelimited = past_payload s p (capped_at s e p)
past_at s e p ThirtyTwoBit = in_slice s p (p + 4)
past_at s e p SixtyFourBit = in_slice s p (p + 8)

-- Rule S4: whether one more field of the same tag follows: a byte below 4 that stands before the end
abbrev pub repeats : List ℕ → ℕ → ℕ → Bool
repeats s e q = choose (ltb q e) (ltb (get_or s q 4) 4) false

-- Rules S4 and S5: what follows a value
abbrev pub beyond : List ℕ → ℕ → Reached → (ℕ → WireType → Reached) → Reached
beyond s e (To q) go = choose (repeats s e q) (go (suc q) (wire_of (get_or s q 0))) (To q)
beyond s e (Refused r f) go = Refused r f

-- from place p, with at most k values more
abbrev pub skip_from : ℕ → List ℕ → ℕ → ℕ → WireType → Reached
skip_from zero s e p w = past_at s e p w
skip_from (suc k) s e p w = beyond s e (past_at s e p w) (skip_from k s e)

-- Rule S1: from a value of a wire type at place p; every value takes a byte at least
unfoldable pub skip_at : List ℕ → ℕ → ℕ → WireType → Reached
skip_at s e p w = skip_from (length s - p) s e p w
