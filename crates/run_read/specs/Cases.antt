-- Cases of rules U1 to U4, computed.
use Rattle.std.specs.Prelude.{◌≡◌, refl, [], ◌∷◌}
use Rattle.wire.specs.Limits.{no_key}
use Rattle.wire.specs.Reading.{varint_at}
use Rattle.wire.specs.declared.Refusal.TheVariants.{Truncated, InvalidVarint, NoRoom}
use Rattle.wire.specs.declared.WireType.TheVariants.{Varint, LengthDelimited, ThirtyTwoBit, SixtyFourBit}
use Rattle.wire.specs.declared.Value.TheVariants as val
use Rattle.entry_answer.specs.Gate.{gated}
use Rattle.entry_answer.specs.declared.RunCount.TheVariants as count
use Rattle.entry_answer.specs.declared.RunValue.TheVariants as value
use Rattle.run_read.specs.Packed.{packed, packed_from}
use Rattle.run_read.specs.Runs.{run_count, run_value, read_run, outcome}

-- no bytes are the empty run of every type
pub none-varint : run_count [] Varint ≡ count.Values 0
unfolding run_count gated packed packed_from
none-varint = refl

pub none-payload : run_count [] LengthDelimited ≡ count.Values 0
unfolding run_count gated packed packed_from
none-payload = refl

pub none-four : run_count [] ThirtyTwoBit ≡ count.Values 0
unfolding run_count gated packed packed_from
none-four = refl

pub none-eight : run_count [] SixtyFourBit ≡ count.Values 0
unfolding run_count gated packed packed_from
none-eight = refl

-- three bytes are no value of four; a varint without its last byte; one of 2^64 or more
pub three-bytes : run_count (1 ∷ 2 ∷ 3 ∷ []) ThirtyTwoBit ≡ count.Refused Truncated
unfolding run_count gated packed packed_from
three-bytes = refl

pub cut-varint : run_count (128 ∷ []) Varint ≡ count.Refused Truncated
unfolding run_count gated packed packed_from varint_at
cut-varint = refl

pub nine-large : run_count (255 ∷ 255 ∷ 255 ∷ 255 ∷ 255 ∷ 255 ∷ 255 ∷ 255 ∷ 255 ∷ []) Varint ≡ count.Refused InvalidVarint
unfolding run_count gated packed packed_from varint_at
nine-large = refl

-- `01 AA 00`: two payloads, each behind its length
pub two-payloads : read_run (1 ∷ 170 ∷ 0 ∷ []) LengthDelimited (9 ∷ 9 ∷ 9 ∷ 9 ∷ 9 ∷ 9 ∷ 9 ∷ 9 ∷ 9 ∷ 9 ∷ 7 ∷ [])
    ≡ outcome (count.Values 2) (0 ∷ 1 ∷ 1 ∷ 1 ∷ no_key ∷ 0 ∷ 1 ∷ 3 ∷ 0 ∷ no_key ∷ 7 ∷ [])
unfolding read_run gated packed packed_from varint_at
two-payloads = refl

pub second-payload : run_value (1 ∷ 170 ∷ 0 ∷ []) LengthDelimited 1 ≡ value.Found (val.LengthDelimited 3 0)
unfolding run_value gated packed packed_from varint_at
second-payload = refl

-- a number past the end
pub past_the_end : run_value (1 ∷ 170 ∷ 0 ∷ []) LengthDelimited 2 ≡ value.Absent
unfolding run_value gated packed packed_from varint_at
past_the_end = refl

-- a value of a run that is broken behind it
pub broken-behind : run_value (0 ∷ 128 ∷ []) Varint 0 ≡ value.Refused Truncated
unfolding run_value gated packed packed_from varint_at
broken-behind = refl

-- no room is behind what is wrong with the run
pub no-room-last : read_run (0 ∷ 128 ∷ []) Varint [] ≡ outcome (count.Refused Truncated) []
unfolding read_run gated packed packed_from varint_at
no-room-last = refl

pub no_room : read_run (0 ∷ 5 ∷ []) Varint (9 ∷ 9 ∷ 9 ∷ 9 ∷ 9 ∷ 8 ∷ []) ≡ outcome (count.Refused NoRoom) (9 ∷ 9 ∷ 9 ∷ 9 ∷ 9 ∷ 8 ∷ [])
unfolding read_run gated packed packed_from varint_at
no_room = refl
