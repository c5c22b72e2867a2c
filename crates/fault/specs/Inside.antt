-- Where a failing read lies, and what the bytes are that it looked at: what can be seen in a dump of the bytes.
use Rattle.std.specs.Prelude.{ℕ, zero, suc, ◌+◌, ◌-◌, ◌≤◌, ◌<◌, Bool, true, false, List, ltb, length, take, drop, get_or}
use Rattle.std.proofs.Math.Path.{◌≡◌, refl, ap, sym}
use Rattle.std.proofs.Common.{◌∙◌, arith, lt-ltb, le-ltb, ltb-true, ltb-false, length-drop, get_or-take, get_or-drop, length-take-le}
use Rattle.wire.specs.VarintLaws.{Bytes}
use Rattle.wire.specs.VarintMeaning.{stops-out}
use Rattle.wire.proofs.VarintMeaning.{sum-spells}
use Rattle.wire.specs.Faults.{varint_fault, plain_fault}
use Rattle.wire.specs.Reading.{varint_at, key_at, value_at, tagged, field_at, step_at, reads_from, read_message}
use Rattle.wire.specs.Reading as reading
use Rattle.wire.specs.ReadingLaws.{key-took}
use Rattle.wire.proofs.ReadingLaws.{varint-moves, field-moves}
use Rattle.wire.specs.StepBack.{way, Steps, field, refused, end, past, steps}
use Rattle.wire.specs.StepLaws.{field-keyed}
use Rattle.wire.specs.Theorem.{turn-field, turn-refused}
use Rattle.wire.specs.declared.Fault.{Fault}
use Rattle.wire.specs.declared.Refusal.{Refusal}
use Rattle.wire.specs.declared.WireType.{WireType}
use Rattle.wire.specs.declared.WireType.TheVariants.{Varint, LengthDelimited, ThirtyTwoBit, SixtyFourBit}
use Rattle.wire.specs.declared.Field.{Field}
use Rattle.wire.specs.declared.Key.{Key}
use Rattle.wire.specs.declared.VarintFound.{VarintFound}
use Rattle.wire.specs.declared.VarintFound.TheVariants as varint_found
use Rattle.wire.specs.declared.KeyFound.{KeyFound}
use Rattle.wire.specs.declared.KeyFound.TheVariants as key_found
use Rattle.wire.specs.declared.ValueFound.{ValueFound}
use Rattle.wire.specs.declared.ValueFound.TheVariants as value_found
use Rattle.wire.specs.declared.FieldFound.{FieldFound}
use Rattle.wire.specs.declared.FieldFound.TheVariants as field_found
use Rattle.wire.specs.declared.Stepped.TheVariants as stepped
use Rattle.fault.specs.Fault.{begun_by, key_fault, value_fault, field_fault_of, field_fault, step_fault, faults_from, message_fault}
use Rattle.fault.specs.Short.{Fails, short, large, varint-fails, number-refused, refused-in-front, ended-refused}
use Rattle.fault.specs.Short.{faults-field, faults-refused, faults-ended}

-- a failing read of slice s that stands nowhere before a place
pub record Blamed (s : List ℕ) (low : ℕ) (f : Fault) : Type 0 where
  pub from : low ≤ f.place
  pub few : f.bytes ≤ 9
  pub inside : f.place + f.bytes ≤ length s
  -- bytes are told of a varint alone, that is refused there
  pub varint : 0 < f.bytes → (x : Refusal) × (varint_at s f.place ≡ varint_found.Refused x)
  -- and all of them but perhaps the last are 0x80 or more
  pub on : (i : ℕ) → suc i < f.bytes → 128 ≤ get_or s (f.place + i) 0
