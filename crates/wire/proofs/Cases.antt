-- The cases of FORMAT.md that are marked P, held against the definitions: one table, one theorem. Crate `demands` takes the same table to the programs.
use Rattle.std.specs.Prelude.{ℕ, ◌^◌, ◌-◌, ◌≡◌, refl, List, [], ◌∷◌, ◌++◌, length, replicate}
use Rattle.wire.specs.Varint.{encode}
use Rattle.wire.specs.Reading.{varint_at, field_at, Message, Fields, Refused, read_message}
use Rattle.wire.specs.Faults.{looks}
use Rattle.wire.specs.Skipping.{past_at, skip_at}
use Rattle.wire.specs.declared.Refusal.TheVariants.{Truncated, InvalidVarint, TagOverflowed}
use Rattle.wire.specs.declared.WireType.{WireType}
use Rattle.wire.specs.declared.WireType.TheVariants as wire_type
use Rattle.wire.specs.declared.Value.TheVariants as val
use Rattle.wire.specs.declared.VarintFound.{VarintFound}
use Rattle.wire.specs.declared.VarintFound.TheVariants as varint_found
use Rattle.wire.specs.declared.Reached.{Reached}
use Rattle.wire.specs.declared.Reached.TheVariants as reached
use Rattle.wire.specs.Cases.{All, Right, edges, edges-right, joined, messages, messages-right, numbers, numbers-right, table}

-- THE CASES ARE RIGHT: each is computed
pub cases : All Right table
cases = joined numbers (messages ++ edges) numbers-right (joined messages edges messages-right edges-right)
