-- Wire types and their numbers (rule K2), and that a key's length does not depend on its type (rule K5).
use Rattle.std.specs.Prelude.{ℕ, ◌+◌, ◌*◌, ◌<◌, ◌≡◌, refl, length}
use Rattle.std.proofs.Common.{arith}
use Rattle.wire.specs.Varint.{encode}
use Rattle.wire.specs.VarintLength.{length-four}
use Rattle.wire.specs.Numbers.{kind_of}
use Rattle.wire.specs.Reading.{wire_of}
use Rattle.wire.specs.declared.WireType.{WireType}
use Rattle.wire.specs.declared.WireType.TheVariants.{Varint, LengthDelimited, ThirtyTwoBit, SixtyFourBit}
use Rattle.wire.specs.Types.{kind-below}

-- A KEY IS MEASURED WITHOUT ITS TYPE (rule K5): all limits are multiples of four, so the type never changes the length
pub key-length : (d : ℕ) (w : WireType) → length (encode (4 * d + kind_of w)) ≡ length (encode (4 * d))
key-length d w = length-four d (kind_of w) (kind-below w)
