-- Wire types and their numbers (rule K2), and that a key's length does not depend on its type (rule K5).
use Rattle.std.specs.Prelude.{ℕ, ◌+◌, ◌*◌, ◌<◌, ◌≡◌, refl, length}
use Rattle.std.proofs.Common.{arith}
use Rattle.wire.specs.Varint.{encode}
use Rattle.wire.specs.VarintLength.{length-four}
use Rattle.wire.specs.Numbers.{kind_of}
use Rattle.wire.specs.Reading.{wire_of}
use Rattle.wire.specs.declared.WireType.{WireType}
use Rattle.wire.specs.declared.WireType.TheVariants.{Varint, LengthDelimited, ThirtyTwoBit, SixtyFourBit}

pub kind-below : (w : WireType) → kind_of w < 4
kind-below Varint = omega arith
kind-below LengthDelimited = omega arith
kind-below ThirtyTwoBit = omega arith
kind-below SixtyFourBit = omega arith

pub wire-kind : (w : WireType) → wire_of (kind_of w) ≡ w
wire-kind Varint = refl
wire-kind LengthDelimited = refl
wire-kind ThirtyTwoBit = refl
wire-kind SixtyFourBit = refl
