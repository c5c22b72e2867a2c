-- The numbers of refusals (rule R1) and of wire types (rule K2).
use Rattle.std.specs.Prelude.{ℕ}
use Rattle.wire.specs.declared.Refusal.{Refusal}
use Rattle.wire.specs.declared.Refusal.TheVariants.{Truncated, InvalidVarint, TagOverflowed, TooLong, NoRoom, BadRecord, OutOfOrder, BadCap}
use Rattle.wire.specs.declared.Refusal.TheVariants.{WrongWireType, OutOfRange, Repeated, BadIndex, MissingField, NotCanonical, UnknownField}
use Rattle.wire.specs.declared.WireType.{WireType}
use Rattle.wire.specs.declared.WireType.TheVariants.{Varint, LengthDelimited, ThirtyTwoBit, SixtyFourBit}

-- Rule R1: of a refusal; 0 is accepted
abbrev pub number_of : Refusal → ℕ
number_of Truncated = 1
number_of InvalidVarint = 2
number_of TagOverflowed = 3
number_of TooLong = 4
number_of NoRoom = 5
number_of BadRecord = 6
number_of OutOfOrder = 7
number_of BadCap = 8
number_of WrongWireType = 9
number_of OutOfRange = 10
number_of Repeated = 11
number_of BadIndex = 12
number_of MissingField = 13
number_of NotCanonical = 14
number_of UnknownField = 15

-- Rule K2: of a wire type, its kind
abbrev pub kind_of : WireType → ℕ
kind_of Varint = 0
kind_of LengthDelimited = 1
kind_of ThirtyTwoBit = 2
kind_of SixtyFourBit = 3
