-- A payload's own place, or all from behind the key up to behind the value.
use mathlib.Core.Path.{ap, sym}
use Rattle.wire.specs.declared.Value.{Value}
use Rattle.correct_supply.specs.Supplying.{between}
use Rattle.correct_supply.proofs.bare.Goals as goal

pub returns-in-Varint : goal.returns-in-Varint
returns-in-Varint c = let a = c.args in sym (ap (λ (v : Value). between v a.at a.next) c.in-Varint.is)

pub returns-in-LengthDelimited : goal.returns-in-LengthDelimited
returns-in-LengthDelimited c = let a = c.args in sym (ap (λ (v : Value). between v a.at a.next) c.in-LengthDelimited.is)

pub returns-in-ThirtyTwoBit : goal.returns-in-ThirtyTwoBit
returns-in-ThirtyTwoBit c = let a = c.args in sym (ap (λ (v : Value). between v a.at a.next) c.in-ThirtyTwoBit.is)

pub returns-in-SixtyFourBit : goal.returns-in-SixtyFourBit
returns-in-SixtyFourBit c = let a = c.args in sym (ap (λ (v : Value). between v a.at a.next) c.in-SixtyFourBit.is)
