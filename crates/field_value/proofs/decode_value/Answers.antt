-- Each arm is the value of its wire type.
use mathlib.Core.Path.{◌∙◌, ap, sym}
use Rattle.wire.specs.Reading.{value_at}
use borrow.Author.Rules.{rules}
use Rattle.field_value.proofs.decode_value.Goals as goal

pub returns-in-Varint : goal.returns-in-Varint
returns-in-Varint c =
    let a = c.args in
    c.number_at.ensures ∙ ap (value_at a.s.now a.end a.at) (sym c.in-Varint.is)

pub returns-in-LengthDelimited : goal.returns-in-LengthDelimited
returns-in-LengthDelimited c =
    let a = c.args in
    c.payload_at.ensures ∙ ap (value_at a.s.now a.end a.at) (sym c.in-LengthDelimited.is)

pub returns-in-ThirtyTwoBit : goal.returns-in-ThirtyTwoBit
returns-in-ThirtyTwoBit c =
    let a = c.args in
    c.four_at.ensures ∙ ap (value_at a.s.now a.end a.at) (sym c.in-ThirtyTwoBit.is)

pub returns-in-SixtyFourBit : goal.returns-in-SixtyFourBit
returns-in-SixtyFourBit c =
    let a = c.args in
    c.eight_at.ensures ∙ ap (value_at a.s.now a.end a.at) (sym c.in-SixtyFourBit.is)
