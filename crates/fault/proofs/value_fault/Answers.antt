-- By the wire type.
use mathlib.Core.Path.{◌∙◌, ap, sym}
use lib.ListN.{length}
use Rattle.fault.specs.Short.{short-told, value_short}
use borrow.Author.Rules.{rules}
use Rattle.fault.proofs.value_fault.Goals as goal

pub returns-in-Varint : goal.returns-in-Varint
unfolding value_short
returns-in-Varint c =
    let a = c.args in
    short-told (length a.s.now) a.at _ c.looked.ensures ∙ ap (value_short a.s.now a.at) (sym c.in-Varint.is)

pub returns-in-LengthDelimited : goal.returns-in-LengthDelimited
returns-in-LengthDelimited c =
    let a = c.args in
    c.length_fault.ensures ∙ ap (value_short a.s.now a.at) (sym c.in-LengthDelimited.is)

pub returns-in-ThirtyTwoBit : goal.returns-in-ThirtyTwoBit
unfolding value_short
returns-in-ThirtyTwoBit c = let a = c.args in ap (value_short a.s.now a.at) (sym c.in-ThirtyTwoBit.is)

pub returns-in-SixtyFourBit : goal.returns-in-SixtyFourBit
unfolding value_short
returns-in-SixtyFourBit c = let a = c.args in ap (value_short a.s.now a.at) (sym c.in-SixtyFourBit.is)
