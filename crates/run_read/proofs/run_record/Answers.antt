-- The record of each kind of value.
use mathlib.Core.Path.{◌∙◌, ap, sym}
use Rattle.run_read.specs.Packed.{run_record}
use Rattle.run_read.proofs.run_record.Goals as goal

pub returns-in-Varint : goal.returns-in-Varint
returns-in-Varint c = c.tagless.ensures ∙ sym (ap run_record c.in-Varint.is)

pub returns-in-LengthDelimited : goal.returns-in-LengthDelimited
returns-in-LengthDelimited c = c.tagless-in-LengthDelimited.ensures ∙ sym (ap run_record c.in-LengthDelimited.is)

pub returns-in-ThirtyTwoBit : goal.returns-in-ThirtyTwoBit
returns-in-ThirtyTwoBit c = c.tagless-in-ThirtyTwoBit.ensures ∙ sym (ap run_record c.in-ThirtyTwoBit.is)

pub returns-in-SixtyFourBit : goal.returns-in-SixtyFourBit
returns-in-SixtyFourBit c = c.tagless-in-SixtyFourBit.ensures ∙ sym (ap run_record c.in-SixtyFourBit.is)
