-- Each type by its own loop, or by the length.
use mathlib.Core.Path.{◌∙◌, ap, sym}
use Rattle.wire.specs.declared.WireType.{WireType}
use Rattle.run_read.specs.Packed.{packed}
use Rattle.run_read.specs.Runs.{count_of}
use Rattle.run_read.specs.Widths.{fours-counted, eights-counted}
use Rattle.run_read.proofs.count_values.Goals as goal

pub returns-in-Varint : goal.returns-in-Varint
returns-in-Varint c =
    let a = c.args in
    c.count_numbers.ensures ∙ ap (λ (w : WireType). count_of (packed a.s.now w)) (sym c.in-Varint.is)

pub returns-in-LengthDelimited : goal.returns-in-LengthDelimited
returns-in-LengthDelimited c =
    let a = c.args in
    c.count_payloads.ensures ∙ ap (λ (w : WireType). count_of (packed a.s.now w)) (sym c.in-LengthDelimited.is)

pub returns-in-ThirtyTwoBit : goal.returns-in-ThirtyTwoBit
returns-in-ThirtyTwoBit c =
    let a = c.args in
    c.count_fixed.ensures ∙ fours-counted a.s.now ∙ ap (λ (w : WireType). count_of (packed a.s.now w)) (sym c.in-ThirtyTwoBit.is)

pub returns-in-SixtyFourBit : goal.returns-in-SixtyFourBit
returns-in-SixtyFourBit c =
    let a = c.args in
    c.count_fixed-in-SixtyFourBit.ensures ∙ eights-counted a.s.now ∙ ap (λ (w : WireType). count_of (packed a.s.now w)) (sym c.in-SixtyFourBit.is)
