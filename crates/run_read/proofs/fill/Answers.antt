-- Each type by its own loop.
use mathlib.Core.Path.{◌∙◌, ap, sym}
use Rattle.wire.specs.declared.WireType.{WireType}
use Rattle.run_read.specs.Packed.{packed}
use Rattle.run_read.specs.Runs.{into_table}
use Rattle.run_read.proofs.fill.Goals as goal

pub fill_numbers-requires : goal.fill_numbers-requires
fill_numbers-requires c = rw c.in-Varint.is at c.requires

pub fill_payloads-requires : goal.fill_payloads-requires
fill_payloads-requires c = rw c.in-LengthDelimited.is at c.requires

pub fill_fixed-requires : goal.fill_fixed-requires
fill_fixed-requires c = rw c.in-ThirtyTwoBit.is at c.requires

pub fill_fixed-requires-in-SixtyFourBit : goal.fill_fixed-requires-in-SixtyFourBit
fill_fixed-requires-in-SixtyFourBit c = rw c.in-SixtyFourBit.is at c.requires

pub returns-in-Varint : goal.returns-in-Varint
returns-in-Varint c =
    let a = c.args in
    c.fill_numbers.ensures
    ∙ ap (λ (w : WireType). into_table a.table.now (packed a.s.now w)) (sym c.in-Varint.is)

pub returns-in-LengthDelimited : goal.returns-in-LengthDelimited
returns-in-LengthDelimited c =
    let a = c.args in
    c.fill_payloads.ensures
    ∙ ap (λ (w : WireType). into_table a.table.now (packed a.s.now w)) (sym c.in-LengthDelimited.is)

pub returns-in-ThirtyTwoBit : goal.returns-in-ThirtyTwoBit
returns-in-ThirtyTwoBit c =
    let a = c.args in
    c.fill_fixed.ensures
    ∙ ap (λ (w : WireType). into_table a.table.now (packed a.s.now w)) (sym c.in-ThirtyTwoBit.is)

pub returns-in-SixtyFourBit : goal.returns-in-SixtyFourBit
returns-in-SixtyFourBit c =
    let a = c.args in
    c.fill_fixed-in-SixtyFourBit.ensures
    ∙ ap (λ (w : WireType). into_table a.table.now (packed a.s.now w)) (sym c.in-SixtyFourBit.is)
