-- The two widths.
use mathlib.Core.Path.{◌≡◌, ◌∙◌, ap, sym}
use mathlib.Core.Bool.{Bool}
use Prim.Native.Nat.{ℕ, ◌+◌, ◌*◌, ◌≤◌}
use native.Mathlib.Omega.{arith}
use lib.ListN.{length, take, drop}
use Rattle.wire.specs.Fixed.{number, eight}
use Rattle.wire.specs.declared.Value.TheVariants as val
use Rattle.run_read.specs.Packed.{run_record}
use Rattle.run_read.specs.Widths.{width, wide_value, width_four}
use Rattle.run_read.proofs.fixed_record.Goals as goal

pub four-low-requires : goal.four-low-requires
four-low-requires c = omega (arith, c.requires, width_four c.args.wide)

pub overflow_add-at : goal.overflow_add-at
overflow_add-at c =
    let inside : c.args.at + 8 ≤ length c.args.s.now = let a = c.args in rw (ap width c.if-wide.true) at c.requires in
    omega (arith, inside, c.well_formed.0.0)

pub four-high-requires : goal.four-high-requires
four-high-requires c =
    let inside : c.args.at + 8 ≤ length c.args.s.now = let a = c.args in rw (ap width c.if-wide.true) at c.requires in
    omega (arith, inside)

pub returns-then-wide : goal.returns-then-wide
returns-then-wide c =
    let inside : c.args.at + 8 ≤ length c.args.s.now = let a = c.args in rw (ap width c.if-wide.true) at c.requires in
    let a = c.args in
    let n = eight a.s.now a.at inside in
    let e : c.four-low.result + c.four-high.result * 0x1_0000_0000 ≡ number (take 8 (drop a.at a.s.now)) =
    omega (arith, n, c.four-low.ensures.0, c.four-high.ensures.0) in
    c.tagless.ensures ∙ ap (λ (x : ℕ). run_record (val.SixtyFourBit x)) e
    ∙ ap (λ (b : Bool). run_record (wide_value b a.s.now a.at)) (sym c.if-wide.true)

pub returns : goal.returns
returns c =
    let a = c.args in
    c.tagless-2.ensures ∙ ap (λ (x : ℕ). run_record (val.ThirtyTwoBit x)) c.four-low.ensures.0
    ∙ ap (λ (b : Bool). run_record (wide_value b a.s.now a.at)) (sym c.if-wide.false)
