-- Each turn counts those that were passed, and the value behind them.
use mathlib.Core.Path.{◌≡◌, ◌∙◌, sym}
use native.Mathlib.Omega.{arith}
use Prim.Native.Nat.{◌+◌, ◌≤◌, ◌<◌}
use lib.ListN.{length}
use Rattle.wire.specs.Reading.{value_at}
use Rattle.wire.proofs.ReadingLaws.{value-moves}
use Rattle.wire.specs.declared.ValueFound.TheVariants as value_found
use Rattle.wire.specs.declared.WireType.TheVariants.{Varint}
use Rattle.run_read.specs.Short.{reads-inside}
use Rattle.run_read.proofs.Going.{Counting, count-start, count-end, count-stops, count-on, count-many}
use Rattle.run_read.proofs.count_numbers.Goals as goal

pub loop-p-init : goal.loop-p-init
loop-p-init c = count-start _ _

pub pass_short-short-requires : goal.pass_short-short-requires
pass_short-short-requires c = omega (arith, c.loop-p-test.true)

pub overflow_add-count : goal.overflow_add-count
overflow_add-count c =
    let passed : Counting c.args.s.now Varint c.pass_short-short.result.next (c.loop-p.count + c.pass_short-short.result.count) = count-many c.loop-p.invariant _ _ c.pass_short-short.ensures in
    let n = passed in omega (arith, n.few, n.rest.inside, c.well_formed)

pub returns-in-Refused : goal.returns-in-Refused
returns-in-Refused c =
    let passed : Counting c.args.s.now Varint c.pass_short-short.result.next (c.loop-p.count + c.pass_short-short.result.count) = count-many c.loop-p.invariant _ _ c.pass_short-short.ensures in
    count-stops passed _ c.if-p-s.true (sym c.number_from.ensures ∙ c.in-Refused.is)

pub overflow_add-count-in-Got : goal.overflow_add-count-in-Got
overflow_add-count-in-Got c =
    let passed : Counting c.args.s.now Varint c.pass_short-short.result.next (c.loop-p.count + c.pass_short-short.result.count) = count-many c.loop-p.invariant _ _ c.pass_short-short.ensures in
    let found : value_at c.args.s.now (length c.args.s.now) c.pass_short-short.result.next Varint ≡ value_found.Got c.in-Got.field-0 c.in-Got.next = sym c.number_from.ensures ∙ c.in-Got.is in
    let moves : (c.pass_short-short.result.next < c.in-Got.next) × (c.in-Got.next ≤ length c.args.s.now) = let s = c.args.s.now in
    value-moves s (length s) c.pass_short-short.result.next Varint _ _ found in
    let m = moves in
    omega (arith, m.0, m.1, passed.few, c.well_formed)

pub loop-p-smaller-in-Got : goal.loop-p-smaller-in-Got
loop-p-smaller-in-Got c =
    let ahead : c.loop-p.p ≤ c.pass_short-short.result.next = let s = c.args.s.now in
    let r = c.pass_short-short.result in
    omega (arith, (reads-inside s Varint c.loop-p.p r.count r.next c.pass_short-short.ensures (omega (arith, c.loop-p-test.true))).0) in
    let found : value_at c.args.s.now (length c.args.s.now) c.pass_short-short.result.next Varint ≡ value_found.Got c.in-Got.field-0 c.in-Got.next = sym c.number_from.ensures ∙ c.in-Got.is in
    let moves : (c.pass_short-short.result.next < c.in-Got.next) × (c.in-Got.next ≤ length c.args.s.now) = let s = c.args.s.now in
    value-moves s (length s) c.pass_short-short.result.next Varint _ _ found in
    let m = moves in
    omega (arith, m.0, m.1, ahead)

pub loop-p-preserved-in-Got : goal.loop-p-preserved-in-Got
loop-p-preserved-in-Got c =
    let passed : Counting c.args.s.now Varint c.pass_short-short.result.next (c.loop-p.count + c.pass_short-short.result.count) = count-many c.loop-p.invariant _ _ c.pass_short-short.ensures in
    let found : value_at c.args.s.now (length c.args.s.now) c.pass_short-short.result.next Varint ≡ value_found.Got c.in-Got.field-0 c.in-Got.next = sym c.number_from.ensures ∙ c.in-Got.is in
    count-on passed _ _ c.if-p-s.true found

pub loop-p-smaller : goal.loop-p-smaller
loop-p-smaller c = omega (arith, c.if-p-s.false, c.loop-p-test.true)

pub loop-p-preserved : goal.loop-p-preserved
loop-p-preserved c =
    let passed : Counting c.args.s.now Varint c.pass_short-short.result.next (c.loop-p.count + c.pass_short-short.result.count) = count-many c.loop-p.invariant _ _ c.pass_short-short.ensures in
    passed

pub returns : goal.returns
returns c = count-end c.loop-p.invariant c.loop-p-test.false
