-- Each turn counts a value.
use mathlib.Core.Path.{◌≡◌, ◌∙◌, sym}
use native.Mathlib.Omega.{arith}
use Prim.Native.Nat.{◌≤◌, ◌<◌}
use lib.ListN.{length}
use Rattle.wire.specs.Reading.{value_at}
use Rattle.wire.proofs.ReadingLaws.{value-moves}
use Rattle.wire.specs.declared.ValueFound.TheVariants as value_found
use Rattle.wire.specs.declared.WireType.TheVariants.{LengthDelimited}
use Rattle.run_read.proofs.Going.{count-start, count-end, count-stops, count-on}
use Rattle.run_read.proofs.count_payloads.Goals as goal

pub loop-p-init : goal.loop-p-init
loop-p-init c = count-start _ _

pub returns-in-Refused : goal.returns-in-Refused
returns-in-Refused c = count-stops c.loop-p.invariant _ c.loop-p-test.true (sym c.payload_at.ensures ∙ c.in-Refused.is)

pub overflow_add-count : goal.overflow_add-count
overflow_add-count c =
    let found : value_at c.args.s.now (length c.args.s.now) c.loop-p.p LengthDelimited ≡ value_found.Got c.in-Got.field-0 c.in-Got.next = sym c.payload_at.ensures ∙ c.in-Got.is in
    let moves : (c.loop-p.p < c.in-Got.next) × (c.in-Got.next ≤ length c.args.s.now) = let a = c.args in
    value-moves a.s.now (length a.s.now) c.loop-p.p LengthDelimited _ _ found in
    let m = moves in
    omega (arith, m.0, m.1, c.loop-p.invariant.few, c.well_formed)

pub loop-p-smaller : goal.loop-p-smaller
loop-p-smaller c =
    let found : value_at c.args.s.now (length c.args.s.now) c.loop-p.p LengthDelimited ≡ value_found.Got c.in-Got.field-0 c.in-Got.next = sym c.payload_at.ensures ∙ c.in-Got.is in
    let moves : (c.loop-p.p < c.in-Got.next) × (c.in-Got.next ≤ length c.args.s.now) = let a = c.args in
    value-moves a.s.now (length a.s.now) c.loop-p.p LengthDelimited _ _ found in
    let m = moves in omega (arith, m.0, m.1)

pub loop-p-preserved : goal.loop-p-preserved
loop-p-preserved c =
    let found : value_at c.args.s.now (length c.args.s.now) c.loop-p.p LengthDelimited ≡ value_found.Got c.in-Got.field-0 c.in-Got.next = sym c.payload_at.ensures ∙ c.in-Got.is in
    count-on c.loop-p.invariant _ _ c.loop-p-test.true found

pub returns : goal.returns
returns c = count-end c.loop-p.invariant c.loop-p-test.false
