-- Each turn writes a record.
use mathlib.Core.Path.{◌≡◌, ◌∙◌, refl, sym}
use native.Mathlib.Omega.{arith}
use Prim.Native.Nat.{◌≤◌, ◌<◌}
use lib.ListN.{length}
use Rattle.wire.specs.Reading.{value_at}
use Rattle.wire.proofs.ReadingLaws.{value-moves}
use Rattle.wire.specs.declared.ValueFound.TheVariants as value_found
use Rattle.wire.specs.declared.WireType.TheVariants.{Varint}
use Rattle.run_read.proofs.Going.{fill_start, fill_end, fill-refused, fill-room, fill_on}
use Rattle.run_read.proofs.fill_numbers.Goals as goal

pub loop-p-init : goal.loop-p-init
loop-p-init c = (fill_start _ _ _ c.requires, refl)

pub shape_of-table-in-Refused : goal.shape_of-table-in-Refused
shape_of-table-in-Refused c = c.loop-p.invariant.1

pub returns-in-Refused : goal.returns-in-Refused
returns-in-Refused c = fill-refused c.loop-p.invariant.0 _ c.loop-p-test.true (sym c.number_from.ensures ∙ c.in-Refused.is)

pub store-requires : goal.store-requires
store-requires c =
    let found : value_at c.args.s.now (length c.args.s.now) c.loop-p.p Varint ≡ value_found.Got c.in-Got.v c.in-Got.next = sym c.number_from.ensures ∙ c.in-Got.is in
    fill-room c.loop-p.invariant.0 _ _ c.loop-p-test.true found

pub overflow_add-i : goal.overflow_add-i
overflow_add-i c =
    let found : value_at c.args.s.now (length c.args.s.now) c.loop-p.p Varint ≡ value_found.Got c.in-Got.v c.in-Got.next = sym c.number_from.ensures ∙ c.in-Got.is in
    omega (arith, fill-room c.loop-p.invariant.0 _ _ c.loop-p-test.true found, c.loop-p.invariant.1, c.well_formed)

pub loop-p-smaller : goal.loop-p-smaller
loop-p-smaller c =
    let found : value_at c.args.s.now (length c.args.s.now) c.loop-p.p Varint ≡ value_found.Got c.in-Got.v c.in-Got.next = sym c.number_from.ensures ∙ c.in-Got.is in
    let moves : (c.loop-p.p < c.in-Got.next) × (c.in-Got.next ≤ length c.args.s.now) = let a = c.args in
    value-moves a.s.now (length a.s.now) c.loop-p.p Varint _ _ found in
    let m = moves in
    omega (arith, m.0, m.1)

pub loop-p-preserved : goal.loop-p-preserved
loop-p-preserved c =
    let found : value_at c.args.s.now (length c.args.s.now) c.loop-p.p Varint ≡ value_found.Got c.in-Got.v c.in-Got.next = sym c.number_from.ensures ∙ c.in-Got.is in
    let f = fill_on c.loop-p.invariant.0 _ _ c.loop-p-test.true found _ _ c.run_record.ensures c.store.ensures in
    (f.0, f.1 ∙ c.loop-p.invariant.1)

pub shape_of-table : goal.shape_of-table
shape_of-table c = c.loop-p.invariant.1

pub returns : goal.returns
returns c = fill_end c.loop-p.invariant.0 c.loop-p-test.false
