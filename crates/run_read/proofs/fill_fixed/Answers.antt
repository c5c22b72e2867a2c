-- Each turn writes the record of a fixed value.
use mathlib.Core.Path.{◌∙◌, refl}
use native.Mathlib.Omega.{arith}
use Prim.Native.Nat.{◌+◌, ◌≤◌}
use lib.ListN.{length}
use Rattle.run_read.specs.Widths.{width, width_four}
use Rattle.run_read.proofs.Going.{fill_start, fill_end, wide-inside, wide_room, wide-on}
use Rattle.run_read.proofs.fill_fixed.Goals as goal

pub loop-p-init : goal.loop-p-init
loop-p-init c = (fill_start _ _ _ c.requires, refl)

pub fixed_record-requires : goal.fixed_record-requires
fixed_record-requires c = wide-inside c.args.wide c.loop-p.invariant.0 c.loop-p-test.true

pub store-requires : goal.store-requires
store-requires c = wide_room c.args.wide c.loop-p.invariant.0 c.loop-p-test.true

pub overflow_add-p : goal.overflow_add-p
overflow_add-p c =
    let inside : c.loop-p.p + width c.args.wide ≤ length c.args.s.now = wide-inside c.args.wide c.loop-p.invariant.0 c.loop-p-test.true in
    omega (arith, inside, c.width_of-n.ensures, c.well_formed)

pub overflow_add-i : goal.overflow_add-i
overflow_add-i c = omega (arith, wide_room c.args.wide c.loop-p.invariant.0 c.loop-p-test.true, c.loop-p.invariant.1, c.well_formed)

pub loop-p-smaller : goal.loop-p-smaller
loop-p-smaller c =
    let inside : c.loop-p.p + width c.args.wide ≤ length c.args.s.now = wide-inside c.args.wide c.loop-p.invariant.0 c.loop-p-test.true in
    omega (arith, inside, c.width_of-n.ensures, width_four c.args.wide)

pub loop-p-preserved : goal.loop-p-preserved
loop-p-preserved c =
    let b = c.args.wide in
    let f = wide-on b c.loop-p.invariant.0 c.loop-p-test.true _ _ c.fixed_record.ensures c.store.ensures in
    (rw c.width_of-n.ensures f.0, f.1 ∙ c.loop-p.invariant.1)

pub shape_of-table : goal.shape_of-table
shape_of-table c = c.loop-p.invariant.1

pub returns : goal.returns
returns c = fill_end c.loop-p.invariant.0 c.loop-p-test.false
