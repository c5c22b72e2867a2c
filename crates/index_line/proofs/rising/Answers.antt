-- Each turn tests an entry.
use Prim.Native.Nat.{◌+◌, ◌≤◌}
use native.Mathlib.Omega.{arith}
use lib.ListN.{length}
use Rattle.index_line.specs.Line.{width}
use Rattle.index_line.proofs.Turns.{rise-start, rise-inside, rise-small, rise-low, rise-none, rise-turn, rise-end}
use Rattle.index_line.proofs.rising.Goals as goal

pub loop-left-init : goal.loop-left-init
loop-left-init c = rise-start _ _ _ c.requires.0 c.requires.1

pub number_at-tag-requires : goal.number_at-tag-requires
number_at-tag-requires c =
    let inside : c.loop-left.p + width c.args.w ≤ length c.args.line.now = rise-inside c.loop-left.invariant c.loop-left-test.true in
    (omega arith, omega (arith, inside))

pub returns-then-tag-least : goal.returns-then-tag-least
returns-then-tag-least c = rise-low c.loop-left.invariant c.loop-left-test.true c.number_at-tag.ensures c.if-tag-least.true

pub overflow_add-p : goal.overflow_add-p
overflow_add-p c =
    let inside : c.loop-left.p + width c.args.w ≤ length c.args.line.now = rise-inside c.loop-left.invariant c.loop-left-test.true in
    omega (arith, inside, c.well_formed)

pub overflow_add-p-in-loop-left : goal.overflow_add-p-in-loop-left
overflow_add-p-in-loop-left c =
    let inside : c.loop-left.p + width c.args.w ≤ length c.args.line.now = rise-inside c.loop-left.invariant c.loop-left-test.true in
    omega (arith, inside, c.well_formed)

pub number_at-requires : goal.number_at-requires
number_at-requires c =
    let inside : c.loop-left.p + width c.args.w ≤ length c.args.line.now = rise-inside c.loop-left.invariant c.loop-left-test.true in
    (c.loop-left.invariant.thin, omega (arith, inside))

pub returns-then-number_at-eq0 : goal.returns-then-number_at-eq0
returns-then-number_at-eq0 c =
    rise-none c.loop-left.invariant c.loop-left-test.true c.number_at-tag.ensures c.number_at.ensures
    c.if-tag-least.false c.if-number_at-eq0.true

pub overflow_add-least : goal.overflow_add-least
overflow_add-least c = omega (arith, rise-small c.loop-left.invariant c.loop-left-test.true c.number_at-tag.ensures)

pub overflow_mul-p : goal.overflow_mul-p
overflow_mul-p c = omega (arith, c.loop-left.invariant.thin)

pub overflow_add-p-in-loop-left-2 : goal.overflow_add-p-in-loop-left-2
overflow_add-p-in-loop-left-2 c = omega (arith, c.loop-left.invariant.thin)

pub overflow_add-p-in-loop-left-3 : goal.overflow_add-p-in-loop-left-3
overflow_add-p-in-loop-left-3 c =
    let inside : c.loop-left.p + width c.args.w ≤ length c.args.line.now = rise-inside c.loop-left.invariant c.loop-left-test.true in
    omega (arith, inside, c.well_formed)

pub overflow_sub-left : goal.overflow_sub-left
overflow_sub-left c = omega (arith, c.loop-left-test.true)

pub loop-left-smaller : goal.loop-left-smaller
loop-left-smaller c = omega (arith, c.loop-left-test.true)

pub loop-left-preserved : goal.loop-left-preserved
loop-left-preserved c =
    rise-turn c.loop-left.invariant c.loop-left-test.true c.number_at-tag.ensures c.number_at.ensures
    c.if-tag-least.false c.if-number_at-eq0.false

pub returns : goal.returns
returns c = rise-end c.loop-left.invariant c.loop-left-test.false
