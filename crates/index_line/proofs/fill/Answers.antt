-- Each turn stores an entry.
use Prim.Native.Nat.{◌+◌, ◌≤◌}
use native.Mathlib.Omega.{arith}
use lib.ListN.{length, length-set}
use Rattle.index.specs.Index.{index_words}
use Rattle.index_line.specs.Line.{width}
use Rattle.index_line.proofs.Turns.{fill_start, fill-inside, fill-words, fill-turn, fill_end}
use Rattle.index_line.proofs.fill.Goals as goal

pub loop-left-init : goal.loop-left-init
loop-left-init c = fill_start _ _ _ _ c.requires.0 c.requires.1 c.requires.2

pub number_at-requires : goal.number_at-requires
number_at-requires c =
    let inside : c.loop-left.p + width c.args.w ≤ length c.args.line.now = fill-inside c.loop-left.invariant c.loop-left-test.true in
    (omega arith, omega (arith, inside))

pub bounds-index-i : goal.bounds-index-i
bounds-index-i c =
    let words : c.loop-left.i + index_words ≤ length c.loop-left.index = fill-words c.loop-left.invariant c.loop-left-test.true in
    omega (arith, words)

pub overflow_add-p : goal.overflow_add-p
overflow_add-p c =
    let inside : c.loop-left.p + width c.args.w ≤ length c.args.line.now = fill-inside c.loop-left.invariant c.loop-left-test.true in
    omega (arith, inside, c.well_formed)

pub number_at-requires-in-loop-left : goal.number_at-requires-in-loop-left
number_at-requires-in-loop-left c =
    let inside : c.loop-left.p + width c.args.w ≤ length c.args.line.now = fill-inside c.loop-left.invariant c.loop-left-test.true in
    (c.loop-left.invariant.thin, omega (arith, inside))

pub overflow_add-index : goal.overflow_add-index
overflow_add-index c =
    let words : c.loop-left.i + index_words ≤ length c.loop-left.index = fill-words c.loop-left.invariant c.loop-left-test.true in
    omega (arith, words, c.well_formed)

pub bounds-index-i-in-loop-left : goal.bounds-index-i-in-loop-left
bounds-index-i-in-loop-left c =
    let words : c.loop-left.i + index_words ≤ length c.loop-left.index = fill-words c.loop-left.invariant c.loop-left-test.true in
    simp length-set (omega (arith, words))

pub overflow_add-p-in-loop-left : goal.overflow_add-p-in-loop-left
overflow_add-p-in-loop-left c =
    let inside : c.loop-left.p + width c.args.w ≤ length c.args.line.now = fill-inside c.loop-left.invariant c.loop-left-test.true in
    omega (arith, inside, c.well_formed)

pub overflow_add-p-in-loop-left-2 : goal.overflow_add-p-in-loop-left-2
overflow_add-p-in-loop-left-2 c =
    let inside : c.loop-left.p + width c.args.w ≤ length c.args.line.now = fill-inside c.loop-left.invariant c.loop-left-test.true in
    omega (arith, inside, c.well_formed)

pub number_at-requires-in-loop-left-2 : goal.number_at-requires-in-loop-left-2
number_at-requires-in-loop-left-2 c =
    let inside : c.loop-left.p + width c.args.w ≤ length c.args.line.now = fill-inside c.loop-left.invariant c.loop-left-test.true in
    (c.loop-left.invariant.thin, omega (arith, inside))

pub overflow_add-index-in-loop-left : goal.overflow_add-index-in-loop-left
overflow_add-index-in-loop-left c =
    let words : c.loop-left.i + index_words ≤ length c.loop-left.index = fill-words c.loop-left.invariant c.loop-left-test.true in
    omega (arith, words, c.well_formed)

pub bounds-index-i-in-loop-left-2 : goal.bounds-index-i-in-loop-left-2
bounds-index-i-in-loop-left-2 c =
    let words : c.loop-left.i + index_words ≤ length c.loop-left.index = fill-words c.loop-left.invariant c.loop-left-test.true in
    simp length-set (omega (arith, words))

pub overflow_mul-p : goal.overflow_mul-p
overflow_mul-p c = omega (arith, c.loop-left.invariant.thin)

pub overflow_add-p-in-loop-left-3 : goal.overflow_add-p-in-loop-left-3
overflow_add-p-in-loop-left-3 c = omega (arith, c.loop-left.invariant.thin)

pub overflow_add-p-in-loop-left-4 : goal.overflow_add-p-in-loop-left-4
overflow_add-p-in-loop-left-4 c =
    let inside : c.loop-left.p + width c.args.w ≤ length c.args.line.now = fill-inside c.loop-left.invariant c.loop-left-test.true in
    omega (arith, inside, c.well_formed)

pub overflow_add-i : goal.overflow_add-i
overflow_add-i c =
    let words : c.loop-left.i + index_words ≤ length c.loop-left.index = fill-words c.loop-left.invariant c.loop-left-test.true in
    omega (arith, words, c.well_formed)

pub overflow_sub-left : goal.overflow_sub-left
overflow_sub-left c = omega (arith, c.loop-left-test.true)

pub loop-left-smaller : goal.loop-left-smaller
loop-left-smaller c = omega (arith, c.loop-left-test.true)

pub loop-left-preserved : goal.loop-left-preserved
loop-left-preserved c = fill-turn c.loop-left.invariant c.loop-left-test.true c.number_at.ensures c.number_at-in-loop-left.ensures c.number_at-in-loop-left-2.ensures

pub shape_of-index : goal.shape_of-index
shape_of-index c = c.loop-left.invariant.put.same

pub returns : goal.returns
returns c = fill_end c.loop-left.invariant c.loop-left-test.false
