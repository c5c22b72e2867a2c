-- Each turn puts an entry.
use Prim.Native.Nat.{◌+◌, ◌≤◌}
use native.Mathlib.Omega.{arith}
use lib.ListN.{length}
use Rattle.index.specs.Index.{index_words}
use Rattle.index_line.proofs.Turns.{write-start, write-words, write-room, write-turn, write-end}
use Rattle.index_line.proofs.put_entries.Goals as goal

pub loop-n-init : goal.loop-n-init
loop-n-init c = write-start _ _ _ _ _ c.requires.0 c.requires.1

pub bounds-index-i : goal.bounds-index-i
bounds-index-i c =
    let words : c.loop-n.i + index_words ≤ length c.args.index.now = write-words c.loop-n.invariant c.loop-n-test.true in
    omega (arith, words)

pub overflow_add-i : goal.overflow_add-i
overflow_add-i c =
    let words : c.loop-n.i + index_words ≤ length c.args.index.now = write-words c.loop-n.invariant c.loop-n-test.true in
    omega (arith, words)

pub bounds-index-i-in-loop-n : goal.bounds-index-i-in-loop-n
bounds-index-i-in-loop-n c =
    let words : c.loop-n.i + index_words ≤ length c.args.index.now = write-words c.loop-n.invariant c.loop-n-test.true in
    omega (arith, words)

pub overflow_add-i-in-loop-n : goal.overflow_add-i-in-loop-n
overflow_add-i-in-loop-n c =
    let words : c.loop-n.i + index_words ≤ length c.args.index.now = write-words c.loop-n.invariant c.loop-n-test.true in
    omega (arith, words)

pub bounds-index-i-in-loop-n-2 : goal.bounds-index-i-in-loop-n-2
bounds-index-i-in-loop-n-2 c =
    let words : c.loop-n.i + index_words ≤ length c.args.index.now = write-words c.loop-n.invariant c.loop-n-test.true in
    omega (arith, words)

pub put_entry-p-requires : goal.put_entry-p-requires
put_entry-p-requires c = write-room c.loop-n.invariant c.loop-n-test.true

pub overflow_add-n : goal.overflow_add-n
overflow_add-n c = omega (arith, c.loop-n-test.true, c.ranges)

pub overflow_add-i-in-loop-n-2 : goal.overflow_add-i-in-loop-n-2
overflow_add-i-in-loop-n-2 c =
    let words : c.loop-n.i + index_words ≤ length c.args.index.now = write-words c.loop-n.invariant c.loop-n-test.true in
    omega (arith, words, c.well_formed)

pub loop-n-smaller : goal.loop-n-smaller
loop-n-smaller c = omega (arith, c.loop-n-test.true)

pub loop-n-preserved : goal.loop-n-preserved
loop-n-preserved c = write-turn c.loop-n.invariant c.loop-n-test.true c.put_entry-p.ensures

pub shape_of-line : goal.shape_of-line
shape_of-line c = c.loop-n.invariant.put.same

pub returns : goal.returns
returns c = write-end c.loop-n.invariant c.loop-n-test.false
