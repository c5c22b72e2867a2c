-- Each turn passes two records of which no bit is left over.
use Prim.Native.Nat.{◌+◌, ◌*◌, ◌≤◌}
use native.Mathlib.Omega.{arith}
use lib.ListN.{length}
use Rattle.wire.specs.Limits.{record_words}
use Rattle.run_write.specs.Exact.{plain-none, plain-inside, plain-two}
use Rattle.run_write.proofs.plain_words.Goals as goal

pub overflow_mul-end : goal.overflow_mul-end
overflow_mul-end c = omega (arith, c.requires, c.well_formed)

pub loop-at-init : goal.loop-at-init
loop-at-init c = plain-none _ _ _

pub words_at-requires : goal.words_at-requires
words_at-requires c =
    let inside : c.loop-at.at + 2 * record_words ≤ length c.args.table.now = plain-inside c.loop-at.invariant c.loop-at-test.true c.requires in
    omega (arith, inside)

pub overflow_add-at : goal.overflow_add-at
overflow_add-at c =
    let inside : c.loop-at.at + 2 * record_words ≤ length c.args.table.now = plain-inside c.loop-at.invariant c.loop-at-test.true c.requires in
    omega (arith, inside, c.well_formed)

pub words_at-requires-in-loop-at : goal.words_at-requires-in-loop-at
words_at-requires-in-loop-at c =
    let inside : c.loop-at.at + 2 * record_words ≤ length c.args.table.now = plain-inside c.loop-at.invariant c.loop-at-test.true c.requires in
    omega (arith, inside)

pub returns-then-first-second-gt0 : goal.returns-then-first-second-gt0
returns-then-first-second-gt0 c = c.loop-at.invariant

pub overflow_add-at-in-loop-at : goal.overflow_add-at-in-loop-at
overflow_add-at-in-loop-at c =
    let inside : c.loop-at.at + 2 * record_words ≤ length c.args.table.now = plain-inside c.loop-at.invariant c.loop-at-test.true c.requires in
    omega (arith, inside, c.well_formed)

pub loop-at-smaller : goal.loop-at-smaller
loop-at-smaller c = omega (arith, c.loop-at-test.true)

pub loop-at-preserved : goal.loop-at-preserved
loop-at-preserved c =
    plain-two c.loop-at.invariant c.loop-at-test.true c.words_at.ensures c.left_over-first.ensures c.words_at-in-loop-at.ensures
    c.left_over-second.ensures c.if-first-second-gt0.false

pub returns : goal.returns
returns c = c.loop-at.invariant
