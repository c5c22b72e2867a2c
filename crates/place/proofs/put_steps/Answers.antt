-- `place::put_steps` meets its contract.
use native.Mathlib.Omega.{arith}
use Rattle.place.proofs.Turns.{Copying, copy_start}
use Rattle.place.proofs.Steps.{step-reads, step-writes, step-more, steps-done, last_done}
use borrow.Author.Rules.{rules}
use Rattle.place.proofs.put_steps.Goals as goal

pub loop-left-init : goal.loop-left-init
loop-left-init c = copy_start _ _ _ _ _ c.requires.3 c.requires.4

pub put_block-requires : goal.put_block-requires
put_block-requires c = (c.requires.1, step-reads c.loop-left.invariant _ c.loop-left-test.true, step-writes c.loop-left.invariant _ c.loop-left-test.true)

pub overflow_add-p : goal.overflow_add-p
overflow_add-p c = omega (arith, step-writes c.loop-left.invariant _ c.loop-left-test.true)

pub overflow_add-q : goal.overflow_add-q
overflow_add-q c = omega (arith, step-reads c.loop-left.invariant _ c.loop-left-test.true)

pub loop-left-preserved : goal.loop-left-preserved
loop-left-preserved c = step-more c.loop-left.invariant _ c.loop-left-test.true c.put_block.ensures

pub returns-then-left-gt0 : goal.returns-then-left-gt0
returns-then-left-gt0 c = last_done c.loop-left.invariant _ (omega (arith, c.loop-left-test.false)) c.requires.2 c.put_block-then-left-gt0.ensures

pub shape_of-buf : goal.shape_of-buf
shape_of-buf c = c.loop-left.invariant.put.same

pub returns : goal.returns
returns c = steps-done c.loop-left.invariant c.if-left-gt0.false
