-- `place::put_each` meets its contract.
use native.Mathlib.Omega.{arith}
use Rattle.place.proofs.Turns.{Copying, copy_start, copy-reads, copy_writes, copy_more, copy_done}
use borrow.Author.Rules.{rules}
use Rattle.place.proofs.put_each.Goals as goal

pub loop-left-init : goal.loop-left-init
loop-left-init c = copy_start _ _ _ _ _ c.requires.0 c.requires.1

pub bounds-bytes-q : goal.bounds-bytes-q
bounds-bytes-q c = copy-reads c.loop-left.invariant c.loop-left-test.true

pub bounds-buf-p : goal.bounds-buf-p
bounds-buf-p c = copy_writes c.loop-left.invariant c.loop-left-test.true

pub overflow_add-p : goal.overflow_add-p
overflow_add-p c = omega (arith, copy_writes c.loop-left.invariant c.loop-left-test.true)

pub overflow_add-q : goal.overflow_add-q
overflow_add-q c = omega (arith, copy-reads c.loop-left.invariant c.loop-left-test.true)

pub loop-left-preserved : goal.loop-left-preserved
loop-left-preserved c = copy_more c.loop-left.invariant c.loop-left-test.true

pub shape_of-buf : goal.shape_of-buf
shape_of-buf c = c.loop-left.invariant.put.same

pub returns : goal.returns
returns c = copy_done c.loop-left.invariant c.loop-left-test.false
