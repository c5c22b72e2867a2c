-- `place::put_fixed` meets its contract.
use mathlib.Core.Path.{sym}
use native.Mathlib.Omega.{arith}
use Rattle.place.proofs.Turns.{fixed-none, Filling, fill_start, fill-writes, fill_more, fill_done}
use borrow.Author.Rules.{rules}
use Rattle.place.proofs.put_fixed.Goals as goal

pub returns-then-buf-size : goal.returns-then-buf-size
returns-then-buf-size c = let a = c.args in sym (fixed-none a.buf.now a.at a.size a.n (omega arith))

pub returns-then-buf-size-2 : goal.returns-then-buf-size-2
returns-then-buf-size-2 c = let a = c.args in sym (fixed-none a.buf.now a.at a.size a.n (omega arith))

pub loop-left-init : goal.loop-left-init
loop-left-init c = fill_start _ _ _ _ (omega arith)

pub bounds-buf-p : goal.bounds-buf-p
bounds-buf-p c = fill-writes c.loop-left.invariant c.loop-left-test.true

pub overflow_add-p : goal.overflow_add-p
overflow_add-p c = omega (arith, fill-writes c.loop-left.invariant c.loop-left-test.true)

pub loop-left-preserved : goal.loop-left-preserved
loop-left-preserved c = fill_more c.loop-left.invariant c.loop-left-test.true

pub shape_of-buf : goal.shape_of-buf
shape_of-buf c = c.loop-left.invariant.put.same

pub returns : goal.returns
returns c = fill_done c.loop-left.invariant c.loop-left-test.false
