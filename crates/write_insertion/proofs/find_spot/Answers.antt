-- `write_insertion::find_spot` meets its contract.
use native.Mathlib.Omega.{arith}
use Rattle.write_insertion.proofs.Turns.{find-start, find-here, find-more, find-done}
use Rattle.write_insertion.proofs.find_spot.Goals as goal

pub loop-i-init : goal.loop-i-init
loop-i-init c = find-start _ _ _

pub overflow_mul-i : goal.overflow_mul-i
overflow_mul-i c = omega (arith, c.loop-i.invariant.index, c.requires)

pub bounds-table-i : goal.bounds-table-i
bounds-table-i c = omega (arith, c.loop-i.invariant.index, c.requires)

pub returns-then-table-i : goal.returns-then-table-i
returns-then-table-i c = find-here c.loop-i.invariant c.loop-i-test.true (omega (arith, c.if-table-i.true))

pub loop-i-preserved : goal.loop-i-preserved
loop-i-preserved c = find-more c.loop-i.invariant c.loop-i-test.true c.if-table-i.false

pub returns : goal.returns
returns c = find-done c.loop-i.invariant c.loop-i-test.false
