-- Each turn reads a character.
use native.Mathlib.Omega.{arith}
use Rattle.index_line.proofs.Turns.{number-start, number-low, number-sum, number-turn, number-end}
use Rattle.index_line.proofs.number_at.Goals as goal

pub loop-left-init : goal.loop-left-init
loop-left-init c = number-start _ _ _ c.requires.0 c.requires.1

pub overflow_mul-x : goal.overflow_mul-x
overflow_mul-x c = omega (arith, number-low c.loop-left.invariant)

pub bounds-line-i : goal.bounds-line-i
bounds-line-i c = omega (arith, c.loop-left.invariant.inside)

pub overflow_add-x : goal.overflow_add-x
overflow_add-x c = omega (arith, number-sum c.loop-left.invariant c.worth_of.ensures)

pub overflow_add-i : goal.overflow_add-i
overflow_add-i c = omega (arith, c.loop-left.invariant.inside)

pub loop-left-preserved : goal.loop-left-preserved
loop-left-preserved c = number-turn c.loop-left.invariant c.loop-left-test.true c.worth_of.ensures

pub returns : goal.returns
returns c = number-end c.loop-left.invariant c.loop-left-test.false
