-- Each turn looks at an entry.
use mathlib.Core.Path.{◌∙◌}
use native.Mathlib.Omega.{arith}
use Rattle.index_pick.proofs.Following.{find-start, find-end, find-here, find-on, inside}
use Rattle.index_pick.proofs.find.Goals as goal

pub loop-n-init : goal.loop-n-init
loop-n-init c = find-start _ _ _ _ c.requires

pub bounds-index-i : goal.bounds-index-i
bounds-index-i c = omega (arith, inside c.loop-n.invariant c.loop-n-test.true)

pub bounds-index-i-then-index-i : goal.bounds-index-i-then-index-i
bounds-index-i-then-index-i c = omega (arith, inside c.loop-n.invariant c.loop-n-test.true)

pub bounds-index-i-then-index-i-2 : goal.bounds-index-i-then-index-i-2
bounds-index-i-then-index-i-2 c = omega (arith, inside c.loop-n.invariant c.loop-n-test.true)

pub returns-then-index-i : goal.returns-then-index-i
returns-then-index-i c = c.look.ensures ∙ find-here c.loop-n.invariant c.loop-n-test.true c.if-index-i.true

pub overflow_add-n : goal.overflow_add-n
overflow_add-n c = omega (arith, c.loop-n-test.true, c.ranges)

pub overflow_add-i-in-loop-n : goal.overflow_add-i-in-loop-n
overflow_add-i-in-loop-n c = omega (arith, inside c.loop-n.invariant c.loop-n-test.true, c.well_formed)

pub loop-n-smaller : goal.loop-n-smaller
loop-n-smaller c = omega (arith, c.loop-n-test.true)

pub loop-n-preserved : goal.loop-n-preserved
loop-n-preserved c = find-on c.loop-n.invariant c.loop-n-test.true c.if-index-i.false

pub returns : goal.returns
returns c = find-end c.loop-n.invariant c.loop-n-test.false
