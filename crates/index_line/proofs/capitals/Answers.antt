-- Each turn tests a character.
use mathlib.Core.Path.{sym, ◌∙◌}
use Rattle.index_line.proofs.Turns.{test-start, test-not, test-turn, test-end}
use Rattle.index_line.proofs.capitals.Goals as goal

pub loop-i-init : goal.loop-i-init
loop-i-init c = test-start _ _ c.requires

pub returns-then-not-capital : goal.returns-then-not-capital
returns-then-not-capital c = test-not c.loop-i.invariant c.loop-i-test.true (sym c.capital.ensures ∙ c.if-not-capital.true)

pub loop-i-preserved : goal.loop-i-preserved
loop-i-preserved c = test-turn c.loop-i.invariant c.loop-i-test.true (sym c.capital.ensures ∙ c.if-not-capital.false)

pub returns : goal.returns
returns c = test-end c.loop-i.invariant c.loop-i-test.false
