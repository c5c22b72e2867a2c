-- The digits of what is left, put on top of what is there, are what was asked for.
use Rattle.std.proofs.Common.{sym, arith}
use Rattle.text_digits.proofs.Turns.{spell-none, spell-more, spell-done}
use Rattle.text_digits.proofs.put_digits.Goals as goal

pub returns-then-buf-at : goal.returns-then-buf-at
returns-then-buf-at c = sym (spell-none _ _ _ _ _ (omega arith))

pub returns-then-buf-at-2 : goal.returns-then-buf-at-2
returns-then-buf-at-2 c = sym (spell-none _ _ _ _ _ (omega arith))

pub loop-i-preserved : goal.loop-i-preserved
loop-i-preserved c = spell-more c.loop-i.invariant c.loop-i-test.true c.glyph.ensures

pub returns : goal.returns
returns c = spell-done c.loop-i.invariant c.loop-i-test.false
