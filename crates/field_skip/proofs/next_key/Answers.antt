-- `field::next_key` meets its contract.
use mathlib.Core.Path.{sym}
use native.Mathlib.Omega.{arith}
use Rattle.field_skip.specs.Repeated.{past_end, past-slice, before-end}
use borrow.Author.Rules.{rules}
use Rattle.field_skip.proofs.next_key.Goals as goal

pub returns-then-end-at : goal.returns-then-end-at
returns-then-end-at c = sym (past_end _ _ _ c.if-end-at.true)

pub returns-then-s-at : goal.returns-then-s-at
returns-then-s-at c = sym (past-slice _ _ _ c.if-s-at.true)

pub overflow_cast-result : goal.overflow_cast-result
overflow_cast-result c = omega (arith, c.shared_slice_known-1.given c.args.at)

pub returns : goal.returns
returns c = sym (before-end _ _ _ c.if-end-at.false c.if-s-at.false)
