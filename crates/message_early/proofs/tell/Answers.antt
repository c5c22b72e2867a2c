-- None, one, more.
use borrow.Author.Tests.{eq-eqb, ne_eqb}
use Rattle.message_early.proofs.tell.Goals as goal

pub returns-then-many-eq0 : goal.returns-then-many-eq0
returns-then-many-eq0 c = rw (eq-eqb _ 0 c.if-many-eq0.true)

pub returns-then-many-eq1 : goal.returns-then-many-eq1
returns-then-many-eq1 c = rw (ne_eqb _ 0 c.if-many-eq0.false, eq-eqb _ 1 c.if-many-eq1.true)

pub returns : goal.returns
returns c = rw (ne_eqb _ 0 c.if-many-eq0.false, ne_eqb _ 1 c.if-many-eq1.false)
