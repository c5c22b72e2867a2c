-- Divided, with nothing over.
use borrow.Author.Tests.{eq-eqb, ne_eqb}
use Rattle.run_read.proofs.count_fixed.Goals as goal

pub returns-then-len-n-eq0 : goal.returns-then-len-n-eq0
returns-then-len-n-eq0 c = rw (eq-eqb _ _ c.if-len-n-eq0.true)

pub returns : goal.returns
returns c = rw (ne_eqb _ _ c.if-len-n-eq0.false)
