-- Whether a field was passed.
use borrow.Author.Tests.{lt-ltb, le-ltb}
use Rattle.correct_write.proofs.later.Goals as goal

pub returns-then-at-next : goal.returns-then-at-next
returns-then-at-next c = rw (lt-ltb c.args.at c.args.next c.if-at-next.true)

pub returns : goal.returns
returns c = rw (le-ltb c.args.at c.args.next c.if-at-next.false)
