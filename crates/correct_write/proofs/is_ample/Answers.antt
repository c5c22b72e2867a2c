-- `correct_write::is_ample` meets its contract.
use borrow.Author.Tests.{le-leb, lt-leb}
use Rattle.correct_write.proofs.is_ample.Goals as goal

pub returns-then-n-le-MESSAGE_LIMIT : goal.returns-then-n-le-MESSAGE_LIMIT
returns-then-n-le-MESSAGE_LIMIT c = rw (le-leb _ _ c.if-n-le-MESSAGE_LIMIT.true)

pub returns : goal.returns
returns c = rw (lt-leb _ _ c.if-n-le-MESSAGE_LIMIT.false)
