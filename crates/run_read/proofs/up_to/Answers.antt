-- A byte below 128 ends a number.
use native.Mathlib.Omega.{arith}
use borrow.Author.Tests.{lt-ltb, le-ltb}
use Rattle.run_read.proofs.up_to.Goals as goal

pub returns-then-b-lt128 : goal.returns-then-b-lt128
returns-then-b-lt128 c = (rw (lt-ltb c.args.b 128 c.if-b-lt128.true), omega arith)

pub returns-else-b-lt128 : goal.returns-else-b-lt128
returns-else-b-lt128 c = (rw (le-ltb c.args.b 128 c.if-b-lt128.false), omega arith)
