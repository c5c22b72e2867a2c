-- `place::put_each` meets its contract.
use native.Mathlib.Omega.{arith}
use Rattle.place.proofs.Turns.{Copying, copy_start, copy-reads, copy_writes, copy_more, copy_done}
use borrow.Author.Rules.{rules}
use Rattle.place.proofs.put_each.Given as goal

abbrev pub invariant-loop-left : goal.invariant-loop-left
invariant-loop-left l = Copying l.initial.buf l.at l.bytes l.from l.n l.buf l.p l.q l.left

abbrev pub decreases-loop-left : goal.decreases-loop-left
decreases-loop-left l = l.left
