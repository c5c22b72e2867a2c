-- `place::put_steps` meets its contract.
use native.Mathlib.Omega.{arith}
use Rattle.place.proofs.Turns.{Copying, copy_start}
use Rattle.place.proofs.Steps.{step-reads, step-writes, step-more, steps-done, last_done}
use borrow.Author.Rules.{rules}
use Rattle.place.proofs.put_steps.Given as goal

abbrev pub invariant-loop-left : goal.invariant-loop-left
invariant-loop-left l = Copying l.initial.buf l.at l.bytes l.from l.n l.buf l.p l.q l.left

abbrev pub decreases-loop-left : goal.decreases-loop-left
decreases-loop-left l = l.left
