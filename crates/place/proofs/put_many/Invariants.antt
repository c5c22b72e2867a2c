-- `place::put_many` meets its contract: the rest is put over the first sixteen.
use Prim.Native.Nat.{◌+◌, ◌-◌, ◌%◌, ◌≤◌}
use native.Mathlib.Omega.{arith}
use Rattle.place.proofs.Turns.{Copying, copy_start}
use Rattle.place.proofs.Steps.{step-reads, step-writes, step-more, rest-done, ahead}
use borrow.Author.Rules.{rules}
use Rattle.place.proofs.put_many.Given as goal

abbrev pub invariant-loop-left : goal.invariant-loop-left
invariant-loop-left l = Copying l.initial.buf l.initial.p l.bytes l.initial.q l.initial.left l.buf l.p l.q l.left × (16 ≤ l.left)

abbrev pub decreases-loop-left : goal.decreases-loop-left
decreases-loop-left l = l.left
