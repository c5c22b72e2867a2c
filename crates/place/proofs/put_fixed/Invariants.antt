-- `place::put_fixed` meets its contract.
use mathlib.Core.Path.{sym}
use native.Mathlib.Omega.{arith}
use Rattle.place.proofs.Turns.{fixed-none, Filling, fill_start, fill-writes, fill_more, fill_done}
use borrow.Author.Rules.{rules}
use Rattle.place.proofs.put_fixed.Given as goal

abbrev pub invariant-loop-left : goal.invariant-loop-left
invariant-loop-left l = Filling l.initial.buf l.at l.size l.n l.buf l.p l.x l.left

abbrev pub decreases-loop-left : goal.decreases-loop-left
decreases-loop-left l = l.left
