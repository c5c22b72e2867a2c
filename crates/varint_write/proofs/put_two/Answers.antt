-- `varint_write::put_two` meets its contract.
use native.Mathlib.Omega.{arith}
use lib.ListN.{length-set}
use Rattle.varint_write.proofs.Writing.{two-put}
use borrow.Author.Rules.{rules}
use Rattle.varint_write.proofs.put_two.Goals as goal

pub bounds-buf-at-2 : goal.bounds-buf-at-2
bounds-buf-at-2 c = simp length-set (omega arith)

pub returns : goal.returns
returns c = two-put _ c.requires.0 c.requires.1 _ _
