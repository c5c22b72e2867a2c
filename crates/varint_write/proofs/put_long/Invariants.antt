-- `varint_write::put_long` meets its contract.
use mathlib.Core.Path.{sym}
use mathlib.Core.Logic.{inl, inr}
use native.Mathlib.Omega.{arith}
use Rattle.wire.specs.Varint.{encode}
use Rattle.place.specs.Place.{put-none}
use Rattle.varint_write.proofs.Writing.{Encoding, encode-start, encode-writes, encode-more, last-writes, last-small, last_done}
use lib.ListN.{length-set}
use borrow.Author.Rules.{rules}
use Rattle.varint_write.proofs.put_long.Given as goal

abbrev pub invariant-loop-left : goal.invariant-loop-left
invariant-loop-left l = Encoding l.initial.buf l.at l.v l.buf l.x l.p l.left

abbrev pub decreases-loop-left : goal.decreases-loop-left
decreases-loop-left l = l.left
