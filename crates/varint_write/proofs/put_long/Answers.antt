-- `varint_write::put_long` meets its contract.
use mathlib.Core.Path.{sym}
use mathlib.Core.Logic.{inl, inr}
use native.Mathlib.Omega.{arith}
use Rattle.wire.specs.Varint.{encode}
use Rattle.place.specs.Place.{put-none}
use Rattle.varint_write.proofs.Writing.{Encoding, encode-start, encode-writes, encode-more, last-writes, last-small, last_done}
use lib.ListN.{length-set}
use borrow.Author.Rules.{rules}
use Rattle.varint_write.proofs.put_long.Goals as goal

pub returns-then-buf-at : goal.returns-then-buf-at
returns-then-buf-at c = let a = c.args in sym (put-none a.buf.now a.at (encode a.v) (omega arith))

pub returns-then-buf-at-2 : goal.returns-then-buf-at-2
returns-then-buf-at-2 c =
    let a = c.args in
    sym (put-none a.buf.now a.at (encode a.v) (omega (arith, c.encoded_len_varint.ensures)))

pub loop-left-init : goal.loop-left-init
loop-left-init c = encode-start _ _ _ (omega arith) (omega (arith, c.encoded_len_varint.ensures))

pub bounds-buf-p : goal.bounds-buf-p
bounds-buf-p c = last-writes c.loop-left.invariant (inl c.if-x-lt128.true)

pub overflow_add-result : goal.overflow_add-result
overflow_add-result c = omega (arith, last-writes c.loop-left.invariant (inl c.if-x-lt128.true))

pub shape_of-buf-then-x-lt128 : goal.shape_of-buf-then-x-lt128
shape_of-buf-then-x-lt128 c = simp length-set c.loop-left.invariant.put.same

pub returns-then-x-lt128 : goal.returns-then-x-lt128
returns-then-x-lt128 c = last_done c.loop-left.invariant (inl c.if-x-lt128.true)

pub bounds-buf-p-in-loop-left : goal.bounds-buf-p-in-loop-left
bounds-buf-p-in-loop-left c = encode-writes c.loop-left.invariant c.loop-left-test.true c.if-x-lt128.false

pub overflow_add-p : goal.overflow_add-p
overflow_add-p c = omega (arith, encode-writes c.loop-left.invariant c.loop-left-test.true c.if-x-lt128.false)

pub loop-left-preserved : goal.loop-left-preserved
loop-left-preserved c = encode-more c.loop-left.invariant c.loop-left-test.true c.if-x-lt128.false

pub overflow_cast-buf-2 : goal.overflow_cast-buf-2
overflow_cast-buf-2 c = omega (arith, last-small c.loop-left.invariant c.loop-left-test.false)

pub bounds-buf-p-2 : goal.bounds-buf-p-2
bounds-buf-p-2 c = last-writes c.loop-left.invariant (inr (omega arith))

pub overflow_add-result-2 : goal.overflow_add-result-2
overflow_add-result-2 c = omega (arith, last-writes c.loop-left.invariant (inr (omega arith)))

pub shape_of-buf : goal.shape_of-buf
shape_of-buf c = simp length-set c.loop-left.invariant.put.same

pub returns : goal.returns
returns c = last_done c.loop-left.invariant (inr (omega arith))
