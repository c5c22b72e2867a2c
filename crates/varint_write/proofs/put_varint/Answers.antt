-- `varint_write::put_varint` meets its contract: one byte is the number itself, and the rest is `put_two`'s and `put_long`'s.
use mathlib.Core.Path.{sym}
use native.Mathlib.Omega.{arith}
use Rattle.place.specs.Place.{put-none}
use Rattle.varint_write.proofs.Writing.{short-done, short_none, two-long, two-done}
use borrow.Author.Rules.{rules}
use Rattle.varint_write.proofs.put_varint.Goals as goal

pub returns-then-at-buf : goal.returns-then-at-buf
returns-then-at-buf c =
    let a = c.args in
    short-done a.buf.now a.at a.v c.if-v-lt128.true c.if-at-buf.true

pub returns-then-v-lt128 : goal.returns-then-v-lt128
returns-then-v-lt128 c =
    let a = c.args in
    short_none a.buf.now a.at a.v c.if-v-lt128.true c.if-at-buf.false

pub returns-then-buf-lt2 : goal.returns-then-buf-lt2
returns-then-buf-lt2 c = sym (put-none _ _ _ (omega (arith, two-long _ c.if-v-lt128.false c.if-v-lt-L2.true)))

pub returns-then-buf-at : goal.returns-then-buf-at
returns-then-buf-at c = sym (put-none _ _ _ (omega (arith, two-long _ c.if-v-lt128.false c.if-v-lt-L2.true)))

pub returns-then-v-lt-L2 : goal.returns-then-v-lt-L2
returns-then-v-lt-L2 c = two-done _ c.if-v-lt128.false c.if-v-lt-L2.true _ _ (omega arith) c.put_two.ensures
