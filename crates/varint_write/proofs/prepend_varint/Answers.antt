-- `varint_write::prepend_varint` meets its contract.
use mathlib.Core.Path.{sym}
use native.Mathlib.Omega.{arith}
use Rattle.wire.specs.VarintLaws.{length-pos}
use Rattle.place.specs.Place.{prepend-past, prepend-none}
use Rattle.varint_write.proofs.Writing.{two-long, prepended, short-prepended, long-prepended}
use borrow.Author.Rules.{rules}
use Rattle.varint_write.proofs.prepend_varint.Goals as goal

pub returns-then-buf-end : goal.returns-then-buf-end
returns-then-buf-end c = sym (prepend-past _ _ _ c.if-buf-end.true)

pub returns-then-end-lt1 : goal.returns-then-end-lt1
returns-then-end-lt1 c = sym (prepend-none _ _ _ (omega (arith, length-pos c.args.v)))

pub returns-then-v-lt128 : goal.returns-then-v-lt128
returns-then-v-lt128 c = short-prepended _ _ _ c.if-v-lt128.true c.if-buf-end.false (omega arith)

pub returns-then-end-lt2 : goal.returns-then-end-lt2
returns-then-end-lt2 c = sym (prepend-none _ _ _ (omega (arith, two-long _ c.if-v-lt128.false c.if-v-lt-L2.true)))

pub returns-then-v-lt-L2 : goal.returns-then-v-lt-L2
returns-then-v-lt-L2 c =
    prepended _ _ _ 2 (sym (two-long _ c.if-v-lt128.false c.if-v-lt-L2.true)) c.if-buf-end.false (omega arith)
    c.put_two.ensures

pub returns-then-end-n : goal.returns-then-end-n
returns-then-end-n c = sym (prepend-none _ _ _ (omega (arith, c.count_len-n.ensures)))

pub returns : goal.returns
returns c =
    long-prepended _ _ _ _ c.count_len-n.ensures c.if-buf-end.false c.if-end-n.false
    c.put_long.ensures
