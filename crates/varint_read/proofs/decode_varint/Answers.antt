-- `varint_write::decode_varint` meets its contract: one byte and two are read off, and the rest is `decode_long`'s.
use Prim.Native.Nat.{◌+◌, ◌<◌}
use mathlib.Core.Path.{sym}
use native.Mathlib.Omega.{arith}
use lib.ListN.{get_or}
use Rattle.varint_read.proofs.Reading.{none_left, one_byte, two-byte}
use borrow.Author.Rules.{rules}
use Rattle.varint_read.proofs.decode_varint.Goals as goal

pub returns-then-s-at : goal.returns-then-s-at
returns-then-s-at c = sym (none_left _ _ c.if-s-at.true)

pub overflow_cast-b : goal.overflow_cast-b
overflow_cast-b c = omega (arith, c.shared_slice_known-2-1.given c.args.at)

pub returns-then-b-lt128 : goal.returns-then-b-lt128
returns-then-b-lt128 c = sym (one_byte _ _ c.if-s-at.false c.if-b-lt128.true)

pub overflow_cast-c : goal.overflow_cast-c
overflow_cast-c c = omega (arith, c.shared_slice_known-then-s-at-gt1-1.given (c.args.at + 1))

pub overflow_add-result-then-c-lt128 : goal.overflow_add-result-then-c-lt128
overflow_add-result-then-c-lt128 c =
    let a = c.args in
    omega (arith, c.shared_slice_known-then-s-at-gt1-1.given a.at)

pub returns-then-c-lt128 : goal.returns-then-c-lt128
returns-then-c-lt128 c =
    let a = c.args in
    let h : get_or a.s.now a.at 0 < 256 = omega (arith, c.shared_slice_known-then-s-at-gt1-1.given a.at) in
    sym (two-byte a.s.now a.at (omega (arith, c.if-s-at-gt1.true)) c.if-b-lt128.false h c.if-c-lt128.true)
