-- One byte and two are read off; the rest is `known_long`.
use native.Mathlib.Omega.{arith}
use Prim.Native.Nat.{◌+◌, ◌<◌}
use lib.ListN.{get_or}
use Rattle.varint_read.proofs.Reading.{one_byte, two-byte}
use Rattle.message_table.proofs.Present.{first, second}
use Rattle.message_table.proofs.known_varint.Goals as goal

pub bounds-s-at : goal.bounds-s-at
bounds-s-at c = first c.requires

pub overflow_cast-b : goal.overflow_cast-b
overflow_cast-b c = omega (arith, c.type_inv.s c.args.at)

pub overflow_add-result : goal.overflow_add-result
overflow_add-result c = omega (arith, first c.requires, c.well_formed.0.0)

pub returns-then-b-lt128 : goal.returns-then-b-lt128
returns-then-b-lt128 c = one_byte _ _ (first c.requires) c.if-b-lt128.true

pub overflow_add-c : goal.overflow_add-c
overflow_add-c c = omega (arith, first c.requires, c.well_formed.0.0)

pub bounds-s-at-2 : goal.bounds-s-at-2
bounds-s-at-2 c = second c.requires c.if-b-lt128.false

pub overflow_cast-c : goal.overflow_cast-c
overflow_cast-c c = omega (arith, c.type_inv.s (c.args.at + 1))

pub overflow_add-result-then-c-lt128 : goal.overflow_add-result-then-c-lt128
overflow_add-result-then-c-lt128 c = omega (arith, c.type_inv.s c.args.at)

pub overflow_add-result-then-c-lt128-2 : goal.overflow_add-result-then-c-lt128-2
overflow_add-result-then-c-lt128-2 c = omega (arith, second c.requires c.if-b-lt128.false, c.well_formed.0.0)

pub returns-then-c-lt128 : goal.returns-then-c-lt128
returns-then-c-lt128 c =
    let a = c.args in
    let h : get_or a.s.now a.at 0 < 256 = omega (arith, c.type_inv.s a.at) in
    two-byte _ _ (second c.requires c.if-b-lt128.false) c.if-b-lt128.false h c.if-c-lt128.true
