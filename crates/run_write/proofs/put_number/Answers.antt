-- One byte, two and three are put one by one.
use mathlib.Core.Path.{refl}
use native.Mathlib.Omega.{arith}
use Prim.Native.Nat.{◌+◌, ◌-◌, ◌/◌, ◌≤◌, ◌<◌}
use lib.ListN.{length}
use Rattle.place.specs.Spans.{spans-put}
use Rattle.write_message.proofs.Puts.{byte_fits, spans-byte}
use Rattle.run_write.proofs.Short.{two-long, spans-two, three-long, spans-three}
use Rattle.run_write.proofs.put_number.Goals as goal

pub bounds-buf-at : goal.bounds-buf-at
bounds-buf-at c =
    let roomy : c.args.at < length c.args.buf.now = omega (arith, byte_fits c.args.v c.if-v-lt128.true, c.requires) in
    roomy

pub returns-then-v-lt128 : goal.returns-then-v-lt128
returns-then-v-lt128 c = spans-byte _ _ _ _ c.if-v-lt128.true refl

pub put_pair-requires : goal.put_pair-requires
put_pair-requires c =
    let room-two : c.args.at + 2 ≤ length c.args.buf.now = let a = c.args in
    omega (arith, two-long a.v (a.v / 128 - 1) c.if-v-lt128.false refl c.if-x-lt128.true, c.requires) in
    (omega arith, omega arith, room-two)

pub returns-then-x-lt128 : goal.returns-then-x-lt128
returns-then-x-lt128 c =
    let a = c.args in
    spans-two a.v (a.v / 128 - 1) c.if-v-lt128.false refl c.if-x-lt128.true _ _ c.put_pair.ensures

pub put_pair-requires-then-y-lt128 : goal.put_pair-requires-then-y-lt128
put_pair-requires-then-y-lt128 c =
    let room-three : c.args.at + 3 ≤ length c.args.buf.now = let a = c.args in
    let x = a.v / 128 - 1 in
    omega (arith, three-long a.v x c.if-v-lt128.false refl (x / 128 - 1) c.if-x-lt128.false refl c.if-y-lt128.true, c.requires) in
    (omega arith, omega arith, omega (arith, room-three))

pub bounds-buf-at-then-y-lt128 : goal.bounds-buf-at-then-y-lt128
bounds-buf-at-then-y-lt128 c =
    let room-three : c.args.at + 3 ≤ length c.args.buf.now = let a = c.args in
    let x = a.v / 128 - 1 in
    omega (arith, three-long a.v x c.if-v-lt128.false refl (x / 128 - 1) c.if-x-lt128.false refl c.if-y-lt128.true, c.requires) in
    omega (arith, room-three)

pub returns-then-y-lt128 : goal.returns-then-y-lt128
returns-then-y-lt128 c =
    let a = c.args in
    let x = a.v / 128 - 1 in
    spans-three a.v x c.if-v-lt128.false refl (x / 128 - 1) c.if-x-lt128.false refl c.if-y-lt128.true _ _ c.put_pair-then-y-lt128.ensures

pub returns : goal.returns
returns c = spans-put _ _ _ c.requires c.put_varint.ensures
