-- `write_message::prepend_number` meets its contract.
use Prim.Native.Nat.{◌≤◌}
use native.Mathlib.Omega.{arith}
use Rattle.place.specs.Spans.{spans-prepend}
use Rattle.write_message.proofs.Puts.{byte_fits, spans-byte}
use Rattle.write_message.proofs.prepend_number.Goals as goal

pub overflow_sub-start : goal.overflow_sub-start
overflow_sub-start c =
    let roomy : 1 ≤ c.args.end = omega (arith, byte_fits c.args.v c.if-v-lt128.true, c.requires.0) in
    omega (arith, roomy)

pub bounds-buf-start : goal.bounds-buf-start
bounds-buf-start c =
    let roomy : 1 ≤ c.args.end = omega (arith, byte_fits c.args.v c.if-v-lt128.true, c.requires.0) in
    omega (arith, roomy, c.requires.1)

pub returns-then-v-lt128 : goal.returns-then-v-lt128
returns-then-v-lt128 c =
    let roomy : 1 ≤ c.args.end = omega (arith, byte_fits c.args.v c.if-v-lt128.true, c.requires.0) in
    spans-byte _ _ _ _ c.if-v-lt128.true (omega (arith, roomy))

pub returns : goal.returns
returns c =
    spans-prepend _ _ _ c.requires.0 c.requires.1
    c.prepend_varint.ensures
