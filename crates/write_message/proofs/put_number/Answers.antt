-- `write_message::put_number` meets its contract.
use mathlib.Core.Path.{refl}
use native.Mathlib.Omega.{arith}
use Prim.Native.Nat.{◌<◌}
use lib.ListN.{length}
use Rattle.place.specs.Spans.{spans-put}
use Rattle.write_message.proofs.Puts.{byte_fits, spans-byte}
use Rattle.write_message.proofs.put_number.Goals as goal

pub bounds-buf-at : goal.bounds-buf-at
bounds-buf-at c =
    let roomy : c.args.at < length c.args.buf.now = omega (arith, byte_fits c.args.v c.if-v-lt128.true, c.requires) in
    roomy

pub overflow_add-result : goal.overflow_add-result
overflow_add-result c =
    let roomy : c.args.at < length c.args.buf.now = omega (arith, byte_fits c.args.v c.if-v-lt128.true, c.requires) in
    omega (arith, roomy)

pub returns-then-v-lt128 : goal.returns-then-v-lt128
returns-then-v-lt128 c = spans-byte _ _ _ _ c.if-v-lt128.true refl

pub returns : goal.returns
returns c = spans-put _ _ _ c.requires c.put_varint.ensures
