-- `write_message::put_varied` meets its contract.
use Prim.Native.Nat.{◌+◌}
use mathlib.Core.Path.{◌≡◌}
use native.Mathlib.Omega.{arith}
use lib.ListN.{length}
use Rattle.wire.specs.Varint.{encode}
use Rattle.place.specs.Spans.{spans-put}
use Rattle.write_message.proofs.Parts.{over-bounds, short-length}
use Rattle.write_message.proofs.put_varied.Goals as goal

pub put_short-requires : goal.put_short-requires
put_short-requires c = (c.if-v-lt2113664.true, c.requires, c.over-a.ensures, c.over-b.ensures)

pub overflow_add-result : goal.overflow_add-result
overflow_add-result c =
    let long : length (encode c.args.v) ≡ 1 + (c.over-a.result + c.over-b.result) = let v = c.args.v in
    let h = c.if-v-lt2113664.true in
    let a = c.over-a in
    let b = c.over-b in
    short-length v a.result b.result h (over-bounds v 0x80 a.result h a.ensures.0 a.ensures.1)
    (over-bounds v 0x4080 b.result h b.ensures.0 b.ensures.1) in
    omega (arith, long, c.requires)

pub overflow_add-result-then-v-lt2113664 : goal.overflow_add-result-then-v-lt2113664
overflow_add-result-then-v-lt2113664 c =
    let long : length (encode c.args.v) ≡ 1 + (c.over-a.result + c.over-b.result) = let v = c.args.v in
    let h = c.if-v-lt2113664.true in
    let a = c.over-a in
    let b = c.over-b in
    short-length v a.result b.result h (over-bounds v 0x80 a.result h a.ensures.0 a.ensures.1)
    (over-bounds v 0x4080 b.result h b.ensures.0 b.ensures.1) in
    omega (arith, long, c.requires)

pub overflow_add-result-then-v-lt2113664-2 : goal.overflow_add-result-then-v-lt2113664-2
overflow_add-result-then-v-lt2113664-2 c =
    let long : length (encode c.args.v) ≡ 1 + (c.over-a.result + c.over-b.result) = let v = c.args.v in
    let h = c.if-v-lt2113664.true in
    let a = c.over-a in
    let b = c.over-b in
    short-length v a.result b.result h (over-bounds v 0x80 a.result h a.ensures.0 a.ensures.1)
    (over-bounds v 0x4080 b.result h b.ensures.0 b.ensures.1) in
    omega (arith, long, c.requires)

pub returns-then-v-lt2113664 : goal.returns-then-v-lt2113664
returns-then-v-lt2113664 c =
    let long : length (encode c.args.v) ≡ 1 + (c.over-a.result + c.over-b.result) = let v = c.args.v in
    let h = c.if-v-lt2113664.true in
    let a = c.over-a in
    let b = c.over-b in
    short-length v a.result b.result h (over-bounds v 0x80 a.result h a.ensures.0 a.ensures.1)
    (over-bounds v 0x4080 b.result h b.ensures.0 b.ensures.1) in
    record { reach = omega (arith, long); is = c.put_short.ensures }

pub returns : goal.returns
returns c = spans-put _ _ _ c.requires c.put_varint.ensures
