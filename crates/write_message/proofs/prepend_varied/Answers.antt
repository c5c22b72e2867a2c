-- `write_message::prepend_varied` meets its contract.
use Prim.Native.Nat.{◌+◌}
use mathlib.Core.Path.{◌≡◌}
use native.Mathlib.Omega.{arith}
use lib.ListN.{length}
use Rattle.wire.specs.Varint.{encode}
use Rattle.place.specs.Spans.{spans-prepend}
use Rattle.write_message.proofs.Parts.{over-bounds, short-length}
use Rattle.write_message.proofs.prepend_varied.Goals as goal

pub overflow_sub-start : goal.overflow_sub-start
overflow_sub-start c =
    let long : length (encode c.args.v) ≡ 1 + (c.over-a.result + c.over-b.result) = let v = c.args.v in
    let h = c.if-v-lt2113664.true in
    let a = c.over-a in
    let b = c.over-b in
    short-length v a.result b.result h (over-bounds v 0x80 a.result h a.ensures.0 a.ensures.1)
    (over-bounds v 0x4080 b.result h b.ensures.0 b.ensures.1) in
    omega (arith, long, c.requires.0)

pub overflow_add-start : goal.overflow_add-start
overflow_add-start c =
    let long : length (encode c.args.v) ≡ 1 + (c.over-a.result + c.over-b.result) = let v = c.args.v in
    let h = c.if-v-lt2113664.true in
    let a = c.over-a in
    let b = c.over-b in
    short-length v a.result b.result h (over-bounds v 0x80 a.result h a.ensures.0 a.ensures.1)
    (over-bounds v 0x4080 b.result h b.ensures.0 b.ensures.1) in
    omega (arith, long, c.requires.0, c.ranges.end.fits)

pub overflow_sub-start-then-v-lt2113664 : goal.overflow_sub-start-then-v-lt2113664
overflow_sub-start-then-v-lt2113664 c =
    let long : length (encode c.args.v) ≡ 1 + (c.over-a.result + c.over-b.result) = let v = c.args.v in
    let h = c.if-v-lt2113664.true in
    let a = c.over-a in
    let b = c.over-b in
    short-length v a.result b.result h (over-bounds v 0x80 a.result h a.ensures.0 a.ensures.1)
    (over-bounds v 0x4080 b.result h b.ensures.0 b.ensures.1) in
    omega (arith, long, c.requires.0)

pub put_short-requires : goal.put_short-requires
put_short-requires c =
    let long : length (encode c.args.v) ≡ 1 + (c.over-a.result + c.over-b.result) = let v = c.args.v in
    let h = c.if-v-lt2113664.true in
    let a = c.over-a in
    let b = c.over-b in
    short-length v a.result b.result h (over-bounds v 0x80 a.result h a.ensures.0 a.ensures.1)
    (over-bounds v 0x4080 b.result h b.ensures.0 b.ensures.1) in
    let l = long in
    let p = c.requires in
    (c.if-v-lt2113664.true, omega (arith, l, p.0, p.1), c.over-a.ensures, c.over-b.ensures)

pub returns-then-v-lt2113664 : goal.returns-then-v-lt2113664
returns-then-v-lt2113664 c =
    let long : length (encode c.args.v) ≡ 1 + (c.over-a.result + c.over-b.result) = let v = c.args.v in
    let h = c.if-v-lt2113664.true in
    let a = c.over-a in
    let b = c.over-b in
    short-length v a.result b.result h (over-bounds v 0x80 a.result h a.ensures.0 a.ensures.1)
    (over-bounds v 0x4080 b.result h b.ensures.0 b.ensures.1) in
    record { reach = omega (arith, long, c.requires.0); is = c.put_short.ensures }

pub returns : goal.returns
returns c =
    let p = c.requires in
    spans-prepend _ _ _ p.0 p.1 c.prepend_varint.ensures
