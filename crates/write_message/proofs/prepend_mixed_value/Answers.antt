-- `write_message::prepend_mixed_value` meets its contract.
use Prim.Native.Nat.{◌+◌, ◌-◌, ◌*◌, ◌≤◌}
use mathlib.Core.Path.{◌≡◌, refl}
use mathlib.Core.Logic.{◌⊎◌}
use native.Mathlib.Omega.{arith}
use lib.ListN.{length, take, drop}
use Rattle.wire.specs.Varint.{encode}
use Rattle.write_record.specs.RecordLaws.{bytes-varint}
use Rattle.place.specs.Spans.{spans-as}
use Rattle.write_message.proofs.Parts.{same_size}
use Rattle.write_message.proofs.Puts.{fixed-put, payload-size, payload-before, sizes, size-known, fixed-bytes, fixed-size}
use Rattle.write_message.proofs.prepend_mixed_value.Goals as goal

pub prepend_varied-requires : goal.prepend_varied-requires
prepend_varied-requires c = (rw (bytes-varint c.args.source.now c.args.r c.if-kind-eq0.true) at c.requires.1, c.requires.2)

pub returns-then-kind-eq0 : goal.returns-then-kind-eq0
returns-then-kind-eq0 c = spans-as (bytes-varint _ _ c.if-kind-eq0.true) c.prepend_varied.ensures

pub overflow_sub-start : goal.overflow_sub-start
overflow_sub-start c =
    let payload-fits : length (encode c.args.r.length) + c.args.r.length ≤ c.args.end =
    omega (arith, payload-size c.args.buf.now c.args.source.now c.args.r c.requires.0 c.if-kind-eq1.true, c.requires.1) in
    omega (arith, payload-fits)

pub put_inside-requires : goal.put_inside-requires
put_inside-requires c =
    let payload-fits : length (encode c.args.r.length) + c.args.r.length ≤ c.args.end =
    omega (arith, payload-size c.args.buf.now c.args.source.now c.args.r c.requires.0 c.if-kind-eq1.true, c.requires.1) in
    (c.requires.0.payload c.if-kind-eq1.true, omega (arith, payload-fits, c.requires.2))

pub prepend_number-requires : goal.prepend_number-requires
prepend_number-requires c =
    let payload-fits : length (encode c.args.r.length) + c.args.r.length ≤ c.args.end =
    omega (arith, payload-size c.args.buf.now c.args.source.now c.args.r c.requires.0 c.if-kind-eq1.true, c.requires.1) in
    let xs = take c.args.r.length (drop c.args.r.value c.args.source.now) in
    let e = same_size c.args.buf.now (c.args.end - c.args.r.length) xs c.put_inside.ensures in
    (omega (arith, payload-fits), omega (arith, c.requires.2, e))

pub returns-then-kind-eq1 : goal.returns-then-kind-eq1
returns-then-kind-eq1 c = payload-before _ _ _ c.requires.0 c.if-kind-eq1.true c.requires.1 refl c.put_inside.ensures c.prepend_number.ensures

pub overflow_mul-size : goal.overflow_mul-size
overflow_mul-size c = omega (arith, c.requires.0.kind)

pub overflow_sub-size : goal.overflow_sub-size
overflow_sub-size c = omega (arith, c.if-kind-eq0.false, c.if-kind-eq1.false)

pub overflow_sub-end : goal.overflow_sub-end
overflow_sub-end c =
    let either : (c.args.r.kind ≡ 2) ⊎ (c.args.r.kind ≡ 3) =
    sizes c.args.buf.now c.args.source.now c.args.r c.requires.0 c.if-kind-eq0.false c.if-kind-eq1.false in
    let fits : 4 * c.args.r.kind - 4 ≤ c.args.end = omega (arith, fixed-size c.args.buf.now c.args.source.now c.args.r c.requires.0 either, c.requires.1) in
    omega (arith, fits)

pub put_sized-requires : goal.put_sized-requires
put_sized-requires c =
    let either : (c.args.r.kind ≡ 2) ⊎ (c.args.r.kind ≡ 3) =
    sizes c.args.buf.now c.args.source.now c.args.r c.requires.0 c.if-kind-eq0.false c.if-kind-eq1.false in
    let fits : 4 * c.args.r.kind - 4 ≤ c.args.end = omega (arith, fixed-size c.args.buf.now c.args.source.now c.args.r c.requires.0 either, c.requires.1) in
    (size-known c.args.buf.now c.args.source.now c.args.r c.requires.0 either, omega (arith, fits, c.requires.2))

pub overflow_sub-result : goal.overflow_sub-result
overflow_sub-result c =
    let either : (c.args.r.kind ≡ 2) ⊎ (c.args.r.kind ≡ 3) =
    sizes c.args.buf.now c.args.source.now c.args.r c.requires.0 c.if-kind-eq0.false c.if-kind-eq1.false in
    let fits : 4 * c.args.r.kind - 4 ≤ c.args.end = omega (arith, fixed-size c.args.buf.now c.args.source.now c.args.r c.requires.0 either, c.requires.1) in
    omega (arith, fits)

pub returns : goal.returns
returns c =
    let either : (c.args.r.kind ≡ 2) ⊎ (c.args.r.kind ≡ 3) =
    sizes c.args.buf.now c.args.source.now c.args.r c.requires.0 c.if-kind-eq0.false c.if-kind-eq1.false in
    let fits : 4 * c.args.r.kind - 4 ≤ c.args.end = omega (arith, fixed-size c.args.buf.now c.args.source.now c.args.r c.requires.0 either, c.requires.1) in
    fixed-put c.args.buf.now (c.args.end - (4 * c.args.r.kind - 4)) (4 * c.args.r.kind - 4) c.args.r.value
    (fixed-bytes c.args.buf.now _ _ c.requires.0 either) (omega (arith, fits)) c.put_sized.ensures
