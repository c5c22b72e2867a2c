-- `write_message::put_mixed_value` meets its contract.
use mathlib.Core.Path.{◌≡◌, refl}
use mathlib.Core.Logic.{◌⊎◌}
use native.Mathlib.Omega.{arith}
use Rattle.write_record.specs.RecordLaws.{bytes-varint}
use Rattle.place.specs.Spans.{spans-length, spans-as}
use Rattle.write_message.proofs.Puts.{fixed-put, payload-size, payload-behind, sizes, size-known, fixed-bytes, fixed-size}
use Rattle.write_message.proofs.put_mixed_value.Goals as goal

pub put_varied-requires : goal.put_varied-requires
put_varied-requires c = rw (bytes-varint c.args.source.now c.args.r c.if-kind-eq0.true) at c.requires.1

pub returns-then-kind-eq0 : goal.returns-then-kind-eq0
returns-then-kind-eq0 c = spans-as (bytes-varint _ _ c.if-kind-eq0.true) c.put_varied.ensures

pub put_number-next-requires : goal.put_number-next-requires
put_number-next-requires c = omega (arith, payload-size c.args.buf.now c.args.source.now c.args.r c.requires.0 c.if-kind-eq1.true, c.requires.1)

pub put_inside-requires : goal.put_inside-requires
put_inside-requires c =
    let k = c.put_number-next.ensures in
    let t = c.if-kind-eq1.true in
    let z = payload-size c.args.buf.now c.args.source.now c.args.r c.requires.0 t in
    (c.requires.0.payload t, omega (arith, z, c.requires.1, k.reach, spans-length k))

pub overflow_add-result : goal.overflow_add-result
overflow_add-result c =
    let k = c.put_number-next.ensures in
    let t = c.if-kind-eq1.true in
    let z = payload-size c.args.buf.now c.args.source.now c.args.r c.requires.0 t in
    omega (arith, z, c.requires.1, k.reach)

pub returns-then-kind-eq1 : goal.returns-then-kind-eq1
returns-then-kind-eq1 c = payload-behind _ _ _ c.requires.0 c.if-kind-eq1.true c.put_number-next.ensures c.put_inside.ensures

pub overflow_mul-size : goal.overflow_mul-size
overflow_mul-size c = omega (arith, c.requires.0.kind)

pub overflow_sub-size : goal.overflow_sub-size
overflow_sub-size c = omega (arith, c.if-kind-eq0.false, c.if-kind-eq1.false)

pub put_sized-requires : goal.put_sized-requires
put_sized-requires c =
    let either : (c.args.r.kind ≡ 2) ⊎ (c.args.r.kind ≡ 3) =
    sizes c.args.buf.now c.args.source.now c.args.r c.requires.0 c.if-kind-eq0.false c.if-kind-eq1.false in
    let k = either in
    let z = fixed-size c.args.buf.now c.args.source.now c.args.r c.requires.0 k in
    (size-known c.args.buf.now c.args.source.now c.args.r c.requires.0 k, omega (arith, z, c.requires.1))

pub overflow_add-result-2 : goal.overflow_add-result-2
overflow_add-result-2 c =
    let either : (c.args.r.kind ≡ 2) ⊎ (c.args.r.kind ≡ 3) =
    sizes c.args.buf.now c.args.source.now c.args.r c.requires.0 c.if-kind-eq0.false c.if-kind-eq1.false in
    let z = fixed-size c.args.buf.now c.args.source.now c.args.r c.requires.0 either in
    omega (arith, z, c.requires.1)

pub returns : goal.returns
returns c =
    let either : (c.args.r.kind ≡ 2) ⊎ (c.args.r.kind ≡ 3) =
    sizes c.args.buf.now c.args.source.now c.args.r c.requires.0 c.if-kind-eq0.false c.if-kind-eq1.false in
    let f = fixed-bytes c.args.buf.now _ _ c.requires.0 either in
    fixed-put _ _ _ _ f refl c.put_sized.ensures
