-- `write_message::put_value` meets its contract.
use mathlib.Core.Path.{◌≡◌, refl, ap}
use native.Mathlib.Omega.{arith}
use lib.ListN.{length}
use Rattle.write_record.specs.RecordLaws.{bytes-varint, bytes-four, bytes-eight}
use Rattle.place.specs.Spans.{spans-length, spans-as}
use Rattle.write_message.proofs.Puts.{fixed-put, payload-size, payload-behind}
use Rattle.write_message.proofs.put_value.Goals as goal

pub put_number-requires : goal.put_number-requires
put_number-requires c = rw (bytes-varint c.args.source.now c.args.r c.if-kind-eq0.true) at c.requires.1

pub returns-then-kind-eq0 : goal.returns-then-kind-eq0
returns-then-kind-eq0 c = spans-as (bytes-varint _ _ c.if-kind-eq0.true) c.put_number.ensures

pub put_number-next-requires : goal.put_number-next-requires
put_number-next-requires c = omega (arith, payload-size c.args.buf.now c.args.source.now c.args.r c.requires.0 (omega arith), c.requires.1)

pub put_inside-requires : goal.put_inside-requires
put_inside-requires c =
    let k = c.put_number-next.ensures in
    let z = payload-size c.args.buf.now c.args.source.now c.args.r c.requires.0 (omega arith) in
    (c.requires.0.payload (omega arith), omega (arith, z, c.requires.1, k.reach, spans-length k))

pub overflow_add-result : goal.overflow_add-result
overflow_add-result c =
    let k = c.put_number-next.ensures in
    let z = payload-size c.args.buf.now c.args.source.now c.args.r c.requires.0 (omega arith) in
    omega (arith, z, c.requires.1, k.reach)

pub returns-then-kind-lt2 : goal.returns-then-kind-lt2
returns-then-kind-lt2 c = payload-behind _ _ _ c.requires.0 (omega arith) c.put_number-next.ensures c.put_inside.ensures

pub put_exact-requires : goal.put_exact-requires
put_exact-requires c = omega (arith, ap length (bytes-four c.args.source.now c.args.r c.if-kind-eq2.true), c.requires.1)

pub overflow_add-result-then-kind-eq2 : goal.overflow_add-result-then-kind-eq2
overflow_add-result-then-kind-eq2 c = omega (arith, ap length (bytes-four c.args.source.now c.args.r c.if-kind-eq2.true), c.requires.1)

pub returns-then-kind-eq2 : goal.returns-then-kind-eq2
returns-then-kind-eq2 c = fixed-put _ _ _ _ (bytes-four _ _ c.if-kind-eq2.true) refl c.put_exact.ensures

pub put_exact-requires-2 : goal.put_exact-requires-2
put_exact-requires-2 c =
    let last-kind : c.args.r.kind ≡ 3 = omega (arith, c.requires.0.kind) in
    omega (arith, ap length (bytes-eight c.args.source.now c.args.r last-kind), c.requires.1)

pub overflow_add-result-2 : goal.overflow_add-result-2
overflow_add-result-2 c =
    let last-kind : c.args.r.kind ≡ 3 = omega (arith, c.requires.0.kind) in
    omega (arith, ap length (bytes-eight c.args.source.now c.args.r last-kind), c.requires.1)

pub returns : goal.returns
returns c =
    let last-kind : c.args.r.kind ≡ 3 = omega (arith, c.requires.0.kind) in
    fixed-put _ _ _ _ (bytes-eight _ _ last-kind) refl c.put_exact-2.ensures
