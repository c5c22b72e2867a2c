-- `write_message::prepend_value` meets its contract.
use Prim.Native.Nat.{◌+◌, ◌-◌, ◌≤◌}
use mathlib.Core.Path.{◌≡◌, refl, ap}
use native.Mathlib.Omega.{arith}
use lib.ListN.{length, take, drop}
use Rattle.wire.specs.Varint.{encode}
use Rattle.write_record.specs.RecordLaws.{bytes-varint, bytes-four, bytes-eight}
use Rattle.place.specs.Spans.{spans-as}
use Rattle.write_message.proofs.Parts.{same_size}
use Rattle.write_message.proofs.Puts.{fixed-put, payload-size, payload-before}
use Rattle.write_message.proofs.prepend_value.Goals as goal

pub prepend_number-requires : goal.prepend_number-requires
prepend_number-requires c = (rw (bytes-varint c.args.source.now c.args.r c.if-kind-eq0.true) at c.requires.1, c.requires.2)

pub returns-then-kind-eq0 : goal.returns-then-kind-eq0
returns-then-kind-eq0 c = spans-as (bytes-varint _ _ c.if-kind-eq0.true) c.prepend_number.ensures

pub overflow_sub-start : goal.overflow_sub-start
overflow_sub-start c =
    let payload-fits : length (encode c.args.r.length) + c.args.r.length ≤ c.args.end =
    omega (arith, payload-size c.args.buf.now c.args.source.now c.args.r c.requires.0 (omega arith), c.requires.1) in
    omega (arith, payload-fits)

pub put_inside-requires : goal.put_inside-requires
put_inside-requires c =
    let payload-fits : length (encode c.args.r.length) + c.args.r.length ≤ c.args.end =
    omega (arith, payload-size c.args.buf.now c.args.source.now c.args.r c.requires.0 (omega arith), c.requires.1) in
    (c.requires.0.payload (omega arith), omega (arith, payload-fits, c.requires.2))

pub prepend_number-requires-then-kind-lt2 : goal.prepend_number-requires-then-kind-lt2
prepend_number-requires-then-kind-lt2 c =
    let payload-fits : length (encode c.args.r.length) + c.args.r.length ≤ c.args.end =
    omega (arith, payload-size c.args.buf.now c.args.source.now c.args.r c.requires.0 (omega arith), c.requires.1) in
    let xs = take c.args.r.length (drop c.args.r.value c.args.source.now) in
    let e = same_size c.args.buf.now (c.args.end - c.args.r.length) xs c.put_inside.ensures in
    (omega (arith, payload-fits), omega (arith, c.requires.2, e))

pub returns-then-kind-lt2 : goal.returns-then-kind-lt2
returns-then-kind-lt2 c = payload-before _ _ _ c.requires.0 (omega arith) c.requires.1 refl c.put_inside.ensures c.prepend_number-then-kind-lt2.ensures

pub overflow_sub-end : goal.overflow_sub-end
overflow_sub-end c =
    let four-fits : 4 ≤ c.args.end = omega (arith, ap length (bytes-four c.args.source.now c.args.r c.if-kind-eq2.true), c.requires.1) in
    omega (arith, four-fits)

pub put_exact-requires : goal.put_exact-requires
put_exact-requires c =
    let four-fits : 4 ≤ c.args.end = omega (arith, ap length (bytes-four c.args.source.now c.args.r c.if-kind-eq2.true), c.requires.1) in
    omega (arith, four-fits, c.requires.2)

pub overflow_sub-result : goal.overflow_sub-result
overflow_sub-result c =
    let four-fits : 4 ≤ c.args.end = omega (arith, ap length (bytes-four c.args.source.now c.args.r c.if-kind-eq2.true), c.requires.1) in
    omega (arith, four-fits)

pub returns-then-kind-eq2 : goal.returns-then-kind-eq2
returns-then-kind-eq2 c =
    let four-fits : 4 ≤ c.args.end = omega (arith, ap length (bytes-four c.args.source.now c.args.r c.if-kind-eq2.true), c.requires.1) in
    let a = c.args in
    fixed-put a.buf.now (a.end - 4) 4 a.r.value (bytes-four _ _ c.if-kind-eq2.true) (omega (arith, four-fits))
    c.put_exact.ensures

pub overflow_sub-end-2 : goal.overflow_sub-end-2
overflow_sub-end-2 c =
    let last-kind : c.args.r.kind ≡ 3 = omega (arith, c.requires.0.kind) in
    let eight_fits : 8 ≤ c.args.end = omega (arith, ap length (bytes-eight c.args.source.now c.args.r last-kind), c.requires.1) in
    omega (arith, eight_fits)

pub put_exact-requires-2 : goal.put_exact-requires-2
put_exact-requires-2 c =
    let last-kind : c.args.r.kind ≡ 3 = omega (arith, c.requires.0.kind) in
    let eight_fits : 8 ≤ c.args.end = omega (arith, ap length (bytes-eight c.args.source.now c.args.r last-kind), c.requires.1) in
    omega (arith, eight_fits, c.requires.2)

pub overflow_sub-result-2 : goal.overflow_sub-result-2
overflow_sub-result-2 c =
    let last-kind : c.args.r.kind ≡ 3 = omega (arith, c.requires.0.kind) in
    let eight_fits : 8 ≤ c.args.end = omega (arith, ap length (bytes-eight c.args.source.now c.args.r last-kind), c.requires.1) in
    omega (arith, eight_fits)

pub returns : goal.returns
returns c =
    let last-kind : c.args.r.kind ≡ 3 = omega (arith, c.requires.0.kind) in
    let eight_fits : 8 ≤ c.args.end = omega (arith, ap length (bytes-eight c.args.source.now c.args.r last-kind), c.requires.1) in
    let a = c.args in
    fixed-put a.buf.now (a.end - 8) 8 a.r.value (bytes-eight _ _ last-kind) (omega (arith, eight_fits))
    c.put_exact-2.ensures
