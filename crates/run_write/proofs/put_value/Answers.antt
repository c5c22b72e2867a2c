-- `run_write::put_value` meets its contract.
use mathlib.Core.Path.{◌≡◌, ◌∙◌, ap}
use native.Mathlib.Omega.{arith}
use Rattle.write_record.specs.RecordLaws.{bytes-varint, bytes-four, bytes-eight}
use Prim.Native.Nat.{◌+◌, ◌≤◌}
use lib.ListN.{length}
use lib.Seq.{length-sets}
use Rattle.wire.specs.Fixed.{fixed}
use Rattle.place.specs.Spans.{spans-as}
use Rattle.run_write.proofs.Turns.{four-inside, spans-four, spans-eight}
use Rattle.write_message.proofs.Puts.{payload-size, put_payload}
use Rattle.run_write.proofs.put_value.Goals as goal

pub put_number-requires : goal.put_number-requires
put_number-requires c = rw (bytes-varint c.args.source.now c.args.r (c.requires.1 ∙ c.if-kind-eq0.true)) at c.requires.2

pub returns-then-kind-eq0 : goal.returns-then-kind-eq0
returns-then-kind-eq0 c = spans-as (bytes-varint _ _ (c.requires.1 ∙ c.if-kind-eq0.true)) c.put_number.ensures

pub put_number-next-requires : goal.put_number-next-requires
put_number-next-requires c = omega (arith, payload-size c.args.buf.now c.args.source.now c.args.r c.requires.0 (omega (arith, c.requires.1)), c.requires.2)

pub returns-then-kind-lt2 : goal.returns-then-kind-lt2
returns-then-kind-lt2 c =
    put_payload _ _ _ c.requires.0 (omega (arith, c.requires.1)) c.requires.2 c.put_number-next.ensures
    c.put_part.ensures

pub put_four-requires : goal.put_four-requires
put_four-requires c = omega (arith, four-inside c.args.source.now c.args.r c.requires.0 (omega (arith, c.requires.1)), c.requires.2)

pub overflow_add-result : goal.overflow_add-result
overflow_add-result c = omega (arith, four-inside c.args.source.now c.args.r c.requires.0 (omega (arith, c.requires.1)), c.requires.2, c.well_formed)

pub returns-then-kind-eq2 : goal.returns-then-kind-eq2
returns-then-kind-eq2 c = spans-as (bytes-four _ _ (c.requires.1 ∙ c.if-kind-eq2.true)) (spans-four _ c.put_four.ensures)

pub overflow_add-at : goal.overflow_add-at
overflow_add-at c =
    let wide : (c.args.r.kind ≡ 3) × (c.args.at + 8 ≤ length c.args.buf.now) = let k : c.args.r.kind ≡ 3 = omega (arith, c.requires.0.kind, c.requires.1, c.if-kind-eq2.false) in
    (k, rw (bytes-eight c.args.source.now c.args.r k) at c.requires.2) in
    omega (arith, wide.1, c.well_formed)

pub put_four-requires-2 : goal.put_four-requires-2
put_four-requires-2 c =
    let wide : (c.args.r.kind ≡ 3) × (c.args.at + 8 ≤ length c.args.buf.now) = let k : c.args.r.kind ≡ 3 = omega (arith, c.requires.0.kind, c.requires.1, c.if-kind-eq2.false) in
    (k, rw (bytes-eight c.args.source.now c.args.r k) at c.requires.2) in
    let a = c.args in
    let e = ap length c.put_four.ensures in
    omega (arith, wide.1, e, length-sets a.buf.now a.at (fixed 4 a.r.value))

pub overflow_add-result-2 : goal.overflow_add-result-2
overflow_add-result-2 c =
    let wide : (c.args.r.kind ≡ 3) × (c.args.at + 8 ≤ length c.args.buf.now) = let k : c.args.r.kind ≡ 3 = omega (arith, c.requires.0.kind, c.requires.1, c.if-kind-eq2.false) in
    (k, rw (bytes-eight c.args.source.now c.args.r k) at c.requires.2) in
    omega (arith, wide.1, c.well_formed)

pub returns : goal.returns
returns c =
    let wide : (c.args.r.kind ≡ 3) × (c.args.at + 8 ≤ length c.args.buf.now) = let k : c.args.r.kind ≡ 3 = omega (arith, c.requires.0.kind, c.requires.1, c.if-kind-eq2.false) in
    (k, rw (bytes-eight c.args.source.now c.args.r k) at c.requires.2) in
    spans-as (bytes-eight _ _ wide.0) (spans-eight _ c.put_four.ensures c.put_four-2.ensures)
