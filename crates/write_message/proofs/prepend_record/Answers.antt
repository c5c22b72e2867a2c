-- `write_message::prepend_record` meets its contract.
use native.Mathlib.Omega.{arith}
use Rattle.place.specs.Spans.{spans-length, spans-as, spans-before}
use Rattle.write_message.proofs.Puts.{whole, whole-size}
use Rattle.write_message.proofs.prepend_record.Goals as goal

pub prepend_mixed_value-start-requires : goal.prepend_mixed_value-start-requires
prepend_mixed_value-start-requires c =
    let z = whole-size c.args.source.now c.args.prev c.args.r c.requires.0 in
    (c.requires.0, omega (arith, z, c.requires.2), c.requires.3)

pub prepend_number-requires : goal.prepend_number-requires
prepend_number-requires c =
    let k = c.prepend_mixed_value-start.ensures in
    omega (arith, whole-size c.args.source.now c.args.prev c.args.r c.requires.0, c.requires.2, c.requires.3, k.reach, spans-length k)

pub returns-then-mixed : goal.returns-then-mixed
returns-then-mixed c = spans-as (whole _ _ _ c.requires.0) (spans-before c.prepend_mixed_value-start.ensures c.prepend_number.ensures)

pub prepend_value-start-requires : goal.prepend_value-start-requires
prepend_value-start-requires c =
    let z = whole-size c.args.source.now c.args.prev c.args.r c.requires.0 in
    (c.requires.0, omega (arith, z, c.requires.2), c.requires.3)

pub prepend_number-requires-2 : goal.prepend_number-requires-2
prepend_number-requires-2 c =
    let k = c.prepend_value-start.ensures in
    omega (arith, whole-size c.args.source.now c.args.prev c.args.r c.requires.0, c.requires.2, c.requires.3, k.reach, spans-length k)

pub returns : goal.returns
returns c = spans-as (whole _ _ _ c.requires.0) (spans-before c.prepend_value-start.ensures c.prepend_number-2.ensures)
