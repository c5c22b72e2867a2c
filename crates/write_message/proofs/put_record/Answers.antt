-- `write_message::put_record` meets its contract.
use native.Mathlib.Omega.{arith}
use Rattle.place.specs.Spans.{spans-length, spans-as, spans-behind}
use Rattle.write_message.proofs.Puts.{whole, whole-size}
use Rattle.write_message.proofs.put_record.Goals as goal

pub put_number-next-requires : goal.put_number-next-requires
put_number-next-requires c = omega (arith, whole-size c.args.source.now c.args.prev c.args.r c.requires.0, c.requires.2)

pub put_mixed_value-requires : goal.put_mixed_value-requires
put_mixed_value-requires c =
    let k = c.put_number-next.ensures in
    (c.requires.0, omega (arith, whole-size c.args.source.now c.args.prev c.args.r c.requires.0, c.requires.2, k.reach, spans-length k))

pub returns-then-mixed : goal.returns-then-mixed
returns-then-mixed c = spans-as (whole _ _ _ c.requires.0) (spans-behind c.put_number-next.ensures c.put_mixed_value.ensures)

pub put_value-requires : goal.put_value-requires
put_value-requires c =
    let k = c.put_number-next.ensures in
    (c.requires.0, omega (arith, whole-size c.args.source.now c.args.prev c.args.r c.requires.0, c.requires.2, k.reach, spans-length k))

pub returns : goal.returns
returns c = spans-as (whole _ _ _ c.requires.0) (spans-behind c.put_number-next.ensures c.put_value.ensures)
