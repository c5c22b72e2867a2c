-- `run_write::put_all` meets its contract.
use Prim.Native.Nat.{◌-◌, ◌*◌}
use mathlib.Core.Path.{◌≡◌, ◌∙◌}
use native.Mathlib.Omega.{arith}
use Rattle.wire.specs.Limits.{record_words}
use Rattle.wire.specs.Table.{record_at}
use Rattle.write_record.specs.Taken.{record-front}
use Rattle.place.specs.Spans.{spans-length}
use Rattle.run_write.proofs.Turns.{forward-start, forward-one, forward-more, forward-done}
use Rattle.run_write.proofs.put_all.Goals as goal

pub overflow_mul-records : goal.overflow_mul-records
overflow_mul-records c = omega (arith, c.requires.0.count)

pub loop-i-init : goal.loop-i-init
loop-i-init c = forward-start _ _ _ _

pub put_value-at-requires : goal.put_value-at-requires
put_value-at-requires c =
    let there : c.record_at-r.result ≡ record_at c.args.table.now c.loop-i.i = c.record_at-r.ensures
    ∙ record-front c.args.table.now (record_words * c.args.count - 0) c.args.count c.loop-i.i (omega arith)
    c.loop-i-test.true c.requires.0.count in
    forward-one c.requires.0 c.requires.1 c.loop-i.invariant c.loop-i-test.true there

pub loop-i-preserved : goal.loop-i-preserved
loop-i-preserved c =
    let there : c.record_at-r.result ≡ record_at c.args.table.now c.loop-i.i = c.record_at-r.ensures
    ∙ record-front c.args.table.now (record_words * c.args.count - 0) c.args.count c.loop-i.i (omega arith)
    c.loop-i-test.true c.requires.0.count in
    forward-more c.requires.0 c.requires.1 c.loop-i.invariant c.loop-i-test.true there c.put_value-at.ensures

pub shape_of-buf : goal.shape_of-buf
shape_of-buf c = spans-length c.loop-i.invariant.put

pub returns : goal.returns
returns c = forward-done c.loop-i.invariant c.loop-i-test.false
