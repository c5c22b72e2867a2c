-- `write_message::prepend_all` meets its contract.
use mathlib.Core.Path.{◌≡◌, ◌∙◌}
use Prim.Native.Nat.{◌-◌, ◌*◌}
use native.Mathlib.Omega.{arith}
use Rattle.wire.specs.Limits.{record_words}
use Rattle.wire.specs.Table.{record_at}
use Rattle.write_record.specs.Taken.{record-front}
use Rattle.place.specs.Spans.{spans-length}
use Rattle.write_message.proofs.Turns.{backward-start, backward-one, backward-more, backward-done}
use Rattle.write_message.proofs.prepend_all.Goals as goal

pub overflow_mul-records : goal.overflow_mul-records
overflow_mul-records c = omega (arith, c.requires.0.count)

pub loop-i-init : goal.loop-i-init
loop-i-init c = backward-start _ _ _ _

pub tag_before-prev-requires : goal.tag_before-prev-requires
tag_before-prev-requires c = omega (arith, c.requires.0.count, c.loop-i.invariant.index)

pub prepend_record-end-requires : goal.prepend_record-end-requires
prepend_record-end-requires c =
    let there : c.record_at-r.result ≡ record_at c.args.table.now (c.loop-i.i - 1) = let l = c.loop-i in
    c.record_at-r.ensures
    ∙ record-front c.args.table.now (record_words * c.args.count - 0) c.args.count (l.i - 1) (omega arith)
    (omega (arith, l.invariant.index, c.loop-i-test.true)) c.requires.0.count in
    backward-one c.requires.0 c.requires.1 c.loop-i.invariant c.loop-i-test.true there
    c.tag_before-prev.ensures

pub loop-i-preserved : goal.loop-i-preserved
loop-i-preserved c =
    let there : c.record_at-r.result ≡ record_at c.args.table.now (c.loop-i.i - 1) = let l = c.loop-i in
    c.record_at-r.ensures
    ∙ record-front c.args.table.now (record_words * c.args.count - 0) c.args.count (l.i - 1) (omega arith)
    (omega (arith, l.invariant.index, c.loop-i-test.true)) c.requires.0.count in
    backward-more c.requires.0 c.requires.1 c.loop-i.invariant c.loop-i-test.true there c.tag_before-prev.ensures
    c.prepend_record-end.ensures

pub shape_of-buf : goal.shape_of-buf
shape_of-buf c = spans-length c.loop-i.invariant.put

pub returns : goal.returns
returns c = backward-done c.loop-i.invariant c.loop-i-test.false
