-- `text_frames::put_fields` meets its contract.
use Rattle.text_frames.proofs.Fields.{list-start, list-one, list-more, list_done}
use Rattle.text_frames.proofs.put_fields.Goals as goal

pub loop-i-init : goal.loop-i-init
loop-i-init c = list-start c.requires

pub put_field-p-requires : goal.put_field-p-requires
put_field-p-requires c = list-one c.loop-i.invariant c.loop-i-test.true c.record_at.ensures

pub loop-i-preserved : goal.loop-i-preserved
loop-i-preserved c =
    list-more c.loop-i.invariant c.loop-i-test.true
    c.record_at.ensures c.put_field-p.ensures

pub shape_of-out : goal.shape_of-out
shape_of-out c = c.loop-i.invariant.put.same

pub returns : goal.returns
returns c = list_done c.loop-i.invariant c.loop-i-test.false
