-- `run_write::write_run` meets its contract.
use Rattle.wire.specs.Limits.{message_limit}
use Rattle.write_message.specs.Writing.{front}
use Rattle.write_message.specs.WritingLaws.{into-no}
use Rattle.run_write.specs.RunPlan.{write_run}
use Rattle.run_write.proofs.Whole.{roomy, front-done}
use Rattle.run_write.proofs.write_run.Goals as goal

pub put_all-requires : goal.put_all-requires
put_all-requires c =
    let a = c.args in
    roomy a.buf.now message_limit a.source.now a.table.now a.count c.wire_number-kind.result c.fit.ensures
    c.in-At.is

-- the kind is the wire type's
pub returns-in-Refused : goal.returns-in-Refused
unfolding write_run front
returns-in-Refused c = rw (← c.wire_number-kind.ensures) (into-no _ _ _ _ _ _ c.fit.ensures c.in-Refused.is)

pub returns-in-At : goal.returns-in-At
unfolding write_run
returns-in-At c =
    rw (← c.wire_number-kind.ensures)
    (front-done _ _ _ _ _ _ c.fit.ensures c.in-At.is c.put_all.ensures)
