-- `write_message::write_front` meets its contract.
use Rattle.write_message.specs.Writing.{front}
use Rattle.write_message.specs.WritingLaws.{into-no}
use Rattle.write_message.proofs.Whole.{roomy, front-done}
use Rattle.write_message.proofs.write_front.Goals as goal

pub put_all-requires : goal.put_all-requires
put_all-requires c =
    let a = c.args in
    roomy a.buf.now a.most a.source.now a.table.now a.count c.fit.ensures c.in-At.is

pub returns-in-Refused : goal.returns-in-Refused
unfolding front
returns-in-Refused c = into-no _ _ _ _ _ _ c.fit.ensures c.in-Refused.is

pub returns-in-At : goal.returns-in-At
returns-in-At c =
    front-done _ _ _ _ _ c.fit.ensures c.in-At.is
    c.put_all.ensures
