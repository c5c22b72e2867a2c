-- `write_message::write_back` meets its contract.
use Rattle.write_message.specs.Writing.{back}
use Rattle.write_message.specs.WritingLaws.{into-no}
use Rattle.write_message.proofs.Whole.{roomy, back_done}
use Rattle.write_message.proofs.write_back.Goals as goal

pub prepend_all-requires : goal.prepend_all-requires
prepend_all-requires c =
    let a = c.args in
    roomy a.buf.now a.most a.source.now a.table.now a.count c.fit.ensures c.in-At.is

pub returns-in-Refused : goal.returns-in-Refused
unfolding back
returns-in-Refused c = into-no _ _ _ _ _ _ c.fit.ensures c.in-Refused.is

pub returns-in-At : goal.returns-in-At
returns-in-At c =
    back_done _ _ _ _ _ c.fit.ensures
    c.in-At.is c.prepend_all.ensures
