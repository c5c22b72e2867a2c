-- The text of an answer has room, and is what is put.
use Rattle.text_frames.proofs.Frames.{answered, answer-room, answer-put, closed}
use Rattle.text_frames.proofs.put_message.Goals as goal

pub put_refused-requires : goal.put_refused-requires
put_refused-requires c =
    rw c.number_of.ensures (answer-room c.requires c.args.n c.args.table.now (answered c.in-Refused.is c.read_message.ensures))

pub put_accepted-requires : goal.put_accepted-requires
put_accepted-requires c = closed c.requires c.args.n c.args.table.now (answered c.in-Accepted.is c.read_message.ensures)

pub returns-in-Refused : goal.returns-in-Refused
returns-in-Refused c =
    answer-put c.requires c.args.n c.args.table.now (answered c.in-Refused.is c.read_message.ensures) (rw c.number_of.ensures at c.put_refused.ensures)

pub returns-in-Accepted : goal.returns-in-Accepted
returns-in-Accepted c = answer-put c.requires c.args.n c.args.table.now (answered c.in-Accepted.is c.read_message.ensures) c.put_accepted.ensures
