-- `write_message::tag_before` meets its contract.
use Rattle.write_message.proofs.Turns.{before_at}
use Rattle.write_message.proofs.tag_before.Goals as goal

pub returns : goal.returns
returns c = before_at _ _ c.if-i-eq0.false
