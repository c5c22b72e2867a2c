-- Three numbers, one behind the other.
use Rattle.index_line.proofs.Turns.{entry-put}
use Rattle.index_line.proofs.put_entry.Goals as goal

pub returns : goal.returns
returns c = entry-put _ _ _ _ _ _ c.requires c.put_hex-p.ensures c.put_hex-q.ensures c.put_hex.ensures
