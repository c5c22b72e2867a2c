-- `run_write::left_over` meets its contract.
use Rattle.run_write.proofs.left_over.Goals as goal

pub returns : goal.returns
returns c = rw (c.kind_of.ensures, c.width_of.ensures, c.high_of.ensures)
