-- `run_write::high_of` meets its contract.
use Rattle.run_write.proofs.high_of.Goals as goal

pub returns-else-wide : goal.returns-else-wide
returns-else-wide c = rw c.if-wide.false
