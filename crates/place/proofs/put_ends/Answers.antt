-- `place::put_ends` meets its contract.
use Rattle.place.proofs.Steps.{ends-done}
use borrow.Author.Rules.{rules}
use Rattle.place.proofs.put_ends.Goals as goal

pub returns : goal.returns
returns c = ends-done _ _ _ _ _ _ c.requires.1 c.requires.2 c.requires.3 c.requires.4 c.put_block.ensures c.put_block-2.ensures
