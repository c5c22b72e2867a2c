-- `place::put_block` meets its contract: the block holds the part, and what is put of the block is the part.
use Rattle.place.proofs.Steps.{block-done}
use borrow.Author.Rules.{rules}
use Rattle.place.proofs.put_block.Goals as goal

pub returns : goal.returns
returns c =
    block-done _ _ _ _ c.requires.0 c.requires.1 c.put_each.ensures _ _
    c.put_each-2.ensures
