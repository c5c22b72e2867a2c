-- One that is cleared lies in the table.
use Rattle.edit_pack.proofs.Turns.{clear-row}
use Rattle.edit_pack.proofs.clear_empty.Goals as goal

pub amend-requires : goal.amend-requires
amend-requires c = clear-row _ _ _ c.is_empty.ensures c.if-is_empty.true
