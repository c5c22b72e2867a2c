-- The cases of an empty payload.
use mathlib.Core.Path.{sym, ◌∙◌}
use borrow.Author.Tests.{ne_eqb}
use Rattle.edit_pack.specs.PackTable.{empty-skip}
use Rattle.edit_pack.proofs.Turns.{empty-told, empty-not}
use Rattle.edit_pack.proofs.is_empty.Goals as goal

pub returns-then-i-skip : goal.returns-then-i-skip
returns-then-i-skip c = sym (empty-skip _ _ _ c.if-i-skip.true)

pub returns-then-r-eq1 : goal.returns-then-r-eq1
returns-then-r-eq1 c = empty-told _ _ _ c.record_at-r.ensures c.if-i-skip.false c.if-r-eq1.true

pub returns-else-r-eq1 : goal.returns-else-r-eq1
returns-else-r-eq1 c = ne_eqb _ _ c.if-r-eq1.false ∙ empty-not _ _ _ c.record_at-r.ensures c.if-i-skip.false c.if-r-eq1.false
