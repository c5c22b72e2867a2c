-- The cases of a payload that follows.
use Rattle.std.proofs.Common.{rules}
use Rattle.edit_pack.specs.Fence.{follows}
use Rattle.edit_pack.proofs.is_after.Goals as goal

pub returns-then-at-i : goal.returns-then-at-i
unfolding follows
returns-then-at-i c = search rules

pub returns-else-at-i : goal.returns-else-at-i
unfolding follows
returns-else-at-i c = search rules
