-- Bytes that lie in the gap need no look at any payload.
use Rattle.edit_live.specs.Gaps.{gap-case}
use Rattle.edit_live.proofs.Payloads.gap_of.Goals as goal

pub returns-then-a-low : goal.returns-then-a-low
returns-then-a-low c = rw c.gap_end.ensures (gap-case _ _ _ _ c.requires.0 c.requires.1)
