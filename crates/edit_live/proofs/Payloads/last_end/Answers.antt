-- No payload's end wraps.
use Rattle.std.proofs.Common.{rules}
use Rattle.edit_live.proofs.Walks.{span_fits}
use Rattle.edit_live.proofs.Payloads.last_end.Goals as goal

pub farther-last-requires : goal.farther-last-requires
farther-last-requires c = span_fits _ _ _ _ c.span_at.ensures (search rules)
