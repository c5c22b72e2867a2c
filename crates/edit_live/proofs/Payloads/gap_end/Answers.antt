-- No payload's end wraps.
use native.Mathlib.Omega.{arith}
use Rattle.edit_live.proofs.Walks.{span_fits}
use Rattle.edit_live.proofs.Payloads.gap_end.Goals as goal

pub narrow-high-requires : goal.narrow-high-requires
narrow-high-requires c = (span_fits _ _ _ _ c.span_at.ensures omega (arith, c.type_inv.self), c.requires)
