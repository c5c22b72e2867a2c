-- Each turn narrows the gap by one payload.
use Rattle.std.specs.Prelude.{◌≡◌}
use Rattle.edit_live.specs.Payloads.{spans}
use Rattle.edit_live.specs.Gaps.{gap_end}
use Rattle.edit_live.proofs.Payloads.gap_end.Given as goal

abbrev pub invariant-loop-i : goal.invariant-loop-i
invariant-loop-i l = l.high ≡ gap_end l.self.size l.i (spans l.self) l.a
