-- Each turn finds one more payload that overlaps none before it, and the gap after it.
use Rattle.edit_live.specs.Payloads.{spans}
use Rattle.edit_live.proofs.Walks.{Clearing}
use Rattle.edit_live.proofs.Payloads.first_overlap.Given as goal

abbrev pub invariant-loop-i : goal.invariant-loop-i
invariant-loop-i l = Clearing (spans l.self) l.low l.high l.i
