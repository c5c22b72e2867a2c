-- Each turn takes a payload's bytes away.
use Rattle.std.specs.Prelude.{◌≡◌, ◌-◌}
use Rattle.edit_live.specs.Payloads.{spans}
use Rattle.edit_live.specs.Spans.{total}
use Rattle.edit_live.proofs.Payloads.spare.Given as goal

abbrev pub invariant-loop-i : goal.invariant-loop-i
invariant-loop-i l = l.left ≡ l.self.size - total l.i (spans l.self)
