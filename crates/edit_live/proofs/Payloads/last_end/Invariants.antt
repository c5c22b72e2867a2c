-- Each turn takes the larger end.
use Rattle.std.specs.Prelude.{◌≡◌}
use Rattle.edit_live.specs.Payloads.{spans}
use Rattle.edit_live.specs.Spans.{last_end}
use Rattle.edit_live.proofs.Payloads.last_end.Given as goal

abbrev pub invariant-loop-i : goal.invariant-loop-i
invariant-loop-i l = l.last ≡ last_end l.i (spans l.self)
