-- Each turn keeps the nearest so far.
use Rattle.std.specs.Prelude.{◌≡◌}
use Rattle.edit_live.specs.Payloads.{spans}
use Rattle.edit_live.specs.Spans.{Nearest, seek}
use Rattle.edit_live.proofs.Payloads.next_live.Given as goal

abbrev pub invariant-loop-i : goal.invariant-loop-i
invariant-loop-i l = ◌≡◌ {A = Nearest} (record { index = l.next; start = l.low }) (seek l.self.size l.self.count l.i (spans l.self) l.from)
