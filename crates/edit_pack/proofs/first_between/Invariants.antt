-- Each turn passes a record that is not between.
use Rattle.edit_live.specs.Payloads.{spans}
use Rattle.edit_pack.proofs.Turns.{Passing}
use Rattle.edit_pack.proofs.first_between.Given as goal

abbrev pub invariant-loop-i : goal.invariant-loop-i
invariant-loop-i l = Passing (spans l.payloads) l.payloads.count l.from l.fence l.at l.i
