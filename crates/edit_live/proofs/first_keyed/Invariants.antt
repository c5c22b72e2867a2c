-- Each turn passes a record with no key.
use Rattle.edit_live.proofs.Walks.{Keying}
use Rattle.edit_live.proofs.first_keyed.Given as goal

abbrev pub invariant-loop-i : goal.invariant-loop-i
invariant-loop-i l = Keying l.table l.i
