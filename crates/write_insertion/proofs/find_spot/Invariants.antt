-- `write_insertion::find_spot` meets its contract.
use Rattle.write_insertion.proofs.Turns.{Finding}
use Rattle.write_insertion.proofs.find_spot.Given as goal

abbrev pub invariant-loop-i : goal.invariant-loop-i
invariant-loop-i l = Finding l.table l.count l.tag l.i

abbrev pub decreases-loop-i : goal.decreases-loop-i
decreases-loop-i l = l.i
