-- `write_insertion::put_between` meets its contract.
use Rattle.write_insertion.proofs.Turns.{Moving}
use Rattle.write_insertion.proofs.put_between.Given as goal

abbrev pub invariant-loop-j : goal.invariant-loop-j
invariant-loop-j l = Moving l.initial.table l.from l.to l.table l.j

abbrev pub decreases-loop-j : goal.decreases-loop-j
decreases-loop-j l = l.j
