-- Each turn passes a value, and notes the one at the number.
use Prim.Native.Nat.{◌-◌}
use lib.ListN.{length}
use Rattle.run_read.proofs.Going.{Looking}
use Rattle.run_read.proofs.find_value.Given as goal

abbrev pub invariant-loop-p : goal.invariant-loop-p
invariant-loop-p l = Looking l.s l.wire l.number l.p l.n l.found

abbrev pub decreases-loop-p : goal.decreases-loop-p
decreases-loop-p l = length l.s - l.p
