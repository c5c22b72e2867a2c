-- Each turn passes four bytes, of which one ends a number.
use Prim.Native.Nat.{◌-◌}
use lib.ListN.{length}
use Rattle.run_read.specs.Short.{Turned}
use Rattle.run_read.proofs.pass_short.Given as goal

abbrev pub invariant-loop-at : goal.invariant-loop-at
invariant-loop-at l = Turned l.s l.from l.count l.at

abbrev pub decreases-loop-at : goal.decreases-loop-at
decreases-loop-at l = length l.s - l.at
