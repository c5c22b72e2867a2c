-- Each turn tests a record of fixed values; those that were passed two by two are behind it.
use Prim.Native.Nat.{◌-◌}
use Rattle.run_write.proofs.Turns.{Testing}
use Rattle.run_write.proofs.weigh_fixed.Given as goal

abbrev pub invariant-loop-at : goal.invariant-loop-at
invariant-loop-at l = Testing l.source l.table l.count l.wide l.at

abbrev pub decreases-loop-at : goal.decreases-loop-at
decreases-loop-at l = l.end - l.at
