-- `run_write::weigh` meets its contract.
use Prim.Native.Nat.{◌-◌}
use Rattle.wire.specs.Limits.{message_limit}
use Rattle.run_write.proofs.Turns.{Weighing}
use Rattle.run_write.proofs.weigh.Given as goal

abbrev pub invariant-loop-i : goal.invariant-loop-i
invariant-loop-i l = Weighing message_limit l.source l.table l.count l.kind l.left l.i

abbrev pub decreases-loop-i : goal.decreases-loop-i
decreases-loop-i l = l.count - l.i
