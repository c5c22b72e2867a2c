-- `write_message::weigh` meets its contract.
use Prim.Native.Nat.{◌-◌}
use Rattle.write_message.proofs.Turns.{Weighing}
use Rattle.write_message.proofs.weigh.Given as goal

abbrev pub invariant-loop-i : goal.invariant-loop-i
invariant-loop-i l = Weighing l.most l.source l.table l.count l.left l.prev l.i

abbrev pub decreases-loop-i : goal.decreases-loop-i
decreases-loop-i l = l.count - l.i
