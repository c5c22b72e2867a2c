-- `write_message::put_all` meets its contract.
use Prim.Native.Nat.{◌-◌}
use Rattle.write_message.proofs.Turns.{Forward}
use Rattle.write_message.proofs.put_all.Given as goal

abbrev pub invariant-loop-i : goal.invariant-loop-i
invariant-loop-i l = Forward l.initial.buf l.source l.table l.count l.buf l.at l.prev l.i

abbrev pub decreases-loop-i : goal.decreases-loop-i
decreases-loop-i l = l.count - l.i
