-- `write_message::is_mixed` is safe and ends: what it answers decides nothing but speed.
use Prim.Native.Nat.{◌-◌, ◌≤◌}
use Rattle.write_message.proofs.is_mixed.Given as goal

abbrev pub invariant-loop-i : goal.invariant-loop-i
invariant-loop-i l = 2 ≤ l.i

abbrev pub decreases-loop-i : goal.decreases-loop-i
decreases-loop-i l = l.many - l.i
