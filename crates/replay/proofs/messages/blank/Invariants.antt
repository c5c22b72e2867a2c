use mathlib.Core.Path.{◌≡◌}
use Prim.Native.Nat.{◌-◌}
use lib.ListN.{length}
use Rattle.replay.proofs.messages.blank.Given as goal

abbrev pub invariant-loop-i : goal.invariant-loop-i
invariant-loop-i l = length l.table ≡ length l.initial.table

abbrev pub decreases-loop-i : goal.decreases-loop-i
decreases-loop-i l = length l.initial.table - l.i
