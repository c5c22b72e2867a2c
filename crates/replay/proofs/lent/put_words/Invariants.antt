use mathlib.Core.Path.{◌≡◌}
use Prim.Native.Nat.{◌-◌}
use lib.ListN.{length}
use Rattle.replay.proofs.lent.put_words.Given as goal

abbrev pub invariant-loop-at : goal.invariant-loop-at
invariant-loop-at l = length l.table ≡ length l.initial.table

abbrev pub decreases-loop-at : goal.decreases-loop-at
decreases-loop-at l = length l.initial.table - l.at
