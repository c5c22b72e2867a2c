use mathlib.Core.Path.{◌≡◌}
use Prim.Native.Nat.{◌-◌}
use lib.ListN.{length}
use Rattle.replay.proofs.lent.put_bytes.Given as goal

abbrev pub invariant-loop-at : goal.invariant-loop-at
invariant-loop-at l = length l.source ≡ length l.initial.source

abbrev pub decreases-loop-at : goal.decreases-loop-at
decreases-loop-at l = length l.initial.source - l.at
