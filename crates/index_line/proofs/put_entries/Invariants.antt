-- Each turn puts an entry.
use Prim.Native.Nat.{◌-◌}
use Rattle.index_line.proofs.Turns.{Writing}
use Rattle.index_line.proofs.put_entries.Given as goal

abbrev pub invariant-loop-n : goal.invariant-loop-n
invariant-loop-n l = Writing l.index l.tags l.w l.initial.line l.at l.line l.p l.n l.i

abbrev pub decreases-loop-n : goal.decreases-loop-n
decreases-loop-n l = l.tags - l.n
