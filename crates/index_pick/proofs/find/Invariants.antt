-- Each turn looks at an entry.
use Prim.Native.Nat.{◌-◌}
use Rattle.index_pick.proofs.Following.{Finding}
use Rattle.index_pick.proofs.find.Given as goal

abbrev pub invariant-loop-n : goal.invariant-loop-n
invariant-loop-n l = Finding l.s l.index l.tags l.tag l.n l.i

abbrev pub decreases-loop-n : goal.decreases-loop-n
decreases-loop-n l = l.tags - l.n
