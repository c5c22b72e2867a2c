-- Each turn tests an entry.
use Prim.Native.Nat.{◌-◌}
use Rattle.index.proofs.Sounding.{Sounding}
use Rattle.index.proofs.sound.Given as goal

abbrev pub invariant-loop-n : goal.invariant-loop-n
invariant-loop-n l = Sounding l.index l.tags l.places l.counts l.n l.i l.least

abbrev pub decreases-loop-n : goal.decreases-loop-n
decreases-loop-n l = l.tags - l.n
