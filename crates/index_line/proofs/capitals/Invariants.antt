-- Each turn tests a character.
use Prim.Native.Nat.{◌-◌}
use lib.ListN.{length}
use Rattle.index_line.proofs.Turns.{Testing}
use Rattle.index_line.proofs.capitals.Given as goal

abbrev pub invariant-loop-i : goal.invariant-loop-i
invariant-loop-i l = Testing l.line l.from l.i

abbrev pub decreases-loop-i : goal.decreases-loop-i
decreases-loop-i l = length l.line - l.i
