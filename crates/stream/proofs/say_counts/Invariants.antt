-- A verdict is said once at most.
use Rattle.std.proofs.Common.{◌≤◌}
use Rattle.stream.proofs.say_counts.Given as goal

abbrev pub invariant-loop-v : goal.invariant-loop-v
invariant-loop-v g l = l.said ≤ l.v
