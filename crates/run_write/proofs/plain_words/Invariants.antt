-- Each turn passes two records of which no bit is left over.
use Prim.Native.Nat.{◌-◌}
use Rattle.run_write.specs.Exact.{Plain}
use Rattle.run_write.proofs.plain_words.Given as goal

abbrev pub invariant-loop-at : goal.invariant-loop-at
invariant-loop-at l = Plain l.table l.count l.wide l.at

abbrev pub decreases-loop-at : goal.decreases-loop-at
decreases-loop-at l = l.end - l.at
