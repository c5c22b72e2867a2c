-- Each turn takes a step, by the contract of `step_through`; what that makes of the count is in proofs/Counting.
use Prim.Native.Nat.{◌-◌}
use Rattle.entry_reader.proofs.Counting.{Counting}
use Rattle.entry_reader.proofs.count_fields.Given as goal

abbrev pub invariant-loop-f : goal.invariant-loop-f
invariant-loop-f l = Counting l.message l.start l.end l.place l.last l.count

abbrev pub decreases-loop-f : goal.decreases-loop-f
decreases-loop-f l = l.end - l.place
