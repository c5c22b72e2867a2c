-- Each turn counts those that were passed, and the value behind them.
use Prim.Native.Nat.{◌-◌}
use lib.ListN.{length}
use Rattle.wire.specs.declared.WireType.TheVariants.{Varint}
use Rattle.run_read.proofs.Going.{Counting}
use Rattle.run_read.proofs.count_numbers.Given as goal

abbrev pub invariant-loop-p : goal.invariant-loop-p
invariant-loop-p l = Counting l.s Varint l.p l.count

abbrev pub decreases-loop-p : goal.decreases-loop-p
decreases-loop-p l = length l.s - l.p
