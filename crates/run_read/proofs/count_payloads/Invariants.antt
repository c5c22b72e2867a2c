-- Each turn counts a value.
use Prim.Native.Nat.{◌-◌}
use lib.ListN.{length}
use Rattle.wire.specs.declared.WireType.TheVariants.{LengthDelimited}
use Rattle.run_read.proofs.Going.{Counting}
use Rattle.run_read.proofs.count_payloads.Given as goal

abbrev pub invariant-loop-p : goal.invariant-loop-p
invariant-loop-p l = Counting l.s LengthDelimited l.p l.count

abbrev pub decreases-loop-p : goal.decreases-loop-p
decreases-loop-p l = length l.s - l.p
