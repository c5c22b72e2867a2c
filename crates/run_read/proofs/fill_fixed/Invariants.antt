-- Each turn writes the record of a fixed value.
use mathlib.Core.Path.{◌≡◌}
use Prim.Native.Nat.{◌-◌}
use lib.ListN.{length}
use Rattle.run_read.specs.Packed.{packed}
use Rattle.run_read.specs.Runs.{into_table}
use Rattle.run_read.specs.Widths.{wide_type}
use Rattle.run_read.proofs.Going.{Filling}
use Rattle.run_read.proofs.fill_fixed.Given as goal

abbrev pub invariant-loop-p : goal.invariant-loop-p
invariant-loop-p l = Filling l.s (wide_type l.wide) (into_table l.initial.table (packed l.s (wide_type l.wide))) l.p l.i l.table × (length l.table ≡ length l.initial.table)

abbrev pub decreases-loop-p : goal.decreases-loop-p
decreases-loop-p l = length l.s - l.p
