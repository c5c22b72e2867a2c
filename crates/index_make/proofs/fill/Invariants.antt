-- Each turn writes an entry.
use mathlib.Core.Path.{◌≡◌}
use Prim.Native.Nat.{◌-◌}
use lib.ListN.{length}
use Rattle.index_make.specs.Made.{made, into_index}
use Rattle.index_make.proofs.Making.{Filling}
use Rattle.index_make.proofs.fill.Given as goal

abbrev pub invariant-loop-tag : goal.invariant-loop-tag
invariant-loop-tag l = Filling l.s (into_index l.initial.index (made l.s)) l.p l.last l.i l.index × (length l.index ≡ length l.initial.index)

abbrev pub decreases-loop-tag : goal.decreases-loop-tag
decreases-loop-tag l = length l.s - l.p
