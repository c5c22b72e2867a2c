-- `field::skip_field` meets its contract.
use mathlib.Core.Path.{◌≡◌, ◌∙◌, ap, sym}
use native.Mathlib.Omega.{arith}
use Prim.Native.Nat.{◌-◌}
use lib.ListN.{length}
use Rattle.wire.specs.Reading.{wire_of}
use Rattle.wire.specs.Skipping.{past_at, skip_at}
use Rattle.field_skip.specs.SkippingLaws.{past-moves}
use Rattle.wire.specs.Types.{wire-kind}
use Rattle.wire.specs.declared.Reached.TheVariants.{To}
use Rattle.field_skip.proofs.Skips.{Passing, pass-start, pass-refused, pass-ends, pass-more}
use borrow.Author.Rules.{rules}
use Rattle.field_skip.proofs.skip_field.Given as goal

abbrev pub invariant-loop-r : goal.invariant-loop-r
invariant-loop-r l = Passing l.s l.end l.at l.initial.kind l.p l.kind

abbrev pub decreases-loop-r : goal.decreases-loop-r
decreases-loop-r l = length l.s - l.p
