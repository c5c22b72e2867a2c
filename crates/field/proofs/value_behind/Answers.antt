-- `field::value_behind` meets its contract.
use mathlib.Core.Path.{◌≡◌, sym, ap, ◌∙◌}
use native.Mathlib.Omega.{arith}
use Rattle.wire.specs.Reading.{value_at}
use Rattle.wire.specs.ReadingLaws.{wire-eight}
use Rattle.field.proofs.Dispatch.{none-there}
use borrow.Author.Rules.{rules}
use Rattle.field.proofs.value_behind.Goals as goal

pub returns-then-s-at : goal.returns-then-s-at
returns-then-s-at c = sym (none-there _ _ _ _ c.if-s-at.true c.requires)

pub returns-then-kind-eq1 : goal.returns-then-kind-eq1
returns-then-kind-eq1 c = rw c.if-kind-eq1.true c.payload_at.ensures

pub returns-then-kind-eq2 : goal.returns-then-kind-eq2
returns-then-kind-eq2 c = rw c.if-kind-eq2.true c.four_at.ensures

pub returns : goal.returns
returns c = c.eight_at.ensures ∙ ap (value_at _ _ _) (sym (wire-eight c.args.kind (omega (arith, c.requires))))
