-- `field::key_of` meets its contract: the kind is below four, so nothing wraps.
use native.Mathlib.Omega.{arith}
use Rattle.wire.specs.Types.{kind-below}
use borrow.Author.Rules.{rules}
use Rattle.field_key.proofs.key_of.Goals as goal

pub overflow_add-result : goal.overflow_add-result
overflow_add-result c = omega (arith, kind-below c.args.wire)
