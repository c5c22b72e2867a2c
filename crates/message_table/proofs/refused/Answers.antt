-- What is looked for is what is told.
use mathlib.Core.Path.{ap}
use Rattle.wire.specs.declared.Fault.{Fault}
use Rattle.wire.specs.declared.Read.TheVariants.{Refused}
use Rattle.message_table.proofs.refused.Goals as goal

pub returns : goal.returns
returns c = let a = c.args in ap (λ (f : Fault). Refused a.why a.at 0 f) c.fault_at.ensures
