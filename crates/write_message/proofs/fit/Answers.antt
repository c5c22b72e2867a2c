-- `write_message::fit` meets its contract.
use mathlib.Core.Path.{sym, ◌∙◌}
use Rattle.write_message.specs.WritingLaws.{fit_refused, fit_at, fit_none}
use Rattle.write_message.proofs.fit.Goals as goal

pub returns-then-bytes-n : goal.returns-then-bytes-n
returns-then-bytes-n c = sym (fit_none _ _ _ _ (sym c.measure.ensures ∙ c.in-At.is) c.if-bytes-n.true)

pub returns-in-Refused : goal.returns-in-Refused
returns-in-Refused c = sym (fit_refused _ _ _ _ _ (sym c.measure.ensures ∙ c.in-Refused.is))

pub returns-else-bytes-n : goal.returns-else-bytes-n
returns-else-bytes-n c = sym (fit_at _ _ _ _ (sym c.measure.ensures ∙ c.in-At.is) c.if-bytes-n.false)
