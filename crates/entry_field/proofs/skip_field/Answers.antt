-- The gate, then the core; a refusal answers what was given.
use mathlib.Core.Path.{◌∙◌, ap, sym}
use Rattle.entry_answer.specs.Gate.{through-shut, through-open}
use Rattle.entry_field.specs.Fields.{skip_answer, skip_field}
use Rattle.entry_field.proofs.skip_field.Goals as goal

pub returns-in-Shut : goal.returns-in-Shut
unfolding skip_field
returns-in-Shut c = sym (through-shut _ _ (sym c.gate.ensures ∙ c.in-Shut.is))

pub returns-in-To : goal.returns-in-To
unfolding skip_field
returns-in-To c =
    sym
    (through-open _ _ (sym c.gate.ensures ∙ c.in_default.is)
    ∙ ap (skip_answer _) (sym c.skip_field.ensures ∙ c.in-To.is))

pub returns-in-Refused : goal.returns-in-Refused
unfolding skip_field
returns-in-Refused c =
    sym
    (through-open _ _ (sym c.gate.ensures ∙ c.in_default.is)
    ∙ ap (skip_answer _) (sym c.skip_field.ensures ∙ c.in-Refused.is))
