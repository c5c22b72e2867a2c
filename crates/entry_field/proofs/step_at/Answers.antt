-- The gate, then the core; a refusal answers what was given.
use mathlib.Core.Path.{◌∙◌, ap, sym}
use Rattle.entry_answer.specs.Gate.{through-shut, through-open}
use Rattle.entry_field.specs.Fields.{step_answer, step_entry, step-refused}
use borrow.Author.Rules.{rules}
use Rattle.entry_field.proofs.step_at.Goals as goal

pub returns-in-Shut : goal.returns-in-Shut
unfolding step_entry
returns-in-Shut c = sym (through-shut _ _ (sym c.gate.ensures ∙ c.in-Shut.is))

pub returns-in-Field : goal.returns-in-Field
unfolding step_entry
returns-in-Field c =
    sym
    (through-open _ _ (sym c.gate.ensures ∙ c.in_default.is)
    ∙ ap (step_answer _ _ _ _) (sym c.step_from.ensures ∙ c.in-Field.is))

pub returns-in-End : goal.returns-in-End
unfolding step_entry
returns-in-End c =
    sym
    (through-open _ _ (sym c.gate.ensures ∙ c.in_default.is)
    ∙ ap (step_answer _ _ _ _) (sym c.step_from.ensures ∙ c.in-End.is))

pub returns-in-Refused : goal.returns-in-Refused
unfolding step_entry
returns-in-Refused c =
    let a = c.args in
    step-refused a.s.now a.end a.at (λ i. search rules) a.last c.fault_at.ensures
    (sym c.step_from.ensures ∙ c.in-Refused.is)
    ∙ sym (through-open _ _ (sym c.gate.ensures ∙ c.in_default.is))
