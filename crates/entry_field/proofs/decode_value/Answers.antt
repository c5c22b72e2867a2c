-- The gate, then the core; a refusal answers what was given.
use mathlib.Core.Path.{◌∙◌, ap, sym}
use Rattle.entry_answer.specs.Gate.{through-shut, through-open}
use Rattle.entry_field.specs.Fields.{value_answer, decode_value, value-refused}
use borrow.Author.Rules.{rules}
use Rattle.entry_field.proofs.decode_value.Goals as goal

pub returns-in-Shut : goal.returns-in-Shut
unfolding decode_value
returns-in-Shut c = sym (through-shut _ _ (sym c.gate.ensures ∙ c.in-Shut.is))

pub returns-in-Got : goal.returns-in-Got
unfolding decode_value
returns-in-Got c =
    sym
    (through-open _ _ (sym c.gate.ensures ∙ c.in_default.is)
    ∙ ap (value_answer _ _ _) (sym c.decode_value.ensures ∙ c.in-Got.is))

pub returns-in-Refused : goal.returns-in-Refused
unfolding decode_value
returns-in-Refused c =
    let a = c.args in
    value-refused a.s.now a.end a.at (λ i. search rules) a.wire c.value_fault.ensures
    (sym c.decode_value.ensures ∙ c.in-Refused.is)
    ∙ sym (through-open _ _ (sym c.gate.ensures ∙ c.in_default.is))
