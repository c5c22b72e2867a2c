-- The gate, then the core; a refusal answers what was given.
use mathlib.Core.Path.{◌∙◌, ap, sym}
use Rattle.entry_answer.specs.Gate.{through-shut, through-open}
use Rattle.entry_key.specs.Keys.{key_answer, decode_key, key-refused}
use borrow.Author.Rules.{rules}
use Rattle.entry_key.proofs.decode_key.Goals as goal

pub returns-in-Shut : goal.returns-in-Shut
unfolding decode_key
returns-in-Shut c = sym (through-shut _ _ (sym c.gate.ensures ∙ c.in-Shut.is))

pub returns-in-Got : goal.returns-in-Got
unfolding decode_key
returns-in-Got c =
    sym
    (through-open _ _ (sym c.gate.ensures ∙ c.in_default.is)
    ∙ ap (key_answer _ _ _) (sym c.decode_key.ensures ∙ c.in-Got.is))

pub returns-in-Refused : goal.returns-in-Refused
unfolding decode_key
returns-in-Refused c =
    let a = c.args in
    key-refused a.s.now a.end a.at a.last (λ i. search rules) c.key_fault.ensures
    (sym c.decode_key.ensures ∙ c.in-Refused.is)
    ∙ sym (through-open _ _ (sym c.gate.ensures ∙ c.in_default.is))
