-- The gate, then the core; a refusal answers the place given.
use mathlib.Core.Path.{◌∙◌, ap, sym}
use Rattle.entry_answer.specs.Gate.{through-shut, through-open}
use Rattle.entry_varint.specs.Varints.{varint_read, decode_varint_capped, capped_refused}
use borrow.Author.Rules.{rules}
use Rattle.entry_varint.proofs.decode_varint_capped.Goals as goal

pub returns-in-Shut : goal.returns-in-Shut
unfolding decode_varint_capped
returns-in-Shut c = sym (through-shut _ _ (sym c.gate.ensures ∙ c.in-Shut.is))

pub returns-in-Got : goal.returns-in-Got
unfolding decode_varint_capped
returns-in-Got c =
    sym
    (through-open _ _ (sym c.gate.ensures ∙ c.in_default.is)
    ∙ ap (varint_read _ _) (sym c.decode_varint_capped.ensures ∙ c.in-Got.is))

pub returns-in-Refused : goal.returns-in-Refused
unfolding decode_varint_capped
returns-in-Refused c =
    let a = c.args in
    capped_refused a.s.now a.at (λ i. search rules) c.looked.ensures a.end
    (sym c.decode_varint_capped.ensures ∙ c.in-Refused.is)
    ∙ sym (through-open _ _ (sym c.gate.ensures ∙ c.in_default.is))
