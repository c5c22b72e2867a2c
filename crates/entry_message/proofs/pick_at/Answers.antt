-- The gate, then the core; a refusal answers its number alone.
use mathlib.Core.Path.{◌≡◌, ◌∙◌, ap, sym}
use Rattle.entry_answer.specs.Gate.{through-shut, through-open}
use Rattle.entry_message.specs.Messages.{several_entry, several_of}
use Rattle.entry_message.proofs.pick_at.Goals as goal

pub returns-in-Shut : goal.returns-in-Shut
unfolding several_entry
returns-in-Shut c = sym (through-shut _ _ (sym c.gate.ensures ∙ c.in-Shut.is))

pub returns-in-Found : goal.returns-in-Found
unfolding several_entry
returns-in-Found c =
    let found : several_entry c.args.s.now c.args.tag c.args.number ≡ several_of c.find_tag.result =
    through-open _ _ (sym c.gate.ensures ∙ c.in_default.is) ∙ ap several_of (sym c.find_tag.ensures) in
    sym (found ∙ ap several_of c.in-Found.is)

pub returns-in-Absent : goal.returns-in-Absent
unfolding several_entry
returns-in-Absent c =
    let found : several_entry c.args.s.now c.args.tag c.args.number ≡ several_of c.find_tag.result =
    through-open _ _ (sym c.gate.ensures ∙ c.in_default.is) ∙ ap several_of (sym c.find_tag.ensures) in
    sym (found ∙ ap several_of c.in-Absent.is)

pub returns-in-Refused : goal.returns-in-Refused
unfolding several_entry
returns-in-Refused c =
    let found : several_entry c.args.s.now c.args.tag c.args.number ≡ several_of c.find_tag.result =
    through-open _ _ (sym c.gate.ensures ∙ c.in_default.is) ∙ ap several_of (sym c.find_tag.ensures) in
    sym (found ∙ ap several_of c.in-Refused.is)
