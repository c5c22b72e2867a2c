-- What there is at number 0, if that is all.
use mathlib.Core.Path.{◌≡◌, ◌∙◌, ap, sym}
use borrow.Author.Tests.{eq-eqb, ne_eqb}
use Rattle.entry_message.specs.Messages.{pick_entry, picked_from}
use Rattle.entry_message.proofs.Messages.{picked-several}
use Rattle.entry_message.proofs.pick.Goals as goal

pub returns-then-n-eq1 : goal.returns-then-n-eq1
returns-then-n-eq1 c =
    let found : pick_entry c.args.s.now c.args.tag ≡ picked_from c.pick_at.result =
    let a = c.args in picked-several a.s.now a.tag ∙ ap picked_from (sym c.pick_at.ensures) in
    sym (found ∙ ap picked_from c.in-Found.is ∙ rw (eq-eqb _ 1 c.if-n-eq1.true))

pub returns-else-n-eq1 : goal.returns-else-n-eq1
returns-else-n-eq1 c =
    let found : pick_entry c.args.s.now c.args.tag ≡ picked_from c.pick_at.result =
    let a = c.args in picked-several a.s.now a.tag ∙ ap picked_from (sym c.pick_at.ensures) in
    sym (found ∙ ap picked_from c.in-Found.is ∙ rw (ne_eqb _ 1 c.if-n-eq1.false))

pub returns-in-Absent : goal.returns-in-Absent
returns-in-Absent c =
    let found : pick_entry c.args.s.now c.args.tag ≡ picked_from c.pick_at.result =
    let a = c.args in picked-several a.s.now a.tag ∙ ap picked_from (sym c.pick_at.ensures) in
    sym (found ∙ ap picked_from c.in-Absent.is)

pub returns-in-Refused : goal.returns-in-Refused
returns-in-Refused c =
    let found : pick_entry c.args.s.now c.args.tag ≡ picked_from c.pick_at.result =
    let a = c.args in picked-several a.s.now a.tag ∙ ap picked_from (sym c.pick_at.ensures) in
    sym (found ∙ ap picked_from c.in-Refused.is)
