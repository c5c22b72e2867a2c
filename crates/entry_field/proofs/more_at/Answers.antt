-- The gate, then the place.
use mathlib.Core.Path.{◌≡◌, ◌∙◌, sym}
use native.Mathlib.Omega.{arith}
use Rattle.entry_answer.specs.Gate.{through-shut, through-open}
use Rattle.entry_field.specs.Test.{more_of, more_entry, more_yes, more_no, more-past}
use Rattle.entry_field.proofs.more_at.Goals as goal

pub returns-in-Shut : goal.returns-in-Shut
unfolding more_entry
returns-in-Shut c = sym (through-shut _ _ (sym c.gate.ensures ∙ c.in-Shut.is))

pub returns-then-at-end : goal.returns-then-at-end
unfolding more_entry
returns-then-at-end c =
    let opened : more_entry c.args.s.now c.args.at c.args.end ≡ more_of c.args.at c.args.end = through-open _ _ (sym c.gate.ensures ∙ c.in_default.is) in
    sym (opened ∙ more_yes _ _ c.if-at-end.true)

pub returns-then-at-end-2 : goal.returns-then-at-end-2
unfolding more_entry
returns-then-at-end-2 c =
    let opened : more_entry c.args.s.now c.args.at c.args.end ≡ more_of c.args.at c.args.end = through-open _ _ (sym c.gate.ensures ∙ c.in_default.is) in
    sym (opened ∙ more_no _ _ c.if-at-end-2.true)

pub returns : goal.returns
unfolding more_entry
returns c =
    let opened : more_entry c.args.s.now c.args.at c.args.end ≡ more_of c.args.at c.args.end = through-open _ _ (sym c.gate.ensures ∙ c.in_default.is) in
    sym (opened ∙ more-past _ _ (omega (arith, c.if-at-end-2.false, c.if-at-end.false)))
