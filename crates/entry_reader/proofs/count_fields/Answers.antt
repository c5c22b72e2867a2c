-- Each turn takes a step, by the contract of `step_through`; what that makes of the count is in proofs/Counting.
use mathlib.Core.Path.{◌≡◌, sym, ◌∙◌}
use native.Mathlib.Omega.{arith}
use Rattle.entry_field.specs.Fields.{step_entry}
use Rattle.entry_answer.specs.declared.Step.TheVariants.{Field}
use Rattle.entry_reader.proofs.Counting.{start, moves, one_more, ends, refuses}
use Rattle.entry_reader.proofs.count_fields.Goals as goal

pub loop-f-init : goal.loop-f-init
loop-f-init c = start _ _ _

pub overflow_add-count : goal.overflow_add-count
overflow_add-count c =
    let found : step_entry c.args.message.now c.loop-f.place c.args.end c.loop-f.last ≡ Field c.in-Field.f c.in-Field.next = sym c.step_through.ensures ∙ c.in-Field.is in
    let i = c.loop-f.invariant in
    let m = moves _ _ _ _ _ _ found in
    omega (arith, m.0, m.1, i.count, i.walk.counted, c.well_formed.0.0)

pub loop-f-smaller : goal.loop-f-smaller
loop-f-smaller c =
    let found : step_entry c.args.message.now c.loop-f.place c.args.end c.loop-f.last ≡ Field c.in-Field.f c.in-Field.next = sym c.step_through.ensures ∙ c.in-Field.is in
    let m = moves _ _ _ _ _ _ found in omega (arith, m.0, m.2)

pub loop-f-preserved : goal.loop-f-preserved
loop-f-preserved c =
    let found : step_entry c.args.message.now c.loop-f.place c.args.end c.loop-f.last ≡ Field c.in-Field.f c.in-Field.next = sym c.step_through.ensures ∙ c.in-Field.is in
    one_more c.loop-f.invariant _ _ found

pub returns-in-End : goal.returns-in-End
returns-in-End c = ends c.loop-f.invariant (sym c.step_through.ensures ∙ c.in-End.is)

pub returns-in-Refused : goal.returns-in-Refused
returns-in-Refused c = refuses c.loop-f.invariant _ _ _ _ (sym c.step_through.ensures ∙ c.in-Refused.is)
