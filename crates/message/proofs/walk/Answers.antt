-- Each turn takes a step: a field is passed over, is where the walk stops, or is counted.
use mathlib.Core.Path.{◌≡◌, ◌∙◌, sym}
use mathlib.Core.Bool.{true}
use mathlib.Core.Logic.{inl, inr}
use native.Mathlib.Omega.{arith}
use lib.ListN.{length}
use Rattle.wire.specs.Reading.{step_at}
use Rattle.wire.specs.declared.Stepped.TheVariants as stepped
use Rattle.message.specs.Walks.{Aim, wanted, wanted-same, wanted-below, finished-found, finished-end}
use Rattle.message.proofs.Going.{Noted, step-moves, going_start, going-refused, going_end, going-exact, going-above, going-hit, going_on}
use Rattle.message.proofs.walk.Goals.{then-tag-want+else-exact+else-want-tag, else-tag-want, then-many-number+else-stop, else-many-number}
use Rattle.message.proofs.walk.Goals as goal

pub loop-r-init : goal.loop-r-init
loop-r-init c = going_start _ _ _ _

pub returns-in-Refused : goal.returns-in-Refused
returns-in-Refused c = sym (going-refused c.loop-r.invariant _ (sym c.next_field.ensures ∙ c.in-Refused.is))

pub loop-r-smaller-then-exact : goal.loop-r-smaller-then-exact
loop-r-smaller-then-exact c =
    let turn : step_at c.args.s.now (length c.args.s.now) c.loop-r.p c.loop-r.tag ≡ stepped.Field c.in-Field.f c.in-Field.next =
    sym c.next_field.ensures ∙ c.in-Field.is in
    let m = step-moves _ _ _ _ _ turn in omega (arith, m.0, m.1)

pub loop-r-preserved-then-exact : goal.loop-r-preserved-then-exact
loop-r-preserved-then-exact c =
    let turn : step_at c.args.s.now (length c.args.s.now) c.loop-r.p c.loop-r.tag ≡ stepped.Field c.in-Field.f c.in-Field.next =
    sym c.next_field.ensures ∙ c.in-Field.is in
    going-exact c.loop-r.invariant _ _ turn c.if-exact.true c.if-tag-want.true

pub loop-r-smaller-then-want-tag : goal.loop-r-smaller-then-want-tag
loop-r-smaller-then-want-tag c =
    let turn : step_at c.args.s.now (length c.args.s.now) c.loop-r.p c.loop-r.tag ≡ stepped.Field c.in-Field.f c.in-Field.next =
    sym c.next_field.ensures ∙ c.in-Field.is in
    let m = step-moves _ _ _ _ _ turn in omega (arith, m.0, m.1)

pub loop-r-preserved-then-want-tag : goal.loop-r-preserved-then-want-tag
loop-r-preserved-then-want-tag c =
    let turn : step_at c.args.s.now (length c.args.s.now) c.loop-r.p c.loop-r.tag ≡ stepped.Field c.in-Field.f c.in-Field.next =
    sym c.next_field.ensures ∙ c.in-Field.is in
    going-above c.loop-r.invariant _ _ turn c.if-want-tag.true

pub returns-then-stop : goal.returns-then-stop
returns-then-stop c =
    let turn : step_at c.args.s.now (length c.args.s.now) c.loop-r.p c.loop-r.tag ≡ stepped.Field c.in-Field.f c.in-Field.next =
    sym c.next_field.ensures ∙ c.in-Field.is in
    let aim : Aim = record { want = c.args.want; exact = c.args.exact; number = c.args.number; stop = c.args.stop } in
    let met : wanted aim c.in-Field.f.tag ≡ true =
    elim c.if-tag-want.branch [
      | then-tag-want+else-exact+else-want-tag w ↦ wanted-below aim _ w.if-exact.false w.if-want-tag.false
      | else-tag-want w ↦ wanted-same aim _ w.if-tag-want.false
    ] in
    sym (going-hit c.loop-r.invariant _ _ turn met c.if-many-number.true c.if-stop.true)

pub overflow_add-many : goal.overflow_add-many
overflow_add-many c =
    let turn : step_at c.args.s.now (length c.args.s.now) c.loop-r.p c.loop-r.tag ≡ stepped.Field c.in-Field.f c.in-Field.next =
    sym c.next_field.ensures ∙ c.in-Field.is in
    let m = step-moves _ _ _ _ _ turn in
    omega (arith, m.0, m.1, c.loop-r.invariant.few, c.well_formed.0.0)

pub loop-r-smaller : goal.loop-r-smaller
loop-r-smaller c =
    let turn : step_at c.args.s.now (length c.args.s.now) c.loop-r.p c.loop-r.tag ≡ stepped.Field c.in-Field.f c.in-Field.next =
    sym c.next_field.ensures ∙ c.in-Field.is in
    let m = step-moves _ _ _ _ _ turn in omega (arith, m.0, m.1)

pub loop-r-preserved : goal.loop-r-preserved
loop-r-preserved c =
    let turn : step_at c.args.s.now (length c.args.s.now) c.loop-r.p c.loop-r.tag ≡ stepped.Field c.in-Field.f c.in-Field.next =
    sym c.next_field.ensures ∙ c.in-Field.is in
    let aim : Aim = record { want = c.args.want; exact = c.args.exact; number = c.args.number; stop = c.args.stop } in
    let met : wanted aim c.in-Field.f.tag ≡ true =
    elim c.if-tag-want.branch [
      | then-tag-want+else-exact+else-want-tag w ↦ wanted-below aim _ w.if-exact.false w.if-want-tag.false
      | else-tag-want w ↦ wanted-same aim _ w.if-tag-want.false
    ] in
    let noted : Noted aim c.in-Field.f c.loop-r.many c.loop-r.found c.if-many-number.found =
    elim c.if-many-number.branch [
      | then-many-number+else-stop w ↦ inl (w.if-many-number.true, w.if-stop.false, w.found-is)
      | else-many-number w ↦ inr (w.if-many-number.false, w.found-is)
    ] in
    going_on c.loop-r.invariant _ _ turn _ met noted

pub returns-then-number-many : goal.returns-then-number-many
returns-then-number-many c = sym (going_end c.loop-r.invariant (sym c.next_field.ensures ∙ c.in-End.is) ∙ finished-found _ _ _ c.if-number-many.true)

pub returns : goal.returns
returns c = sym (going_end c.loop-r.invariant (sym c.next_field.ensures ∙ c.in-End.is) ∙ finished-end _ _ _ c.if-number-many.false)
