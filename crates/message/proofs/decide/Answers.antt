-- Pass one: each turn reads a field, and the loop ends at the end or past it.
use mathlib.Core.Path.{◌≡◌, ◌∙◌, ap, sym, refl}
use mathlib.Core.List.{[], ◌∷◌, ◌++◌}
use native.Mathlib.Omega.{arith}
use lib.ListN.{length-append}
use Rattle.wire.specs.Reading.{field_at}
use Rattle.wire.proofs.ReadingLaws.{field-moves}
use Rattle.wire.specs.declared.FieldFound.TheVariants.{Got}
use Rattle.message.specs.Deciding.{decided}
use Rattle.message.proofs.Walking.{walk_start, walk_field, walk_refused, walk_end, walk-past}
use Rattle.message.proofs.decide.Goals as goal

pub loop-p-init : goal.loop-p-init
loop-p-init c = ([], walk_start _ _ _, refl)

pub returns-in-Refused : goal.returns-in-Refused
returns-in-Refused c =
    let l = c.loop-p in
    sym
    (ap decided
    (walk_refused l.invariant.1 c.loop-p-test.true _
    (sym c.decode_field.ensures ∙ c.in-Refused.is)))

pub overflow_add-count : goal.overflow_add-count
overflow_add-count c =
    let turn : field_at c.args.s.now c.args.end c.loop-p.p c.loop-p.last ≡ Got c.in-Got.f c.in-Got.next = sym c.decode_field.ensures ∙ c.in-Got.is in
    let i = c.loop-p.invariant in
    let m = field-moves _ _ _ _ _ _ turn in
    omega (arith, m.0, m.1, i.1.counted, i.2, c.well_formed.0.0)

pub loop-p-smaller : goal.loop-p-smaller
loop-p-smaller c =
    let turn : field_at c.args.s.now c.args.end c.loop-p.p c.loop-p.last ≡ Got c.in-Got.f c.in-Got.next = sym c.decode_field.ensures ∙ c.in-Got.is in
    let m = field-moves _ _ _ _ _ _ turn in
    omega (arith, m.0, c.loop-p-test.true)

pub loop-p-preserved : goal.loop-p-preserved
loop-p-preserved c =
    let turn : field_at c.args.s.now c.args.end c.loop-p.p c.loop-p.last ≡ Got c.in-Got.f c.in-Got.next = sym c.decode_field.ensures ∙ c.in-Got.is in
    let i = c.loop-p.invariant in (
      i.0 ++ c.in-Got.f ∷ [],
      walk_field i.1 c.loop-p-test.true _ _ turn,
      omega (arith, i.2, length-append i.0 (c.in-Got.f ∷ [])),
    )

pub returns-then-p-end : goal.returns-then-p-end
returns-then-p-end c =
    let i = c.loop-p.invariant in
    rw i.2 (sym (ap decided (walk_end i.1 c.if-p-end.true)))

pub returns : goal.returns
returns c = sym (ap decided (walk-past c.loop-p.invariant.1 (omega (arith, c.if-p-end.false, c.loop-p-test.false))))
