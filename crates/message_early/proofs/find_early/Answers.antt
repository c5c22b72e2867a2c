-- Each turn looks at a field; what was seen is told where the search stops.
use mathlib.Core.Path.{◌≡◌, refl, ◌∙◌, ap, sym}
use mathlib.Core.Logic.{inl, inr}
use mathlib.Core.List.{List, [], ◌∷◌, ◌++◌}
use native.Mathlib.Omega.{arith}
use Prim.Native.Nat.{ℕ, ◌+◌, ◌≤◌}
use lib.ListN.{length, length-append}
use Rattle.wire.proofs.ReadingLaws.{field-moves}
use Rattle.wire.specs.declared.Field.{Field}
use Rattle.message.proofs.Seen.{seen_none, seen_other, seen_same, seen_few}
use Rattle.message_early.specs.Early.{sight_at, early_of, told_of}
use Rattle.message_early.specs.Laws.{sight-field}
use Rattle.message_early.specs.declared.Sight.TheVariants as sight
use Rattle.message_early.proofs.Going.{Going, going_start, going-field, going-above, going-refused, going_end, seen-told}
use Rattle.message_early.proofs.find_early.Goals.{then-many-eq0, else-many-eq0}
use Rattle.message_early.proofs.find_early.Goals as goal

-- a key for every field
keyed : (fs : List Field) (f : Field) (n : ℕ) → n ≡ length fs → n + 1 ≡ length (fs ++ f ∷ [])
keyed fs f n h = omega (arith, length-append fs (f ∷ []))

pub loop-p-init : goal.loop-p-init
loop-p-init c = ([], going_start _ _, seen_none _ _ _, refl)

pub returns-in-Refused : goal.returns-in-Refused
unfolding early_of
returns-in-Refused c =
    sym
    (ap (early_of _)
    (going-refused c.loop-p.invariant.1 c.loop-p-test.true _ (sym c.look.ensures ∙ c.in-Refused.is)))

pub overflow_add-keys : goal.overflow_add-keys
overflow_add-keys c =
    let i = c.loop-p.invariant in
    omega (arith, c.loop-p-test.true, i.1.counted, i.3, c.well_formed.0.0)

pub returns-in-Above : goal.returns-in-Above
unfolding early_of
returns-in-Above c =
    let i = c.loop-p.invariant in
    c.tell.ensures
    ∙ sym
    (ap (early_of _) (going-above i.1 c.loop-p-test.true (sym c.look.ensures ∙ c.in-Above.is))
    ∙ seen-told _ _ _ _ _ i.2 ∙ ap (λ (n : ℕ). told_of c.loop-p.found c.loop-p.many (n + 1)) (sym i.3))

pub overflow_add-keys-in-Field : goal.overflow_add-keys-in-Field
overflow_add-keys-in-Field c =
    let turn : sight_at c.args.tag c.args.s.now c.loop-p.p c.loop-p.last ≡ sight.Field c.in-Field.f c.in-Field.next = sym c.look.ensures ∙ c.in-Field.is in
    let moves : (c.loop-p.p + 2 ≤ c.in-Field.next) × (c.in-Field.next ≤ length c.args.s.now) = let m = field-moves _ _ _ _ _ _ (sight-field _ _ _ _ _ _ turn) in (m.0, m.1) in
    let i = c.loop-p.invariant in
    let m = moves in
    omega (arith, m.0, m.1, i.1.counted, i.3, c.well_formed.0.0)

pub loop-p-smaller-then-last-tag : goal.loop-p-smaller-then-last-tag
loop-p-smaller-then-last-tag c =
    let turn : sight_at c.args.tag c.args.s.now c.loop-p.p c.loop-p.last ≡ sight.Field c.in-Field.f c.in-Field.next = sym c.look.ensures ∙ c.in-Field.is in
    let moves : (c.loop-p.p + 2 ≤ c.in-Field.next) × (c.in-Field.next ≤ length c.args.s.now) = let m = field-moves _ _ _ _ _ _ (sight-field _ _ _ _ _ _ turn) in (m.0, m.1) in
    omega (arith, moves.0, moves.1)

pub loop-p-preserved-then-last-tag : goal.loop-p-preserved-then-last-tag
loop-p-preserved-then-last-tag c =
    let turn : sight_at c.args.tag c.args.s.now c.loop-p.p c.loop-p.last ≡ sight.Field c.in-Field.f c.in-Field.next = sym c.look.ensures ∙ c.in-Field.is in
    let going : Going c.args.tag c.args.s.now c.in-Field.next c.in-Field.f.tag (c.loop-p.invariant.0 ++ c.in-Field.f ∷ []) = going-field c.loop-p.invariant.1 c.loop-p-test.true _ _ turn in
    let i = c.loop-p.invariant in
    (_, going, seen_other i.2 _ c.if-last-tag.true, keyed i.0 _ _ i.3)

pub overflow_add-many : goal.overflow_add-many
overflow_add-many c =
    let turn : sight_at c.args.tag c.args.s.now c.loop-p.p c.loop-p.last ≡ sight.Field c.in-Field.f c.in-Field.next = sym c.look.ensures ∙ c.in-Field.is in
    let moves : (c.loop-p.p + 2 ≤ c.in-Field.next) × (c.in-Field.next ≤ length c.args.s.now) = let m = field-moves _ _ _ _ _ _ (sight-field _ _ _ _ _ _ turn) in (m.0, m.1) in
    let i = c.loop-p.invariant in
    let m = moves in
    omega (arith, m.0, m.1, i.1.counted, seen_few i.2, c.well_formed.0.0)

pub loop-p-smaller : goal.loop-p-smaller
loop-p-smaller c =
    let turn : sight_at c.args.tag c.args.s.now c.loop-p.p c.loop-p.last ≡ sight.Field c.in-Field.f c.in-Field.next = sym c.look.ensures ∙ c.in-Field.is in
    let moves : (c.loop-p.p + 2 ≤ c.in-Field.next) × (c.in-Field.next ≤ length c.args.s.now) = let m = field-moves _ _ _ _ _ _ (sight-field _ _ _ _ _ _ turn) in (m.0, m.1) in
    omega (arith, moves.0, moves.1)

pub loop-p-preserved : goal.loop-p-preserved
loop-p-preserved c =
    let turn : sight_at c.args.tag c.args.s.now c.loop-p.p c.loop-p.last ≡ sight.Field c.in-Field.f c.in-Field.next = sym c.look.ensures ∙ c.in-Field.is in
    let going : Going c.args.tag c.args.s.now c.in-Field.next c.in-Field.f.tag (c.loop-p.invariant.0 ++ c.in-Field.f ∷ []) = going-field c.loop-p.invariant.1 c.loop-p-test.true _ _ turn in
    let i = c.loop-p.invariant in (
      _,
      going,
      seen_same i.2 _ _ c.if-last-tag.false (elim c.if-many-eq0.branch [ then-many-eq0 w ↦ inl (w.if-many-eq0.true, w.found-is) | else-many-eq0 w ↦ inr (w.if-many-eq0.false, w.found-is) ]),
      keyed i.0 _ _ i.3,
    )

pub returns : goal.returns
unfolding early_of
returns c =
    let i = c.loop-p.invariant in
    c.tell-2.ensures
    ∙ sym
    (ap (early_of _) (going_end i.1 c.loop-p-test.false) ∙ seen-told _ _ _ _ _ i.2
    ∙ ap (told_of c.loop-p.found c.loop-p.many) (sym i.3))
