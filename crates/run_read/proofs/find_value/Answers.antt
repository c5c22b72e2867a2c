-- Each turn passes a value, and notes the one at the number.
use mathlib.Core.Path.{◌≡◌, ◌∙◌, sym}
use mathlib.Core.Logic.{inl, inr}
use native.Mathlib.Omega.{arith}
use Prim.Native.Nat.{◌≤◌, ◌<◌}
use lib.ListN.{length}
use Rattle.wire.specs.Reading.{value_at}
use Rattle.wire.proofs.ReadingLaws.{value-moves}
use Rattle.wire.specs.declared.ValueFound.TheVariants as value_found
use Rattle.run_read.proofs.Going.{look-start, look-found, look-absent, look-stops, look-on}
use Rattle.run_read.proofs.find_value.Goals.{then-n-number, else-n-number}
use Rattle.run_read.proofs.find_value.Goals as goal

pub loop-p-init : goal.loop-p-init
loop-p-init c = look-start _ _ _ _

pub returns-in-Refused : goal.returns-in-Refused
returns-in-Refused c = look-stops c.loop-p.invariant _ c.loop-p-test.true (sym c.decode_value.ensures ∙ c.in-Refused.is)

pub overflow_add-n : goal.overflow_add-n
overflow_add-n c =
    let read : value_at c.args.s.now (length c.args.s.now) c.loop-p.p c.args.wire ≡ value_found.Got c.in-Got.v c.in-Got.next = sym c.decode_value.ensures ∙ c.in-Got.is in
    let moves : (c.loop-p.p < c.in-Got.next) × (c.in-Got.next ≤ length c.args.s.now) = let a = c.args in
    value-moves a.s.now (length a.s.now) c.loop-p.p a.wire _ _ read in
    let m = moves in
    omega (arith, m.0, m.1, c.loop-p.invariant.few, c.well_formed)

pub loop-p-smaller : goal.loop-p-smaller
loop-p-smaller c =
    let read : value_at c.args.s.now (length c.args.s.now) c.loop-p.p c.args.wire ≡ value_found.Got c.in-Got.v c.in-Got.next = sym c.decode_value.ensures ∙ c.in-Got.is in
    let moves : (c.loop-p.p < c.in-Got.next) × (c.in-Got.next ≤ length c.args.s.now) = let a = c.args in
    value-moves a.s.now (length a.s.now) c.loop-p.p a.wire _ _ read in
    let m = moves in omega (arith, m.0, m.1)

pub loop-p-preserved : goal.loop-p-preserved
loop-p-preserved c =
    let read : value_at c.args.s.now (length c.args.s.now) c.loop-p.p c.args.wire ≡ value_found.Got c.in-Got.v c.in-Got.next = sym c.decode_value.ensures ∙ c.in-Got.is in
    look-on c.loop-p.invariant _ _ _ c.loop-p-test.true read
    (elim c.if-n-number.branch [ then-n-number w ↦ inl (w.if-n-number.true, w.found-is) | else-n-number w ↦ inr (w.if-n-number.false, w.found-is) ])

pub returns-then-number-n : goal.returns-then-number-n
returns-then-number-n c = look-found c.loop-p.invariant c.loop-p-test.false c.if-number-n.true

pub returns : goal.returns
returns c = look-absent c.loop-p.invariant c.loop-p-test.false c.if-number-n.false
