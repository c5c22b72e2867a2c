-- `field::skip_field` meets its contract.
use mathlib.Core.Path.{◌≡◌, ◌∙◌, ap, sym}
use native.Mathlib.Omega.{arith}
use Prim.Native.Nat.{◌-◌}
use lib.ListN.{length}
use Rattle.wire.specs.Reading.{wire_of}
use Rattle.wire.specs.Skipping.{past_at, skip_at}
use Rattle.field_skip.specs.SkippingLaws.{past-moves}
use Rattle.wire.specs.Types.{wire-kind}
use Rattle.wire.specs.declared.Reached.TheVariants.{To}
use Rattle.field_skip.proofs.Skips.{Passing, pass-start, pass-refused, pass-ends, pass-more}
use borrow.Author.Rules.{rules}
use Rattle.field_skip.proofs.skip_field.Goals as goal

pub loop-r-init : goal.loop-r-init
loop-r-init c = pass-start _ _ _ _

pub returns-in-Refused : goal.returns-in-Refused
returns-in-Refused c =
    let whole : skip_at c.args.s.now c.args.end c.args.at (wire_of c.wire_number-kind.result) ≡ skip_at c.args.s.now c.args.end c.args.at c.args.wire = let a = c.args in
    ap (skip_at a.s.now a.end a.at) (ap wire_of c.wire_number-kind.ensures ∙ wire-kind a.wire) in
    pass-refused c.loop-r.invariant (sym c.past_value.ensures ∙ c.in-Refused.is) ∙ whole

pub overflow_add-p : goal.overflow_add-p
overflow_add-p c =
    let passed : past_at c.args.s.now c.args.end c.loop-r.p (wire_of c.loop-r.kind) ≡ To c.in-To.q = sym c.past_value.ensures ∙ c.in-To.is in
    omega (arith, (past-moves _ _ _ _ _ passed).1)

pub loop-r-smaller : goal.loop-r-smaller
loop-r-smaller c =
    let passed : past_at c.args.s.now c.args.end c.loop-r.p (wire_of c.loop-r.kind) ≡ To c.in-To.q = sym c.past_value.ensures ∙ c.in-To.is in
    let m = past-moves _ _ _ _ _ passed in omega (arith, m.0, m.1)

pub loop-r-preserved : goal.loop-r-preserved
loop-r-preserved c =
    let passed : past_at c.args.s.now c.args.end c.loop-r.p (wire_of c.loop-r.kind) ≡ To c.in-To.q = sym c.past_value.ensures ∙ c.in-To.is in
    pass-more c.loop-r.invariant passed c.next_key-kind.ensures c.if-kind-gt3.false

pub returns : goal.returns
returns c =
    let whole : skip_at c.args.s.now c.args.end c.args.at (wire_of c.wire_number-kind.result) ≡ skip_at c.args.s.now c.args.end c.args.at c.args.wire = let a = c.args in
    ap (skip_at a.s.now a.end a.at) (ap wire_of c.wire_number-kind.ensures ∙ wire-kind a.wire) in
    let passed : past_at c.args.s.now c.args.end c.loop-r.p (wire_of c.loop-r.kind) ≡ To c.in-To.q = sym c.past_value.ensures ∙ c.in-To.is in
    pass-ends c.loop-r.invariant passed c.next_key-kind.ensures c.if-kind-gt3.true ∙ whole
