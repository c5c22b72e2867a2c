-- Each turn passes four bytes, of which one ends a number.
use Prim.Native.Nat.{◌≤◌}
use mathlib.Core.Path.{refl, sym}
use native.Mathlib.Omega.{arith}
use Rattle.wire.specs.VarintLaws.{Bytes}
use Rattle.run_read.specs.Short.{going_on, turned-start, turned-behind, turned-back, turned-few, turn, going-few}
use Rattle.run_read.proofs.pass_short.Goals as goal

pub loop-at-init : goal.loop-at-init
loop-at-init c = turned-start _ _ c.requires

pub overflow_sub-s : goal.overflow_sub-s
overflow_sub-s c = omega (arith, c.loop-at.invariant.inside)

pub going_on-open-requires : goal.going_on-open-requires
going_on-open-requires c = omega (arith, c.loop-at-test.true, c.loop-at.invariant.inside)

pub overflow_sub-count : goal.overflow_sub-count
overflow_sub-count c =
    let bytes : Bytes c.args.s.now = λ i. omega (arith, c.type_inv.s i) in
    let few : going_on c.args.s.now c.loop-at.at ≤ 4 = going-few c.args.s.now c.loop-at.at bytes in
    omega (arith, few)

pub overflow_add-count : goal.overflow_add-count
overflow_add-count c = omega (arith, turned-few c.loop-at.invariant, c.loop-at-test.true, c.well_formed)

pub overflow_add-at : goal.overflow_add-at
overflow_add-at c = omega (arith, c.loop-at-test.true, c.well_formed)

pub loop-at-smaller : goal.loop-at-smaller
loop-at-smaller c = omega (arith, c.loop-at-test.true)

pub loop-at-preserved : goal.loop-at-preserved
loop-at-preserved c =
    let bytes : Bytes c.args.s.now = λ i. omega (arith, c.type_inv.s i) in
    let few : going_on c.args.s.now c.loop-at.at ≤ 4 = going-few c.args.s.now c.loop-at.at bytes in
    let e = c.going_on-open.ensures in
    rw (sym e) at (turn bytes c.loop-at.invariant (omega (arith, c.loop-at-test.true)) (omega (arith, few, c.if-open-eq4.false, e)))

pub returns-then-at-from : goal.returns-then-at-from
returns-then-at-from c = refl

pub left_open-requires : goal.left_open-requires
left_open-requires c = (omega (arith, turned-behind c.loop-at.invariant c.if-at-from.false), c.loop-at.invariant.inside)

pub overflow_sub-result : goal.overflow_sub-result
overflow_sub-result c = omega (arith, c.left_open.ensures.1, turned-behind c.loop-at.invariant c.if-at-from.false)

pub returns : goal.returns
returns c = rw c.left_open.ensures.0 (turned-back c.loop-at.invariant (turned-behind c.loop-at.invariant c.if-at-from.false))
