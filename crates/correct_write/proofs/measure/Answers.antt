-- Each turn counts a tag of the correction, and what stands below it in the original.
use mathlib.Core.Path.{◌∙◌, ap}
use native.Mathlib.Omega.{arith}
use Prim.Native.Nat.{ℕ, ◌+◌}
use Rattle.wire.specs.VarintLaws.{Bytes}
use Rattle.correct_write.specs.Turning.{run_end, measure-start, measure-first, measure-second, measure-on, measure-last, measure-done}
use Rattle.correct_write.proofs.measure.Goals as goal

pub loop-q-init : goal.loop-q-init
loop-q-init c = measure-start _ _ c.requires

pub turn_of-t-requires : goal.turn_of-t-requires
turn_of-t-requires c = let w = c.loop-q.invariant in (w.original, w.correction, c.loop-q-test.true)

pub moved_len-n-requires : goal.moved_len-n-requires
moved_len-n-requires c = (c.turn_of-t.ensures.low, c.requires.short)

pub overflow_add-n : goal.overflow_add-n
overflow_add-n c = omega (arith, c.moved_len-n.ensures, measure-first c.requires c.loop-q.invariant c.turn_of-t.ensures)

pub moved_len-n-requires-in-loop-q : goal.moved_len-n-requires-in-loop-q
moved_len-n-requires-in-loop-q c = (c.turn_of-t.ensures.group, c.requires.brief)

pub overflow_add-n-in-loop-q : goal.overflow_add-n-in-loop-q
overflow_add-n-in-loop-q c =
    omega
    (arith, c.moved_len-n-in-loop-q.ensures, c.moved_len-n.ensures, measure-second c.requires c.loop-q.invariant c.turn_of-t.ensures)

pub loop-q-smaller : goal.loop-q-smaller
loop-q-smaller c = let x = c.turn_of-t.ensures in omega (arith, x.further, x.group.inside)

pub loop-q-preserved : goal.loop-q-preserved
loop-q-preserved c = measure-on c.requires c.loop-q.invariant c.turn_of-t.ensures c.moved_len-n.ensures c.moved_len-n-in-loop-q.ensures

pub moved_len-requires : goal.moved_len-requires
moved_len-requires c =
    let bytes : Bytes c.args.original.now = λ i. omega (arith, c.type_inv.original i) in
    (run_end _ _ _ bytes c.loop-q.invariant.original, c.requires.short)

pub overflow_add-result : goal.overflow_add-result
overflow_add-result c =
    let bytes : Bytes c.args.original.now = λ i. omega (arith, c.type_inv.original i) in
    omega
    (arith, c.moved_len.ensures, measure-last c.requires c.loop-q.invariant bytes c.loop-q-test.false)

pub returns : goal.returns
returns c =
    let bytes : Bytes c.args.original.now = λ i. omega (arith, c.type_inv.original i) in
    ap (λ (m : ℕ). c.loop-q.n + m) c.moved_len.ensures
    ∙ measure-done c.requires c.loop-q.invariant bytes c.loop-q-test.false
