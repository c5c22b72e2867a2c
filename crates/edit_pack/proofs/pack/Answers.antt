-- Each turn packs the next payload in order of place.
use Prim.Native.Nat.{◌+◌, ◌^◌, ◌<◌}
use mathlib.Core.Path.{refl, ap, ◌∙◌}
use native.Mathlib.Omega.{arith}
use lib.ListN.{length}
use Rattle.edit_pack.specs.Fence.{fence-none}
use Rattle.edit_pack.proofs.Turns.{moved-down, turn-start, turn-done, clear-length}
use Rattle.edit_pack.proofs.Turns.{held, turn_low, turn_inside, turn_up, turn-fenced, turn_more}
use Rattle.edit_pack.proofs.pack.Goals as goal

pub pick_next-pick-requires : goal.pick_next-pick-requires
pick_next-pick-requires c = (omega arith, fence-none _ _ _)

pub loop-pick-init : goal.loop-pick-init
loop-pick-init c = turn-start _ _ _ _ c.pick_next-pick.ensures.0 c.pick_next-pick.ensures.1

pub overflow_add-s : goal.overflow_add-s
overflow_add-s c = omega (arith, turn_inside c.loop-pick.invariant c.loop-pick-test.true c.span_at-s.ensures, c.loop-pick.invariant.size, c.well_formed)

pub copy_within-requires-clause-in_bounds : goal.copy_within-requires-clause-in_bounds
copy_within-requires-clause-in_bounds c = turn_inside c.loop-pick.invariant c.loop-pick-test.true c.span_at-s.ensures

pub copy_within-requires-clause-dest_in_bounds : goal.copy_within-requires-clause-dest_in_bounds
copy_within-requires-clause-dest_in_bounds c =
    let w = c.loop-pick.invariant in
    let t = c.loop-pick-test.true in
    omega (arith, turn_low w t c.span_at-s.ensures, turn_inside w t c.span_at-s.ensures)

pub amend-requires : goal.amend-requires
amend-requires c = (held c.loop-pick.invariant c.loop-pick-test.true c.span_at-s.ensures).index

pub overflow_add-from : goal.overflow_add-from
overflow_add-from c =
    let ends : c.span_at-s.result.start + c.span_at-s.result.len < 2 ^ 64 = let w = c.loop-pick.invariant in
    let g = c.well_formed in
    omega (arith, turn_inside w c.loop-pick-test.true c.span_at-s.ensures, w.size, g) in
    omega (arith, ends)

pub overflow_add-to : goal.overflow_add-to
overflow_add-to c =
    let ends : c.span_at-s.result.start + c.span_at-s.result.len < 2 ^ 64 = let w = c.loop-pick.invariant in
    let g = c.well_formed in
    omega (arith, turn_inside w c.loop-pick-test.true c.span_at-s.ensures, w.size, g) in
    let w = c.loop-pick.invariant in
    omega (arith, turn_low w c.loop-pick-test.true c.span_at-s.ensures, ends)

pub pick_next-pick-requires-in-loop-pick : goal.pick_next-pick-requires-in-loop-pick
pick_next-pick-requires-in-loop-pick c =
    let t = c.loop-pick-test.true in
    (omega (arith, t), turn-fenced c.loop-pick.invariant t c.span_at-s.ensures c.amend.ensures)

pub loop-pick-smaller : goal.loop-pick-smaller
loop-pick-smaller c =
    let w = c.loop-pick.invariant in
    let t = c.loop-pick-test.true in
    omega (arith, turn_up w t c.span_at-s.ensures, turn_inside w t c.span_at-s.ensures, w.size)

pub loop-pick-preserved : goal.loop-pick-preserved
loop-pick-preserved c =
    turn_more c.loop-pick.invariant c.loop-pick-test.true c.span_at-s.ensures
    (c.copy_within.ensures.after ∙ moved-down _ _ _ _ _ refl (turn_low c.loop-pick.invariant c.loop-pick-test.true c.span_at-s.ensures)
    (turn_inside c.loop-pick.invariant c.loop-pick-test.true c.span_at-s.ensures))
    c.amend.ensures refl refl c.pick_next-pick-in-loop-pick.ensures.0 c.pick_next-pick-in-loop-pick.ensures.1

pub shape_of-room : goal.shape_of-room
shape_of-room c = c.loop-pick.invariant.size

pub shape_of-table : goal.shape_of-table
shape_of-table c =
    let a = c.args in
    ap length c.clear_empty.ensures ∙ clear-length a.count a.skip c.loop-pick.table ∙ c.loop-pick.invariant.words

pub returns : goal.returns
returns c = turn-done c.loop-pick.invariant c.loop-pick-test.false c.clear_empty.ensures
