-- Each turn puts what stands below a tag of the correction in the original, then the tag.
use mathlib.Core.Path.{◌∙◌}
use native.Mathlib.Omega.{arith}
use Rattle.wire.specs.VarintLaws.{Bytes}
use Rattle.place.specs.Spans.{spans-length}
use Rattle.correct_write.specs.Turning.{run_end, put-start, put_first, put_second, put-more, put_last, put-done}
use Rattle.correct_write.proofs.put_all.Goals as goal

pub loop-q-init : goal.loop-q-init
loop-q-init c = put-start _ _ _ c.requires.0

pub turn_of-t-requires : goal.turn_of-t-requires
turn_of-t-requires c = let w = c.loop-q.invariant in (w.original, w.correction, c.loop-q-test.true)

pub put_moved-at-requires : goal.put_moved-at-requires
put_moved-at-requires c =
    let x = c.turn_of-t.ensures in
    (x.low, put_first c.requires.1 c.loop-q.invariant x)

pub put_moved-at-requires-in-loop-q : goal.put_moved-at-requires-in-loop-q
put_moved-at-requires-in-loop-q c =
    let x = c.turn_of-t.ensures in
    (x.group, put_second c.requires.1 c.loop-q.invariant x c.put_moved-at.ensures)

pub loop-q-smaller : goal.loop-q-smaller
loop-q-smaller c =
    let x = c.turn_of-t.ensures in
    omega (arith, x.further, x.group.inside)

pub loop-q-preserved : goal.loop-q-preserved
loop-q-preserved c =
    put-more c.requires.1 c.loop-q.invariant c.turn_of-t.ensures
    c.put_moved-at.ensures c.put_moved-at-in-loop-q.ensures

pub put_moved-requires : goal.put_moved-requires
put_moved-requires c =
    let bytes : Bytes c.args.original.now = λ i. omega (arith, c.type_inv.original i) in
    let b = bytes in
    (run_end _ _ _ b c.loop-q.invariant.original, put_last c.requires.1 c.loop-q.invariant b c.loop-q-test.false)

pub shape_of-buf : goal.shape_of-buf
shape_of-buf c = spans-length c.put_moved.ensures ∙ spans-length c.loop-q.invariant.put

pub returns : goal.returns
returns c =
    let bytes : Bytes c.args.original.now = λ i. omega (arith, c.type_inv.original i) in
    put-done c.requires.1 c.loop-q.invariant bytes
    c.loop-q-test.false c.put_moved.ensures
