-- Each turn sees a payload that follows, or lowers the fence to one that does not.
use mathlib.Core.Path.{ap, sym, ◌∙◌}
use native.Mathlib.Omega.{arith}
use Rattle.edit_live.specs.Spans.{end}
use Rattle.edit_live.specs.SpanLaws.{span-inside}
use Rattle.edit_pack.specs.Fence.{fence-other, fence-follows, fence-stops, fence-done}
use Rattle.edit_pack.proofs.fence_at.Goals.{then-is_nearer+then-is_after, then-is_nearer+else-is_after, else-is_nearer}
use Rattle.edit_pack.proofs.fence_at.Goals as goal

pub overflow_add-last : goal.overflow_add-last
overflow_add-last c =
    let p = c.args.payloads.now in
    omega (arith, ap end c.span_at-s.ensures, span-inside p.size p.table.now p.skip c.loop-i.i, c.fits-payloads)

pub loop-i-preserved : goal.loop-i-preserved
loop-i-preserved c =
    let w = c.loop-i.invariant in
    let t = c.loop-i-test.true in
    let e = c.span_at-s.ensures in
    elim c.if-is_nearer.branch [
      | then-is_nearer+then-is_after x ↦ rw (x.fence-is, x.last-is) (fence-follows w t e (sym x.is_after.ensures ∙ x.if-is_after.true))
      | then-is_nearer+else-is_after x ↦ rw (x.fence-is, x.last-is) (fence-stops w t e (sym c.is_nearer.ensures ∙ x.if-is_nearer.true))
      | else-is_nearer x ↦ rw (x.fence-is, x.last-is) (fence-other w t e (sym c.is_nearer.ensures ∙ x.if-is_nearer.false))
    ]

pub returns : goal.returns
returns c = fence-done c.loop-i.invariant (omega arith)
