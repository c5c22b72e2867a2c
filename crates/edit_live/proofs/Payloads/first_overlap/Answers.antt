-- Each turn finds one more payload that overlaps none before it, and the gap after it.
use mathlib.Core.Path.{ap}
use native.Mathlib.Omega.{arith}
use Rattle.edit_live.specs.Spans.{end}
use Rattle.edit_live.specs.SpanLaws.{found-there, found-nowhere, span-inside, span_none}
use Rattle.edit_live.specs.declared.Span.{Span}
use Rattle.edit_live.proofs.Walks.{clear-start, clear-found, clear-more, clear-none-there, clear-done}
use Rattle.edit_live.proofs.Payloads.first_overlap.Goals.{then-s-gt0+else-high-eq0, else-s-gt0}
use Rattle.edit_live.proofs.Payloads.first_overlap.Goals as goal

pub loop-i-init : goal.loop-i-init
loop-i-init c = clear-start _ _ _

pub gap_of-high-requires : goal.gap_of-high-requires
gap_of-high-requires c =
    let p = c.args.self.now in
    let e = ap end c.span_at-s.ensures in (
      c.if-s-gt0.true,
      omega (arith, e, span-inside p.size p.table.now p.skip c.loop-i.i),
      c.loop-i.invariant.clear,
    )

pub returns-then-high-eq0 : goal.returns-then-high-eq0
returns-then-high-eq0 c =
    found-there _ c.loop-i-test.true
    (clear-found c.loop-i.invariant c.span_at-s.ensures c.loop-i-test.true c.if-s-gt0.true c.gap_of-high.ensures c.if-high-eq0.true)

pub loop-i-preserved : goal.loop-i-preserved
loop-i-preserved c =
    let v = c.loop-i.invariant in
    let p = c.args.self.now in
    let e = ap (λ (s : Span). s.len) c.span_at-s.ensures in
    elim c.if-s-gt0.branch [
      | then-s-gt0+else-high-eq0 w ↦ clear-more v c.span_at-s.ensures w.gap_of-high.ensures w.if-high-eq0.false w.low-is w.high-is
      | else-s-gt0 w ↦
          clear-none-there v c.span_at-s.ensures
          (span_none p.size p.table.now p.skip c.loop-i.i (omega (arith, e, w.if-s-gt0.false))) w.low-is w.high-is
    ]

pub returns : goal.returns
returns c = found-nowhere _ (clear-done c.loop-i.invariant (omega arith))
