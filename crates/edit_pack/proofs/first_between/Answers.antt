-- Each turn passes a record that is not between.
use native.Mathlib.Omega.{arith}
use Rattle.edit_live.specs.SpanLaws.{found-there}
use Rattle.edit_pack.proofs.Turns.{pass-here, pass-more, pass-none}
use Rattle.edit_pack.proofs.first_between.Goals as goal

pub returns-then-is_nearer : goal.returns-then-is_nearer
returns-then-is_nearer c =
    found-there _ c.loop-i-test.true
    (pass-here c.loop-i.invariant c.loop-i-test.true c.span_at.ensures c.is_nearer.ensures c.if-is_nearer.true)

pub loop-i-preserved : goal.loop-i-preserved
loop-i-preserved c = pass-more c.loop-i.invariant c.loop-i-test.true c.span_at.ensures c.is_nearer.ensures c.if-is_nearer.false

pub returns : goal.returns
returns c = pass-none c.loop-i.invariant (omega arith)
