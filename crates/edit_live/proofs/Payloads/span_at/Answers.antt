-- Each way out is a case of a record's span.
use native.Mathlib.Omega.{arith}
use Rattle.edit_live.specs.SpanLaws.{span-skip, in-other, in-empty, in-outside, in-live}
use mathlib.Core.Path.{sym}
use Rattle.edit_live.proofs.Payloads.span_at.Goals as goal

pub returns-then-i-self : goal.returns-then-i-self
returns-then-i-self c = sym (span-skip _ _ _ _ c.if-i-self.true)

pub returns-then-r-eq0 : goal.returns-then-r-eq0
returns-then-r-eq0 c = in-empty _ _ _ _ c.record_at-r.ensures c.if-i-self.false c.if-r-eq1.true c.if-r-eq0.true

pub returns-then-self-r : goal.returns-then-self-r
returns-then-self-r c =
    in-outside _ _ _ _ c.record_at-r.ensures c.if-i-self.false c.if-r-eq1.true c.if-r-eq0.false
    (omega (arith, c.if-self-r.true))

pub overflow_sub-self : goal.overflow_sub-self
overflow_sub-self c = omega (arith, c.if-self-r.false)

pub returns-then-r-self : goal.returns-then-r-self
returns-then-r-self c =
    in-live _ _ _ _ c.record_at-r.ensures c.if-i-self.false c.if-r-eq1.true
    c.if-r-eq0.false
    (omega (arith, c.if-r-self.true, c.if-self-r.false))

pub returns-then-r-eq1 : goal.returns-then-r-eq1
returns-then-r-eq1 c =
    in-outside _ _ _ _ c.record_at-r.ensures c.if-i-self.false c.if-r-eq1.true
    c.if-r-eq0.false
    (omega (arith, c.if-r-self.false, c.if-self-r.false))

pub returns : goal.returns
returns c = in-other _ _ _ _ c.record_at-r.ensures c.if-i-self.false c.if-r-eq1.false
