-- `write_message::measure` meets its contract.
use mathlib.Core.Path.{sym, ap, ◌∙◌}
use native.Mathlib.Omega.{arith}
use Rattle.write_message.specs.WritingLaws.{plan-first, spent-first, spent-left, spent-over, spent-fine, measured-refuses, measured-writes}
use Rattle.wire.specs.declared.Written.TheVariants.{At}
use Rattle.write_message.proofs.measure.Goals as goal

pub returns-then-left-eq0 : goal.returns-then-left-eq0
returns-then-left-eq0 c = sym (measured-refuses (spent-over _ _ _ _ c.weigh.ensures _ c.in-Left.is c.if-left-eq0.true))

pub overflow_sub-result : goal.overflow_sub-result
overflow_sub-result c =
    let a = c.args in
    omega (
      arith,
      (spent-left a.most a.source.now a.table.now a.count c.weigh.ensures _
          c.in-Left.is).1,
    )

pub returns-in-First : goal.returns-in-First
returns-in-First c = sym (measured-refuses (plan-first _ _ _ _ _ _ (spent-first _ _ _ _ c.weigh.ensures _ _ c.in-First.is)))

pub returns-else-left-eq0 : goal.returns-else-left-eq0
returns-else-left-eq0 c =
    let f = spent-fine _ _ _ _ c.weigh.ensures _ c.in-Left.is c.if-left-eq0.false in
    sym (measured-writes f.0 ∙ ap (At 0) (sym f.1))
