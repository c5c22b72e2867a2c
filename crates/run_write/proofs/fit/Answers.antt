-- Measured, then held against the buffer's length.
use mathlib.Core.Path.{sym, ap, ◌∙◌}
use native.Mathlib.Omega.{arith}
use Rattle.wire.specs.Limits.{message_limit}
use Rattle.wire.specs.declared.Refusal.TheVariants.{NoRoom}
use Rattle.wire.specs.declared.Written.TheVariants.{At, Refused}
use Rattle.write_message.specs.WritingLaws.{fitted-refuses, fitted-writes, fitted_none}
use Rattle.run_write.specs.RunLaws.{spent-first, spent-left, spent-over, spent-fine}
use Rattle.run_write.proofs.fit.Goals as goal

pub returns-then-left-eq0 : goal.returns-then-left-eq0
returns-then-left-eq0 c = sym (fitted-refuses _ (spent-over _ _ _ _ _ c.weigh.ensures _ c.in-Left.is c.if-left-eq0.true))

pub overflow_sub-n : goal.overflow_sub-n
overflow_sub-n c =
    let a = c.args in
    omega (
      arith,
      (spent-left message_limit a.source.now a.table.now a.count a.kind c.weigh.ensures _ c.in-Left.is).1,
    )

pub returns-then-bytes-n : goal.returns-then-bytes-n
returns-then-bytes-n c =
    let f = spent-fine _ _ _ _ _ c.weigh.ensures _ c.in-Left.is c.if-left-eq0.false in
    ap (Refused NoRoom 0) f.1 ∙ sym (fitted_none _ f.0 (omega (arith, f.1, c.if-bytes-n.true)))

pub returns-in-First : goal.returns-in-First
returns-in-First c = sym (fitted-refuses _ (spent-first _ _ _ _ _ c.weigh.ensures _ _ c.in-First.is))

pub returns-else-bytes-n : goal.returns-else-bytes-n
returns-else-bytes-n c =
    let f = spent-fine _ _ _ _ _ c.weigh.ensures _ c.in-Left.is c.if-left-eq0.false in
    sym (fitted-writes _ f.0 (omega (arith, f.1, c.if-bytes-n.false)) ∙ ap (At 0) (sym f.1))
