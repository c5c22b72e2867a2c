-- The tests in their order.
use mathlib.Core.Path.{sym}
use native.Mathlib.Omega.{arith}
use Rattle.entry_answer.specs.Gate.{gated-long, gated-place, gated-end, gated-open}
use Rattle.entry_answer.proofs.gate.Goals as goal

pub returns-then-len-gt-MESSAGE_LIMIT : goal.returns-then-len-gt-MESSAGE_LIMIT
returns-then-len-gt-MESSAGE_LIMIT c = sym (gated-long _ _ _ (omega arith))

pub returns-then-len-at : goal.returns-then-len-at
returns-then-len-at c = sym (gated-place _ _ _ (omega arith) (omega arith))

pub returns-then-len-end : goal.returns-then-len-end
returns-then-len-end c = sym (gated-end _ _ _ (omega arith) (omega arith) (omega arith))

pub returns : goal.returns
returns c = sym (gated-open _ _ _ (omega arith) (omega arith) (omega arith))
