-- `field::past_bytes` meets its contract.
use mathlib.Core.Path.{sym}
use native.Mathlib.Omega.{arith}
use Prim.Native.Nat.{◌+◌}
use Rattle.field_skip.specs.SkippingLaws.{slice-has, slice-lacks}
use borrow.Author.Rules.{rules}
use Rattle.field_skip.proofs.past_bytes.Goals as goal

pub returns-then-len-at : goal.returns-then-len-at
returns-then-len-at c = let a = c.args in sym (slice-lacks a.len a.from (a.at + a.n) (omega arith))

pub returns-then-len-at-2 : goal.returns-then-len-at-2
returns-then-len-at-2 c = let a = c.args in sym (slice-lacks a.len a.from (a.at + a.n) (omega arith))

pub returns : goal.returns
returns c = let a = c.args in sym (slice-has a.len a.from (a.at + a.n) (omega arith))
