-- `field::has` meets its contract.
use mathlib.Core.Path.{sym}
use native.Mathlib.Omega.{arith}
use Prim.Native.Nat.{◌+◌}
use Rattle.field_value.specs.Inside.{outside, to_end}
use borrow.Author.Rules.{rules}
use Rattle.field_value.proofs.has.Goals as goal

pub returns-then-len-at : goal.returns-then-len-at
returns-then-len-at c =
    let a = c.args in
    sym (outside a.len a.end (a.at + a.n) (omega arith))

pub returns-then-len-at-2 : goal.returns-then-len-at-2
returns-then-len-at-2 c =
    let a = c.args in
    sym (outside a.len a.end (a.at + a.n) (omega arith))

pub returns : goal.returns
returns c =
    let a = c.args in
    sym (to_end a.len a.end (a.at + a.n) (omega arith))
