-- The bytes up to the slice's end, or nine.
use mathlib.Core.Path.{sym}
use native.Mathlib.Omega.{arith}
use Rattle.fault.specs.Short.{nine-few, nine-all}
use borrow.Author.Rules.{rules}
use Rattle.fault.proofs.looked.Goals as goal

pub returns-then-len-at : goal.returns-then-len-at
returns-then-len-at c = let a = c.args in omega (arith, nine-few a.len a.at (omega arith))

pub returns-then-left-gt9 : goal.returns-then-left-gt9
returns-then-left-gt9 c = let a = c.args in sym (nine-all a.len a.at (omega arith))

pub returns : goal.returns
returns c = let a = c.args in sym (nine-few a.len a.at (omega arith))
