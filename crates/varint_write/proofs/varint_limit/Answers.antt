-- `varint_write::varint_limit` meets its contract.
use mathlib.Core.Path.{refl, sym}
use native.Mathlib.Omega.{arith}
use borrow.Author.Rules.{rules}
use lib.ListN.{get_or-eq_default}
use Rattle.wire.specs.VarintLength.{limits}
use Rattle.varint_write.proofs.varint_limit.Goals as goal

-- the source's nine numbers are the limits
pub returns-then-i-lt9 : goal.returns-then-i-lt9
returns-then-i-lt9 c = refl

pub returns : goal.returns
returns c = sym (get_or-eq_default limits 0 {n = c.args.i} (omega arith))
