use Rattle.varint_signed.proofs.Signed as S
use borrow.Author.Rules.{rules}
use Rattle.varint_signed.proofs.u64_to_signed.Goals as goal

-- src/lib.rt:22:9
pub overflow_sub-result : goal.overflow_sub-result
overflow_sub-result c = S.neg-fits _ c.ranges.u.fits

-- src/lib.rt:22:9
pub overflow_sub-result-else-u-eq0 : goal.overflow_sub-result-else-u-eq0
overflow_sub-result-else-u-eq0 c = S.less-fits _ c.ranges.u.fits

-- src/lib.rt:15:1
pub returns-then-u-eq0 : goal.returns-then-u-eq0
returns-then-u-eq0 c = S.even _ c.ranges.u.fits c.if-u-eq0.true

-- src/lib.rt:15:1
pub returns-else-u-eq0 : goal.returns-else-u-eq0
returns-else-u-eq0 c = S.odd _ c.ranges.u.fits c.if-u-eq0.false
