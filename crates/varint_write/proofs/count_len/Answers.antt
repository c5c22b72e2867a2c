-- `varint_write::count_len` meets its contract.
use native.Mathlib.Omega.{arith}
use borrow.Author.Rules.{rules}
use Rattle.varint_write.proofs.Counting.{thinned, zeros-few, counts}
use Rattle.varint_write.proofs.count_len.Goals as goal

pub overflow_cast-result : goal.overflow_cast-result
overflow_cast-result c = record { fits = omega (arith, zeros-few (thinned c.args.v) c.ranges.v.fits) }

pub overflow_sub-result : goal.overflow_sub-result
overflow_sub-result c = zeros-few (thinned c.args.v) c.ranges.v.fits

pub returns : goal.returns
returns c = counts (thinned c.args.v) c.ranges.v.fits
