-- `varint_write::encoded_len_varint` meets its contract.
use mathlib.Core.Path.{sym}
use native.Mathlib.Omega.{arith}
use lib.Dec.{lit≤}
use Rattle.wire.proofs.VarintLength.{length_at, length-top}
use Rattle.varint_write.proofs.encoded_len_varint.Goals as goal

pub returns-in-0-to-127 : goal.returns-in-0-to-127
returns-in-0-to-127 c = sym (length_at 0 c.args.v (lit≤ tt) (omega arith) (omega arith))

pub returns-in-128-to-16511 : goal.returns-in-128-to-16511
returns-in-128-to-16511 c = sym (length_at 1 c.args.v (lit≤ tt) (omega arith) (omega arith))

pub returns-in-16512-to-2113663 : goal.returns-in-16512-to-2113663
returns-in-16512-to-2113663 c = sym (length_at 2 c.args.v (lit≤ tt) (omega arith) (omega arith))

pub returns-in-2113664-to-270549119 : goal.returns-in-2113664-to-270549119
returns-in-2113664-to-270549119 c = sym (length_at 3 c.args.v (lit≤ tt) (omega arith) (omega arith))

pub returns-in-270549120-to-34630287487 : goal.returns-in-270549120-to-34630287487
returns-in-270549120-to-34630287487 c = sym (length_at 4 c.args.v (lit≤ tt) (omega arith) (omega arith))

pub returns-in-34630287488-to-4432676798591 : goal.returns-in-34630287488-to-4432676798591
returns-in-34630287488-to-4432676798591 c = sym (length_at 5 c.args.v (lit≤ tt) (omega arith) (omega arith))

pub returns-in-4432676798592-to-567382630219903 : goal.returns-in-4432676798592-to-567382630219903
returns-in-4432676798592-to-567382630219903 c = sym (length_at 6 c.args.v (lit≤ tt) (omega arith) (omega arith))

pub returns-in-567382630219904-to-72624976668147839 : goal.returns-in-567382630219904-to-72624976668147839
returns-in-567382630219904-to-72624976668147839 c = sym (length_at 7 c.args.v (lit≤ tt) (omega arith) (omega arith))

pub returns-in_default : goal.returns-in_default
returns-in_default c = sym (length-top c.args.v (omega arith))
