-- `write_record::spare_len` meets its contract.
use Rattle.std.proofs.Common.{sym, arith}
use Rattle.write_record.specs.Mixed.{spare-none}
use Rattle.write_record.proofs.spare_len.Goals as goal

pub overflow_sub-result : goal.overflow_sub-result
overflow_sub-result c = rw c.if-kind-eq1.true at c.requires

pub returns-then-kind-eq1 : goal.returns-then-kind-eq1
returns-then-kind-eq1 c = rw c.if-kind-eq1.true

pub returns : goal.returns
returns c = sym (spare-none _ _ _ c.if-kind-eq1.false)
