-- `write_record::least_len` meets its contract.
use Rattle.std.proofs.Common.{sym, arith, rules}
use Rattle.write_record.specs.Mixed.{least-none, least-some}
use Rattle.write_record.proofs.least_len.Goals as goal

pub returns-then-kind-lt2 : goal.returns-then-kind-lt2
returns-then-kind-lt2 c = sym (least-none _ c.if-kind-lt2.true)

pub returns : goal.returns
returns c = sym (least-some _ (omega arith))
