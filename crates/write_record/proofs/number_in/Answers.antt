-- `write_record::number_in` meets its contract.
use Rattle.std.proofs.Common.{sym, rules}
use Rattle.write_record.specs.Mixed.{number-length}
use Rattle.write_record.proofs.number_in.Goals as goal

pub returns : goal.returns
returns c = sym (number-length _ _ _ c.if-kind-eq0.false)
