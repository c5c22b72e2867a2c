-- `write_record::if_number` meets its contract.
use Rattle.std.proofs.Common.{sym, arith}
use Rattle.write_record.specs.Mixed.{number-there, number-not}
use Rattle.write_record.proofs.if_number.Goals as goal

pub returns-then-kind-lt2 : goal.returns-then-kind-lt2
returns-then-kind-lt2 c = sym (number-there _ _ c.if-kind-lt2.true)

pub returns : goal.returns
returns c = sym (number-not c.args.kind c.args.n (omega arith))
