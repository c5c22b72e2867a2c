-- The words of record i, or no record.
use Rattle.std.proofs.Common.{sym, arith, rules}
use Rattle.wire.specs.Table.{record_at}
use Rattle.write_record.specs.Taken.{record-there, record-none}
use Rattle.write_record.proofs.record_at.Goals as goal

pub returns-then-i-table : goal.returns-then-i-table
unfolding record_at
returns-then-i-table c = sym (record-there _ _ (omega arith))

pub returns : goal.returns
returns c = sym (record-none _ _ c.if-i-table.false)
