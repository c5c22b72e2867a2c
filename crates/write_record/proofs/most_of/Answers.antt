-- `write_record::most_of` meets its contract.
use Rattle.write_record.specs.Mixed.{most-at}
use Rattle.std.proofs.Common.{rules}
use Rattle.write_record.proofs.most_of.Goals as goal

pub returns : goal.returns
returns c = most-at _ _ c.requires
