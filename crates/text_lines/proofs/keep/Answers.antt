-- What has room is put; the count goes on as far as a number does.
use Rattle.std.proofs.Common.{arith}
use Rattle.text_lines.proofs.Takes.{keep-put, kept_count-min}
use Rattle.text_lines.proofs.keep.Goals as goal

pub returns-clause-kept : goal.returns-clause-kept
returns-clause-kept c = keep-put _ _ _ _ _ _ (omega arith) (omega arith) c.put_part.ensures

pub returns-clause-count : goal.returns-clause-count
returns-clause-count c = omega (arith, kept_count-min c.args.part.now c.args.chars (omega arith))
