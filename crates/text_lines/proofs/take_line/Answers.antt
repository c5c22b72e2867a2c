-- The characters up to LF, or all that are left.
use Rattle.text_lines.proofs.Takes.{rest_same, part-found, whole-found}
use Rattle.text_lines.proofs.take_line.Goals as goal

pub returns-in-Some : goal.returns-in-Some
returns-in-Some c =
    whole-found c.args.block.now c.args.at _ _ _ (rest_same _ _ _ c.min.ensures) c.in-Some.n (rw c.in-Some.is at c.memchr.ensures) _ _ c.keep.ensures.count c.keep.ensures.kept

pub returns-in-None : goal.returns-in-None
returns-in-None c =
    part-found c.args.block.now c.args.at _ _ _ (rest_same _ _ _ c.min.ensures) (rw c.in-None.is at c.memchr.ensures) _ _ c.keep-in-None.ensures.count c.keep-in-None.ensures.kept
