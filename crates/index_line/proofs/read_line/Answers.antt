-- The second character decides which edition is read.
use mathlib.Core.Path.{◌∙◌}
use Rattle.index_line.proofs.Answers.{either-short, either_second, either-above, either_first}
use Rattle.index_line.proofs.read_line.Goals as goal

pub returns-then-line-lt-HEAD_DIGITS : goal.returns-then-line-lt-HEAD_DIGITS
returns-then-line-lt-HEAD_DIGITS c = either-short _ _ _ c.if-line-lt-HEAD_DIGITS.true

pub returns-then-line-eq50 : goal.returns-then-line-eq50
returns-then-line-eq50 c = c.read_edition.ensures ∙ either_second _ _ _ c.if-line-eq50.true

pub returns-then-message_len-gt-OLD_LIMIT : goal.returns-then-message_len-gt-OLD_LIMIT
returns-then-message_len-gt-OLD_LIMIT c = either-above _ _ _ c.if-line-eq50.false c.if-message_len-gt-OLD_LIMIT.true

pub returns : goal.returns
returns c = c.read_edition-2.ensures ∙ either_first _ _ _ c.if-line-eq50.false c.if-message_len-gt-OLD_LIMIT.false
