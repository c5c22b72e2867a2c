-- Tests in a row; the last is that all characters are digits.
use mathlib.Core.Path.{◌∙◌}
use Rattle.index_line.specs.Spelling.{well-short, well-first, well-second, well-parts, well-as}
use Rattle.index_line.proofs.spelled_well.Goals as goal

pub returns-then-line-lt-HEAD_DIGITS : goal.returns-then-line-lt-HEAD_DIGITS
returns-then-line-lt-HEAD_DIGITS c = well-short _ _ _ c.if-line-lt-HEAD_DIGITS.true

pub returns-then-line-ne48 : goal.returns-then-line-ne48
returns-then-line-ne48 c = well-first _ _ _ c.requires.0 c.if-line-ne48.true

pub returns-then-line-edition : goal.returns-then-line-edition
returns-then-line-edition c = well-second _ _ _ c.requires.0 c.if-line-edition.true

pub returns-then-line-w-gt0 : goal.returns-then-line-w-gt0
returns-then-line-w-gt0 c = well-parts _ _ _ c.if-line-w-gt0.true

pub returns : goal.returns
returns c =
    c.capitals.ensures ∙ well-as _ _ _ c.requires.0 c.if-line-lt-HEAD_DIGITS.false c.if-line-ne48.false
    c.if-line-edition.false c.if-line-w-gt0.false
