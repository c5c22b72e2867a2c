-- The two cases of a digit's character.
use Rattle.std.proofs.Common.{sym, arith}
use Rattle.text_digits.specs.DigitLaws.{glyph-figure, glyph-letter}
use Rattle.text_digits.proofs.glyph.Goals as goal

pub returns-then-d-lt10 : goal.returns-then-d-lt10
returns-then-d-lt10 c = sym (glyph-figure _ c.if-d-lt10.true)

pub returns-else-d-lt10 : goal.returns-else-d-lt10
returns-else-d-lt10 c = omega (arith, glyph-letter _ c.if-d-lt10.false)
