-- A key that is there is read.
use mathlib.Core.Path.{◌∙◌, sym}
use Rattle.correct_write.specs.Rests.{rest-keyless, heads}
use Rattle.correct_write.proofs.tag_at.Goals as goal

pub returns-in-Refused : goal.returns-in-Refused
returns-in-Refused c = rest-keyless c.requires.0 c.requires.1 _ (sym c.decode_key.ensures ∙ c.in-Refused.is)

pub returns-in-Got : goal.returns-in-Got
returns-in-Got c = heads c.requires.0 c.requires.1 _ _ (sym c.decode_key.ensures ∙ c.in-Got.is)
