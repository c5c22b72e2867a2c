-- A varint of the whole slice.
use mathlib.Core.Path.{ap, ◌∙◌, sym}
use Rattle.wire.specs.Reading.{number_from}
use Rattle.run_read.proofs.number_from.Goals as goal

pub returns-in-Got : goal.returns-in-Got
returns-in-Got c = ap number_from (sym c.in-Got.is ∙ c.decode_varint_capped.ensures)

pub returns-in-Refused : goal.returns-in-Refused
returns-in-Refused c = ap number_from (sym c.in-Refused.is ∙ c.decode_varint_capped.ensures)
