-- A varint is a value.
use mathlib.Core.Path.{◌∙◌, ap, sym}
use Rattle.wire.specs.Reading.{number_from}
use borrow.Author.Rules.{rules}
use Rattle.field_value.proofs.number_at.Goals as goal

pub returns-in-Got : goal.returns-in-Got
returns-in-Got c = sym (ap number_from (sym c.decode_varint_capped.ensures ∙ c.in-Got.is))

pub returns-in-Refused : goal.returns-in-Refused
returns-in-Refused c = sym (ap number_from (sym c.decode_varint_capped.ensures ∙ c.in-Refused.is))
