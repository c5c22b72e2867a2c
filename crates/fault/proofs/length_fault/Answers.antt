-- A length that was read, or its varint.
use mathlib.Core.Path.{◌∙◌, ap, sym}
use lib.ListN.{length}
use Rattle.fault.specs.Short.{short-told, length_short, value_short}
use borrow.Author.Rules.{rules}
use Rattle.fault.proofs.length_fault.Goals as goal

pub returns-in-Got : goal.returns-in-Got
unfolding value_short
returns-in-Got c =
    let a = c.args in
    sym (ap (length_short (length a.s.now) a.at) (sym c.decode_varint.ensures ∙ c.in-Got.is))

pub returns-in-Refused : goal.returns-in-Refused
unfolding value_short
returns-in-Refused c =
    let a = c.args in
    short-told (length a.s.now) a.at _ c.looked.ensures
    ∙ sym (ap (length_short (length a.s.now) a.at) (sym c.decode_varint.ensures ∙ c.in-Refused.is))
