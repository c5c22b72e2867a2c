-- A tag that is too large, or the key's varint.
use mathlib.Core.Path.{◌∙◌, sym}
use borrow.Author.Tests.{eqb-true, eqb-false}
use Rattle.wire.specs.Numbers.{number_of}
use Rattle.fault.specs.Short.{short-told, key-over, key-varint}
use borrow.Author.Rules.{rules}
use Rattle.fault.proofs.key_fault.Goals as goal

pub returns-then-overflowed : goal.returns-then-overflowed
returns-then-overflowed c =
    let a = c.args in
    sym (key-over a.why a.len a.at (eqb-true (number_of a.why) 3 (sym c.overflowed.ensures ∙ c.if-overflowed.true)))

pub returns : goal.returns
returns c =
    let a = c.args in
    short-told a.len a.at _ c.looked.ensures
    ∙ sym (key-varint a.why a.len a.at (eqb-false (number_of a.why) 3 (sym c.overflowed.ensures ∙ c.if-overflowed.false)))
