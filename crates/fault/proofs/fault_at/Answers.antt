-- The end, the refusal, then the key and the value that stand there.
use mathlib.Core.Path.{◌≡◌, ◌∙◌, ap, sym}
use borrow.Author.Tests.{eqb-true, eqb-false}
use Rattle.wire.specs.Numbers.{number_of}
use Rattle.wire.specs.Reading.{key_at, value_at}
use Rattle.fault.specs.Short.{behind_key, at_key, fault_at, at_top, at-over, at_field}
use borrow.Author.Rules.{rules}
use Rattle.fault.proofs.fault_at.Goals as goal

pub returns-then-end-at : goal.returns-then-end-at
returns-then-end-at c = sym (at_top _ _ _ _ c.if-end-at.true)

pub returns-then-overflowed : goal.returns-then-overflowed
returns-then-overflowed c =
    let a = c.args in
    sym
    (at-over a.s.now a.end a.why a.at c.if-end-at.false
    (eqb-true (number_of a.why) 3 (sym c.overflowed.ensures ∙ c.if-overflowed.true)))

pub returns-in-Refused : goal.returns-in-Refused
returns-in-Refused c =
    let opened : fault_at c.args.s.now c.args.end c.args.why c.args.at
    ≡ at_key c.args.s.now c.args.end c.args.why c.args.at (key_at c.args.s.now c.args.end c.args.at 0) =
    let a = c.args in
    at_field a.s.now a.end a.why a.at c.if-end-at.false
    (eqb-false (number_of a.why) 3 (sym c.overflowed.ensures ∙ c.if-overflowed.false)) in
    let a = c.args in
    c.key_fault.ensures
    ∙ sym (opened ∙ ap (at_key a.s.now a.end a.why a.at) (sym c.decode_key.ensures ∙ c.in-Refused.is))

pub returns-in-Refused-decode_value : goal.returns-in-Refused-decode_value
returns-in-Refused-decode_value c =
    let opened : fault_at c.args.s.now c.args.end c.args.why c.args.at
    ≡ at_key c.args.s.now c.args.end c.args.why c.args.at (key_at c.args.s.now c.args.end c.args.at 0) =
    let a = c.args in
    at_field a.s.now a.end a.why a.at c.if-end-at.false
    (eqb-false (number_of a.why) 3 (sym c.overflowed.ensures ∙ c.if-overflowed.false)) in
    let keyed : fault_at c.args.s.now c.args.end c.args.why c.args.at
    ≡ behind_key c.args.s.now c.in-Got.q c.in-Got.key.wire (value_at c.args.s.now c.args.end c.in-Got.q c.in-Got.key.wire) =
    let a = c.args in
    opened ∙ ap (at_key a.s.now a.end a.why a.at) (sym c.decode_key.ensures ∙ c.in-Got.is) in
    let a = c.args in
    c.value_fault.ensures
    ∙ sym (keyed ∙ ap (behind_key a.s.now c.in-Got.q c.in-Got.key.wire) (sym c.decode_value.ensures ∙ c.in-Refused-decode_value.is))

pub returns-in-Got-decode_value : goal.returns-in-Got-decode_value
returns-in-Got-decode_value c =
    let opened : fault_at c.args.s.now c.args.end c.args.why c.args.at
    ≡ at_key c.args.s.now c.args.end c.args.why c.args.at (key_at c.args.s.now c.args.end c.args.at 0) =
    let a = c.args in
    at_field a.s.now a.end a.why a.at c.if-end-at.false
    (eqb-false (number_of a.why) 3 (sym c.overflowed.ensures ∙ c.if-overflowed.false)) in
    let keyed : fault_at c.args.s.now c.args.end c.args.why c.args.at
    ≡ behind_key c.args.s.now c.in-Got.q c.in-Got.key.wire (value_at c.args.s.now c.args.end c.in-Got.q c.in-Got.key.wire) =
    let a = c.args in
    opened ∙ ap (at_key a.s.now a.end a.why a.at) (sym c.decode_key.ensures ∙ c.in-Got.is) in
    let a = c.args in
    sym (keyed ∙ ap (behind_key a.s.now c.in-Got.q c.in-Got.key.wire) (sym c.decode_value.ensures ∙ c.in-Got-decode_value.is))
