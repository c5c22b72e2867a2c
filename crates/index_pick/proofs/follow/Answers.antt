-- Each turn reads one more field of the tag.
use mathlib.Core.Path.{◌≡◌, ◌∙◌, sym}
use native.Mathlib.Omega.{arith}
use lib.ListN.{length}
use Rattle.wire.specs.Reading.{key_at}
use Rattle.wire.specs.declared.KeyFound.TheVariants as key_found
use Rattle.index_pick.proofs.Following.{follow-start, follow-end, at-end, at-keyless, at_other, at-valueless, at_value}
use Rattle.index_pick.proofs.follow.Goals as goal

pub loop-left-init : goal.loop-left-init
loop-left-init c = follow-start _ _ _ _

pub returns-then-s-p : goal.returns-then-s-p
returns-then-s-p c = at-end c.loop-left.invariant c.loop-left-test.true c.if-s-p.true

pub returns-in-Refused : goal.returns-in-Refused
returns-in-Refused c =
    at-keyless c.loop-left.invariant c.loop-left-test.true c.if-s-p.false _
    (sym c.decode_key.ensures ∙ c.in-Refused.is)

pub returns-then-key-tag : goal.returns-then-key-tag
returns-then-key-tag c =
    let keyed : key_at c.args.s.now (length c.args.s.now) c.loop-left.p c.args.tag ≡ key_found.Got c.in-Got.key c.in-Got.q = sym c.decode_key.ensures ∙ c.in-Got.is in
    at_other c.loop-left.invariant c.loop-left-test.true c.if-s-p.false _ _ keyed c.if-key-tag.true

pub returns-in-Refused-decode_value : goal.returns-in-Refused-decode_value
returns-in-Refused-decode_value c =
    let keyed : key_at c.args.s.now (length c.args.s.now) c.loop-left.p c.args.tag ≡ key_found.Got c.in-Got.key c.in-Got.q = sym c.decode_key.ensures ∙ c.in-Got.is in
    at-valueless c.loop-left.invariant c.loop-left-test.true c.if-s-p.false _ _ keyed c.if-key-tag.false _
    (sym c.decode_value.ensures ∙ c.in-Refused-decode_value.is)

pub overflow_sub-left : goal.overflow_sub-left
overflow_sub-left c = omega (arith, c.loop-left-test.true)

pub loop-left-smaller : goal.loop-left-smaller
loop-left-smaller c = omega (arith, c.loop-left-test.true)

pub loop-left-preserved : goal.loop-left-preserved
loop-left-preserved c =
    let keyed : key_at c.args.s.now (length c.args.s.now) c.loop-left.p c.args.tag ≡ key_found.Got c.in-Got.key c.in-Got.q = sym c.decode_key.ensures ∙ c.in-Got.is in
    at_value c.loop-left.invariant c.loop-left-test.true c.if-s-p.false _ _ keyed c.if-key-tag.false _ _
    (sym c.decode_value.ensures ∙ c.in-Got-decode_value.is)

pub returns : goal.returns
returns c = follow-end c.loop-left.invariant c.loop-left-test.false
