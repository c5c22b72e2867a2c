-- Each turn reads a field; one of the tag is counted.
use mathlib.Core.Path.{◌≡◌, ◌∙◌, ap, sym}
use native.Mathlib.Omega.{arith}
use lib.Dec.{eqb}
use lib.ListN.{length}
use Rattle.wire.specs.Choose.{choose}
use Rattle.wire.specs.Reading.{key_at, value_at}
use Rattle.wire.proofs.ReadingLaws.{value-moves}
use Rattle.wire.specs.declared.KeyFound.TheVariants as key_found
use Rattle.wire.specs.declared.ValueFound.TheVariants as value_found
use Rattle.message_payload.specs.declared.Span.{Span}
use Rattle.correct_supply.specs.Supplying.{held}
use Rattle.correct_supply.specs.SupplyLaws.{held-shut, held-open}
use Rattle.correct_supply.proofs.Seeking.{whole, seek-start, seek-end, seek-keyless, seek-valueless, seek-moves, seek-other, seek-same}
use Rattle.correct_supply.proofs.seek.Goals as goal

pub returns-in-Shut : goal.returns-in-Shut
returns-in-Shut c = sym (held-shut _ _ _ (sym c.gate.ensures ∙ c.in-Shut.is))

pub loop-p-init : goal.loop-p-init
loop-p-init c = seek-start _ _

pub returns-in-Refused : goal.returns-in-Refused
returns-in-Refused c =
    let opened : held c.args.s.now c.args.tag ≡ whole c.args.s.now c.args.tag = held-open _ _ (sym c.gate.ensures ∙ c.in_default.is) in
    seek-keyless c.loop-p.invariant c.loop-p-test.true _
    (sym c.decode_key.ensures ∙ c.in-Refused.is)
    ∙ sym opened

pub returns-in-Refused-decode_value : goal.returns-in-Refused-decode_value
returns-in-Refused-decode_value c =
    let opened : held c.args.s.now c.args.tag ≡ whole c.args.s.now c.args.tag = held-open _ _ (sym c.gate.ensures ∙ c.in_default.is) in
    let keyed : key_at c.args.s.now (length c.args.s.now) c.loop-p.p c.loop-p.last ≡ key_found.Got c.in-Got.key c.in-Got.q =
    sym c.decode_key.ensures ∙ c.in-Got.is in
    seek-valueless c.loop-p.invariant c.loop-p-test.true _ _ keyed _
    (sym c.decode_value.ensures ∙ c.in-Refused-decode_value.is)
    ∙ sym opened

pub loop-p-smaller-then-last-tag : goal.loop-p-smaller-then-last-tag
loop-p-smaller-then-last-tag c =
    let keyed : key_at c.args.s.now (length c.args.s.now) c.loop-p.p c.loop-p.last ≡ key_found.Got c.in-Got.key c.in-Got.q =
    sym c.decode_key.ensures ∙ c.in-Got.is in
    let valued : value_at c.args.s.now (length c.args.s.now) c.in-Got.q c.in-Got.key.wire ≡ value_found.Got c.in-Got-decode_value.v c.in-Got-decode_value.next =
    sym c.decode_value.ensures ∙ c.in-Got-decode_value.is in
    let m = seek-moves c.loop-p.invariant c.loop-p-test.true _ _ keyed _ _ valued in
    omega (arith, m.0, m.1)

pub loop-p-preserved-then-last-tag : goal.loop-p-preserved-then-last-tag
loop-p-preserved-then-last-tag c =
    let keyed : key_at c.args.s.now (length c.args.s.now) c.loop-p.p c.loop-p.last ≡ key_found.Got c.in-Got.key c.in-Got.q =
    sym c.decode_key.ensures ∙ c.in-Got.is in
    let valued : value_at c.args.s.now (length c.args.s.now) c.in-Got.q c.in-Got.key.wire ≡ value_found.Got c.in-Got-decode_value.v c.in-Got-decode_value.next =
    sym c.decode_value.ensures ∙ c.in-Got-decode_value.is in
    seek-other c.loop-p.invariant c.loop-p-test.true _ _ keyed _ _ valued c.if-last-tag.true

pub bare-requires : goal.bare-requires
bare-requires c =
    let valued : value_at c.args.s.now (length c.args.s.now) c.in-Got.q c.in-Got.key.wire ≡ value_found.Got c.in-Got-decode_value.v c.in-Got-decode_value.next =
    sym c.decode_value.ensures ∙ c.in-Got-decode_value.is in
    let s = c.args.s.now in
    let m = value-moves s (length s) c.in-Got.q c.in-Got.key.wire c.in-Got-decode_value.v c.in-Got-decode_value.next valued in
    omega (arith, m.0)

pub overflow_add-count : goal.overflow_add-count
overflow_add-count c =
    let keyed : key_at c.args.s.now (length c.args.s.now) c.loop-p.p c.loop-p.last ≡ key_found.Got c.in-Got.key c.in-Got.q =
    sym c.decode_key.ensures ∙ c.in-Got.is in
    let valued : value_at c.args.s.now (length c.args.s.now) c.in-Got.q c.in-Got.key.wire ≡ value_found.Got c.in-Got-decode_value.v c.in-Got-decode_value.next =
    sym c.decode_value.ensures ∙ c.in-Got-decode_value.is in
    let m = seek-moves c.loop-p.invariant c.loop-p-test.true _ _ keyed _ _ valued in
    omega (arith, m.0, m.1, c.loop-p.invariant.few, c.well_formed.0.0)

pub loop-p-smaller : goal.loop-p-smaller
loop-p-smaller c =
    let keyed : key_at c.args.s.now (length c.args.s.now) c.loop-p.p c.loop-p.last ≡ key_found.Got c.in-Got.key c.in-Got.q =
    sym c.decode_key.ensures ∙ c.in-Got.is in
    let valued : value_at c.args.s.now (length c.args.s.now) c.in-Got.q c.in-Got.key.wire ≡ value_found.Got c.in-Got-decode_value.v c.in-Got-decode_value.next =
    sym c.decode_value.ensures ∙ c.in-Got-decode_value.is in
    let m = seek-moves c.loop-p.invariant c.loop-p-test.true _ _ keyed _ _ valued in
    omega (arith, m.0, m.1)

pub loop-p-preserved : goal.loop-p-preserved
loop-p-preserved c =
    let keyed : key_at c.args.s.now (length c.args.s.now) c.loop-p.p c.loop-p.last ≡ key_found.Got c.in-Got.key c.in-Got.q =
    sym c.decode_key.ensures ∙ c.in-Got.is in
    let valued : value_at c.args.s.now (length c.args.s.now) c.in-Got.q c.in-Got.key.wire ≡ value_found.Got c.in-Got-decode_value.v c.in-Got-decode_value.next =
    sym c.decode_value.ensures ∙ c.in-Got-decode_value.is in
    let l = c.loop-p in
    seek-same l.invariant c.loop-p-test.true _ _ keyed _ _ valued c.if-last-tag.false _
    (c.first-found.ensures ∙ ap (λ (x : Span). choose (eqb l.count 0) x l.found) c.bare.ensures)

pub returns : goal.returns
returns c =
    let opened : held c.args.s.now c.args.tag ≡ whole c.args.s.now c.args.tag = held-open _ _ (sym c.gate.ensures ∙ c.in_default.is) in
    seek-end c.loop-p.invariant c.loop-p-test.false ∙ sym opened
