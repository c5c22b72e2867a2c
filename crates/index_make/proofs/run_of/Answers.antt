-- Each turn takes one more field of the tag.
use mathlib.Core.Path.{◌≡◌, ◌∙◌, sym}
use native.Mathlib.Omega.{arith}
use lib.ListN.{length}
use Rattle.wire.specs.Reading.{key_at}
use Rattle.wire.specs.declared.KeyFound.TheVariants as key_found
use Rattle.index_make.proofs.Running.{run-start, ran-past, ran-keyless, ran-elsewhere, ran-valueless, ran-further, ran-one}
use Rattle.index_make.proofs.run_of.Goals as goal

pub loop-p-init : goal.loop-p-init
loop-p-init c = run-start _ _ _

pub overflow_add-count : goal.overflow_add-count
overflow_add-count c =
    let keyed : key_at c.args.s.now (length c.args.s.now) c.loop-p.p c.args.tag ≡ key_found.Got c.in-Got.key c.in-Got.q = sym c.decode_key.ensures ∙ c.in-Got.is in
    let v = sym c.decode_value.ensures ∙ c.in-Got-decode_value.is in
    let m = ran-further c.loop-p.invariant c.loop-p-test.true _ _ keyed _ _ v in
    omega (arith, m.0, m.1, c.loop-p.invariant.few, c.well_formed.0.0)

pub loop-p-smaller : goal.loop-p-smaller
loop-p-smaller c =
    let keyed : key_at c.args.s.now (length c.args.s.now) c.loop-p.p c.args.tag ≡ key_found.Got c.in-Got.key c.in-Got.q = sym c.decode_key.ensures ∙ c.in-Got.is in
    let v = sym c.decode_value.ensures ∙ c.in-Got-decode_value.is in
    let m = ran-further c.loop-p.invariant c.loop-p-test.true _ _ keyed _ _ v in
    omega (arith, m.0, m.1)

pub loop-p-preserved : goal.loop-p-preserved
loop-p-preserved c =
    let keyed : key_at c.args.s.now (length c.args.s.now) c.loop-p.p c.args.tag ≡ key_found.Got c.in-Got.key c.in-Got.q = sym c.decode_key.ensures ∙ c.in-Got.is in
    ran-one c.loop-p.invariant c.loop-p-test.true _ _ keyed _ _
    (sym c.decode_value.ensures ∙ c.in-Got-decode_value.is)
    c.if-key-tag.false

pub returns-after-loop-p : goal.returns-after-loop-p
returns-after-loop-p c = ran-past c.loop-p.invariant c.loop-p-test.false

pub returns-in-Refused : goal.returns-in-Refused
returns-in-Refused c = ran-keyless c.loop-p.invariant c.loop-p-test.true _ (sym c.decode_key.ensures ∙ c.in-Refused.is)

pub returns-then-key-tag : goal.returns-then-key-tag
returns-then-key-tag c =
    let keyed : key_at c.args.s.now (length c.args.s.now) c.loop-p.p c.args.tag ≡ key_found.Got c.in-Got.key c.in-Got.q = sym c.decode_key.ensures ∙ c.in-Got.is in
    ran-elsewhere c.loop-p.invariant c.loop-p-test.true _ _ keyed c.if-key-tag.true

pub returns-in-Refused-decode_value : goal.returns-in-Refused-decode_value
returns-in-Refused-decode_value c =
    let keyed : key_at c.args.s.now (length c.args.s.now) c.loop-p.p c.args.tag ≡ key_found.Got c.in-Got.key c.in-Got.q = sym c.decode_key.ensures ∙ c.in-Got.is in
    ran-valueless c.loop-p.invariant c.loop-p-test.true _ _ keyed _ (sym c.decode_value.ensures ∙ c.in-Refused-decode_value.is)
