-- Each turn passes a field whose tag is below the limit.
use mathlib.Core.Path.{◌≡◌, ◌∙◌, sym}
use native.Mathlib.Omega.{arith}
use Prim.Native.Nat.{◌+◌}
use lib.ListN.{length}
use Rattle.wire.specs.VarintLaws.{Bytes}
use Rattle.wire.specs.Reading.{key_at}
use Rattle.wire.specs.declared.KeyFound.TheVariants as key_found
use Rattle.wire.specs.declared.WireType.TheVariants.{LengthDelimited}
use Rattle.correct_write.specs.Rests.{rest-keyless, rest-valueless}
use Rattle.correct_write.specs.Brief.{Brief, brief-tag, brief-key, brief-value}
use Rattle.correct_write.specs.Moving.{pass-start, pass-moves, pass-more, pass-over, pass-end}
use Rattle.correct_write.proofs.pass.Goals as goal

pub loop-p-init : goal.loop-p-init
loop-p-init c = pass-start _ _ _ _ c.requires

pub short_len-n-requires : goal.short_len-n-requires
short_len-n-requires c = c.loop-p-test.true

pub overflow_add-higher : goal.overflow_add-higher
overflow_add-higher c =
    let brief : Brief c.args.s.now c.loop-p.p c.short_len-n.result = c.short_len-n.ensures c.if-n-gt0.true in
    omega (arith, c.rise_of.ensures, brief-tag brief c.loop-p.invariant.rest)

pub overflow_cast-higher : goal.overflow_cast-higher
overflow_cast-higher c =
    let brief : Brief c.args.s.now c.loop-p.p c.short_len-n.result = c.short_len-n.ensures c.if-n-gt0.true in
    omega (arith, c.rise_of.ensures, brief-tag brief c.loop-p.invariant.rest)

pub overflow_add-p : goal.overflow_add-p
overflow_add-p c =
    let brief : Brief c.args.s.now c.loop-p.p c.short_len-n.result = c.short_len-n.ensures c.if-n-gt0.true in
    let short-keyed : key_at c.args.s.now (length c.args.s.now) c.loop-p.p c.loop-p.tag
    ≡ key_found.Got (record { tag = c.loop-p.tag + c.rise_of.result; wire = LengthDelimited }) (c.loop-p.p + 1) =
    rw c.rise_of.ensures (brief-key brief c.loop-p.invariant.rest) in
    let w = c.loop-p.invariant in
    omega (arith, (pass-moves w c.loop-p-test.true _ _ short-keyed _ _ (brief-value brief w.rest).1).1)

pub loop-p-smaller-then-n-gt0 : goal.loop-p-smaller-then-n-gt0
loop-p-smaller-then-n-gt0 c =
    let brief : Brief c.args.s.now c.loop-p.p c.short_len-n.result = c.short_len-n.ensures c.if-n-gt0.true in
    let short-keyed : key_at c.args.s.now (length c.args.s.now) c.loop-p.p c.loop-p.tag
    ≡ key_found.Got (record { tag = c.loop-p.tag + c.rise_of.result; wire = LengthDelimited }) (c.loop-p.p + 1) =
    rw c.rise_of.ensures (brief-key brief c.loop-p.invariant.rest) in
    let w = c.loop-p.invariant in
    let m = pass-moves w c.loop-p-test.true _ _ short-keyed _ _ (brief-value brief w.rest).1 in
    omega (arith, m.0, m.1)

pub loop-p-preserved-then-n-gt0 : goal.loop-p-preserved-then-n-gt0
loop-p-preserved-then-n-gt0 c =
    let bytes : Bytes c.args.s.now = λ i. omega (arith, c.type_inv.s i) in
    let brief : Brief c.args.s.now c.loop-p.p c.short_len-n.result = c.short_len-n.ensures c.if-n-gt0.true in
    let short-keyed : key_at c.args.s.now (length c.args.s.now) c.loop-p.p c.loop-p.tag
    ≡ key_found.Got (record { tag = c.loop-p.tag + c.rise_of.result; wire = LengthDelimited }) (c.loop-p.p + 1) =
    rw c.rise_of.ensures (brief-key brief c.loop-p.invariant.rest) in
    pass-more c.loop-p.invariant c.loop-p-test.true _ _ short-keyed _ _ (brief-value brief c.loop-p.invariant.rest).1 bytes
    c.if-limit-higher.false

pub loop-p-smaller : goal.loop-p-smaller
loop-p-smaller c =
    let keyed : key_at c.args.s.now (length c.args.s.now) c.loop-p.p c.loop-p.tag ≡ key_found.Got c.in-Got.key c.in-Got.q =
    sym c.decode_key.ensures ∙ c.in-Got.is in
    let v = sym c.decode_value.ensures ∙ c.in-Got-decode_value.is in
    let m = pass-moves c.loop-p.invariant c.loop-p-test.true _ _ keyed _ _ v in
    omega (arith, m.0, m.1)

pub loop-p-preserved : goal.loop-p-preserved
loop-p-preserved c =
    let bytes : Bytes c.args.s.now = λ i. omega (arith, c.type_inv.s i) in
    let keyed : key_at c.args.s.now (length c.args.s.now) c.loop-p.p c.loop-p.tag ≡ key_found.Got c.in-Got.key c.in-Got.q =
    sym c.decode_key.ensures ∙ c.in-Got.is in
    pass-more c.loop-p.invariant c.loop-p-test.true _ _ keyed _ _
    (sym c.decode_value.ensures ∙ c.in-Got-decode_value.is)
    bytes c.if-limit-key.false

pub returns-after-loop-p : goal.returns-after-loop-p
returns-after-loop-p c = (c.loop-p.invariant, pass-end c.loop-p.invariant c.loop-p-test.false)

pub returns-then-limit-higher : goal.returns-then-limit-higher
returns-then-limit-higher c =
    let bytes : Bytes c.args.s.now = λ i. omega (arith, c.type_inv.s i) in
    let brief : Brief c.args.s.now c.loop-p.p c.short_len-n.result = c.short_len-n.ensures c.if-n-gt0.true in
    let short-keyed : key_at c.args.s.now (length c.args.s.now) c.loop-p.p c.loop-p.tag
    ≡ key_found.Got (record { tag = c.loop-p.tag + c.rise_of.result; wire = LengthDelimited }) (c.loop-p.p + 1) =
    rw c.rise_of.ensures (brief-key brief c.loop-p.invariant.rest) in
    (c.loop-p.invariant, pass-over c.loop-p.invariant c.loop-p-test.true _ _ short-keyed bytes c.if-limit-higher.true)

pub returns-in-Refused : goal.returns-in-Refused
returns-in-Refused c = rest-keyless c.loop-p.invariant.rest c.loop-p-test.true _ (sym c.decode_key.ensures ∙ c.in-Refused.is)

pub returns-then-limit-key : goal.returns-then-limit-key
returns-then-limit-key c =
    let bytes : Bytes c.args.s.now = λ i. omega (arith, c.type_inv.s i) in
    let keyed : key_at c.args.s.now (length c.args.s.now) c.loop-p.p c.loop-p.tag ≡ key_found.Got c.in-Got.key c.in-Got.q =
    sym c.decode_key.ensures ∙ c.in-Got.is in
    let w = c.loop-p.invariant in
    (w, pass-over w c.loop-p-test.true _ _ keyed bytes c.if-limit-key.true)

pub returns-in-Refused-decode_value : goal.returns-in-Refused-decode_value
returns-in-Refused-decode_value c =
    let keyed : key_at c.args.s.now (length c.args.s.now) c.loop-p.p c.loop-p.tag ≡ key_found.Got c.in-Got.key c.in-Got.q =
    sym c.decode_key.ensures ∙ c.in-Got.is in
    rest-valueless c.loop-p.invariant.rest c.loop-p-test.true _ _ keyed _
    (sym c.decode_value.ensures ∙ c.in-Refused-decode_value.is)
