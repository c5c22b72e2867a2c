-- The new key, and what stands behind the old one.
use mathlib.Core.Path.{◌≡◌, ◌∙◌, ap, sym}
use native.Mathlib.Omega.{arith}
use Prim.Native.Nat.{ℕ, ◌+◌, ◌-◌, ◌*◌}
use lib.ListN.{length}
use Rattle.wire.specs.VarintLaws.{length-le}
use Rattle.wire.specs.Reading.{key_at}
use Rattle.wire.specs.declared.KeyFound.TheVariants as key_found
use Rattle.correct_write.specs.Moving.{moved_none, moved-keyless, run-key, moved_length}
use Rattle.correct_write.proofs.moved_len.Goals as goal

pub returns-then-end-at : goal.returns-then-end-at
returns-then-end-at c = sym (ap length (moved_none _ _ _ _ _ c.if-end-at.true))

pub overflow_sub-result : goal.overflow_sub-result
overflow_sub-result c =
    let keyed : key_at c.args.s.now (length c.args.s.now) c.args.at c.args.last ≡ key_found.Got c.in-Got.key c.in-Got.q =
    sym c.decode_key.ensures ∙ c.in-Got.is in
    omega (arith, (run-key c.requires.0 c.if-end-at.false _ _ keyed).1)

pub overflow_add-result : goal.overflow_add-result
overflow_add-result c =
    let n = length-le (4 * (c.in-Got.key.tag - c.args.out)) in
    omega (arith, c.key_len.ensures, n, c.requires.0.inside, c.requires.1)

pub returns-in-Refused : goal.returns-in-Refused
returns-in-Refused c = sym (ap length (moved-keyless _ _ _ _ _ c.if-end-at.false _ (sym c.decode_key.ensures ∙ c.in-Refused.is)))

pub returns-in-Got : goal.returns-in-Got
returns-in-Got c =
    let keyed : key_at c.args.s.now (length c.args.s.now) c.args.at c.args.last ≡ key_found.Got c.in-Got.key c.in-Got.q =
    sym c.decode_key.ensures ∙ c.in-Got.is in
    ap (λ (n : ℕ). n + (c.args.end - c.in-Got.q)) c.key_len.ensures
    ∙ sym (moved_length c.requires.0 c.args.out c.if-end-at.false _ _ keyed)
