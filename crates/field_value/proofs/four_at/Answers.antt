-- Four bytes in the slice and before the end.
use mathlib.Core.Path.{◌≡◌, ◌∙◌, ap, sym}
use mathlib.Core.Bool.{true}
use native.Mathlib.Omega.{arith}
use Prim.Native.Nat.{ℕ, ◌+◌}
use lib.ListN.{length, take, drop}
use Rattle.wire.specs.Fixed.{number}
use Rattle.field_value.specs.Inside.{inside, inside-true, within-inside, within-outside}
use Rattle.wire.specs.declared.Value.TheVariants.{ThirtyTwoBit}
use Rattle.wire.specs.declared.ValueFound.TheVariants.{Got}
use borrow.Author.Rules.{rules}
use Rattle.field_value.proofs.four_at.Goals as goal

pub four_from-requires : goal.four_from-requires
four_from-requires c =
    let there : inside (length c.args.s.now) c.args.end (c.args.at + 4) ≡ true = sym c.has.ensures ∙ c.if-has.true in
    (inside-true _ _ _ there).0

pub overflow_add-result : goal.overflow_add-result
overflow_add-result c =
    let there : inside (length c.args.s.now) c.args.end (c.args.at + 4) ≡ true = sym c.has.ensures ∙ c.if-has.true in
    omega (arith, (inside-true _ _ _ there).0)

pub returns-then-has : goal.returns-then-has
returns-then-has c =
    let there : inside (length c.args.s.now) c.args.end (c.args.at + 4) ≡ true = sym c.has.ensures ∙ c.if-has.true in
    let a = c.args in
    ap (λ (n : ℕ). Got (ThirtyTwoBit n) (a.at + 4)) c.four_from.ensures
    ∙ sym (within-inside a.s.now a.end (a.at + 4) (ThirtyTwoBit (number (take 4 (drop a.at a.s.now)))) there)

pub returns : goal.returns
returns c =
    let a = c.args in
    sym
    (within-outside a.s.now a.end (a.at + 4) (ThirtyTwoBit (number (take 4 (drop a.at a.s.now))))
    (sym c.has.ensures ∙ c.if-has.false))
