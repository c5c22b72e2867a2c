-- Eight bytes in the slice and before the end: two times four.
use mathlib.Core.Path.{◌≡◌, ◌∙◌, ap, sym}
use mathlib.Core.Bool.{true}
use native.Mathlib.Omega.{arith}
use Prim.Native.Nat.{ℕ, ◌+◌, ◌≤◌}
use lib.ListN.{length, take, drop}
use Rattle.wire.specs.Fixed.{number, eight}
use Rattle.field_value.specs.Inside.{inside, inside-true, within-inside, within-outside}
use Rattle.wire.specs.declared.Value.TheVariants.{SixtyFourBit}
use Rattle.wire.specs.declared.ValueFound.TheVariants.{Got}
use borrow.Author.Rules.{rules}
use Rattle.field_value.proofs.eight_at.Goals as goal

pub four_from-low-requires : goal.four_from-low-requires
four_from-low-requires c =
    let there : inside (length c.args.s.now) c.args.end (c.args.at + 8) ≡ true = sym c.has.ensures ∙ c.if-has.true in
    let roomy : c.args.at + 8 ≤ length c.args.s.now = (inside-true _ _ _ there).0 in
    omega (arith, roomy)

pub overflow_add-at : goal.overflow_add-at
overflow_add-at c =
    let there : inside (length c.args.s.now) c.args.end (c.args.at + 8) ≡ true = sym c.has.ensures ∙ c.if-has.true in
    let roomy : c.args.at + 8 ≤ length c.args.s.now = (inside-true _ _ _ there).0 in
    omega (arith, roomy)

pub four_from-high-requires : goal.four_from-high-requires
four_from-high-requires c =
    let there : inside (length c.args.s.now) c.args.end (c.args.at + 8) ≡ true = sym c.has.ensures ∙ c.if-has.true in
    let roomy : c.args.at + 8 ≤ length c.args.s.now = (inside-true _ _ _ there).0 in
    omega (arith, roomy)

pub overflow_add-result-then-has : goal.overflow_add-result-then-has
overflow_add-result-then-has c =
    let there : inside (length c.args.s.now) c.args.end (c.args.at + 8) ≡ true = sym c.has.ensures ∙ c.if-has.true in
    let roomy : c.args.at + 8 ≤ length c.args.s.now = (inside-true _ _ _ there).0 in
    omega (arith, roomy)

pub returns-then-has : goal.returns-then-has
returns-then-has c =
    let there : inside (length c.args.s.now) c.args.end (c.args.at + 8) ≡ true = sym c.has.ensures ∙ c.if-has.true in
    let roomy : c.args.at + 8 ≤ length c.args.s.now = (inside-true _ _ _ there).0 in
    let a = c.args in
    ap (λ (n : ℕ). Got (SixtyFourBit n) (a.at + 8))
    (omega (arith, eight a.s.now a.at roomy, c.four_from-low.ensures, c.four_from-high.ensures))
    ∙ sym (within-inside a.s.now a.end (a.at + 8) (SixtyFourBit (number (take 8 (drop a.at a.s.now)))) there)

pub returns : goal.returns
returns c =
    let a = c.args in
    sym
    (within-outside a.s.now a.end (a.at + 8) (SixtyFourBit (number (take 8 (drop a.at a.s.now))))
    (sym c.has.ensures ∙ c.if-has.false))
