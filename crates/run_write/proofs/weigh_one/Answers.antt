-- The tag, the kind, then whether the record is good.
use mathlib.Core.Path.{◌≡◌, ◌∙◌, ap, sym}
use mathlib.Core.Bool.{Bool, true, false}
use Prim.Native.Nat.{ℕ}
use native.Mathlib.Omega.{arith}
use Rattle.wire.specs.Table.{good}
use Rattle.wire.specs.declared.Weight.TheVariants as weight
use Rattle.write_record.specs.RecordLaws.{good-sound}
use Rattle.run_write.specs.RunLaws.{weigh-run, weigh-not}
use Rattle.run_write.proofs.weigh_one.Goals as goal

pub returns-then-r-ne0 : goal.returns-then-r-ne0
returns-then-r-ne0 c = sym (weigh-not _ _ _ (λ g k t. c.if-r-ne0.true (omega (arith, t))))

pub returns-then-r-kind : goal.returns-then-r-kind
returns-then-r-kind c = sym (weigh-not _ _ _ (λ g k t. c.if-r-kind.true (omega (arith, k))))

pub value_len-requires : goal.value_len-requires
value_len-requires c e =
    let good-one : good c.args.size c.args.r ≡ true = sym c.is_good.ensures ∙ c.if-is_good.true in
    omega (arith, (good-sound c.args.size c.args.r good-one).payload e, c.well_formed)

pub returns-then-is_good : goal.returns-then-is_good
returns-then-is_good c =
    let good-one : good c.args.size c.args.r ≡ true = sym c.is_good.ensures ∙ c.if-is_good.true in
    ap weight.Bytes c.value_len.ensures ∙ sym (weigh-run _ _ _ good-one c.if-r-kind.false c.if-r-ne0.false)

pub returns : goal.returns
returns c =
    sym (weigh-not _ _ _ (λ g k t. no (sym g ∙ sym c.is_good.ensures ∙ c.if-is_good.false)))
  where
    no : ◌≡◌ {A = Bool} true false → ⊥
    no q = let z : ◌≡◌ {A = ℕ} 0 1 = cc in omega arith
