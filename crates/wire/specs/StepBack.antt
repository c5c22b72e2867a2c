-- What stands behind the answer of a step.
use Rattle.std.specs.Prelude.{ℕ, ◌<◌, ◌≡◌, refl, Bool, true, false, List, ltb, eqb}
use Rattle.std.proofs.Common.{ap, ◌∙◌, sym, arith, ltb-true, ltb-false, eqb-true}
use Rattle.std.proofs.lemmas.Bool.{eqb-false}
use Rattle.wire.specs.Reading.{field_at, step_at}
use Rattle.wire.specs.StepLaws.{step-before, step-at, step_past}
use Rattle.wire.specs.declared.Refusal.{Refusal}
use Rattle.wire.specs.declared.Refusal.TheVariants.{Truncated}
use Rattle.wire.specs.declared.Field.{Field}
use Rattle.wire.specs.declared.FieldFound.{FieldFound}
use Rattle.wire.specs.declared.FieldFound.TheVariants as field_found
use Rattle.wire.specs.declared.Stepped.{Stepped}
use Rattle.wire.specs.declared.Stepped.TheVariants as stepped

abbrev pub way : Stepped → ℕ
way (stepped.Field f q) = 0
way stepped.End = 1
way (stepped.Refused r) = 2

-- the four ways of a step
pub data Steps (s : List ℕ) (e p last : ℕ) (r : Stepped) : Type 0 where
  field : (f : Field) (q : ℕ) → p < e → field_at s e p last ≡ field_found.Got f q → r ≡ stepped.Field f q → Steps s e p last r
  refused : (x : Refusal) → p < e → field_at s e p last ≡ field_found.Refused x → r ≡ stepped.Refused x → Steps s e p last r
  end : p ≡ e → r ≡ stepped.End → Steps s e p last r
  past : e < p → r ≡ stepped.Refused Truncated → Steps s e p last r

module _ (s : List ℕ) (e p last : ℕ) where
  pub steps : Steps s e p last (step_at s e p last)
  steps = go (ltb p e) refl (eqb p e) refl (field_at s e p last) refl
    where
      go : (a : Bool) → ltb p e ≡ a → (b : Bool) → eqb p e ≡ b → (o : FieldFound) → field_at s e p last ≡ o → Steps s e p last (step_at s e p last)
      go true a b x (field_found.Got f q) y = let h = ltb-true p e a in field f q h y (step-before s e p last h ∙ rw y)
      go true a b x (field_found.Refused r) y = let h = ltb-true p e a in refused r h y (step-before s e p last h ∙ rw y)
      go false a true x o y = let h = eqb-true p e x in end h (step-at s e p last h)
      go false a false x o y =
          let h : e < p = omega (arith, ltb-false p e a, eqb-false p e x) in
          past h (step_past s e p last h)

  -- a field, and the end, are told in one way each
  pub step_field : (f : Field) (q : ℕ) → step_at s e p last ≡ stepped.Field f q → (p < e) × (field_at s e p last ≡ field_found.Got f q)
  step_field f q h = go steps
    where
      go : Steps s e p last (step_at s e p last) → (p < e) × (field_at s e p last ≡ field_found.Got f q)
      go (field g i a b c) = let x : stepped.Field g i ≡ stepped.Field f q = sym c ∙ h in let y : g ≡ f = cc in let z : i ≡ q = cc in (a, b ∙ cc)
      go (refused x a b c) = absurd (omega (arith, ap way (sym c ∙ h)))
      go (end a c) = absurd (omega (arith, ap way (sym c ∙ h)))
      go (past a c) = absurd (omega (arith, ap way (sym c ∙ h)))

  pub step_end : step_at s e p last ≡ stepped.End → p ≡ e
  step_end h = go steps
    where
      go : Steps s e p last (step_at s e p last) → p ≡ e
      go (field g i a b c) = absurd (omega (arith, ap way (sym c ∙ h)))
      go (refused x a b c) = absurd (omega (arith, ap way (sym c ∙ h)))
      go (end a c) = a
      go (past a c) = absurd (omega (arith, ap way (sym c ∙ h)))
