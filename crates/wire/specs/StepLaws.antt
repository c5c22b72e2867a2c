-- A field by its key, and a step by its place: case by case.
use Rattle.std.specs.Prelude.{ℕ, ◌<◌, ◌≡◌, List}
use Rattle.std.proofs.Math.Path.{ap}
use borrow.Author.Tests.{lt-ltb, le-ltb, eq-eqb, ne_eqb}
use Rattle.std.proofs.Common.{arith}
use Rattle.wire.specs.Reading.{key_at, value_at, tagged, field_of, field_at, step_of, step_at}
use Rattle.wire.specs.declared.Refusal.{Refusal}
use Rattle.wire.specs.declared.Refusal.TheVariants.{Truncated}
use Rattle.wire.specs.declared.Key.{Key}
use Rattle.wire.specs.declared.KeyFound.TheVariants as key_found
use Rattle.wire.specs.declared.FieldFound.TheVariants as field_found
use Rattle.wire.specs.declared.Stepped.TheVariants.{End, Refused}

module _ (s : List ℕ) (e p last : ℕ) where
  pub field-keyed : {k : Key} {q : ℕ} → key_at s e p last ≡ key_found.Got k q → field_at s e p last ≡ tagged k.tag (value_at s e q k.wire)
  unfolding field_at
  field-keyed h = ap (field_of s e) h

  pub field-keyless : {r : Refusal} → key_at s e p last ≡ key_found.Refused r → field_at s e p last ≡ field_found.Refused r
  unfolding field_at
  field-keyless h = ap (field_of s e) h

  pub step-before : p < e → step_at s e p last ≡ step_of (field_at s e p last)
  unfolding step_at
  step-before h = rw (lt-ltb p e h)

  pub step-at : p ≡ e → step_at s e p last ≡ End
  unfolding step_at
  step-at h = rw (le-ltb p e (omega arith), eq-eqb p e h)

  pub step_past : e < p → step_at s e p last ≡ Refused Truncated
  unfolding step_at
  step_past h = rw (le-ltb p e (omega arith), ne_eqb p e (λ i. omega arith))
