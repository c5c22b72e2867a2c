-- The reader's test (rule M9), and how it and a step belong together.
use Rattle.std.specs.Prelude.{ℕ, ◌<◌, ◌≡◌, Bool, List, length}
use Rattle.std.proofs.Math.Path.{refl}
use Rattle.std.proofs.Common.{ap, ◌∙◌, sym, arith}
use Rattle.std.proofs.Math.Bool.{true, false}
use borrow.Author.Tests.{lt-ltb, le-ltb, eq-eqb, ne_eqb}
use Rattle.std.proofs.Math.Dec.{ltb, eqb}
use Rattle.wire.specs.Choose.{choose}
use Rattle.wire.specs.Faults.{plain_fault, nowhere}
use Rattle.wire.specs.Numbers.{number_of}
use Rattle.wire.specs.Reading.{field_at, step_of, step_at}
use Rattle.wire.specs.declared.Fault.{Fault}
use Rattle.wire.specs.declared.Refusal.{Refusal}
use Rattle.wire.specs.declared.Refusal.TheVariants.{Truncated}
use Rattle.wire.specs.declared.FieldFound.{FieldFound}
use Rattle.wire.specs.declared.FieldFound.TheVariants as field_found
use Rattle.fault.specs.Fault.{step_fault}
use Rattle.entry_answer.specs.Gate.{gated, through, gated-number}
use Rattle.entry_field.specs.Fields.{step_answer, step_entry}
use Rattle.entry_answer.specs.declared.Gated.{Gated}
use Rattle.entry_answer.specs.declared.Gated.TheVariants.{Open, Shut}
use Rattle.entry_answer.specs.declared.Step.{Step}
use Rattle.entry_answer.specs.declared.Step.TheVariants as step
use Rattle.entry_answer.specs.declared.More.{More}
use Rattle.entry_answer.specs.declared.More.TheVariants as more

-- Rules M1 and M9: the place before the end: there is more; at it: there is not; past it: Truncated
unfoldable pub more_of : ℕ → ℕ → More
more_of at e = choose (ltb at e) more.Yes (choose (eqb at e) more.No (more.Refused Truncated))

-- Rules R3 and R8: TooLong and BadCap come first, and a refusal answers its number alone
unfoldable pub more_entry : List ℕ → ℕ → ℕ → More
more_entry s at e = through (gated (length s) at e) more.Refused (more_of at e)

module _ (at e : ℕ) where
  pub more_yes : at < e → more_of at e ≡ more.Yes
  unfolding more_of
  more_yes h = rw (lt-ltb at e h)

  pub more_no : at ≡ e → more_of at e ≡ more.No
  unfolding more_of
  more_no h = rw (le-ltb at e (omega arith), eq-eqb at e h)

  pub more-past : e < at → more_of at e ≡ more.Refused Truncated
  unfolding more_of
  more-past h = rw (le-ltb at e (omega arith), ne_eqb at e (λ i. omega arith))

-- ---- a step is what the test says, and where there is more, what the field is

-- Rules F5 and F6: a place past the end is itself to blame; 4 and 8 come before all reading
abbrev pub test_fault : ℕ → Refusal → Fault
test_fault at r = choose (eqb (number_of r) 1) (plain_fault at) nowhere

abbrev pub by_test : ℕ → ℕ → More → Step → Step
by_test at last more.Yes f = f
by_test at last more.No f = step.End
by_test at last (more.Refused r) f = step.Refused r at last (test_fault at r)

-- the field's own answer
abbrev pub field_step : List ℕ → ℕ → ℕ → ℕ → Step
field_step s at e last = step_answer s at e last (step_of (field_at s e at last))

module _ (s : List ℕ) (at e last : ℕ) where
  past-fault : ltb at e ≡ false → step_fault s e at last ≡ plain_fault at
  unfolding step_fault
  past-fault a = rw a

  by_place : step_answer s at e last (step_at s e at last) ≡ by_test at last (more_of at e) (field_step s at e last)
  unfolding more_of step_at
  by_place = go (ltb at e) refl (eqb at e) refl
    where
      go : (a : Bool) → ltb at e ≡ a → (b : Bool) → eqb at e ≡ b
          → step_answer s at e last (step_at s e at last) ≡ by_test at last (more_of at e) (field_step s at e last)
      go true a b x = rw a
      go false a true x = rw (a, x)
      go false a false x = rw (a, x) (ap (step.Refused Truncated at last) (past-fault a))

  by-gate : (g : Gated) → gated (length s) at e ≡ g
      → through g (λ r. step.Refused r at last nowhere) (step_answer s at e last (step_at s e at last))
      ≡ by_test at last (through g more.Refused (more_of at e)) (field_step s at e last)
  by-gate Open h = by_place
  by-gate (Shut r) h = rw (ne_eqb (number_of r) 1 (λ i. omega (arith, gated-number (length s) at e r h, i)))

  pub step-by-test : step_entry s at e last ≡ by_test at last (more_entry s at e) (field_step s at e last)
  unfolding step_entry more_entry
  step-by-test = by-gate (gated (length s) at e) refl

  -- no more: the step is the end
  pub no-more-end : more_entry s at e ≡ more.No → step_entry s at e last ≡ step.End
  no-more-end h = step-by-test ∙ ap (λ (m : More). by_test at last m (field_step s at e last)) h

  -- a refused test is a refused step
  pub refused-step : (r : Refusal) → more_entry s at e ≡ more.Refused r → step_entry s at e last ≡ step.Refused r at last (test_fault at r)
  refused-step r h = step-by-test ∙ ap (λ (m : More). by_test at last m (field_step s at e last)) h

  -- the step is the end: no more
  pub end-no-more : step_entry s at e last ≡ step.End → more_entry s at e ≡ more.No
  end-no-more h = go (more_entry s at e) (field_at s e at last) (sym step-by-test ∙ h)
    where
      ends : Step → ℕ
      ends (step.Field f q) = 0
      ends step.End = 1
      ends (step.Refused r p t f) = 0

      go : (m : More) (f : FieldFound) → by_test at last m (step_answer s at e last (step_of f)) ≡ step.End → m ≡ more.No
      go more.No f x = refl
      go more.Yes (field_found.Got f q) x = absurd (omega (arith, ap ends x))
      go more.Yes (field_found.Refused r) x = absurd (omega (arith, ap ends x))
      go (more.Refused r) f x = absurd (omega (arith, ap ends x))
