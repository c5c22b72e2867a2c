-- The entries on values and single fields: a refused reader answers the place it was given, the last tag if it takes one (rule R5), and where the read
-- failed (rules F3 to F6).
use Rattle.std.specs.Prelude.{ℕ, ◌≡◌, List, length}
use Rattle.std.proofs.Common.{ap, ◌∙◌, sym}
use Rattle.wire.specs.Faults.{nowhere}
use Rattle.wire.specs.Reading.{value_at, step_at}
use Rattle.wire.specs.Skipping.{skip_at}
use Rattle.wire.specs.VarintLaws.{Bytes}
use Rattle.wire.specs.declared.Fault.{Fault}
use Rattle.wire.specs.declared.Refusal.{Refusal}
use Rattle.wire.specs.declared.WireType.{WireType}
use Rattle.wire.specs.declared.ValueFound.{ValueFound}
use Rattle.wire.specs.declared.ValueFound.TheVariants as value_found
use Rattle.wire.specs.declared.Reached.{Reached}
use Rattle.wire.specs.declared.Reached.TheVariants as reached
use Rattle.wire.specs.declared.Stepped.{Stepped}
use Rattle.wire.specs.declared.Stepped.TheVariants as stepped
use Rattle.fault.specs.Fault.{value_fault, step_fault}
use Rattle.fault.specs.Short.{value_short, value-short, fault_at}
use Rattle.fault.proofs.Short.{step-short}
use Rattle.entry_answer.specs.Gate.{gated, through}
use Rattle.entry_answer.specs.declared.ValueRead.{ValueRead}
use Rattle.entry_answer.specs.declared.ValueRead.TheVariants as value_read
use Rattle.entry_answer.specs.declared.Skipped.{Skipped}
use Rattle.entry_answer.specs.declared.Skipped.TheVariants as skipped
use Rattle.entry_answer.specs.declared.Step.{Step}
use Rattle.entry_answer.specs.declared.Step.TheVariants as step

abbrev pub value_answer : List ℕ → ℕ → WireType → ValueFound → ValueRead
value_answer s at w (value_found.Got v q) = value_read.Got v q
value_answer s at w (value_found.Refused r) = value_read.Refused r at (value_fault s at w)

unfoldable pub decode_value : List ℕ → ℕ → ℕ → WireType → ValueRead
decode_value s at e w = through (gated (length s) at e) (λ r. value_read.Refused r at nowhere) (value_answer s at w (value_at s e at w))

abbrev pub skip_answer : ℕ → Reached → Skipped
skip_answer at (reached.To q) = skipped.To q
skip_answer at (reached.Refused r f) = skipped.Refused r at f

unfoldable pub skip_field : List ℕ → ℕ → ℕ → WireType → Skipped
skip_field s at e w = through (gated (length s) at e) (λ r. skipped.Refused r at nowhere) (skip_answer at (skip_at s e at w))

abbrev pub step_answer : List ℕ → ℕ → ℕ → ℕ → Stepped → Step
step_answer s at e last (stepped.Field f q) = step.Field f q
step_answer s at e last stepped.End = step.End
step_answer s at e last (stepped.Refused r) = step.Refused r at last (step_fault s e at last)

unfoldable pub step_entry : List ℕ → ℕ → ℕ → ℕ → Step
step_entry s at e last = through (gated (length s) at e) (λ r. step.Refused r at last nowhere) (step_answer s at e last (step_at s e at last))

-- a refusal, and where it failed by the short way
module _ (s : List ℕ) (e at : ℕ) {r : Refusal} {f : Fault} (b : Bytes s) where
  pub value-refused : (w : WireType) → f ≡ value_short s at w → value_at s e at w ≡ value_found.Refused r
      → value_read.Refused r at f ≡ value_answer s at w (value_at s e at w)
  value-refused w h o = ap (value_read.Refused r at) (h ∙ sym (value-short s e at w r b o)) ∙ sym (ap (value_answer s at w) o)

  pub step-refused : (last : ℕ) → f ≡ fault_at s e r at → step_at s e at last ≡ stepped.Refused r
      → step.Refused r at last f ≡ step_answer s at e last (step_at s e at last)
  step-refused last h o = ap (step.Refused r at last) (h ∙ sym (step-short s e at last r b o)) ∙ sym (ap (step_answer s at e last) o)
