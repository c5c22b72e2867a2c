-- Fields counted by steps: where the count stands, and what a field, the end and a refusal make of it.
use Prim.Native.Nat.{ℕ, ◌+◌, ◌≤◌, ◌<◌}
use mathlib.Core.Path.{◌≡◌, refl, ap, ◌∙◌, sym}
use mathlib.Core.Logic.{◌⊎◌, inl, inr}
use mathlib.Core.List.{List, [], ◌∷◌, ◌++◌}
use native.Mathlib.Omega.{arith}
use lib.ListN.{length, length-append}
use Rattle.wire.specs.Faults.{nowhere}
use Rattle.wire.specs.Reading.{step_at}
use Rattle.wire.proofs.ReadingLaws.{field-moves}
use Rattle.wire.specs.StepBack.{step_field}
use Rattle.wire.specs.declared.Fault.{Fault}
use Rattle.wire.specs.declared.Refusal.{Refusal}
use Rattle.wire.specs.declared.Field.{Field}
use Rattle.wire.specs.declared.Stepped.{Stepped}
use Rattle.wire.specs.declared.Stepped.TheVariants as stepped
use Rattle.message.proofs.Walking.{Walk, walk_start, walk_step, walk-steps-end, walk-step-refused}
use Rattle.entry_answer.specs.Gate.{gated, through, through-shut, through-open, gated-open, gated-opens}
use Rattle.entry_field.specs.Fields.{step_answer, step_entry}
use Rattle.entry_answer.specs.declared.Gated.{Gated}
use Rattle.entry_answer.specs.declared.Gated.TheVariants.{Open, Shut}
use Rattle.entry_answer.specs.declared.Step.{Step}
use Rattle.entry_answer.specs.declared.Step.TheVariants as step
use Rattle.entry_reader.specs.Counting.{counted, count_entry}
use Rattle.entry_reader.specs.declared.Counted.TheVariants as counted_as

-- ---- a step behind an open gate

way : Step → ℕ
way (step.Field f q) = 0
way step.End = 1
way (step.Refused r p t f) = 2

module _ (s : List ℕ) (p e last : ℕ) where
  field-of : (f : Field) (q : ℕ) → step_entry s p e last ≡ step.Field f q → (gated (length s) p e ≡ Open) × (step_at s e p last ≡ stepped.Field f q)
  unfolding step_entry way
  field-of f q h = go (gated (length s) p e) refl (step_at s e p last) refl h
    where
      go : (g : Gated) → gated (length s) p e ≡ g → (x : Stepped) → step_at s e p last ≡ x
          → through g (λ r. step.Refused r p last nowhere) (step_answer s p e last x) ≡ step.Field f q
          → (gated (length s) p e ≡ Open) × (step_at s e p last ≡ stepped.Field f q)
      go (Shut r) a x b i = absurd (omega (arith, ap way i))
      go Open a (stepped.Field g r) b i = let y : g ≡ f = cc in let z : r ≡ q = cc in (a, b ∙ cc)
      go Open a stepped.End b i = absurd (omega (arith, ap way i))
      go Open a (stepped.Refused r) b i = absurd (omega (arith, ap way i))

  end_of : step_entry s p e last ≡ step.End → (gated (length s) p e ≡ Open) × (step_at s e p last ≡ stepped.End)
  unfolding step_entry way
  end_of h = go (gated (length s) p e) refl (step_at s e p last) refl h
    where
      go : (g : Gated) → gated (length s) p e ≡ g → (x : Stepped) → step_at s e p last ≡ x
          → through g (λ r. step.Refused r p last nowhere) (step_answer s p e last x) ≡ step.End
          → (gated (length s) p e ≡ Open) × (step_at s e p last ≡ stepped.End)
      go (Shut r) a x b i = absurd (omega (arith, ap way i))
      go Open a (stepped.Field g r) b i = absurd (omega (arith, ap way i))
      go Open a stepped.End b i = (a, b)
      go Open a (stepped.Refused r) b i = absurd (omega (arith, ap way i))

  refusal-of : (r : Refusal) (at t : ℕ) (f : Fault) → step_entry s p e last ≡ step.Refused r at t f
      → (gated (length s) p e ≡ Shut r) ⊎ ((gated (length s) p e ≡ Open) × (step_at s e p last ≡ stepped.Refused r))
  unfolding step_entry way
  refusal-of r at t f h = go (gated (length s) p e) refl (step_at s e p last) refl h
    where
      go : (g : Gated) → gated (length s) p e ≡ g → (x : Stepped) → step_at s e p last ≡ x
          → through g (λ r. step.Refused r p last nowhere) (step_answer s p e last x) ≡ step.Refused r at t f
          → (gated (length s) p e ≡ Shut r) ⊎ ((gated (length s) p e ≡ Open) × (step_at s e p last ≡ stepped.Refused r))
      go (Shut y) a x b i = let z : y ≡ r = cc in inl (a ∙ cc)
      go Open a (stepped.Field g q) b i = absurd (omega (arith, ap way i))
      go Open a stepped.End b i = absurd (omega (arith, ap way i))
      go Open a (stepped.Refused y) b i = let z : y ≡ r = cc in inr (a, b ∙ cc)

-- ---- n fields were counted from a on; the next place is p, behind a field of the tag last; and the gate is there what it was at first

pub record Counting (s : List ℕ) (a e p last n : ℕ) : Type 0 where
  pub mark : ℕ
  pub fields : List Field
  pub walk : Walk s a e mark p last fields
  pub count : n ≡ length fields
  pub gate : gated (length s) p e ≡ gated (length s) a e

pub start : (s : List ℕ) (a e : ℕ) → Counting s a e a 0 0
start s a e = record { mark = a; fields = []; walk = walk_start s a e; count = refl; gate = refl }

-- a field moves on, before the end and inside the message
pub moves : (s : List ℕ) (p e last : ℕ) (f : Field) (q : ℕ) → step_entry s p e last ≡ step.Field f q → (p < q) × (q ≤ length s) × (p < e)
moves s p e last f q h =
    let x = step_field s e p last f q (field-of s p e last f q h).1 in
    let m = field-moves s e p last f q x.1 in
    (omega (arith, m.0), m.1, x.0)

module _ {s : List ℕ} {a e p last n : ℕ} (c : Counting s a e p last n) where
  pub one_more : (f : Field) (q : ℕ) → step_entry s p e last ≡ step.Field f q → Counting s a e q f.tag (n + 1)
  one_more f q h =
      let x = field-of s p e last f q h in
      let o = gated-opens (length s) p e x.0 in
      record {
        mark = p;
        fields = c.fields ++ f ∷ [];
        walk = walk_step c.walk f q x.1;
        count = omega (arith, c.count, length-append c.fields (f ∷ []));
        gate = gated-open (length s) q e o.0 (moves s p e last f q h).1 o.2 ∙ sym x.0 ∙ c.gate;
      }

  pub ends : step_entry s p e last ≡ step.End → counted_as.Fields n ≡ count_entry s a e
  unfolding count_entry
  ends h =
      let x = end_of s p e last h in
      sym (through-open _ _ (sym c.gate ∙ x.0) ∙ ap counted (walk-steps-end c.walk x.1) ∙ ap counted_as.Fields (sym c.count))

  pub refuses : (r : Refusal) (at t : ℕ) (f : Fault) → step_entry s p e last ≡ step.Refused r at t f → counted_as.Refused r ≡ count_entry s a e
  unfolding count_entry
  refuses r at t f h = go (refusal-of s p e last r at t f h)
    where
      go : (gated (length s) p e ≡ Shut r) ⊎ ((gated (length s) p e ≡ Open) × (step_at s e p last ≡ stepped.Refused r)) → counted_as.Refused r ≡ count_entry s a e
      go (inl x) = sym (through-shut _ _ (sym c.gate ∙ x))
      go (inr x) = sym (through-open _ _ (sym c.gate ∙ x.0) ∙ ap counted (walk-step-refused c.walk r x.1).1)
