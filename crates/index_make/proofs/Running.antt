-- A run of fields of one tag: the whole of it is the run from here on, with steps enough.
use Prim.Native.Nat.{ℕ, suc, ◌+◌, ◌-◌, ◌≤◌, ◌<◌}
use mathlib.Core.Path.{◌≡◌, refl, ap, ◌∙◌, sym}
use mathlib.Core.List.{List}
use native.Mathlib.Omega.{arith}
use lib.ListN.{length}
use Rattle.message.proofs.Walking.{positive}
use Rattle.field.proofs.Dispatch.{step-keyless, step-keyed}
use Rattle.wire.specs.Reading.{key_at, value_at, step_at}
use Rattle.wire.proofs.ReadingLaws.{field-moves}
use Rattle.wire.specs.StepBack.{Steps, field, refused, end, past, steps, step_field}
use Rattle.wire.specs.declared.Refusal.{Refusal}
use Rattle.wire.specs.declared.Refusal.TheVariants.{Truncated}
use Rattle.wire.specs.declared.Value.{Value}
use Rattle.wire.specs.declared.Key.{Key}
use Rattle.wire.specs.declared.Field.{Field}
use Rattle.wire.specs.declared.KeyFound.TheVariants as key_found
use Rattle.wire.specs.declared.ValueFound.{ValueFound}
use Rattle.wire.specs.declared.ValueFound.TheVariants as value_found
use Rattle.wire.specs.declared.Stepped.TheVariants as stepped
use Rattle.index_make.specs.Groups.{steps_in, run_from, run_end, run-refused, run-other, run-same}

pub record Running (s : List ℕ) (t at p c : ℕ) : Type 0 where
  pub k : ℕ
  pub fuel : length s - p < k
  pub few : c + at ≤ p + 1
  pub same : run_from (steps_in s) s t 1 at ≡ run_from k s t c p

pub run-start : (s : List ℕ) (t at : ℕ) → Running s t at at 1
run-start s t at = record { k = steps_in s; fuel = omega arith; few = omega arith; same = refl }

module _ {s : List ℕ} {t at p c : ℕ} (w : Running s t at p c) where
  unwound : run_from (steps_in s) s t 1 at ≡ run_from (suc (w.k - 1)) s t c p
  unwound = w.same ∙ ap (λ (j : ℕ). run_from j s t c p) (positive w.k (omega (arith, w.fuel)))

  pub ran-end : step_at s (length s) p t ≡ stepped.End → record { count = c; next = p } ≡ run_from (steps_in s) s t 1 at
  ran-end h = sym (unwound ∙ run_end s t c p (w.k - 1) h)

  pub ran-refused : (r : Refusal) → step_at s (length s) p t ≡ stepped.Refused r → record { count = c; next = p } ≡ run_from (steps_in s) s t 1 at
  ran-refused r h = sym (unwound ∙ run-refused s t c p (w.k - 1) r h)

  module _ (f : Field) (q : ℕ) (h : step_at s (length s) p t ≡ stepped.Field f q) where
    pub ran-other : (f.tag ≡ t → ⊥) → record { count = c; next = p } ≡ run_from (steps_in s) s t 1 at
    ran-other n = sym (unwound ∙ run-other s t c p (w.k - 1) f q h n)

    pub ran-moves : (p + 2 ≤ q) × (q ≤ length s)
    ran-moves = let v = field-moves s (length s) p t f q (step_field s (length s) p t f q h).1 in (v.0, v.1)

    pub ran_on : f.tag ≡ t → Running s t at q (c + 1)
    ran_on n =
        record {
          k = w.k - 1;
          fuel = omega (arith, w.fuel, ran-moves.0, ran-moves.1);
          few = omega (arith, w.few, ran-moves.0);
          same = unwound ∙ run-same s t c p (w.k - 1) f q h n;
        }

  -- by the key and the value that are read
  pub ran-past : length s ≤ p → record { count = c; next = p } ≡ run_from (steps_in s) s t 1 at
  ran-past h = go (steps s (length s) p t)
    where
      go : Steps s (length s) p t (step_at s (length s) p t) → record { count = c; next = p } ≡ run_from (steps_in s) s t 1 at
      go (field f q a b x) = absurd (omega (arith, h, a))
      go (refused r a b x) = absurd (omega (arith, h, a))
      go (end a x) = ran-end x
      go (past a x) = ran-refused Truncated x

  module _ (l : p < length s) where
    pub ran-keyless : (r : Refusal) → key_at s (length s) p t ≡ key_found.Refused r → record { count = c; next = p } ≡ run_from (steps_in s) s t 1 at
    ran-keyless r h = ran-refused r (step-keyless s (length s) p t l h)

    module _ (k : Key) (q : ℕ) (h : key_at s (length s) p t ≡ key_found.Got k q) where
      pub ran-valueless : (r : Refusal) → value_at s (length s) q k.wire ≡ value_found.Refused r
          → record { count = c; next = p } ≡ run_from (steps_in s) s t 1 at
      ran-valueless r v = ran-refused r (step-keyed s (length s) p t l h refl v)

      -- a key of another tag, whatever stands behind it
      pub ran-elsewhere : (k.tag ≡ t → ⊥) → record { count = c; next = p } ≡ run_from (steps_in s) s t 1 at
      ran-elsewhere n = go (value_at s (length s) q k.wire) refl
        where
          go : (x : ValueFound) → value_at s (length s) q k.wire ≡ x → record { count = c; next = p } ≡ run_from (steps_in s) s t 1 at
          go (value_found.Refused r) x = ran-valueless r x
          go (value_found.Got v i) x = ran-other (record { tag = k.tag; value = v }) i (step-keyed s (length s) p t l h refl x) n

      module _ (v : Value) (i : ℕ) (x : value_at s (length s) q k.wire ≡ value_found.Got v i) where
        stepped-to : step_at s (length s) p t ≡ stepped.Field (record { tag = k.tag; value = v }) i
        stepped-to = step-keyed s (length s) p t l h refl x

        pub ran-further : (p + 2 ≤ i) × (i ≤ length s)
        ran-further = ran-moves (record { tag = k.tag; value = v }) i stepped-to

        pub ran-one : k.tag ≡ t → Running s t at i (c + 1)
        ran-one n = ran_on (record { tag = k.tag; value = v }) i stepped-to n
