-- A walk over a message, field by field: where it stands, and what a field, a refusal and the end make of that.
use Prim.Native.Nat.{ℕ, suc, ◌-◌, ◌*◌, ◌≤◌, ◌<◌}
use mathlib.Core.Path.{◌≡◌, refl, ap, ◌∙◌, sym}
use mathlib.Core.List.{List, [], ◌∷◌, ◌++◌, append_assoc, append-nil}
use native.Mathlib.Omega.{arith}
use lib.ListN.{length, length-append}
use Rattle.wire.specs.Reading.{field_at, step_at, Message, Fields, Refused, in_front, reads_from, read_message}
use Rattle.wire.proofs.ReadingLaws.{field-moves}
use Rattle.wire.specs.StepBack.{way, Steps, field, refused, end, past, steps, step_field, step_end}
use Rattle.wire.specs.Theorem.{turn-field, turn-refused, turn_end, turn-past}
use Rattle.wire.specs.declared.Refusal.{Refusal}
use Rattle.wire.specs.declared.Refusal.TheVariants.{Truncated}
use Rattle.wire.specs.declared.Field.{Field}
use Rattle.wire.specs.declared.FieldFound.TheVariants as field_found
use Rattle.wire.specs.declared.Stepped.TheVariants as stepped

-- the fields that were read, ahead of the rest
abbrev ahead : List Field → Message → Message
ahead fs (Fields gs) = Fields (fs ++ gs)
ahead fs (Refused r p) = Refused r p

ahead_none : (m : Message) → m ≡ ahead [] m
ahead_none (Fields gs) = refl
ahead_none (Refused r p) = refl

ahead-in-front : (fs : List Field) (f : Field) (m : Message) → ahead fs (in_front f m) ≡ ahead (fs ++ f ∷ []) m
ahead-in-front fs f (Fields gs) = ap Fields (sym (append_assoc fs (f ∷ []) gs))
ahead-in-front fs f (Refused r p) = refl

-- fs was read from start on; the last of them starts at m and has the tag last; the next place is p
pub record Walk (s : List ℕ) (start e m p last : ℕ) (fs : List Field) : Type 0 where
  pub k : ℕ
  pub fuel : e - p ≤ k
  pub counted : 2 * length fs ≤ p
  pub same : read_message s start e ≡ ahead fs (reads_from k s e m p last)

pub walk_start : (s : List ℕ) (start e : ℕ) → Walk s start e start start 0 []
unfolding read_message
walk_start s start e = record { k = e - start; fuel = omega arith; counted = omega arith; same = ahead_none (read_message s start e) }

-- what is left to do takes a turn
pub positive : (n : ℕ) → 0 < n → n ≡ suc (n - 1)
positive n h = omega arith

module _ {s : List ℕ} {start e m p last : ℕ} {fs : List Field} (w : Walk s start e m p last fs) where
  unwound : p < e → read_message s start e ≡ ahead fs (reads_from (suc (w.k - 1)) s e m p last)
  unwound a = w.same ∙ ap (λ (j : ℕ). ahead fs (reads_from j s e m p last)) (positive w.k (omega (arith, w.fuel)))

  pub walk_field : p < e → (f : Field) (q : ℕ) → field_at s e p last ≡ field_found.Got f q → Walk s start e p q f.tag (fs ++ f ∷ [])
  walk_field a f q h =
      let v = field-moves s e p last f q h in
      record {
        k = w.k - 1;
        fuel = omega (arith, w.fuel, v.0);
        counted = omega (arith, w.counted, v.0, length-append fs (f ∷ []));
        same = unwound a ∙ ap (ahead fs) (turn-field s e m p last (w.k - 1) f q a h) ∙ ahead-in-front fs f (reads_from (w.k - 1) s e p q f.tag);
      }

  pub walk_refused : p < e → (r : Refusal) → field_at s e p last ≡ field_found.Refused r → read_message s start e ≡ Refused r p
  walk_refused a r h = unwound a ∙ ap (ahead fs) (turn-refused s e m p last (w.k - 1) r a h)

  pub walk_end : p ≡ e → read_message s start e ≡ Fields fs
  walk_end a = w.same ∙ ap (ahead fs) (turn_end s e m p last w.k a) ∙ ap Fields (append-nil fs)

  pub walk-past : e < p → read_message s start e ≡ Refused Truncated m
  walk-past a = w.same ∙ ap (ahead fs) (turn-past s e m p last w.k a)

  -- the same by steps
  pub walk_step : (f : Field) (q : ℕ) → step_at s e p last ≡ stepped.Field f q → Walk s start e p q f.tag (fs ++ f ∷ [])
  walk_step f q h = let x = step_field s e p last f q h in walk_field x.0 f q x.1

  pub walk-steps-end : step_at s e p last ≡ stepped.End → read_message s start e ≡ Fields fs
  walk-steps-end h = walk_end (step_end s e p last h)

  pub walk-step-refused : (r : Refusal) → step_at s e p last ≡ stepped.Refused r → (at : ℕ) × (read_message s start e ≡ Refused r at)
  walk-step-refused r h = go (steps s e p last)
    where
      go : Steps s e p last (step_at s e p last) → (at : ℕ) × (read_message s start e ≡ Refused r at)
      go (field f q a b c) = absurd (omega (arith, ap way (sym c ∙ h)))
      go (refused x a b c) = let y : stepped.Refused x ≡ stepped.Refused r = sym c ∙ h in let z : x ≡ r = cc in (p, walk_refused a x b ∙ cc)
      go (end a c) = absurd (omega (arith, ap way (sym c ∙ h)))
      go (past a c) = let y : stepped.Refused Truncated ≡ stepped.Refused r = sym c ∙ h in let z : Truncated ≡ r = cc in (m, walk-past a ∙ cc)

  -- the rest of a message that is good
  pub walk-rest : (all : List Field) → read_message s start e ≡ Fields all → (gs : List Field) × (all ≡ fs ++ gs)
  walk-rest all h = go (reads_from w.k s e m p last) (sym w.same ∙ h)
    where
      go : (x : Message) → ahead fs x ≡ Fields all → (gs : List Field) × (all ≡ fs ++ gs)
      go (Fields gs) y = let z : fs ++ gs ≡ all = cc in (gs, sym z)
      go (Refused r at) y = let z : ◌≡◌ {A = ℕ} 0 1 = cc in absurd (omega arith)
