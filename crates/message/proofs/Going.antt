-- A walk that looks for a field: the whole of it is the walk from here on, with steps enough.
use Prim.Native.Nat.{ℕ, suc, ◌+◌, ◌-◌, ◌*◌, ◌≤◌, ◌<◌}
use mathlib.Core.Path.{◌≡◌, refl, ap, ◌∙◌, sym}
use mathlib.Core.Bool.{true, false}
use mathlib.Core.Logic.{◌⊎◌, inl, inr}
use mathlib.Core.List.{List}
use native.Mathlib.Omega.{arith}
use lib.ListN.{length}
use Rattle.wire.specs.Reading.{step_at}
use Rattle.wire.proofs.ReadingLaws.{field-moves}
use Rattle.wire.specs.StepBack.{step_field}
use Rattle.wire.specs.declared.Refusal.{Refusal}
use Rattle.wire.specs.declared.Field.{Field}
use Rattle.wire.specs.declared.Stepped.TheVariants as stepped
use Rattle.message.specs.declared.Walked.TheVariants as walked_as
use Rattle.message.specs.Walks.{Aim, nothing, wanted, unwanted-exact, unwanted-above, finished, walk_from, walked}
use Rattle.message.specs.Walks.{from-refused, from_end, from-other, from-hit, from-noted, from-counted}
use Rattle.message.proofs.Walking.{positive}

-- a step to a field goes on, and stays in the slice
pub step-moves : (s : List ℕ) (p tag : ℕ) (f : Field) (q : ℕ) → step_at s (length s) p tag ≡ stepped.Field f q → (p + 2 ≤ q) × (q ≤ length s)
step-moves s p tag f q h = let m = field-moves s (length s) p tag f q (step_field s (length s) p tag f q h).1 in (m.0, m.1)

pub record Going (s : List ℕ) (at last : ℕ) (a : Aim) (p tag many : ℕ) (found : Field) : Type 0 where
  pub k : ℕ
  pub fuel : length s - p < k
  pub few : 2 * many ≤ p
  pub same : walked s at last a ≡ walk_from k s a p tag many found

pub going_start : (s : List ℕ) (at last : ℕ) (a : Aim) → Going s at last a at last 0 nothing
going_start s at last a = record { k = suc (length s); fuel = omega arith; few = omega arith; same = refl }

-- of the wanted field at the number: it is noted, or another was
abbrev pub Noted : Aim → Field → ℕ → Field → Field → Type 0
Noted a f many found x = ((many ≡ a.number) × (a.stop ≡ false) × (x ≡ f)) ⊎ ((many ≡ a.number → ⊥) × (x ≡ found))

module _ {s : List ℕ} {at last : ℕ} {a : Aim} {p tag many : ℕ} {found : Field} (w : Going s at last a p tag many found) where
  unwound : walked s at last a ≡ walk_from (suc (w.k - 1)) s a p tag many found
  unwound = w.same ∙ ap (λ (j : ℕ). walk_from j s a p tag many found) (positive w.k (omega (arith, w.fuel)))

  pub going-refused : (r : Refusal) → step_at s (length s) p tag ≡ stepped.Refused r → walked s at last a ≡ walked_as.Refused r
  going-refused r h = unwound ∙ from-refused (w.k - 1) s a p tag many found r h

  pub going_end : step_at s (length s) p tag ≡ stepped.End → walked s at last a ≡ finished a many found
  going_end h = unwound ∙ from_end (w.k - 1) s a p tag many found h

  module _ (f : Field) (q : ℕ) (h : step_at s (length s) p tag ≡ stepped.Field f q) where
    onward : (n : ℕ) (g : Field) → n ≤ many + 1 → walked s at last a ≡ walk_from (w.k - 1) s a q f.tag n g → Going s at last a q f.tag n g
    onward n g l e =
        let m = step-moves s p tag f q h in
        record { k = w.k - 1; fuel = omega (arith, w.fuel, m.0, m.1); few = omega (arith, w.few, m.0); same = e }

    other : wanted a f.tag ≡ false → Going s at last a q f.tag many found
    other n = onward many found (omega arith) (unwound ∙ from-other (w.k - 1) s a p tag many found f q h n)

    pub going-exact : a.exact ≡ true → (f.tag ≡ a.want → ⊥) → Going s at last a q f.tag many found
    going-exact b n = other (unwanted-exact a f.tag b n)

    pub going-above : a.want < f.tag → Going s at last a q f.tag many found
    going-above n = other (unwanted-above a f.tag n)

    pub going-hit : wanted a f.tag ≡ true → many ≡ a.number → a.stop ≡ true → walked s at last a ≡ walked_as.Field f q
    going-hit y n t = unwound ∙ from-hit (w.k - 1) s a p tag many found f q h y n t

    pub going_on : (x : Field) → wanted a f.tag ≡ true → Noted a f many found x → Going s at last a q f.tag (many + 1) x
    going_on x y n = onward (many + 1) x (omega arith) (unwound ∙ go n)
      where
        go : Noted a f many found x → walk_from (suc (w.k - 1)) s a p tag many found ≡ walk_from (w.k - 1) s a q f.tag (many + 1) x
        go (inl z) =
            from-noted (w.k - 1) s a p tag many found f q h y z.0 z.1
            ∙ ap (walk_from (w.k - 1) s a q f.tag (many + 1)) (sym z.2)
        go (inr z) =
            from-counted (w.k - 1) s a p tag many found f q h y z.0
            ∙ ap (walk_from (w.k - 1) s a q f.tag (many + 1)) (sym z.1)
