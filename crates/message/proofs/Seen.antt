-- Looking for one field of a tag: what the fields passed so far have shown.
use Prim.Native.Nat.{ℕ, suc, ◌+◌, ◌≤◌, ◌<◌}
use mathlib.Core.Path.{◌≡◌, refl, ap, ◌∙◌, sym}
use mathlib.Core.Bool.{Bool, true, false}
use mathlib.Core.List.{List, [], ◌∷◌, ◌++◌}
use mathlib.Core.Logic.{◌⊎◌, inl, inr}
use native.Mathlib.Omega.{arith}
use lib.Dec.{eqb}
use lib.ListN.{length, drop, length-append, drop_of_length-le}
use lib.Seq.{drop_at, drop-append-le}
use Rattle.wire.specs.declared.Field.{Field}
use Rattle.message.specs.declared.Sought.TheVariants.{Found, Absent}
use Rattle.message.specs.Tags.{of_tag, first_of, at_number, of_other, of-same}

-- count fields of the tag t are among fs; if that is more than k, the one at number k is found
pub record Seen (t k : ℕ) (fs : List Field) (count : ℕ) (found : Field) : Type 0 where
  pub counted : count ≡ length (of_tag t fs)
  pub there : k < count → (gs : List Field) × (drop k (of_tag t fs) ≡ found ∷ gs)

pub seen_none : (t k : ℕ) (f : Field) → Seen t k [] 0 f
seen_none t k f = record { counted = refl; there = λ h. absurd (omega arith) }

of-few : (t : ℕ) (fs : List Field) → length (of_tag t fs) ≤ length fs
of-few t [] = omega arith
of-few t (f ∷ fs) = go (eqb f.tag t) refl (of-few t fs)
  where
    go : (b : Bool) → eqb f.tag t ≡ b → length (of_tag t fs) ≤ length fs → length (of_tag t (f ∷ fs)) ≤ suc (length fs)
    go true b ih = simp b (omega (arith, ih))
    go false b ih = simp b (omega (arith, ih))

module _ {t k : ℕ} {fs : List Field} {count : ℕ} {found : Field} (w : Seen t k fs count found) where
  pub seen_few : count ≤ length fs
  seen_few = omega (arith, w.counted, of-few t fs)

  -- a field of another tag
  pub seen_other : (f : Field) → (f.tag ≡ t → ⊥) → Seen t k (fs ++ f ∷ []) count found
  seen_other f h = let e = of_other t fs f h in record { counted = rw e w.counted; there = λ g. rw e (w.there g) }

  -- a field of the tag: it is the one looked for if k were passed before it
  behind : (f x : Field) → ((count ≡ k) × (x ≡ f)) ⊎ ((count ≡ k → ⊥) × (x ≡ found)) → k < count + 1
      → (gs : List Field) × (drop k (of_tag t fs ++ f ∷ []) ≡ x ∷ gs)
  behind f x (inl y) g = ([], rw y.1 (drop_at (of_tag t fs) (f ∷ []) k (omega (arith, w.counted, y.0))))
  behind f x (inr y) g =
      let z = w.there (omega (arith, y.0)) in
      (z.0 ++ f ∷ [], drop-append-le k (of_tag t fs) (f ∷ []) (omega (arith, w.counted, y.0)) ∙ rw (y.1, z.1))

  pub seen_same : (f x : Field) → f.tag ≡ t → ((count ≡ k) × (x ≡ f)) ⊎ ((count ≡ k → ⊥) × (x ≡ found)) → Seen t k (fs ++ f ∷ []) (count + 1) x
  seen_same f x h y =
      let e = of-same t fs f h in
      record { counted = rw e (omega (arith, length-append (of_tag t fs) (f ∷ []), w.counted)); there = λ g. rw e (behind f x y g) }

  pub seen-found : k < count → at_number k (of_tag t fs) ≡ Found found count
  unfolding at_number
  seen-found h = ap (first_of (length (of_tag t fs))) (w.there h).1 ∙ ap (Found found) (sym w.counted)

  pub seen-absent : count ≤ k → at_number k (of_tag t fs) ≡ Absent count
  unfolding at_number
  seen-absent h = ap (first_of (length (of_tag t fs))) (drop_of_length-le (of_tag t fs) {i = k} (omega (arith, w.counted))) ∙ ap Absent (sym w.counted)
