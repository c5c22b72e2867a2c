-- A lookup through an index (rules A6 and A7).
use Rattle.std.specs.Prelude.{ℕ, zero, suc, ◌-◌, ◌^◌, ◌≤◌, ◌<◌, ◌≡◌, true, false, List, [], ◌∷◌, ltb, eqb, length}
use Rattle.std.proofs.Math.Path.{refl}
use borrow.Author.Tests.{lt-ltb, le-ltb, eq-eqb, ne_eqb}
use Rattle.wire.specs.Choose.{choose}
use Rattle.wire.specs.Reading.{key_at, value_at, field_at}
use Rattle.wire.specs.declared.Refusal.{Refusal}
use Rattle.wire.specs.declared.Refusal.TheVariants.{Repeated, BadIndex}
use Rattle.wire.specs.declared.WireType.{WireType}
use Rattle.wire.specs.declared.Value.{Value}
use Rattle.wire.specs.declared.Key.{Key}
use Rattle.wire.specs.declared.Field.{Field}
use Rattle.wire.specs.declared.KeyFound.{KeyFound}
use Rattle.wire.specs.declared.KeyFound.TheVariants as key_found
use Rattle.wire.specs.declared.ValueFound.{ValueFound}
use Rattle.wire.specs.declared.ValueFound.TheVariants as value_found
use Rattle.wire.specs.declared.FieldFound.{FieldFound}
use Rattle.wire.specs.declared.FieldFound.TheVariants as field_found
use Rattle.entry_answer.specs.Gate.{gated, through, through-open, through-shut}
use Rattle.entry_answer.specs.declared.Gated.TheVariants.{Open, Shut}
use Rattle.entry_answer.specs.declared.Picked.{Picked}
use Rattle.entry_answer.specs.declared.Picked.TheVariants as picked
use Rattle.index.specs.Index.{Entry, entries_from, sound_index}
use Rattle.index_pick.specs.declared.Followed.{Followed}
use Rattle.index_pick.specs.declared.Followed.TheVariants as followed

-- ---- the fields behind the first (rule A7)

abbrev pub valued : ValueFound → (ℕ → Followed) → Followed
valued (value_found.Got v q) go = go q
valued (value_found.Refused r) go = followed.Refused r

-- a key of another tag: the index is not of this message, and the value is not read
abbrev pub keyed : ℕ → KeyFound → (WireType → ℕ → Followed) → Followed
keyed t (key_found.Got k q) go = choose (eqb k.tag t) (go k.wire q) (followed.Refused BadIndex)
keyed t (key_found.Refused r) go = followed.Refused r

-- n more fields of a tag from place p on; a message that ends before has another index
unfoldable pub follow_from : ℕ → List ℕ → ℕ → ℕ → Followed
follow_from zero s t p = followed.All
follow_from (suc n) s t p =
    choose (ltb p (length s))
    (keyed t (key_at s (length s) p t) (λ w q. valued (value_at s (length s) q w) (λ i. follow_from n s t i)))
    (followed.Refused BadIndex)

-- ---- the first (rule A6): its type and value are what stands there, behind tag 0

-- the tag that was asked for, and the value; Repeated where more than one was counted
abbrev pub only_one : ℕ → ℕ → Value → Followed → Picked
only_one t c v followed.All = choose (eqb c 1) (picked.Found (record { tag = t; value = v })) (picked.Refused Repeated)
only_one t c v (followed.Refused r) = picked.Refused r

abbrev pub looked : List ℕ → ℕ → ℕ → FieldFound → Picked
looked s t c (field_found.Got f q) = only_one t c f.value (follow_from (c - 1) s f.tag q)
looked s t c (field_found.Refused r) = picked.Refused r

unfoldable pub look_at : List ℕ → ℕ → Entry → Picked
look_at s t e = looked s t e.count (field_at s (length s) e.place 0)

-- ---- the entry of the tag: none is Absent

unfoldable pub lookup : List ℕ → ℕ → List Entry → Picked
lookup s t [] = picked.Absent
lookup s t (e ∷ es) = choose (eqb e.tag t) (look_at s t e) (lookup s t es)

-- Rule A6: an index that may not be used is BadIndex, then a message above the limit is TooLong
unfoldable pub pick_indexed : List ℕ → List ℕ → ℕ → ℕ → Picked
pick_indexed s u n t =
    choose (sound_index u n (length s) (2 ^ 64 - 1))
    (through (gated (length s) 0 (length s)) picked.Refused (lookup s t (entries_from n u 0)))
    (picked.Refused BadIndex)

-- ---- case by case

module _ (n : ℕ) (s : List ℕ) (t p : ℕ) where
  pub follow-early : length s ≤ p → follow_from (suc n) s t p ≡ followed.Refused BadIndex
  unfolding follow_from
  follow-early h = rw (le-ltb p (length s) h)

  module _ (h : p < length s) where
    pub follow-keyless : (r : Refusal) → key_at s (length s) p t ≡ key_found.Refused r → follow_from (suc n) s t p ≡ followed.Refused r
    unfolding follow_from
    follow-keyless r k = rw (lt-ltb p (length s) h, k)

    module _ (k : Key) (q : ℕ) (g : key_at s (length s) p t ≡ key_found.Got k q) where
      pub follow-other : (k.tag ≡ t → ⊥) → follow_from (suc n) s t p ≡ followed.Refused BadIndex
      unfolding follow_from
      follow-other e = rw (lt-ltb p (length s) h, g, ne_eqb k.tag t e)

      module _ (e : k.tag ≡ t) where
        pub follow-valueless : (r : Refusal) → value_at s (length s) q k.wire ≡ value_found.Refused r → follow_from (suc n) s t p ≡ followed.Refused r
        unfolding follow_from
        follow-valueless r v = rw (lt-ltb p (length s) h, g, eq-eqb k.tag t e, v)

        pub follow-on : (v : Value) (i : ℕ) → value_at s (length s) q k.wire ≡ value_found.Got v i → follow_from (suc n) s t p ≡ follow_from n s t i
        unfolding follow_from
        follow-on v i w = rw (lt-ltb p (length s) h, g, eq-eqb k.tag t e, w)

module _ (t c : ℕ) (v : Value) where
  pub only_one_lem : c ≡ 1 → only_one t c v followed.All ≡ picked.Found (record { tag = t; value = v })
  only_one_lem h = rw (eq-eqb c 1 h)

  pub only-more : (c ≡ 1 → ⊥) → only_one t c v followed.All ≡ picked.Refused Repeated
  only-more h = rw (ne_eqb c 1 h)

module _ (s : List ℕ) (t : ℕ) (e : Entry) where
  pub look-refused : (r : Refusal) → field_at s (length s) e.place 0 ≡ field_found.Refused r → look_at s t e ≡ picked.Refused r
  unfolding look_at
  look-refused r h = rw h

  pub look-field : (f : Field) (q : ℕ) → field_at s (length s) e.place 0 ≡ field_found.Got f q
      → look_at s t e ≡ only_one t e.count f.value (follow_from (e.count - 1) s f.tag q)
  unfolding look_at
  look-field f q h = rw h

module _ (s : List ℕ) (t : ℕ) where
  pub lookup-none : lookup s t [] ≡ picked.Absent
  unfolding lookup
  lookup-none = refl

  module _ (e : Entry) (es : List Entry) where
    pub lookup-here : e.tag ≡ t → lookup s t (e ∷ es) ≡ look_at s t e
    unfolding lookup
    lookup-here h = rw (eq-eqb e.tag t h)

    pub lookup-on : (e.tag ≡ t → ⊥) → lookup s t (e ∷ es) ≡ lookup s t es
    unfolding lookup
    lookup-on h = rw (ne_eqb e.tag t h)

module _ (s u : List ℕ) (n t : ℕ) where
  pub indexed-bad : sound_index u n (length s) (2 ^ 64 - 1) ≡ false → pick_indexed s u n t ≡ picked.Refused BadIndex
  unfolding pick_indexed
  indexed-bad h = rw h

  module _ (h : sound_index u n (length s) (2 ^ 64 - 1) ≡ true) where
    pub indexed-shut : (r : Refusal) → gated (length s) 0 (length s) ≡ Shut r → pick_indexed s u n t ≡ picked.Refused r
    unfolding pick_indexed
    indexed-shut r g = rw h (through-shut _ _ g)

    pub indexed-open : gated (length s) 0 (length s) ≡ Open → pick_indexed s u n t ≡ lookup s t (entries_from n u 0)
    unfolding pick_indexed
    indexed-open g = rw h (through-open _ _ g)
