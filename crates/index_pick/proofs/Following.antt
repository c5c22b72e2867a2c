-- The fields behind the first, and the entry of a tag: what is left to look at is the whole.
use Prim.Native.Nat.{ℕ, suc, ◌+◌, ◌-◌, ◌*◌, ◌≤◌, ◌<◌}
use mathlib.Core.Path.{◌≡◌, refl, ap, ◌∙◌, sym}
use mathlib.Core.List.{List, ◌∷◌}
use native.Mathlib.Omega.{arith}
use native.Mathlib.Numerals.{add-one}
use lib.ListN.{length, get_or}
use Rattle.wire.specs.Reading.{key_at, value_at}
use Rattle.wire.specs.declared.Refusal.{Refusal}
use Rattle.wire.specs.declared.Refusal.TheVariants.{BadIndex}
use Rattle.wire.specs.declared.Value.{Value}
use Rattle.wire.specs.declared.Key.{Key}
use Rattle.wire.specs.declared.KeyFound.TheVariants as key_found
use Rattle.wire.specs.declared.ValueFound.TheVariants as value_found
use Rattle.entry_answer.specs.declared.Picked.TheVariants as picked
use Rattle.index.specs.Index.{entry, index_words, entry_at, entries_from}
use Rattle.index_pick.specs.declared.Followed.TheVariants as followed
use Rattle.index_pick.specs.Looked.{follow_from, follow-early, follow-keyless, follow-other, follow-valueless, follow-on}
use Rattle.index_pick.specs.Looked.{look_at, lookup, lookup-none, lookup-here, lookup-on}

-- ---- field by field

pub record Following (s : List ℕ) (t at count p left : ℕ) : Type 0 where
  pub same : follow_from (count - 1) s t at ≡ follow_from (left - 1) s t p

pub follow-start : (s : List ℕ) (t at count : ℕ) → Following s t at count at count
follow-start s t at count = record { same = refl }

module _ {s : List ℕ} {t at count p left : ℕ} (w : Following s t at count p left) where
  pub follow-end : left ≤ 1 → followed.All ≡ follow_from (count - 1) s t at
  unfolding follow_from
  follow-end h = let z : left - 1 ≡ 0 = omega arith in sym (w.same ∙ rw z)

  module _ (h : 1 < left) where
    unwound : follow_from (count - 1) s t at ≡ follow_from (suc (left - 1 - 1)) s t p
    unwound = let z : left - 1 ≡ suc (left - 1 - 1) = omega arith in w.same ∙ ap (λ (n : ℕ). follow_from n s t p) z

    pub at-end : length s ≤ p → followed.Refused BadIndex ≡ follow_from (count - 1) s t at
    at-end a = sym (unwound ∙ follow-early (left - 1 - 1) s t p a)

    module _ (a : p < length s) where
      pub at-keyless : (r : Refusal) → key_at s (length s) p t ≡ key_found.Refused r → followed.Refused r ≡ follow_from (count - 1) s t at
      at-keyless r k = sym (unwound ∙ follow-keyless (left - 1 - 1) s t p a r k)

      module _ (k : Key) (q : ℕ) (g : key_at s (length s) p t ≡ key_found.Got k q) where
        pub at_other : (k.tag ≡ t → ⊥) → followed.Refused BadIndex ≡ follow_from (count - 1) s t at
        at_other e = sym (unwound ∙ follow-other (left - 1 - 1) s t p a k q g e)

        module _ (e : k.tag ≡ t) where
          pub at-valueless : (r : Refusal) → value_at s (length s) q k.wire ≡ value_found.Refused r → followed.Refused r ≡ follow_from (count - 1) s t at
          at-valueless r v = sym (unwound ∙ follow-valueless (left - 1 - 1) s t p a k q g e r v)

          pub at_value : (v : Value) (i : ℕ) → value_at s (length s) q k.wire ≡ value_found.Got v i → Following s t at count i (left - 1)
          at_value v i x = record { same = unwound ∙ follow-on (left - 1 - 1) s t p a k q g e v i x }

-- ---- entry by entry

pub record Finding (s u : List ℕ) (tags t n i : ℕ) : Type 0 where
  pub fits : index_words * tags ≤ length u
  pub few : n ≤ tags
  pub word : i ≡ index_words * n
  pub same : lookup s t (entries_from tags u 0) ≡ lookup s t (entries_from (tags - n) u n)

pub find-start : (s u : List ℕ) (tags t : ℕ) → index_words * tags ≤ length u → Finding s u tags t 0 0
find-start s u tags t h =
    let z : tags - 0 ≡ tags = omega arith in
    record { fits = h; few = omega arith; word = refl; same = rw z }

module _ {s u : List ℕ} {tags t n i : ℕ} (w : Finding s u tags t n i) where
  pub find-end : tags ≤ n → picked.Absent ≡ lookup s t (entries_from tags u 0)
  find-end h = let z : tags - n ≡ 0 = omega arith in sym (w.same ∙ ap (λ (k : ℕ). lookup s t (entries_from k u n)) z ∙ lookup-none s t)

  module _ (h : n < tags) where
    pub inside : i + index_words ≤ length u
    inside = omega (arith, w.fits, w.word)

    -- the entry at hand, by its words
    at-hand : entry_at u n ≡ entry (get_or u i 0) (get_or u (i + 1) 0) (get_or u (i + 2) 0)
    unfolding entry_at
    at-hand = ap (λ (j : ℕ). entry (get_or u j 0) (get_or u (j + 1) 0) (get_or u (j + 2) 0)) (sym w.word)

    unwound-entries : lookup s t (entries_from tags u 0)
        ≡ lookup s t (entry (get_or u i 0) (get_or u (i + 1) 0) (get_or u (i + 2) 0) ∷ entries_from (tags - suc n) u (suc n))
    unwound-entries =
        let z : tags - n ≡ suc (tags - suc n) = omega arith in
        w.same ∙ ap (λ (k : ℕ). lookup s t (entries_from k u n)) z
        ∙ ap (λ (e : _). lookup s t (e ∷ entries_from (tags - suc n) u (suc n))) at-hand

    pub find-here : get_or u i 0 ≡ t → look_at s t (entry t (get_or u (i + 1) 0) (get_or u (i + 2) 0)) ≡ lookup s t (entries_from tags u 0)
    find-here e =
        sym (unwound-entries ∙ lookup-here s t _ _ e ∙ ap (λ (j : ℕ). look_at s t (entry j (get_or u (i + 1) 0) (get_or u (i + 2) 0))) e)

    pub find-on : (get_or u i 0 ≡ t → ⊥) → Finding s u tags t (n + 1) (i + index_words)
    find-on e =
        record {
          fits = w.fits;
          few = omega arith;
          word = omega (arith, w.word);
          same = unwound-entries ∙ lookup-on s t _ _ e ∙ rw (add-one n);
        }
