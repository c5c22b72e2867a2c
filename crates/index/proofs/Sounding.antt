-- Entry by entry: all of them are sound exactly if the rest is.
use Prim.Native.Nat.{ℕ, suc, ◌+◌, ◌-◌, ◌*◌, ◌^◌, ◌≤◌, ◌<◌}
use mathlib.Core.Path.{◌≡◌, refl, ap, ◌∙◌, sym}
use mathlib.Core.Bool.{Bool, true, false}
use mathlib.Core.List.{List, ◌∷◌}
use native.Mathlib.Omega.{arith}
use native.Mathlib.Numerals.{add-one}
use borrow.Author.Tests.{le-leb, lt-leb, lt-ltb, le-ltb, leb-true, leb-false, ltb-true, ltb-false}
use lib.Dec.{ltb, leb}
use lib.ListN.{length, get_or}
use Rattle.index.specs.Index.{Entry, entry, index_words, room, entry_at, entries_from, sound_entry, sound_from, sound_index}

-- ---- one entry: each test that fails, and all that hold

module _ (places counts least tag place count : ℕ) where
  pub entry-low : tag < least → false ≡ sound_entry places counts least (entry tag place count)
  unfolding sound_entry
  entry-low h = rw (lt-leb least tag h)

  pub entry-tag : least ≤ tag → 2 ^ 32 ≤ tag → false ≡ sound_entry places counts least (entry tag place count)
  unfolding sound_entry
  entry-tag a h = rw (le-leb least tag a, le-ltb tag (2 ^ 32) h)

  pub entry_place : least ≤ tag → tag < 2 ^ 32 → places ≤ place → false ≡ sound_entry places counts least (entry tag place count)
  unfolding sound_entry
  entry_place a b h = rw (le-leb least tag a, lt-ltb tag (2 ^ 32) b, le-ltb place places h)

  pub entry-none : least ≤ tag → tag < 2 ^ 32 → place < places → count ≡ 0 → false ≡ sound_entry places counts least (entry tag place count)
  unfolding sound_entry
  entry-none a b c h = rw (le-leb least tag a, lt-ltb tag (2 ^ 32) b, lt-ltb place places c, lt-leb 1 count (omega arith))

  pub entry-last : least ≤ tag → tag < 2 ^ 32 → place < places → (count ≡ 0 → ⊥) → leb count counts ≡ sound_entry places counts least (entry tag place count)
  unfolding sound_entry
  entry-last a b c d = rw (le-leb least tag a, lt-ltb tag (2 ^ 32) b, lt-ltb place places c, le-leb 1 count (omega (arith, d)))

-- a sound entry's tag is one of a field
pub sound-small : (places counts least : ℕ) (e : Entry) → sound_entry places counts least e ≡ true → e.tag < 2 ^ 32
sound-small places counts least e h = go (ltb e.tag (2 ^ 32)) refl (leb least e.tag) refl
  where
    no : false ≡ true → e.tag < 2 ^ 32
    no x = let z : ◌≡◌ {A = ℕ} 0 1 = cc in absurd (omega arith)

    go : (b : Bool) → ltb e.tag (2 ^ 32) ≡ b → (a : Bool) → leb least e.tag ≡ a → e.tag < 2 ^ 32
    go true b a x = ltb-true e.tag (2 ^ 32) b
    go false b true x =
        no (entry-tag places counts least e.tag e.place e.count (leb-true least e.tag x) (ltb-false e.tag (2 ^ 32) b) ∙ h)
    go false b false x = no (entry-low places counts least e.tag e.place e.count (leb-false least e.tag x) ∙ h)

-- ---- all of them

pub record Sounding (t : List ℕ) (tags places counts n i least : ℕ) : Type 0 where
  pub fits : index_words * tags ≤ length t
  pub few : n ≤ tags
  pub word : i ≡ index_words * n
  pub small : least ≤ 2 ^ 32
  pub same : sound_index t tags places counts ≡ sound_from places counts least (entries_from (tags - n) t n)

module _ (t : List ℕ) (tags places counts : ℕ) where
  pub sound-room : room t < tags → false ≡ sound_index t tags places counts
  unfolding sound_index
  sound-room h = rw (lt-leb tags (room t) h)

  pub sound-fits : true ≡ sound_index t tags places counts → index_words * tags ≤ length t
  sound-fits h = go (leb tags (room t)) refl
    where
      go : (b : Bool) → leb tags (room t) ≡ b → index_words * tags ≤ length t
      go true b = omega (arith, leb-true tags (room t) b)
      go false b = let x : false ≡ true = sound-room (leb-false tags (room t) b) ∙ sym h in let z : ◌≡◌ {A = ℕ} 0 1 = cc in absurd (omega arith)

  pub sound-start : tags ≤ room t → Sounding t tags places counts 0 0 0
  unfolding sound_index
  sound-start h =
      let z : tags - 0 ≡ tags = omega arith in
      record { fits = omega (arith, h); few = omega arith; word = refl; small = omega arith; same = rw (le-leb tags (room t) h, z) }

module _ {t : List ℕ} {tags places counts n i least : ℕ} (w : Sounding t tags places counts n i least) where
  pub sound-end : tags ≤ n → true ≡ sound_index t tags places counts
  sound-end h = let z : tags - n ≡ 0 = omega arith in sym (w.same ∙ rw z)

  module _ (h : n < tags) where
    pub inside : i + index_words ≤ length t
    inside = omega (arith, w.fits, w.word)

    -- the entry at hand, by its words
    at-hand : entry_at t n ≡ entry (get_or t i 0) (get_or t (i + 1) 0) (get_or t (i + 2) 0)
    unfolding entry_at
    at-hand = ap (λ (j : ℕ). entry (get_or t j 0) (get_or t (j + 1) 0) (get_or t (j + 2) 0)) (sym w.word)

    unwound : sound_index t tags places counts ≡ sound_from places counts least (entry_at t n ∷ entries_from (tags - suc n) t (suc n))
    unwound = let z : tags - n ≡ suc (tags - suc n) = omega arith in w.same ∙ rw z

    pub sound-not : false ≡ sound_entry places counts least (entry (get_or t i 0) (get_or t (i + 1) 0) (get_or t (i + 2) 0)) → false ≡ sound_index t tags places counts
    sound-not e = sym (unwound ∙ rw (at-hand, ← e))

    pub sound-turn : true ≡ sound_entry places counts least (entry (get_or t i 0) (get_or t (i + 1) 0) (get_or t (i + 2) 0))
        → Sounding t tags places counts (n + 1) (i + index_words) (get_or t i 0 + 1)
    sound-turn e =
        record {
          fits = w.fits;
          few = omega arith;
          word = omega (arith, w.word);
          small = omega (arith, sound-small places counts least (entry (get_or t i 0) (get_or t (i + 1) 0) (get_or t (i + 2) 0)) (sym e));
          same = unwound ∙ rw (at-hand, ← e, add-one (get_or t i 0), add-one n);
        }
