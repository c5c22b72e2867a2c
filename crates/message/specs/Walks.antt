-- A walk over the rest of a message, for the fields that are wanted.
use Rattle.std.specs.Prelude.{ℕ, zero, suc, ◌+◌, ◌≤◌, ◌<◌, ◌≡◌, refl, Bool, true, false, List, ltb, leb, eqb, length}
use borrow.Author.Tests.{lt-ltb, le-ltb, lt-leb, le-leb, eq-eqb, ne_eqb}
use Rattle.std.proofs.Common.{arith}
use Rattle.wire.specs.Choose.{choose}
use Rattle.wire.specs.Reading.{step_at}
use Rattle.wire.specs.declared.Refusal.{Refusal}
use Rattle.wire.specs.declared.Value.TheVariants as val
use Rattle.wire.specs.declared.Field.{Field}
use Rattle.wire.specs.declared.Stepped.{Stepped}
use Rattle.wire.specs.declared.Stepped.TheVariants as stepped
use Rattle.message.specs.declared.Walked.{Walked}
use Rattle.message.specs.declared.Walked.TheVariants as walked_as

-- the fields of a tag, or, if not exact, of that tag and all below it; of these the one at a number, where the walk stops, or which it notes
pub record Aim : Type 0 where
  pub want : ℕ
  pub exact : Bool
  pub number : ℕ
  pub stop : Bool

-- all fields of a tag are counted up to the end, and the one at a number is noted
abbrev pub count : ℕ → ℕ → Aim
count t n = record { want = t; exact = true; number = n; stop = false }

-- up to the first that is wanted
abbrev pub until : ℕ → Bool → Aim
until t exact = record { want = t; exact = exact; number = 0; stop = true }

abbrev pub wanted : Aim → ℕ → Bool
wanted a t = choose a.exact (eqb t a.want) (leb t a.want)

-- at the end: the field that was noted, if there were enough
unfoldable pub finished : Aim → ℕ → Field → Walked
finished a many found = choose (ltb a.number many) (walked_as.Field found many) (walked_as.End many)

-- at the wanted field of the number
abbrev pub hit : Aim → Field → ℕ → Walked → Walked
hit a f q on = choose a.stop (walked_as.Field f q) on

-- at a wanted field, where many were wanted before it
unfoldable pub took : Aim → Field → ℕ → ℕ → Field → (ℕ → Field → Walked) → Walked
took a f q many found go = choose (eqb many a.number) (hit a f q (go (many + 1) f)) (go (many + 1) found)

unfoldable pub passed : Aim → Field → ℕ → ℕ → Field → (ℕ → Field → Walked) → Walked
passed a f q many found go = choose (wanted a f.tag) (took a f q many found go) (go many found)

unfoldable pub walk_on : Aim → Stepped → ℕ → Field → (Field → ℕ → ℕ → Field → Walked) → Walked
walk_on a (stepped.Field f q) many found go = passed a f q many found (go f q)
walk_on a stepped.End many found go = finished a many found
walk_on a (stepped.Refused r) many found go = walked_as.Refused r

-- from place p behind a field of a tag, in at most k steps; many were wanted before it, and one was noted
unfoldable pub walk_from : ℕ → List ℕ → Aim → ℕ → ℕ → ℕ → Field → Walked
walk_from zero s a p tag many found = finished a many found
walk_from (suc k) s a p tag many found = walk_on a (step_at s (length s) p tag) many found (λ f q n g. walk_from k s a q f.tag n g)

-- what stands for the field before one is noted
abbrev pub nothing : Field
nothing = record { tag = 0; value = val.Varint 0 }

-- every step takes a byte at least
abbrev pub walked : List ℕ → ℕ → ℕ → Aim → Walked
walked s at last a = walk_from (suc (length s)) s a at last 0 nothing

-- ---- case by case

module _ (a : Aim) (many : ℕ) (found : Field) where
  pub finished-found : a.number < many → finished a many found ≡ walked_as.Field found many
  unfolding finished
  finished-found h = rw (lt-ltb a.number many h)

  pub finished-end : many ≤ a.number → finished a many found ≡ walked_as.End many
  unfolding finished
  finished-end h = rw (le-ltb a.number many h)

module _ (k : ℕ) (s : List ℕ) (a : Aim) (p tag many : ℕ) (found : Field) where
  pub from-refused : (r : Refusal) → step_at s (length s) p tag ≡ stepped.Refused r → walk_from (suc k) s a p tag many found ≡ walked_as.Refused r
  unfolding walk_from walk_on
  from-refused r h = rw h

  pub from_end : step_at s (length s) p tag ≡ stepped.End → walk_from (suc k) s a p tag many found ≡ finished a many found
  unfolding walk_from walk_on
  from_end h = rw h

  module _ (f : Field) (q : ℕ) (h : step_at s (length s) p tag ≡ stepped.Field f q) where
    pub from-other : wanted a f.tag ≡ false → walk_from (suc k) s a p tag many found ≡ walk_from k s a q f.tag many found
    unfolding walk_from walk_on passed
    from-other w = rw (h, w)

    pub from-hit : wanted a f.tag ≡ true → many ≡ a.number → a.stop ≡ true → walk_from (suc k) s a p tag many found ≡ walked_as.Field f q
    unfolding walk_from walk_on passed took
    from-hit w n t = rw (h, w, eq-eqb many a.number n, t)

    pub from-noted : wanted a f.tag ≡ true → many ≡ a.number → a.stop ≡ false
        → walk_from (suc k) s a p tag many found ≡ walk_from k s a q f.tag (many + 1) f
    unfolding walk_from walk_on passed took
    from-noted w n t = rw (h, w, eq-eqb many a.number n, t)

    pub from-counted : wanted a f.tag ≡ true → (many ≡ a.number → ⊥) → walk_from (suc k) s a p tag many found ≡ walk_from k s a q f.tag (many + 1) found
    unfolding walk_from walk_on passed took
    from-counted w n = rw (h, w, ne_eqb many a.number n)

-- ---- which fields are wanted

module _ (a : Aim) (t : ℕ) where
  pub wanted-same : t ≡ a.want → wanted a t ≡ true
  wanted-same h = go a.exact refl
    where
      go : (b : Bool) → a.exact ≡ b → wanted a t ≡ true
      go true b = rw (b, eq-eqb t a.want h)
      go false b = rw (b, le-leb t a.want (omega arith))

  pub wanted-below : a.exact ≡ false → t ≤ a.want → wanted a t ≡ true
  wanted-below b h = rw (b, le-leb t a.want h)

  pub unwanted-exact : a.exact ≡ true → (t ≡ a.want → ⊥) → wanted a t ≡ false
  unwanted-exact b h = rw (b, ne_eqb t a.want h)

  pub unwanted-above : a.want < t → wanted a t ≡ false
  unwanted-above h = go a.exact refl
    where
      go : (b : Bool) → a.exact ≡ b → wanted a t ≡ false
      go true b = rw (b, ne_eqb t a.want (λ e. omega arith))
      go false b = rw (b, lt-leb t a.want h)
