-- What a walk from a place says of the whole message: it counts a tag's fields to the end, or it stops at the first field that is wanted.
use Prim.Native.Nat.{ℕ, zero, suc, ◌+◌, ◌-◌, ◌≤◌, ◌<◌}
use mathlib.Core.Path.{◌≡◌, refl, ap, ◌∙◌, sym}
use mathlib.Core.Bool.{Bool, true, false}
use mathlib.Core.Logic.{inl, inr}
use mathlib.Core.List.{List, [], ◌∷◌, ◌++◌, append_assoc, append-nil}
use native.Mathlib.Omega.{arith}
use borrow.Author.Tests.{eqb-true, eqb-false, ltb-true, ltb-false, ne_eqb}
use lib.Dec.{ltb, eqb}
use lib.ListN.{length}
use Rattle.wire.specs.Reading.{step_at, Fields, read_message}
use Rattle.wire.specs.Reading as reading
use Rattle.wire.specs.declared.Field.{Field}
use Rattle.wire.specs.declared.Stepped.{Stepped}
use Rattle.wire.specs.declared.Stepped.TheVariants as stepped
use Rattle.message.specs.declared.Walked.{Walked}
use Rattle.message.specs.declared.Walked.TheVariants as walked_as
use Rattle.message.specs.declared.Sought.{Sought}
use Rattle.message.specs.declared.Sought.TheVariants as sought_as
use Rattle.message.specs.Tags.{of_tag, sought}
use Rattle.message.specs.Walks.{Aim, count, until, nothing, wanted, walk_from, walked, wanted-same, unwanted-exact, finished-found, finished-end}
use Rattle.message.specs.Walks.{from-refused, from_end, from-other, from-hit, from-noted, from-counted}
use Rattle.message.proofs.Walking.{Walk, walk_start, walk_step, walk-steps-end, walk-step-refused}
use Rattle.message.proofs.Seen.{Seen, seen_none, seen_other, seen_same, seen-found, seen-absent}
use Rattle.message.proofs.Going.{step-moves}

-- ---- to the end, for the fields of one tag

abbrev pub sought_by : Walked → Sought
sought_by (walked_as.Field f n) = sought_as.Found f n
sought_by (walked_as.End n) = sought_as.Absent n
sought_by (walked_as.Refused r) = sought_as.Refused r

module _ (s : List ℕ) (t n : ℕ) where
  abbrev Told : Walked → Type 0
  Told r = sought_by r ≡ sought t n (read_message s 0 (length s))

  -- a walk of at most k steps, behind fields that were seen
  abbrev Counts : ℕ → Type 0
  Counts k =
      (m p tag many : ℕ) (fs : List Field) (found : Field) → length s - p < k → Walk s 0 (length s) m p tag fs → Seen t n fs many found
      → Told (walk_from k s (count t n) p tag many found)

  counts-more : (k : ℕ) → Counts k → Counts (suc k)
  counts-more k on m p tag many fs found l w x = go (step_at s (length s) p tag) refl
    where
      at-end : (b : Bool) → ltb n many ≡ b → step_at s (length s) p tag ≡ stepped.End → Told (walk_from (suc k) s (count t n) p tag many found)
      at-end true b h =
          ap sought_by (from_end k s (count t n) p tag many found h ∙ finished-found (count t n) many found (ltb-true n many b))
          ∙ sym (ap (sought t n) (walk-steps-end w h) ∙ seen-found x (ltb-true n many b))
      at-end false b h =
          ap sought_by (from_end k s (count t n) p tag many found h ∙ finished-end (count t n) many found (ltb-false n many b))
          ∙ sym (ap (sought t n) (walk-steps-end w h) ∙ seen-absent x (ltb-false n many b))

      onward : (f : Field) (q i : ℕ) (g : Field) → step_at s (length s) p tag ≡ stepped.Field f q → Seen t n (fs ++ f ∷ []) i g
          → Told (walk_from k s (count t n) q f.tag i g)
      onward f q i g h y =
          let j = step-moves s p tag f q h in
          on p q f.tag i (fs ++ f ∷ []) g (omega (arith, l, j.0, j.1)) (walk_step w f q h) y

      at_field : (f : Field) (q : ℕ) (b : Bool) → eqb f.tag t ≡ b → (d : Bool) → eqb many n ≡ d → step_at s (length s) p tag ≡ stepped.Field f q
          → Told (walk_from (suc k) s (count t n) p tag many found)
      at_field f q false b d e h =
          let o = eqb-false f.tag t b in
          ap sought_by (from-other k s (count t n) p tag many found f q h (unwanted-exact (count t n) f.tag refl o))
          ∙ onward f q many found h (seen_other x f o)
      at_field f q true b true e h =
          let o = eqb-true f.tag t b in
          ap sought_by (from-noted k s (count t n) p tag many found f q h (wanted-same (count t n) f.tag o) (eqb-true many n e) refl)
          ∙ onward f q (many + 1) f h (seen_same x f f o (inl (eqb-true many n e, refl)))
      at_field f q true b false e h =
          let o = eqb-true f.tag t b in
          ap sought_by (from-counted k s (count t n) p tag many found f q h (wanted-same (count t n) f.tag o) (eqb-false many n e))
          ∙ onward f q (many + 1) found h (seen_same x f found o (inr (eqb-false many n e, refl)))

      go : (r : Stepped) → step_at s (length s) p tag ≡ r → Told (walk_from (suc k) s (count t n) p tag many found)
      go (stepped.Refused r) h = ap sought_by (from-refused k s (count t n) p tag many found r h) ∙ sym (ap (sought t n) (walk-step-refused w r h).1)
      go stepped.End h = at-end (ltb n many) refl h
      go (stepped.Field f q) h = at_field f q (eqb f.tag t) refl (eqb many n) refl h

  counts : (k : ℕ) → Counts k
  counts zero m p tag many fs found l w x = absurd (omega (arith, l))
  counts (suc k) m p tag many fs found l w x = counts-more k (counts k) m p tag many fs found l w x

  -- the walk over a whole message finds what is sought
  pub walk-sought : sought_by (walked s 0 0 (count t n)) ≡ sought t n (read_message s 0 (length s))
  walk-sought = counts (suc (length s)) 0 0 0 0 [] nothing (omega arith) (walk_start s 0 (length s)) (seen_none t n nothing)

-- ---- up to the first field that is wanted

abbrev pub Unwanted : Aim → List Field → Type 0
Unwanted a [] = Unit {0}
Unwanted a (f ∷ fs) = (wanted a f.tag ≡ false) × Unwanted a fs

-- none of them is of a tag that is wanted
pub unwanted-of : (a : Aim) (t : ℕ) (gs : List Field) → wanted a t ≡ true → Unwanted a gs → of_tag t gs ≡ []
unwanted-of a t [] h u = refl
unwanted-of a t (g ∷ gs) h u = rw (ne_eqb g.tag t other) (unwanted-of a t gs h u.1)
  where
    other : g.tag ≡ t → ⊥
    other e = let z : true ≡ false = sym h ∙ ap (wanted a) (sym e) ∙ u.0 in let y : ◌≡◌ {A = ℕ} 0 1 = cc in absurd (omega arith)

-- the message ended: no field behind those that were passed is wanted
pub record Over (s : List ℕ) (a : Aim) (fs : List Field) : Type 0 where
  pub gs : List Field
  pub none : Unwanted a gs
  pub whole : read_message s 0 (length s) ≡ Fields (fs ++ gs)

-- the field f, up to q, is the next that is wanted
pub record Met (s : List ℕ) (a : Aim) (p : ℕ) (fs : List Field) (f : Field) (q : ℕ) : Type 0 where
  pub m : ℕ
  pub at : ℕ
  pub last : ℕ
  pub gs : List Field
  pub none : Unwanted a gs
  pub meant : wanted a f.tag ≡ true
  pub walk : Walk s 0 (length s) m at last (fs ++ gs)
  pub later : p ≤ at
  pub step : step_at s (length s) at last ≡ stepped.Field f q

-- what the answer says of a walk from place p on, behind the fields fs
abbrev pub Stops : List ℕ → Aim → ℕ → List Field → Walked → Type 0
Stops s a p fs (walked_as.Refused r) = (at : ℕ) × (read_message s 0 (length s) ≡ reading.Refused r at)
Stops s a p fs (walked_as.End n) = Over s a fs
Stops s a p fs (walked_as.Field f q) = Met s a p fs f q

module _ (s : List ℕ) (t : ℕ) (exact : Bool) where
  -- a walk of at most k steps
  abbrev Untils : ℕ → Type 0
  Untils k =
      (m p tag : ℕ) (fs : List Field) (found : Field) → length s - p < k → Walk s 0 (length s) m p tag fs
      → Stops s (until t exact) p fs (walk_from k s (until t exact) p tag 0 found)

  -- from behind an unwanted field back to before it
  back : (p q : ℕ) (fs : List Field) (f : Field) (r : Walked) → wanted (until t exact) f.tag ≡ false → p ≤ q
      → Stops s (until t exact) q (fs ++ f ∷ []) r → Stops s (until t exact) p fs r
  back p q fs f (walked_as.Refused r) n l x = x
  back p q fs f (walked_as.End i) n l x =
      record { gs = f ∷ x.gs; none = (n, x.none); whole = x.whole ∙ ap Fields (append_assoc fs (f ∷ []) x.gs) }
  back p q fs f (walked_as.Field g i) n l x =
      record {
        m = x.m;
        at = x.at;
        last = x.last;
        gs = f ∷ x.gs;
        none = (n, x.none);
        meant = x.meant;
        walk = rw (append_assoc fs (f ∷ []) x.gs) at x.walk;
        later = omega (arith, l, x.later);
        step = x.step;
      }

  untils-more : (k : ℕ) → Untils k → Untils (suc k)
  untils-more k on m p tag fs found l w = go (step_at s (length s) p tag) refl
    where
      at_field : (f : Field) (q : ℕ) (b : Bool) → wanted (until t exact) f.tag ≡ b → step_at s (length s) p tag ≡ stepped.Field f q
          → Stops s (until t exact) p fs (walk_from (suc k) s (until t exact) p tag 0 found)
      at_field f q true b h =
          rw (from-hit k s (until t exact) p tag 0 found f q h b refl refl)
          (record { m = m; at = p; last = tag; gs = []; none = tt; meant = b; walk = rw (append-nil fs) w; later = omega arith; step = h })
      at_field f q false b h =
          let j = step-moves s p tag f q h in
          rw (from-other k s (until t exact) p tag 0 found f q h b)
          (back p q fs f (walk_from k s (until t exact) q f.tag 0 found) b (omega (arith, j.0))
          (on p q f.tag (fs ++ f ∷ []) found (omega (arith, l, j.0, j.1)) (walk_step w f q h)))

      go : (r : Stepped) → step_at s (length s) p tag ≡ r → Stops s (until t exact) p fs (walk_from (suc k) s (until t exact) p tag 0 found)
      go (stepped.Refused r) h = rw (from-refused k s (until t exact) p tag 0 found r h) (walk-step-refused w r h)
      go stepped.End h =
          rw (from_end k s (until t exact) p tag 0 found h ∙ finished-end (until t exact) 0 found (omega arith))
          (record { gs = []; none = tt; whole = walk-steps-end w h ∙ ap Fields (sym (append-nil fs)) })
      go (stepped.Field f q) h = at_field f q (wanted (until t exact) f.tag) refl h

  untils : (k : ℕ) → Untils k
  untils zero m p tag fs found l w = absurd (omega (arith, l))
  untils (suc k) m p tag fs found l w = untils-more k (untils k) m p tag fs found l w

  -- from any place of a walk
  pub walk-until : {m p tag : ℕ} {fs : List Field} {r : Walked} → Walk s 0 (length s) m p tag fs → walked s p tag (until t exact) ≡ r
      → Stops s (until t exact) p fs r
  walk-until {m} {p} {tag} {fs} w e = rw e at (untils (suc (length s)) m p tag fs nothing (omega arith) w)
