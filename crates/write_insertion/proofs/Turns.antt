-- The loops of insertion, finding the spot and moving words up: where each stands, and what a turn does. And the whole, joined.
use Prim.Native.Nat.{ℕ, suc, ◌+◌, ◌-◌, ◌*◌, ◌≤◌, ◌<◌}
use mathlib.Core.Path.{◌≡◌, refl, ap, ◌∙◌, sym}
use mathlib.Core.List.{List, [], ◌∷◌, ◌++◌}
use native.Mathlib.Omega.{arith}
use lib.ListN.{length, get_or, set, length-append}
use lib.Seq.{sets, sets-eq, drop-cons, get_or-set_other, length-sets}
use Rattle.wire.specs.Limits.{record_words}
use Rattle.wire.specs.Places.{part}
use Rattle.wire.specs.Table.{words, room, record_at}
use Rattle.write_insertion.specs.Insertion.{spot, inserted}
use Rattle.write_insertion.specs.InsertionLaws.{spot-behind, spot-before}
use Rattle.wire.specs.declared.Record.{Record}
use Rattle.place.specs.Place.{put-before, length_part}

-- ---- finding: no record from record i on has an equal or lower tag

pub record Finding (t : List ℕ) (c tag i : ℕ) : Type 0 where
  pub index : i ≤ c
  pub same : spot c t tag ≡ spot i t tag

pub find-start : (t : List ℕ) (c tag : ℕ) → Finding t c tag c
find-start t c tag = record { index = omega arith; same = refl }

-- a record's first word is its tag
tag_at : (t : List ℕ) (i : ℕ) → (record_at t i).tag ≡ get_or t (record_words * i) 0
unfolding record_at
tag_at t i = refl

module _ {t : List ℕ} {c tag i : ℕ} (w : Finding t c tag i) (h : 0 < i) where
  pub find-here : get_or t (record_words * (i - 1)) 0 ≤ tag → i ≡ spot c t tag
  find-here g = sym (w.same ∙ spot-behind i t tag h (omega (arith, tag_at t (i - 1))))

  pub find-more : tag < get_or t (record_words * (i - 1)) 0 → Finding t c tag (i - 1)
  find-more g =
      record {
        index = omega (arith, w.index);
        same = w.same ∙ spot-before i t tag h (omega (arith, tag_at t (i - 1)));
      }

pub find-done : {t : List ℕ} {c tag i : ℕ} → Finding t c tag i → i ≤ 0 → 0 ≡ spot c t tag
find-done {t} {c} {tag} {i} w h = let z : i ≡ 0 = omega arith in sym (rw z at w.same)

-- ---- moving: the words from place j on are moved

-- what stands before the place of a put stays
get_d-before : (t : List ℕ) (q : ℕ) (xs : List ℕ) (p : ℕ) → p < q → get_or (sets t q xs) p 0 ≡ get_or t p 0
get_d-before t q [] p h = refl
get_d-before t q (x ∷ xs) p h = get_d-before (set t q x) (suc q) xs p (omega arith) ∙ get_or-set_other t q p x 0 (λ e. omega arith)

pub record Moving (t : List ℕ) (from to : ℕ) (u : List ℕ) (j : ℕ) : Type 0 where
  pub low : from ≤ j
  pub high : j ≤ to
  pub roomy : to + record_words ≤ length t
  pub same : u ≡ sets t (j + record_words) (part t j to)

pub move_start : (t : List ℕ) (from to : ℕ) → from ≤ to → to + record_words ≤ length t → Moving t from to t to
move_start t from to h g = let z : to - to ≡ 0 = omega arith in record { low = h; high = omega arith; roomy = g; same = rw z }

module _ {t : List ℕ} {from to : ℕ} {u : List ℕ} {j : ℕ} (w : Moving t from to u j) where
  pub move-length : length u ≡ length t
  move-length = ap length w.same ∙ length-sets t (j + record_words) (part t j to)

  pub move-more : from < j → Moving t from to (set u (j - 1 + record_words) (get_or u (j - 1) 0)) (j - 1)
  move-more h =
      let x = get_or t (j - 1) 0 in
      let a : get_or u (j - 1) 0 ≡ x = ap (λ (l : List ℕ). get_or l (j - 1) 0) w.same ∙ get_d-before t (j + record_words) (part t j to) (j - 1) (omega arith) in
      let n : to - (j - 1) ≡ suc (to - j) = omega (arith, w.high) in
      let m : suc (j - 1) ≡ j = omega arith in
      let b : part t (j - 1) to ≡ x ∷ part t j to = rw (n, drop-cons t (j - 1) 0 (omega (arith, w.high, w.roomy)), m) in
      let e : j - 1 + record_words + length (x ∷ []) ≡ j + record_words = omega arith in
      record {
        low = omega arith;
        high = omega (arith, w.high);
        roomy = w.roomy;
        same = rw (a, b, w.same) (rw e at (put-before t (j - 1 + record_words) (x ∷ []) (part t j to)));
      }

  pub move-done : j ≤ from → (r : Record) → sets u from (words r) ≡ sets t from (words r ++ part t from to)
  move-done h r =
      let e : j ≡ from = omega (arith, w.low) in
      let f : u ≡ sets t (from + record_words) (part t from to) = rw e at w.same in
      rw f (put-before t from (words r) (part t from to))

-- ---- the table with the new record in its place

pub put-inserted : (t : List ℕ) (c : ℕ) (r : Record) (p : ℕ) → p ≤ c → c < room t
    → sets t (record_words * p) (words r ++ part t (record_words * p) (record_words * c)) ≡ inserted t c r p
put-inserted t c r p h g =
    let xs = words r ++ part t (record_words * p) (record_words * c) in
    let n : length xs ≡ record_words + (record_words * c - record_words * p) =
    length-append (words r) (part t (record_words * p) (record_words * c))
    ∙ ap (λ (n : ℕ). record_words + n) (length_part t (record_words * p) (record_words * c - record_words * p) (omega arith)) in
    let d : record_words * p + length xs ≡ record_words * (c + 1) = omega (arith, n) in
    sets-eq xs t (record_words * p) (omega (arith, n)) ∙ rw d
