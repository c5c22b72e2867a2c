-- The loops that put bytes: where each stands, and what a turn does.
use Prim.Native.Nat.{ℕ, zero, suc, ◌+◌, ◌-◌, ◌/◌, ◌%◌, ◌≤◌, ◌<◌}
use mathlib.Core.Path.{◌≡◌, refl, ◌∙◌, sym}
use mathlib.Core.List.{List, [], ◌∷◌}
use native.Mathlib.Omega.{arith}
use native.Mathlib.Numerals.{add-one}
use lib.ListN.{length, take, drop, set, get_or}
use lib.Seq.{drop-cons}
use Rattle.wire.specs.Fixed.{fixed, length-fixed}
use Rattle.place.specs.Place.{put_at, put_part, put-none, part-inside, length_part, Putting, put-start, put-more, put-inside, put-done}

-- ---- a part of a slice

part-next : (s : List ℕ) (q left : ℕ) → 0 < left → q < length s → take left (drop q s) ≡ get_or s q 0 ∷ take (left - 1) (drop (q + 1) s)
part-next s q zero h g = absurd (omega arith)
part-next s q (suc left) h g =
    let e : suc left - 1 ≡ left = omega arith in
    rw (e, add-one q, drop-cons s q 0 g)

pub record Copying (b : List ℕ) (at : ℕ) (s : List ℕ) (from n : ℕ) (buf : List ℕ) (p q left : ℕ) : Type 0 where
  pub inside : from + n ≤ length s
  pub same : q + left ≡ from + n
  pub put : Putting b at (take n (drop from s)) buf p (take left (drop q s))

pub copy_start : (b : List ℕ) (at : ℕ) (s : List ℕ) (from n : ℕ) → from + n ≤ length s → at + n ≤ length b → Copying b at s from n b at from n
copy_start b at s from n h g =
    record { inside = h; same = refl; put = put-start b at (take n (drop from s)) (omega (arith, length_part s from n h)) }

module _ {b : List ℕ} {at : ℕ} {s : List ℕ} {from n : ℕ} {buf : List ℕ} {p q left : ℕ} (w : Copying b at s from n buf p q left) where
  next-byte : 0 < left → Putting b at (take n (drop from s)) buf p (get_or s q 0 ∷ take (left - 1) (drop (q + 1) s))
  next-byte h = rw (part-next s q left h (omega (arith, w.inside, w.same))) at w.put

  pub copy-reads : 0 < left → q < length s
  copy-reads h = omega (arith, w.inside, w.same)

  pub copy_writes : 0 < left → p < length buf
  copy_writes h = put-inside (next-byte h)

  pub copy_more : 0 < left → Copying b at s from n (set buf p (get_or s q 0)) (p + 1) (q + 1) (left - 1)
  copy_more h = record { inside = w.inside; same = omega (arith, w.same); put = put-more (next-byte h) }

  pub copy_done : left ≤ 0 → record { next = p; buf = buf } ≡ put_part b at s from n
  copy_done h =
      let z : left ≡ 0 = omega arith in
      let d : Putting b at (take n (drop from s)) buf p [] = rw z at w.put in
      put-done d ∙ sym (part-inside b at s from n w.inside)

-- ---- a number of a fixed size

pub fixed-none : (b : List ℕ) (at k n : ℕ) → length b < at + k → put_at b at (fixed k n) ≡ record { next = at; buf = b }
fixed-none b at k n h = put-none b at (fixed k n) (omega (arith, length-fixed k n))

fixed-next : (k n : ℕ) → 0 < k → fixed k n ≡ n % 256 ∷ fixed (k - 1) (n / 256)
fixed-next zero n h = absurd (omega arith)
fixed-next (suc k) n h = let e : suc k - 1 ≡ k = omega arith in rw e

pub record Filling (b : List ℕ) (at k n : ℕ) (buf : List ℕ) (p x left : ℕ) : Type 0 where
  pub put : Putting b at (fixed k n) buf p (fixed left x)

pub fill_start : (b : List ℕ) (at k n : ℕ) → at + k ≤ length b → Filling b at k n b at n k
fill_start b at k n h = record { put = put-start b at (fixed k n) (omega (arith, length-fixed k n)) }

module _ {b : List ℕ} {at k n : ℕ} {buf : List ℕ} {p x left : ℕ} (w : Filling b at k n buf p x left) where
  next-digit : 0 < left → Putting b at (fixed k n) buf p (x % 256 ∷ fixed (left - 1) (x / 256))
  next-digit h = rw (fixed-next left x h) at w.put

  pub fill-writes : 0 < left → p < length buf
  fill-writes h = put-inside (next-digit h)

  pub fill_more : 0 < left → Filling b at k n (set buf p (x % 256)) (p + 1) (x / 256) (left - 1)
  fill_more h = record { put = put-more (next-digit h) }

  pub fill_done : left ≤ 0 → record { next = p; buf = buf } ≡ put_at b at (fixed k n)
  fill_done h =
      let z : left ≡ 0 = omega arith in
      let d : Putting b at (fixed k n) buf p [] = rw z at w.put in
      put-done d
