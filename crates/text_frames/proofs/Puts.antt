-- Pieces of text put one after another: what is put next has room, and what is left after it.
use Prim.Native.Nat.{ℕ, ◌+◌, ◌-◌, ◌≤◌}
use mathlib.Core.Path.{◌≡◌, ap, ◌∙◌, sym}
use mathlib.Core.List.{List, ◌++◌}
use native.Mathlib.Omega.{arith}
use native.Mathlib.Nat.{sub-zero}
use lib.ListN.{length, take, drop, length-append}
use lib.Seq.{take-length, take_at}
use Rattle.place.specs.Place.{Placed, placed, put_at, put_part, put-roomy, put_front, part-inside, Putting, put_on}
use Rattle.text_frames.specs.Print.{Roomy}

module _ {b : List ℕ} {at : ℕ} {xs buf : List ℕ} {p : ℕ} where
  pub has_room : (ys zs : List ℕ) → Putting b at xs buf p (ys ++ zs) → Roomy buf p ys
  has_room ys zs w = omega (arith, w.same, w.roomy, w.next, length-append ys zs)

  pub put_next : {n : ℕ} {c : List ℕ} (ys zs : List ℕ) → Putting b at xs buf p (ys ++ zs) → ◌≡◌ {A = Placed} (record { next = n; buf = c }) (put_at buf p ys)
      → Putting b at xs c n zs
  put_next ys zs w e = put_on ys zs w (e ∙ put-roomy buf p ys (has_room ys zs w))

  pub last-room : (ys : List ℕ) → Putting b at xs buf p ys → Roomy buf p ys
  last-room ys w = omega (arith, w.same, w.roomy, w.next)

  pub put_last : {n : ℕ} {c : List ℕ} (ys : List ℕ) → Putting b at xs buf p ys → ◌≡◌ {A = Placed} (record { next = n; buf = c }) (put_at buf p ys)
      → ◌≡◌ {A = Placed} (record { next = n; buf = c }) (put_at b at xs)
  put_last ys w e =
      let n : p + length ys ≡ at + length xs = w.next in
      e ∙ put-roomy buf p ys (last-room ys w) ∙ rw (n, w.rest) (sym (put-roomy b at xs w.roomy))

-- a whole slice, put as a part of itself
pub whole_part : (b : List ℕ) (at : ℕ) (w : List ℕ) → put_part b at w 0 (length w) ≡ put_at b at w
whole_part b at w = part-inside b at w 0 (length w) (omega arith) ∙ rw (take-length w)

-- what was put at the front of a buffer
module _ (z xs : List ℕ) {m : ℕ} {b : List ℕ} (h : length xs ≤ length z) (e : ◌≡◌ {A = Placed} (record { next = m; buf = b }) (put_at z 0 xs)) where
  roomy : ◌≡◌ {A = Placed} (record { next = m; buf = b }) (placed z 0 xs)
  roomy = e ∙ put-roomy z 0 xs (omega arith)

  pub front-next : m ≡ length xs
  front-next = let q = ap (λ (o : Placed). o.next) roomy in omega arith

  pub front-is : (n : ℕ) → n ≡ length xs → take (n - 0) b ≡ xs
  front-is n k =
      let q : b ≡ xs ++ drop (length xs) z = ap (λ (o : Placed). o.buf) roomy ∙ put_front z xs h in
      rw (sub-zero n, q) (take_at xs (drop (length xs) z) n (sym k))
