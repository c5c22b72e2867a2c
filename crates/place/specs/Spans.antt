-- Bytes that were put from one place up to another, in either direction, and how such stretches join.
use Rattle.std.specs.Prelude.{ℕ, ◌+◌, ◌-◌, ◌≤◌, ◌≡◌, refl, List, [], ◌++◌, length, take, drop}
use Rattle.std.proofs.Common.{ap, ◌∙◌, arith, length-append}
use Rattle.std.proofs.lemmas.List.Edits.{sets}
use Rattle.std.proofs.Math.Seq.{length-sets}
use Rattle.place.specs.Place.{Placed, put_at, prepend_at, put_part, put-roomy, prepend-roomy, part-inside, length_part, put-behind, put-before}

-- c is b with the bytes xs from place p up to place q, and every other byte as it was
pub record Spans (b : List ℕ) (p q : ℕ) (xs c : List ℕ) : Type 0 where
  pub reach : q ≡ p + length xs
  pub is : c ≡ sets b p xs

pub spans-length : {b : List ℕ} {p q : ℕ} {xs c : List ℕ} → Spans b p q xs c → length c ≡ length b
spans-length {b} {p} {q} {xs} {c} w = ap length w.is ∙ length-sets b p xs

-- the same bytes by another name
pub spans-as : {b : List ℕ} {p q : ℕ} {xs ys c : List ℕ} → ys ≡ xs → Spans b p q xs c → Spans b p q ys c
spans-as e w = rw e w

pub spans-none : (b : List ℕ) (p : ℕ) → Spans b p p [] b
spans-none b p = record { reach = omega arith; is = refl }

-- ---- what the puts leave, where there is room

module _ {n : ℕ} {c : List ℕ} (b : List ℕ) (at : ℕ) (xs : List ℕ) where
  pub spans-put : at + length xs ≤ length b → ◌≡◌ {A = Placed} (record { next = n; buf = c }) (put_at b at xs) → Spans b at n xs c
  spans-put h e =
      let p = e ∙ put-roomy b at xs h in
      record { reach = ap (λ (o : Placed). o.next) p; is = ap (λ (o : Placed). o.buf) p }

  -- up to a place
  pub spans-prepend : length xs ≤ at → at ≤ length b → ◌≡◌ {A = Placed} (record { next = n; buf = c }) (prepend_at b at xs) → Spans b n at xs c
  spans-prepend h g e =
      let p = e ∙ prepend-roomy b at xs g h in
      let a : n ≡ at - length xs = ap (λ (o : Placed). o.next) p in
      record { reach = omega arith; is = rw a (ap (λ (o : Placed). o.buf) p) }

-- a part of another list
pub spans-part : {n : ℕ} {c : List ℕ} (b : List ℕ) (at : ℕ) (s : List ℕ) (from k : ℕ) → from + k ≤ length s → at + k ≤ length b
    → ◌≡◌ {A = Placed} (record { next = n; buf = c }) (put_part b at s from k) → Spans b at n (take k (drop from s)) c
spans-part b at s from k g h e =
    spans-put b at (take k (drop from s)) (omega (arith, length_part s from k g)) (e ∙ part-inside b at s from k g)

-- ---- STRETCHES JOIN, whichever is put first

module _ {b : List ℕ} {p q r : ℕ} {xs ys c d : List ℕ} where
  pub spans-behind : Spans b p q xs c → Spans c q r ys d → Spans b p r (xs ++ ys) d
  spans-behind v w =
      record {
        reach = omega (arith, v.reach, w.reach, length-append xs ys);
        is = w.is ∙ rw (v.reach, v.is) (put-behind b p xs ys);
      }

  pub spans-before : Spans b q r ys c → Spans c p q xs d → Spans b p r (xs ++ ys) d
  spans-before v w =
      record {
        reach = omega (arith, v.reach, w.reach, length-append xs ys);
        is = w.is ∙ rw (v.is, w.reach) (put-before b p xs ys);
      }
