-- Bytes put into a buffer at a place: `sets b at xs`, each byte at its place and every other as it was.
use Rattle.std.specs.Prelude.{ℕ, suc, ◌+◌, ◌-◌, ◌≤◌, ◌<◌, ◌≡◌, refl, Bool, true, false, List, [], ◌∷◌, ◌++◌, leb, length, take, drop, set}
use Rattle.std.proofs.Common.{ap, ◌∙◌, append-nil, arith, add-zero, add-one, le-leb, leb-true, leb-false, drop_of_length-le, length-drop, length-set, length-append, length-take-le}
use Rattle.std.proofs.lemmas.Bool.{lt-leb}
use Rattle.std.proofs.lemmas.List.Edits.{sets, sets-eq}
use Rattle.std.proofs.lemmas.List.{set_comm}
use Rattle.std.proofs.Math.Seq.{length-sets}
use Rattle.wire.specs.Choose.{choose}

-- ---- DEFINITIONS: the place that a put answers, and what the buffer holds

pub record Placed : Type 0 where
  pub next : ℕ
  pub buf : List ℕ

-- the bytes from a place on, and the place after them
abbrev pub placed : List ℕ → ℕ → List ℕ → Placed
placed b at xs = record { next = at + length xs; buf = sets b at xs }

-- the bytes up to a place, and the place where they start
abbrev pub placed_to : List ℕ → ℕ → List ℕ → Placed
placed_to b end xs = record { next = end - length xs; buf = sets b (end - length xs) xs }

-- the place given, and the buffer as it was
abbrev pub kept : List ℕ → ℕ → Placed
kept b at = record { next = at; buf = b }

-- from a place on, if there is room
unfoldable pub put_at : List ℕ → ℕ → List ℕ → Placed
put_at b at xs = choose (leb (at + length xs) (length b)) (placed b at xs) (kept b at)

-- up to a place, if there is room
unfoldable pub prepend_at : List ℕ → ℕ → List ℕ → Placed
prepend_at b end xs = choose (leb end (length b)) (choose (leb (length xs) end) (placed_to b end xs) (kept b end)) (kept b end)

-- a part of another list, if it has one
unfoldable pub put_part : List ℕ → ℕ → List ℕ → ℕ → ℕ → Placed
put_part b at s from n = choose (leb (from + n) (length s)) (put_at b at (take n (drop from s))) (kept b at)

-- whether n bytes stand in a list of length m from a place on, and in one of length l from another place on
unfoldable pub roomy : ℕ → ℕ → ℕ → ℕ → ℕ → Bool
roomy m from l at n = choose (leb (from + n) m) (leb (at + n) l) false

-- ---- their cases

pub put-roomy : (b : List ℕ) (at : ℕ) (xs : List ℕ) → at + length xs ≤ length b → put_at b at xs ≡ placed b at xs
unfolding put_at
put-roomy b at xs h = rw (le-leb (at + length xs) (length b) h)

pub put-none : (b : List ℕ) (at : ℕ) (xs : List ℕ) → length b < at + length xs → put_at b at xs ≡ kept b at
unfolding put_at
put-none b at xs h = rw (lt-leb (at + length xs) (length b) h)

pub prepend-roomy : (b : List ℕ) (end : ℕ) (xs : List ℕ) → end ≤ length b → length xs ≤ end → prepend_at b end xs ≡ placed_to b end xs
unfolding prepend_at
prepend-roomy b end xs g h = rw (le-leb end (length b) g, le-leb (length xs) end h)

pub prepend-past : (b : List ℕ) (end : ℕ) (xs : List ℕ) → length b < end → prepend_at b end xs ≡ kept b end
unfolding prepend_at
prepend-past b end xs h = rw (lt-leb end (length b) h)

pub prepend-none : (b : List ℕ) (end : ℕ) (xs : List ℕ) → end < length xs → prepend_at b end xs ≡ kept b end
unfolding prepend_at
prepend-none b end xs h = go (leb end (length b)) refl
  where
    go : (t : Bool) → leb end (length b) ≡ t → prepend_at b end xs ≡ kept b end
    go true e = rw (e, lt-leb (length xs) end h)
    go false e = rw e

-- what is put up to a place starts no later
pub prepend-starts : (b : List ℕ) (end : ℕ) (xs : List ℕ) {n : ℕ} {c : List ℕ} → ◌≡◌ {A = Placed} (record { next = n; buf = c }) (prepend_at b end xs) → n ≤ end
unfolding prepend_at
prepend-starts b end xs {n} {c} e = go (leb end (length b)) refl (leb (length xs) end) refl
  where
    go : (t : Bool) → leb end (length b) ≡ t → (u : Bool) → leb (length xs) end ≡ u → n ≤ end
    go true t true u = let z : n ≡ end - length xs = ap (λ (o : Placed). o.next) e ∙ rw (t, u) in omega arith
    go true t false u = let z : n ≡ end = ap (λ (o : Placed). o.next) e ∙ rw (t, u) in omega arith
    go false t u q = let z : n ≡ end = ap (λ (o : Placed). o.next) e ∙ rw t in omega arith

pub part-inside : (b : List ℕ) (at : ℕ) (s : List ℕ) (from n : ℕ) → from + n ≤ length s → put_part b at s from n ≡ put_at b at (take n (drop from s))
unfolding put_part
part-inside b at s from n h = rw (le-leb (from + n) (length s) h)

pub part-outside : (b : List ℕ) (at : ℕ) (s : List ℕ) (from n : ℕ) → length s < from + n → put_part b at s from n ≡ kept b at
unfolding put_part
part-outside b at s from n h = rw (lt-leb (from + n) (length s) h)

pub length_part : (s : List ℕ) (from n : ℕ) → from + n ≤ length s → length (take n (drop from s)) ≡ n
length_part s from n h = length-take-le n (drop from s) (omega (arith, length-drop from s))

-- what the test of room says

pub roomy-yes : (m from l at n : ℕ) → from + n ≤ m → at + n ≤ l → roomy m from l at n ≡ true
unfolding roomy
roomy-yes m from l at n h g = rw (le-leb (from + n) m h, le-leb (at + n) l g)

pub roomy-outside : (m from l at n : ℕ) → m < from + n → roomy m from l at n ≡ false
unfolding roomy
roomy-outside m from l at n h = rw (lt-leb (from + n) m h)

pub roomy-none : (m from l at n : ℕ) → from + n ≤ m → l < at + n → roomy m from l at n ≡ false
unfolding roomy
roomy-none m from l at n h g = rw (le-leb (from + n) m h, lt-leb (at + n) l g)

pub roomy-there : (m from l at n : ℕ) → roomy m from l at n ≡ true → (from + n ≤ m) × (at + n ≤ l)
unfolding roomy
roomy-there m from l at n h = go (leb (from + n) m) refl
  where
    go : (t : Bool) → leb (from + n) m ≡ t → (from + n ≤ m) × (at + n ≤ l)
    go true t = let x : leb (at + n) l ≡ true = simp t at h in (leb-true (from + n) m t, leb-true (at + n) l x)
    go false t = let x : false ≡ true = simp t at h in let z : ◌≡◌ {A = ℕ} 0 1 = cc in absurd (omega arith)

pub roomy-kept : (b : List ℕ) (at : ℕ) (s : List ℕ) (from n : ℕ) → roomy (length s) from (length b) at n ≡ false → put_part b at s from n ≡ kept b at
unfolding roomy
roomy-kept b at s from n h = go (leb (from + n) (length s)) refl
  where
    go : (t : Bool) → leb (from + n) (length s) ≡ t → put_part b at s from n ≡ kept b at
    go true t =
        let x : leb (at + n) (length b) ≡ false = simp t at h in
        let i : from + n ≤ length s = leb-true (from + n) (length s) t in
        part-inside b at s from n i
        ∙ put-none b at (take n (drop from s)) (omega (arith, length_part s from n i, leb-false (at + n) (length b) x))
    go false t = part-outside b at s from n (leb-false (from + n) (length s) t)

-- ---- PUTS THAT FOLLOW ONE ANOTHER

-- behind what was put
pub put-behind : (b : List ℕ) (at : ℕ) (xs ys : List ℕ) → sets (sets b at xs) (at + length xs) ys ≡ sets b at (xs ++ ys)
put-behind b at [] ys = rw (add-zero at)
put-behind b at (x ∷ xs) ys =
    let e : at + suc (length xs) ≡ suc at + length xs = omega arith in
    rw e (put-behind (set b at x) (suc at) xs ys)

-- a byte in front of what is put later
set-sets : (b : List ℕ) (p q x : ℕ) (ys : List ℕ) → p < q → set (sets b q ys) p x ≡ sets (set b p x) q ys
set-sets b p q x [] h = refl
set-sets b p q x (y ∷ ys) h =
    set-sets (set b q y) p (suc q) x ys (omega arith) ∙ ap (λ (l : List ℕ). sets l (suc q) ys) (set_comm b q p y x (λ e. omega arith))

-- in front of what was put
pub put-before : (b : List ℕ) (p : ℕ) (xs ys : List ℕ) → sets (sets b (p + length xs) ys) p xs ≡ sets b p (xs ++ ys)
put-before b p [] ys = rw (add-zero p)
put-before b p (x ∷ xs) ys =
    let e : p + suc (length xs) ≡ suc p + length xs = omega arith in
    rw (e, set-sets b p (suc p + length xs) x ys (omega arith)) (put-before (set b p x) (suc p) xs ys)

-- at the front of a buffer, and at its end
pub put_front : (b xs : List ℕ) → length xs ≤ length b → sets b 0 xs ≡ xs ++ drop (length xs) b
put_front b xs h =
    let e : 0 + length xs ≡ length xs = omega arith in
    rw e at (sets-eq xs b 0 (omega arith))

pub put-end : (b xs : List ℕ) → length xs ≤ length b → sets b (length b - length xs) xs ≡ take (length b - length xs) b ++ xs
put-end b xs h =
    let e : length b - length xs + length xs ≡ length b = omega arith in
    sets-eq xs b (length b - length xs) (omega arith)
    ∙ simp (e, drop_of_length-le b {i = length b} (omega arith), append-nil)

-- what two puts answer, one behind the other
pub placed-behind : (b : List ℕ) (at : ℕ) {n m : ℕ} {c d : List ℕ} (xs ys : List ℕ)
    → ◌≡◌ {A = Placed} (record { next = n; buf = c }) (placed b at xs)
    → ◌≡◌ {A = Placed} (record { next = m; buf = d }) (placed c n ys)
    → ◌≡◌ {A = Placed} (record { next = m; buf = d }) (placed b at (xs ++ ys))
placed-behind b at {n} {m} {c} {d} xs ys e f =
    let n1 : n ≡ at + length xs = ap (λ (o : Placed). o.next) e in
    let b1 : c ≡ sets b at xs = ap (λ (o : Placed). o.buf) e in
    let q : at + length xs + length ys ≡ at + length (xs ++ ys) = omega (arith, length-append xs ys) in
    f ∙ rw (n1, b1, q, put-behind b at xs ys)

-- ---- A PUT A BYTE AT A TIME: what is still to be put, on top of what is there, is what was asked

pub record Putting (b : List ℕ) (at : ℕ) (xs : List ℕ) (buf : List ℕ) (p : ℕ) (ys : List ℕ) : Type 0 where
  pub same : length buf ≡ length b
  pub roomy : at + length xs ≤ length b
  pub next : p + length ys ≡ at + length xs
  pub rest : sets buf p ys ≡ sets b at xs

pub put-start : (b : List ℕ) (at : ℕ) (xs : List ℕ) → at + length xs ≤ length b → Putting b at xs b at xs
put-start b at xs h = record { same = refl; roomy = h; next = refl; rest = refl }

pub put-more : {b : List ℕ} {at : ℕ} {xs buf : List ℕ} {p y : ℕ} {ys : List ℕ} → Putting b at xs buf p (y ∷ ys) → Putting b at xs (set buf p y) (p + 1) ys
put-more {b} {at} {xs} {buf} {p} {y} {ys} w =
    record {
      same = length-set buf p y ∙ w.same;
      roomy = w.roomy;
      next = omega (arith, w.next);
      rest = rw (add-one p) w.rest;
    }

-- several bytes in one put
pub put_on : {b : List ℕ} {at : ℕ} {xs buf : List ℕ} {p n : ℕ} {c : List ℕ} (ys zs : List ℕ) → Putting b at xs buf p (ys ++ zs)
    → ◌≡◌ {A = Placed} (record { next = n; buf = c }) (placed buf p ys) → Putting b at xs c n zs
put_on {b} {at} {xs} {buf} {p} {n} {c} ys zs w e =
    let n1 : n ≡ p + length ys = ap (λ (o : Placed). o.next) e in
    let b1 : c ≡ sets buf p ys = ap (λ (o : Placed). o.buf) e in
    record {
      same = ap length b1 ∙ length-sets buf p ys ∙ w.same;
      roomy = w.roomy;
      next = omega (arith, w.next, length-append ys zs);
      rest = rw (n1, b1, put-behind buf p ys zs) w.rest;
    }

pub put-inside : {b : List ℕ} {at : ℕ} {xs buf : List ℕ} {p y : ℕ} {ys : List ℕ} → Putting b at xs buf p (y ∷ ys) → p < length buf
put-inside w = omega (arith, w.same, w.roomy, w.next)

pub put-done : {b : List ℕ} {at : ℕ} {xs buf : List ℕ} {p : ℕ} → Putting b at xs buf p [] → record { next = p; buf = buf } ≡ put_at b at xs
put-done {b} {at} {xs} {buf} {p} w =
    let e : p ≡ at + length xs = omega (arith, w.next) in
    rw (put-roomy b at xs w.roomy, e, ← w.rest)
