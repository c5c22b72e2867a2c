-- A part put in steps of several bytes: each through a block, and the last over bytes that are there already.
use Prim.Native.Nat.{ℕ, suc, ◌+◌, ◌-◌, ◌≤◌}
use mathlib.Core.Path.{◌≡◌, refl, ap, ◌∙◌, sym}
use mathlib.Core.List.{List, [], ◌∷◌, ◌++◌}
use native.Mathlib.Omega.{arith}
use native.Mathlib.Numerals.{add-one}
use lib.ListN.{length, take, drop, set}
use lib.Seq.{sets, set-set, take-add, drop-drop, take_at}
use Rattle.place.specs.Place.{Placed, put_at, put_part, put-roomy, part-inside, length_part, put-behind, put-before, put_front, put_on}
use Rattle.place.specs.Spans.{Spans, spans-length, spans-part}
use Rattle.place.proofs.Turns.{Copying, copy_start, copy_done}

-- ---- through a block z, which has room for all of it

module _ (z s : List ℕ) (from n : ℕ) {m : ℕ} {block : List ℕ} (h : n ≤ length z) (g : from + n ≤ length s)
    (e : ◌≡◌ {A = Placed} (record { next = m; buf = block }) (put_part z 0 s from n)) where
  filled : Spans z 0 m (take n (drop from s)) block
  filled = spans-part z 0 s from n g (omega arith) e

  holds : take n (drop 0 block) ≡ take n (drop from s)
  holds =
      let l = length_part s from n g in
      rw (filled.is ∙ put_front z (take n (drop from s)) (omega arith)) (take_at (take n (drop from s)) _ n l)

  pub block-done : (b : List ℕ) (at : ℕ) {r : ℕ} {c : List ℕ} → ◌≡◌ {A = Placed} (record { next = r; buf = c }) (put_part b at block 0 n)
      → ◌≡◌ {A = Placed} (record { next = r; buf = c }) (put_part b at s from n)
  block-done b at f = f ∙ part-inside b at block 0 n (omega (arith, spans-length filled)) ∙ ap (put_at b at) holds ∙ sym (part-inside b at s from n g)

-- ---- one step

-- a part in two
part-add : (s : List ℕ) (q n a c r : ℕ) → n ≡ a + c → r ≡ q + a → take n (drop q s) ≡ take a (drop q s) ++ take c (drop r s)
part-add s q n a c r e f = rw (e, f) (take-add a c (drop q s) ∙ ap (λ (l : List ℕ). take a (drop q s) ++ take c l) (drop-drop a q s))

module _ {b : List ℕ} {at : ℕ} {s : List ℕ} {from n : ℕ} {buf : List ℕ} {p q left : ℕ} (w : Copying b at s from n buf p q left) where
  pub step-reads : (k : ℕ) → k ≤ left → q + k ≤ length s
  step-reads k h = omega (arith, w.inside, w.same)

  pub step-writes : (k : ℕ) → k ≤ left → p + k ≤ length buf
  step-writes k h = omega (arith, w.put.same, w.put.roomy, w.put.next, length_part s q left (omega (arith, w.inside, w.same)))

  pub step-more : (k : ℕ) → k ≤ left → {m : ℕ} {c : List ℕ} → ◌≡◌ {A = Placed} (record { next = m; buf = c }) (put_part buf p s q k)
      → Copying b at s from n c (p + k) (q + k) (left - k)
  step-more k h {m} {c} e =
      let v = spans-part buf p s q k (step-reads k h) (step-writes k h) e in
      let t : take left (drop q s) ≡ take k (drop q s) ++ take (left - k) (drop (q + k) s) = part-add s q left k (left - k) (q + k) (omega arith) refl in
      record {
        inside = w.inside;
        same = omega (arith, w.same);
        put = put_on (take k (drop q s)) (take (left - k) (drop (q + k) s)) (rw t at w.put) (rw (length_part s q k (step-reads k h), v.is));
      }

  -- all that is left in one put
  pub rest-done : {m : ℕ} {c : List ℕ} → ◌≡◌ {A = Placed} (record { next = m; buf = c }) (put_part buf p s q left)
      → ◌≡◌ {A = Placed} (record { next = m; buf = c }) (put_part b at s from n)
  rest-done {m} {c} e =
      let v = spans-part buf p s q left (step-reads left (omega arith)) (step-writes left (omega arith)) e in
      let i : c ≡ sets b at (take n (drop from s)) = v.is ∙ w.put.rest in
      let r : m ≡ at + length (take n (drop from s)) = omega (arith, v.reach, w.put.next) in
      sym (part-inside b at s from n w.inside ∙ put-roomy b at (take n (drop from s)) w.put.roomy ∙ rw (r, i))

  pub steps-done : left ≤ 0 → ◌≡◌ {A = Placed} (record { next = at + n; buf = buf }) (put_part b at s from n)
  steps-done h =
      let e : at + n ≡ p = omega (arith, w.put.next, length_part s from n w.inside, length_part s q left (step-reads left (omega arith))) in
      rw e (copy_done w h)

-- ---- back over bytes that are there already

twice : (b : List ℕ) (i : ℕ) (xs : List ℕ) → sets (sets b i xs) i xs ≡ sets b i xs
twice b i [] = refl
twice b i (x ∷ xs) =
    let e : set (sets (set b i x) (suc i) xs) i x ≡ sets (set b i x) (suc i) xs =
    rw add-one at (put-before (set b i x) i (x ∷ []) xs) ∙ ap (λ (l : List ℕ). sets l (suc i) xs) (set-set b i x x) in
    ap (λ (l : List ℕ). sets l (suc i) xs) e ∙ twice (set b i x) (suc i) xs

again : (b : List ℕ) (at : ℕ) (us ws ys : List ℕ) → sets (sets b at (us ++ (ws ++ ys))) (at + length us) ws ≡ sets b at (us ++ (ws ++ ys))
again b at us ws ys =
    rw (← put-behind b at us (ws ++ ys), ← put-before (sets b at us) (at + length us) ws ys) (twice _ (at + length us) ws)

-- what is still to be put, and bytes before it that are there
over : (b buf : List ℕ) (at p i : ℕ) (us ws ys : List ℕ) → i ≡ at + length us → p ≡ i + length ws
    → sets buf p ys ≡ sets b at (us ++ (ws ++ ys)) → sets buf i (ws ++ ys) ≡ sets b at (us ++ (ws ++ ys))
over b buf at p i us ws ys e f r =
    sym (put-before buf i ws ys)
    ∙ ap (λ (j : ℕ). sets (sets buf j ys) i ws) (sym f)
    ∙ ap (λ (l : List ℕ). sets l i ws) r
    ∙ rw e (again b at us ws ys)

module _ {b : List ℕ} {at : ℕ} {s : List ℕ} {from n : ℕ} {buf : List ℕ} {p q left : ℕ} (w : Copying b at s from n buf p q left) where
  pub back : (m i j : ℕ) → left ≤ m → m ≤ n → i + m ≡ p + left → j + m ≡ q + left → Copying b at s from n buf i j m
  back m i j h g e f =
      let us = take (n - m) (drop from s) in
      let ws = take (m - left) (drop j s) in
      let ys = take left (drop q s) in
      let xl = length_part s from n w.inside in
      let ul = length_part s from (n - m) (omega (arith, w.inside)) in
      let wl = length_part s j (m - left) (omega (arith, w.inside, w.same)) in
      let yl = length_part s q left (omega (arith, w.inside, w.same)) in
      let vl = length_part s j m (omega (arith, w.inside, w.same)) in
      let t : take m (drop j s) ≡ ws ++ ys = part-add s j m (m - left) left q (omega arith) (omega arith) in
      let u : take n (drop from s) ≡ us ++ (ws ++ ys) =
      part-add s from n (n - m) m j (omega arith) (omega (arith, w.same)) ∙ ap (λ (l : List ℕ). us ++ l) t in
      let o : sets buf i (ws ++ ys) ≡ sets b at (us ++ (ws ++ ys)) =
      over b buf at p i us ws ys (omega (arith, ul, xl, yl, w.put.next)) (omega (arith, wl)) (rw u at w.put.rest) in
      record {
        inside = w.inside;
        same = omega (arith, w.same);
        put = record { same = w.put.same; roomy = w.put.roomy; next = omega (arith, w.put.next, yl, vl); rest = rw (t, u) o };
      }

  -- the last step
  pub last_done : (k : ℕ) → left ≤ k → k ≤ n → {m : ℕ} {c : List ℕ}
      → ◌≡◌ {A = Placed} (record { next = m; buf = c }) (put_part buf (at + n - k) s (from + n - k) k)
      → ◌≡◌ {A = Placed} (record { next = m; buf = c }) (put_part b at s from n)
  last_done k h g e =
      let l = length_part s q left (omega (arith, w.inside, w.same)) in
      let x = length_part s from n w.inside in
      rest-done (back k (at + n - k) (from + n - k) h g (omega (arith, w.put.next, l, x)) (omega (arith, w.same))) e

-- ---- the first k and the last k

pub ends-done : (b : List ℕ) (at : ℕ) (s : List ℕ) (from n k : ℕ) → k ≤ n → n ≤ k + k → from + n ≤ length s → at + n ≤ length b → {m m' : ℕ} {c d : List ℕ}
    → ◌≡◌ {A = Placed} (record { next = m; buf = c }) (put_part b at s from k)
    → ◌≡◌ {A = Placed} (record { next = m'; buf = d }) (put_part c (at + n - k) s (from + n - k) k)
    → ◌≡◌ {A = Placed} (record { next = m'; buf = d }) (put_part b at s from n)
ends-done b at s from n k h g i r e f = last_done (step-more (copy_start b at s from n i r) k h e) k (omega arith) h f

-- ---- the first k, and on from a place among them

pub ahead : (b : List ℕ) (at : ℕ) (s : List ℕ) (from n k i : ℕ) {m : ℕ} {c : List ℕ} → ◌≡◌ {A = Placed} (record { next = m; buf = c }) (put_part b at s from k)
    → i ≤ k → k ≤ n → from + n ≤ length s → at + n ≤ length b → Copying b at s from n c (at + i) (from + i) (n - i)
ahead b at s from n k i e h g j r =
    back (step-more (copy_start b at s from n j r) k g e) (n - i) (at + i) (from + i) (omega arith) (omega arith) (omega arith) (omega arith)
