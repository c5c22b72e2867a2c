-- What is put into a part of the buffer; a number of at most three bytes put from its last byte on; a number in four bytes or in eight.
use Prim.Native.Nat.{ℕ, suc, ◌+◌, ◌-◌, ◌*◌, ◌/◌, ◌%◌, ◌≤◌, ◌<◌}
use mathlib.Core.Path.{◌≡◌, refl, ap, ◌∙◌, sym}
use mathlib.Core.Bool.{Bool, true, false}
use mathlib.Core.List.{List, [], ◌∷◌, ◌++◌, append-nil, append_assoc}
use mathlib.Core.Logic.{◌⊎◌, inl, inr}
use native.Mathlib.Omega.{arith}
use native.Mathlib.Numerals.{add-one}
use borrow.Author.Tests.{ltb-true, ltb-false}
use lib.Dec.{ltb}
use lib.ListN.{length, take, drop, set, drop_of_length-le}
use lib.Seq.{sets, sets-eq, set-set, set_comm, drop-drop, take_all, length-sets}
use Rattle.wire.specs.Varint.{encode}
use Rattle.wire.specs.VarintLaws.{enc-ends, enc-further}
use Rattle.wire.specs.Fixed.{fixed, length-fixed}
use Rattle.place.specs.Place.{Placed, put_at, put_part, put-roomy, part-inside, length_part, put_front, put-before}
use Rattle.write_message.proofs.Puts.{one_byte}

pub same_size : (b : List ℕ) (i : ℕ) (xs : List ℕ) {c : List ℕ} → c ≡ sets b i xs → length c ≡ length b
same_size b i xs {c} e = ap length e ∙ length-sets b i xs

-- ---- a part of the buffer that is as long as what is put

module _ (b : List ℕ) (a k : ℕ) {n : ℕ} {ys : List ℕ} where
  pub part-back : (xs : List ℕ) → length xs ≡ k → a + k ≤ length b
      → ◌≡◌ {A = Placed} (record { next = n; buf = ys }) (put_at (take k (drop a b)) 0 xs) → take a b ++ (ys ++ drop k (drop a b)) ≡ sets b a xs
  part-back xs e h f =
      let p = take k (drop a b) in
      let l : length p ≡ k = length_part b a k h in
      let y : ys ≡ xs ++ drop (length xs) p = ap (λ (o : Placed). o.buf) (f ∙ put-roomy p 0 xs (omega arith)) ∙ put_front p xs (omega arith) in
      let z : ys ≡ xs = y ∙ ap (λ (q : List ℕ). xs ++ q) (drop_of_length-le p {i = length xs} (omega arith)) ∙ append-nil xs in
      rw (z, drop-drop k a b, ← e) (sym (sets-eq xs b a (omega arith) ∙ append_assoc (take a b) xs (drop (a + length xs) b)))

  pub inside_back : (s : List ℕ) (f j m : ℕ) → k ≡ m → j ≡ m → f + m ≤ length s → a + m ≤ length b
      → ◌≡◌ {A = Placed} (record { next = n; buf = ys }) (put_part (take k (drop a b)) 0 (take j (drop f s)) 0 m)
      → take a b ++ (ys ++ drop k (drop a b)) ≡ sets b a (take m (drop f s))
  inside_back s f j m e g h i q =
      let l : length (take m (drop f s)) ≡ m = length_part s f m h in
      let t : take m (take m (drop f s)) ≡ take m (drop f s) = take_all m (take m (drop f s)) (omega arith) in
      part-back (take m (drop f s)) (omega arith) (omega arith)
      (q ∙ rw g (part-inside (take k (drop a b)) 0 (take m (drop f s)) 0 m (omega arith)) ∙ ap (put_at (take k (drop a b)) 0) t)

-- ---- a number of at most three bytes

-- 1 from a limit on, in numbers
pub over-bounds : (v l a : ℕ) → v < 0x20_4080 → (v < l → a ≡ 0) → (l ≤ v → a ≡ 1) → (a ≤ 1) × (l * a ≤ v) × (v < l + 0x20_4080 * a)
over-bounds v l a h f g = go (ltb v l) refl
  where
    go : (t : Bool) → ltb v l ≡ t → (a ≤ 1) × (l * a ≤ v) × (v < l + 0x20_4080 * a)
    go true e = let z = f (ltb-true v l e) in rw z (omega arith, omega arith, omega (arith, ltb-true v l e))
    go false e = let z = g (ltb-false v l e) in rw z (omega arith, omega (arith, ltb-false v l e), omega arith)

two_bytes : (v : ℕ) → 128 ≤ v → v < 0x4080 → encode v ≡ (128 + v % 128) ∷ (v / 128 - 1) ∷ []
unfolding encode
two_bytes v h g = enc-further 8 v (omega arith) h ∙ ap (λ (l : List ℕ). (128 + v % 128) ∷ l) (enc-ends 7 (v / 128 - 1) (inl (omega arith)))

three-bytes : (v : ℕ) → 0x4080 ≤ v → v < 0x20_4080 → encode v ≡ (128 + v % 128) ∷ (128 + (v / 128 - 1) % 128) ∷ ((v / 128 - 1) / 128 - 1) ∷ []
unfolding encode
three-bytes v h g =
    enc-further 8 v (omega arith) (omega arith)
    ∙ ap (λ (l : List ℕ). (128 + v % 128) ∷ l)
    (enc-further 7 (v / 128 - 1) (omega arith) (omega arith)
    ∙ ap (λ (l : List ℕ). (128 + (v / 128 - 1) % 128) ∷ l) (enc-ends 6 ((v / 128 - 1) / 128 - 1) (inl (omega arith))))

-- three stores from the last on, of which some may lie over one another
one_left : (b : List ℕ) (p q i z y x : ℕ) → p ≡ i → q ≡ i → set (set (set b p z) q y) i x ≡ sets b i (x ∷ [])
one_left b p q i z y x e f = rw (e, f, set-set b i z y, set-set b i y x)

two-left : (b : List ℕ) (p q i z y x : ℕ) → p ≡ suc i → q ≡ suc i → set (set (set b p z) q y) i x ≡ sets b i (x ∷ y ∷ [])
two-left b p q i z y x e f = rw (e, f, set-set b (suc i) z y) (set_comm b (suc i) i y x (λ g. omega arith))

all_left : (b : List ℕ) (p q i z y x : ℕ) → p ≡ suc (suc i) → q ≡ suc i → set (set (set b p z) q y) i x ≡ sets b i (x ∷ y ∷ z ∷ [])
all_left b p q i z y x e f =
    rw (e, f)
    (ap (λ (l : List ℕ). set l i x) (set_comm b (suc (suc i)) (suc i) z y (λ g. omega arith))
    ∙ set_comm (set b (suc i) y) (suc (suc i)) i z x (λ g. omega arith)
    ∙ ap (λ (l : List ℕ). set l (suc (suc i)) z) (set_comm b (suc i) i y x (λ g. omega arith)))

-- a byte with its top bit, and what is left
carry : (q : ℕ) → 128 ≤ q → (q + 128 * (q / 128 - 1)) % 256 ≡ 128 + q % 128
carry q h = omega arith

alone : (q : ℕ) → q < 128 → (q + 128 * (q / 128 - 0)) % 256 ≡ q
alone q h = omega arith

-- where a is 1 from two bytes on, and c from three on
module _ (v a c : ℕ) (h : v < 0x20_4080) (f : (a ≤ 1) × (0x80 * a ≤ v) × (v < 0x80 + 0x20_4080 * a))
    (g : (c ≤ 1) × (0x4080 * c ≤ v) × (v < 0x4080 + 0x20_4080 * c)) where
  pub short-length : length (encode v) ≡ 1 + (a + c)
  short-length = go (ltb v 128) refl (ltb v 0x4080) refl
    where
      go : (t : Bool) → ltb v 128 ≡ t → (u : Bool) → ltb v 0x4080 ≡ u → length (encode v) ≡ 1 + (a + c)
      go true t u w = ap length (one_byte v (ltb-true v 128 t)) ∙ omega (arith, ltb-true v 128 t, f.0, f.1, g.0, g.1)
      go false t true w =
          ap length (two_bytes v (ltb-false v 128 t) (ltb-true v 0x4080 w))
          ∙ omega (arith, ltb-false v 128 t, ltb-true v 0x4080 w, f.0, f.2, g.0, g.1)
      go false t false w = ap length (three-bytes v (ltb-false v 0x4080 w) h) ∙ omega (arith, ltb-false v 0x4080 w, f.0, f.2, g.0, g.2)

  pub short-put : (b : List ℕ) (at : ℕ)
      → set (set (set b (at + (a + c)) ((v / 128 - a) / 128 - c)) (at + a) ((v / 128 - a + 128 * ((v / 128 - a) / 128 - c)) % 256)) at
      ((v + 128 * (v / 128 - a)) % 256)
      ≡ sets b at (encode v)
  short-put b at = go (ltb v 128) refl (ltb v 0x4080) refl
    where
      go : (t : Bool) → ltb v 128 ≡ t → (u : Bool) → ltb v 0x4080 ≡ u
          → set (set (set b (at + (a + c)) ((v / 128 - a) / 128 - c)) (at + a) ((v / 128 - a + 128 * ((v / 128 - a) / 128 - c)) % 256)) at
          ((v + 128 * (v / 128 - a)) % 256)
          ≡ sets b at (encode v)
      go true t u w =
          let m = ltb-true v 128 t in
          let x : (v + 128 * (v / 128 - a)) % 256 ≡ v = omega arith in
          one_left b _ _ at _ _ _ (omega (arith, f.0, f.1, g.0, g.1)) (omega (arith, f.0, f.1)) ∙ rw (x, one_byte v m)
      go false t true w =
          let m = ltb-false v 128 t in
          let n = ltb-true v 0x4080 w in
          let a1 : a ≡ 1 = omega (arith, f.0, f.2) in
          let c0 : c ≡ 0 = omega (arith, g.0, g.1) in
          let x : (v + 128 * (v / 128 - a)) % 256 ≡ 128 + v % 128 = rw a1 (carry v (omega arith)) in
          let y : (v / 128 - a + 128 * ((v / 128 - a) / 128 - c)) % 256 ≡ v / 128 - 1 = rw (a1, c0) (alone (v / 128 - 1) (omega arith)) in
          two-left b _ _ at _ _ _ (omega arith) (omega arith) ∙ rw (x, y, two_bytes v m n)
      go false t false w =
          let m = ltb-false v 0x4080 w in
          let a1 : a ≡ 1 = omega (arith, f.0, f.2) in
          let c1 : c ≡ 1 = omega (arith, g.0, g.2) in
          let x : (v + 128 * (v / 128 - a)) % 256 ≡ 128 + v % 128 = rw a1 (carry v (omega arith)) in
          let y : (v / 128 - a + 128 * ((v / 128 - a) / 128 - c)) % 256 ≡ 128 + (v / 128 - 1) % 128 = rw (a1, c1) (carry (v / 128 - 1) (omega arith)) in
          let z : (v / 128 - a) / 128 - c ≡ (v / 128 - 1) / 128 - 1 = rw (a1, c1) in
          all_left b _ _ at _ _ _ (omega arith) (omega arith) ∙ rw (x, y, z, three-bytes v m h)

-- ---- a number in four bytes or in eight: the last four, then the first four

over-same : (b : List ℕ) (i : ℕ) (xs : List ℕ) → sets (sets b i xs) i xs ≡ sets b i xs
over-same b i [] = refl
over-same b i (x ∷ xs) =
    let e : set (sets (set b i x) (suc i) xs) i x ≡ sets (set b i x) (suc i) xs =
    rw add-one at (put-before (set b i x) i (x ∷ []) xs) ∙ ap (λ (l : List ℕ). sets l (suc i) xs) (set-set b i x x) in
    ap (λ (l : List ℕ). sets l (suc i) xs) e ∙ over-same (set b i x) (suc i) xs

eight-fixed : (n : ℕ) → fixed 8 n ≡ fixed 4 n ++ fixed 4 (n / 0x1_0000_0000)
eight-fixed n = let e : n / 256 / 256 / 256 / 256 ≡ n / 0x1_0000_0000 = omega arith in rw e

pub four-least : {size : ℕ} → (size ≡ 4) ⊎ (size ≡ 8) → 4 ≤ size
four-least (inl s) = omega arith
four-least (inr s) = omega arith

pub halves : (b : List ℕ) (at size n m i : ℕ) {d e : List ℕ} → (size ≡ 4) ⊎ (size ≡ 8) → (size ≡ 4 → m ≡ n) → (size ≡ 8 → m ≡ n / 0x1_0000_0000)
    → i ≡ at + size - 4 → d ≡ sets b i (fixed 4 m) → e ≡ sets d at (fixed 4 n) → e ≡ sets b at (fixed size n)
halves b at size n m i {d} {e} (inl s) f g j p q =
    let x : i ≡ at = omega arith in
    q ∙ rw (p, x, f s, s) (over-same b at (fixed 4 n))
halves b at size n m i {d} {e} (inr s) f g j p q =
    let x : i ≡ at + length (fixed 4 n) = omega (arith, length-fixed 4 n) in
    q ∙ rw (p, x, g s, s) (put-before b at (fixed 4 n) (fixed 4 (n / 0x1_0000_0000)) ∙ ap (sets b at) (sym (eight-fixed n)))
