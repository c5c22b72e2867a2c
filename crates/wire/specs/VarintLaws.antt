-- The laws of the varint: what is written is read back, and what is read is what would be written.
use Rattle.std.specs.Prelude.{ℕ, zero, suc, ◌+◌, ◌-◌, ◌*◌, ◌/◌, ◌%◌, ◌^◌, ◌≤◌, ◌<◌, ◌≡◌, refl, Bool, true, false, List, [], ◌∷◌, ◌++◌, ◌⊎◌, ltb, length, take, get_or}
use Rattle.std.proofs.Common.{inl, inr, arith, pow-suc, lt-ltb, le-ltb, ltb-true, ltb-false}
use Rattle.wire.specs.Varint.{enc, encode, Sum, Adds, Stops, sum}

-- a list whose elements are bytes
abbrev pub Bytes : List ℕ → Type 0
Bytes bs = (i : ℕ) → get_or bs i 0 < 256

-- ---- the cases of writing

pub enc-ends : (k v : ℕ) → (v < 128) ⊎ (k ≡ 0) → enc k v ≡ v ∷ []
enc-ends zero v h = refl
enc-ends (suc k) v (inl h) = simp (lt-ltb v 128 h)
enc-ends (suc k) v (inr h) = absurd (omega arith)

pub enc-further : (k v : ℕ) → 0 < k → 128 ≤ v → enc k v ≡ (128 + v % 128) ∷ enc (k - 1) (v / 128 - 1)
enc-further zero v h g = absurd (omega arith)
enc-further (suc k) v h g = let k1 : suc k - 1 ≡ k = omega arith in simp (le-ltb v 128 g, k1)

pub length-enc : (k v : ℕ) → (1 ≤ length (enc k v)) × (length (enc k v) ≤ suc k)
length-enc zero v = (omega arith, omega arith)
length-enc (suc k) v = go (length-enc k (v / 128 - 1)) (ltb v 128) refl
  where
    go : (1 ≤ length (enc k (v / 128 - 1))) × (length (enc k (v / 128 - 1)) ≤ suc k) → (b : Bool) → ltb v 128 ≡ b
        → (1 ≤ length (enc (suc k) v)) × (length (enc (suc k) v) ≤ suc (suc k))
    go ih true e = rw e (omega arith, omega arith)
    go ih false e = rw e (omega arith, omega (arith, ih.1))

pub length-pos : (v : ℕ) → 1 ≤ length (encode v)
unfolding encode
length-pos v = (length-enc 8 v).0

pub length-le : (v : ℕ) → length (encode v) ≤ 9
unfolding encode
length-le v = (length-enc 8 v).1

-- ---- the cases of reading

pub stops : {A : Type 0} {v n : ℕ} → Stops ≡ Adds v n → A
stops e = let z : ◌≡◌ {A = ℕ} 0 1 = cc in absurd (omega arith)

pub sum-ends : (k b : ℕ) (bs : List ℕ) → (b < 128) ⊎ (k ≡ 0) → sum k (b ∷ bs) ≡ Adds b 1
sum-ends zero b bs h = refl
sum-ends (suc k) b bs (inl h) = simp (lt-ltb b 128 h)
sum-ends (suc k) b bs (inr h) = absurd (omega arith)

pub sum-nil : (k : ℕ) → sum k [] ≡ Stops
sum-nil zero = refl
sum-nil (suc k) = refl

-- what stands behind a sum where more bytes may follow: a byte that ends it, or one in front of a sum
pub data Summed (k b : ℕ) (bs : List ℕ) (v n : ℕ) : Type 0 where
  ends : b < 128 → v ≡ b → n ≡ 1 → Summed k b bs v n
  goes_on : 128 ≤ b → (w m : ℕ) → sum k bs ≡ Adds w m → v ≡ b + 128 * w → n ≡ suc m → Summed k b bs v n

pub summed : (k b : ℕ) (bs : List ℕ) (v n : ℕ) → sum (suc k) (b ∷ bs) ≡ Adds v n → Summed k b bs v n
summed k b bs v n e = go (ltb b 128) refl (sum k bs) refl
  where
    go : (t : Bool) → ltb b 128 ≡ t → (r : Sum) → sum k bs ≡ r → Summed k b bs v n
    go true t r q =
        let z : Adds b 1 ≡ Adds v n = simp t at e in
        let x : v ≡ b = cc in
        let y : n ≡ 1 = cc in
        ends (ltb-true b 128 t) x y
    go false t (Adds w m) q =
        let z : Adds (b + 128 * w) (suc m) ≡ Adds v n = simp (t, q) at e in
        let x : v ≡ b + 128 * w = cc in
        let y : n ≡ suc m = cc in
        goes_on (ltb-false b 128 t) w m q x y
    go false t Stops q = let z : Stops ≡ Adds v n = simp (t, q) at e in stops z

-- ---- READ AFTER WRITTEN: whatever follows

pub sum-enc : (k v : ℕ) (t : List ℕ) → sum k (enc k v ++ t) ≡ Adds v (length (enc k v))
sum-enc zero v t = refl
sum-enc (suc k) v t = go (sum-enc k (v / 128 - 1) t) (ltb v 128) refl
  where
    go : sum k (enc k (v / 128 - 1) ++ t) ≡ Adds (v / 128 - 1) (length (enc k (v / 128 - 1)))
        → (b : Bool) → ltb v 128 ≡ b → sum (suc k) (enc (suc k) v ++ t) ≡ Adds v (length (enc (suc k) v))
    go ih true e = simp e
    go ih false e =
        let h : 128 ≤ v = omega (arith, ltb-false) in
        let r : 128 + v % 128 + 128 * (v / 128 - 1) ≡ v = omega arith in
        simp (e, le-ltb (128 + v % 128) 128 (omega arith), ih, r)

-- ---- WRITTEN AFTER READ: bytes that are read so are those that their sum is written as

-- ---- what is written are bytes

bytes-enc : (k v : ℕ) → v < 256 * 128 ^ k → Bytes (enc k v)
bytes-enc zero v h zero = omega arith
bytes-enc zero v h (suc i) = omega arith
bytes-enc (suc k) v h i = go (λ j. bytes-enc k (v / 128 - 1) (omega (arith, pow-suc 128 k)) j) (ltb v 128) refl i
  where
    go : Bytes (enc k (v / 128 - 1)) → (b : Bool) → ltb v 128 ≡ b → (i : ℕ) → get_or (enc (suc k) v) i 0 < 256
    go ih true e zero = simp e (omega (arith, ltb-true))
    go ih true e (suc i) = simp e (omega arith)
    go ih false e zero = simp e (omega arith)
    go ih false e (suc i) = simp e (ih i)

pub bytes-encode : (v : ℕ) → v < 2 ^ 64 → Bytes (encode v)
unfolding encode
bytes-encode v h = bytes-enc 8 v h
