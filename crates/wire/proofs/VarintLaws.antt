-- The laws of the varint: what is written is read back, and what is read is what would be written.
use Rattle.std.specs.Prelude.{ℕ, zero, suc, ◌+◌, ◌-◌, ◌*◌, ◌/◌, ◌%◌, ◌^◌, ◌≤◌, ◌<◌, ◌≡◌, refl, Bool, true, false, List, [], ◌∷◌, ◌++◌, ◌⊎◌, ltb, length, take, get_or}
use Rattle.std.proofs.Common.{inl, inr, arith, pow-suc, lt-ltb, le-ltb, ltb-true, ltb-false}
use Rattle.wire.specs.Varint.{enc, encode, Sum, Adds, Stops, sum}
use Rattle.wire.specs.VarintLaws.{Bytes, Summed, ends, goes_on, stops, summed}

-- how many bytes a sum took: one at least, and no more than there are
pub sum-takes : (k : ℕ) (bs : List ℕ) (v n : ℕ) → sum k bs ≡ Adds v n → (1 ≤ n) × (n ≤ length bs)
sum-takes zero [] v n e = stops e
sum-takes zero (b ∷ bs) v n e = let n1 : n ≡ 1 = cc in (omega arith, omega arith)
sum-takes (suc k) [] v n e = stops e
sum-takes (suc k) (b ∷ bs) v n e = go (sum-takes k bs) (summed k b bs v n e)
  where
    go : ((w m : ℕ) → sum k bs ≡ Adds w m → (1 ≤ m) × (m ≤ length bs)) → Summed k b bs v n → (1 ≤ n) × (n ≤ suc (length bs))
    go ih (ends h x y) = (omega arith, omega arith)
    go ih (goes_on h w m q x y) = (omega arith, omega (arith, (ih w m q).1))

pub enc-sum : (k : ℕ) (bs : List ℕ) (v n : ℕ) → Bytes bs → sum k bs ≡ Adds v n → enc k v ≡ take n bs
enc-sum zero [] v n h e = stops e
enc-sum zero (b ∷ bs) v n h e = cc
enc-sum (suc k) [] v n h e = stops e
enc-sum (suc k) (b ∷ bs) v n h e = go (λ w m. enc-sum k bs w m (λ i. h (suc i))) (summed k b bs v n e)
  where
    go : ((w m : ℕ) → sum k bs ≡ Adds w m → enc k w ≡ take m bs) → Summed k b bs v n → enc (suc k) v ≡ take n (b ∷ bs)
    go ih (ends g x y) = rw (x, y, lt-ltb b 128 g)
    go ih (goes_on g w m q x y) =
        let h₀ : b < 256 = h 0 in
        let d : v / 128 - 1 ≡ w = omega arith in
        let r : 128 + v % 128 ≡ b = omega arith in
        simp (le-ltb v 128 (omega arith), r, d, y, ih w m q)
