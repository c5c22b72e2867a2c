-- The sum at the front of bytes (rules V1 and V2), beside that of the first j of them: the same if it ends among them, else it stops.
use Rattle.std.specs.Prelude.{ℕ, zero, suc, ◌≤◌, ◌<◌, ◌≡◌, refl, Bool, true, false, List, [], ◌∷◌, ltb, leb, take}
use Rattle.std.proofs.Common.{sym, arith, le-ltb, leb-true, leb-false}
use Rattle.wire.specs.Varint.{Sum, Adds, Stops, sum}
use Rattle.wire.specs.VarintLaws.{Summed, ends, goes_on, summed, stops}
use Rattle.message_early.specs.Cut.{sum-cut}

-- a sum that takes more bytes than there are left stops
pub sum-short : (k : ℕ) (bs : List ℕ) (v n j : ℕ) → sum k bs ≡ Adds v n → j < n → sum k (take j bs) ≡ Stops
sum-short zero [] v n j e h = stops e
sum-short (suc k) [] v n j e h = stops e
sum-short zero (b ∷ bs) v n zero e h = refl
sum-short (suc k) (b ∷ bs) v n zero e h = refl
sum-short zero (b ∷ bs) v n (suc j) e h = let x : Adds b 1 ≡ Adds v n = e in let z : 1 ≡ n = cc in absurd (omega arith)
sum-short (suc k) (b ∷ bs) v n (suc j) e h = go (summed k b bs v n e) (sum-short k bs)
  where
    go : Summed k b bs v n → ((w m i : ℕ) → sum k bs ≡ Adds w m → i < m → sum k (take i bs) ≡ Stops) → sum (suc k) (b ∷ take j bs) ≡ Stops
    go (ends a x y) ih = absurd (omega arith)
    go (goes_on a w m q x y) ih = rw (le-ltb b 128 a, ih w m j q (omega arith))

-- one that stops stops in fewer bytes too
pub sum-stops : (k : ℕ) (bs : List ℕ) (j : ℕ) → sum k bs ≡ Stops → sum k (take j bs) ≡ Stops
sum-stops zero [] zero e = refl
sum-stops zero [] (suc j) e = refl
sum-stops (suc k) [] zero e = refl
sum-stops (suc k) [] (suc j) e = refl
sum-stops zero (b ∷ bs) j e = stops (sym e)
sum-stops (suc k) (b ∷ bs) zero e = refl
sum-stops (suc k) (b ∷ bs) (suc j) e = go (ltb b 128) refl (sum k bs) refl (sum-stops k bs j)
  where
    go : (t : Bool) → ltb b 128 ≡ t → (r : Sum) → sum k bs ≡ r → (sum k bs ≡ Stops → sum k (take j bs) ≡ Stops) → sum (suc k) (b ∷ take j bs) ≡ Stops
    go true t r q ih = stops (sym (simp t at e))
    go false t (Adds w m) q ih = stops (sym (simp (t, q) at e))
    go false t Stops q ih = rw (t, ih q)

-- ---- A PREFIX

pub data Prefixed (k : ℕ) (bs : List ℕ) (j : ℕ) : Type 0 where
  among : (v n : ℕ) → sum k bs ≡ Adds v n → sum k (take j bs) ≡ Adds v n → n ≤ j → Prefixed k bs j
  past : (v n : ℕ) → sum k bs ≡ Adds v n → sum k (take j bs) ≡ Stops → j < n → Prefixed k bs j
  both : sum k bs ≡ Stops → sum k (take j bs) ≡ Stops → Prefixed k bs j
