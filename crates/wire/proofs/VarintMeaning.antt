-- The rules on varints (rules V1, V2 and V3), each stated by itself, and the law that the definitions of Varint say the same (rule V5).
use Rattle.std.specs.Prelude.{ℕ, zero, suc, ◌+◌, ◌-◌, ◌*◌, ◌/◌, ◌%◌, ◌^◌, ◌≤◌, ◌<◌, ◌≡◌, refl, Bool, true, false, List, [], ◌∷◌, ◌++◌, ◌⊎◌, ltb, length, take, drop, get_or}
use Rattle.std.proofs.Common.{ap, ◌∙◌, sym, append-nil, inl, inr, arith, pow-suc, ltb-true, ltb-false, le-ltb, length-take, take-append-drop}
use Rattle.std.proofs.Math.Seq.{take-length}
use Rattle.wire.specs.Varint.{enc, encode, Sum, Adds, Stops, sum}
use Rattle.wire.specs.VarintLaws.{Bytes, sum-ends, sum-nil, stops, Summed, ends, goes_on, summed}
use Rattle.wire.proofs.VarintLaws.{enc-sum}
use Rattle.wire.specs.VarintMeaning.{IsVarint, Spells, ended, further, spelled, spells}

pub sum-spells : (k : ℕ) (bs : List ℕ) (v n : ℕ) → sum k bs ≡ Adds v n → (n ≤ length bs) × Spells k (take n bs) v
sum-spells zero [] v n e = stops e
sum-spells zero (b ∷ bs) v n e =
    let x : n ≡ 1 = cc in
    let y : v ≡ b = cc in
    rw (x, y) (omega arith, ended 0 b (inl refl))
sum-spells (suc k) [] v n e = stops e
sum-spells (suc k) (b ∷ bs) v n e = go (sum-spells k bs) (summed k b bs v n e)
  where
    go : ((w m : ℕ) → sum k bs ≡ Adds w m → (m ≤ length bs) × Spells k (take m bs) w) → Summed k b bs v n
        → (n ≤ suc (length bs)) × Spells (suc k) (take n (b ∷ bs)) v
    go ih (ends h x y) = rw (x, y) (omega arith, ended (suc k) b (inr h))
    go ih (goes_on h w m q x y) = let r = ih w m q in rw y (omega (arith, r.0), further k b (take m bs) w v h r.1 x)

pub spells-sum : (k : ℕ) (bs : List ℕ) (v n : ℕ) → n ≤ length bs → Spells k (take n bs) v → sum k bs ≡ Adds v n
spells-sum k bs v n h w =
    let l : length (take n bs) ≡ n = simp length-take (omega arith) in
    ap (sum k) (sym (take-append-drop n bs)) ∙ spelled k (take n bs) (drop n bs) v w ∙ ap (Adds v) l

-- EVERY NUMBER BELOW 2^64 HAS ONE ENCODING (rule V5): the bytes that are a varint of v are those that v is written as
pub one-encoding : (bs : List ℕ) (v : ℕ) → Bytes bs → IsVarint bs v → bs ≡ encode v
unfolding encode
one-encoding bs v h w =
    sym (enc-sum 8 bs v (length bs) h (rw append-nil at (spelled 8 bs [] v w.spells)) ∙ take-length bs)
