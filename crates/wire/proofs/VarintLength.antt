-- How many bytes a number is written as (rule V6): the table of limits, its rule, and that the last two bits do not matter (rule K5).
use Rattle.std.specs.Prelude.{ℕ, zero, suc, ◌+◌, ◌-◌, ◌*◌, ◌/◌, ◌%◌, ◌^◌, ◌≤◌, ◌<◌, ◌≡◌, refl, Bool, true, false, List, [], ◌∷◌, ltb, leb, length, get_or}
use Rattle.std.proofs.Common.{arith, le_of_suc-le-suc, not-suc-le-zero, pow-suc, lt-ltb, le-ltb, le-leb, ltb-true, ltb-false, leb-true, leb-false}
use Rattle.std.proofs.lemmas.Bool.{lt-leb}
use Rattle.wire.specs.Choose.{choose}
use Rattle.wire.specs.Varint.{enc, encode}
use Rattle.wire.specs.VarintLength.{first, length-enc, length-enc-top, limit, limits, none-up-to, shifted, up-to-first, up_to}

pub length_at : (j v : ℕ) → j ≤ 8 → limit j ≤ v → v < limit (suc j) → length (encode v) ≡ suc j
unfolding encode
length_at j v = length-enc 8 j v

pub length-top : (v : ℕ) → limit 8 ≤ v → length (encode v) ≡ 9
unfolding encode
length-top v = length-enc-top 8 v

counted : (k v : ℕ) → length (enc k v) ≡ up_to v (first limit (suc k))
counted zero v = rw (le-leb 0 v (omega arith))
counted (suc k) v = go (counted k (v / 128 - 1)) (ltb v 128) refl
  where
    go : length (enc k (v / 128 - 1)) ≡ up_to (v / 128 - 1) (first limit (suc k)) → (b : Bool) → ltb v 128 ≡ b
        → length (enc (suc k) v) ≡ up_to v (first limit (suc (suc k)))
    go ih true b =
        rw (b, le-leb 0 v (omega arith), none-up-to (λ i. limit (suc i)) v (suc k) (λ i. omega (arith, ltb-true v 128 b)))
    go ih false b =
        rw (b, le-leb 0 v (omega arith), ih, up-to-first (λ i. limit (suc i)) limit v (v / 128 - 1) (suc k) (shifted v (ltb-false v 128 b)))

pub length-limits : (v : ℕ) → length (encode v) ≡ up_to v limits
unfolding encode
length-limits v = counted 8 v
