-- The sum at the front of bytes (rules V1 and V2), beside that of the first j of them: the same if it ends among them, else it stops.
use Rattle.std.specs.Prelude.{ℕ, zero, suc, ◌≤◌, ◌<◌, ◌≡◌, refl, Bool, true, false, List, [], ◌∷◌, ltb, leb, take}
use Rattle.std.proofs.Common.{sym, arith, le-ltb, leb-true, leb-false}
use Rattle.wire.specs.Varint.{Sum, Adds, Stops, sum}
use Rattle.wire.specs.VarintLaws.{Summed, ends, goes_on, summed, stops}
use Rattle.message_early.specs.Cut.{sum-cut}
use Rattle.relay.specs.Prefix.{Prefixed, among, both, past, sum-short, sum-stops}

pub prefixed : (k : ℕ) (bs : List ℕ) (j : ℕ) → Prefixed k bs j
prefixed k bs j = go (sum k bs) refl
  where
    added : (v n : ℕ) → sum k bs ≡ Adds v n → (t : Bool) → leb n j ≡ t → Prefixed k bs j
    added v n e true t = let h = leb-true n j t in among v n e (sum-cut k bs v n j e h) h
    added v n e false t = let h = leb-false n j t in past v n e (sum-short k bs v n j e h) h

    go : (r : Sum) → sum k bs ≡ r → Prefixed k bs j
    go (Adds v n) e = added v n e (leb n j) refl
    go Stops e = both e (sum-stops k bs j e)
