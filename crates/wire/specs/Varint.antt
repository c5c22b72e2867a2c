-- The varint, written and summed (rules V1, V2 and V5). VarintMeaning states the rules one by one, and has the law that they and the two
-- definitions here are one.
use Rattle.std.specs.Prelude.{ℕ, zero, suc, ◌+◌, ◌-◌, ◌*◌, ◌/◌, ◌%◌, List, [], ◌∷◌, ltb}
use Rattle.wire.specs.Choose.{choose}

-- Rule V5: writing, where up to k more bytes may follow this one
abbrev pub enc : ℕ → ℕ → List ℕ
enc zero v = v ∷ []
enc (suc k) v = choose (ltb v 128) (v ∷ []) ((128 + v % 128) ∷ enc k (v / 128 - 1))

-- Rule V5: the encoding of v
unfoldable pub encode : ℕ → List ℕ
encode v = enc 8 v

-- a sum and the number of bytes that gave it; or the list stopped too early (rule V4)
pub data Sum : Type 0 where
  Adds : ℕ → ℕ → Sum
  Stops : Sum

-- Rule V1: a byte in front of the others: they count 128 times as much
abbrev pub before : ℕ → Sum → Sum
before b (Adds v n) = Adds (b + 128 * v) (suc n)
before b Stops = Stops

-- Rules V1 and V2: the sum at the front of a list, where up to k more bytes may follow the first
abbrev pub sum : ℕ → List ℕ → Sum
sum zero [] = Stops
sum zero (b ∷ bs) = Adds b 1
sum (suc k) [] = Stops
sum (suc k) (b ∷ bs) = choose (ltb b 128) (Adds b 1) (before b (sum k bs))
