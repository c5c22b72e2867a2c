-- Digits as characters: what a character is worth, and a number or bytes as digits.
use Rattle.std.specs.Prelude.{ℕ, zero, suc, ◌+◌, ◌-◌, ◌*◌, ◌/◌, ◌%◌, Bool, false, Option, Some, None, unwrap_or, List, [], ◌∷◌, ◌++◌, ltb, leb}
use Rattle.wire.specs.Choose.{choose}

-- ---- one character

-- from low on and below high
abbrev pub between : ℕ → ℕ → ℕ → Bool
between low high c = choose (leb low c) (ltb c high) false

-- Rule D1: 0 to 9, and A to F in either letter case
unfoldable pub digit_of : ℕ → Option ℕ
digit_of c =
    choose (between 48 58 c) (Some (c - 48)) (choose (between 65 71 c) (Some (c - 55)) (choose (between 97 103 c) (Some (c - 87)) None))

-- Rule D6: the character of a digit, letters as capitals
unfoldable pub glyph : ℕ → ℕ
glyph d = choose (ltb d 10) (48 + d) (55 + d)

-- ---- a number

-- its last k digits in a base, highest first
unfoldable pub digits : ℕ → ℕ → ℕ → List ℕ
digits base zero v = []
digits base (suc k) v = digits base k (v / base) ++ glyph (v % base) ∷ []

-- how many digits it has in decimal, one at least and k + 1 at most
unfoldable pub places_to : ℕ → ℕ → ℕ
places_to zero v = 1
places_to (suc k) v = choose (ltb v 10) 1 (suc (places_to k (v / 10)))

-- in decimal, of which a number of 64 bits has twenty digits at most
unfoldable pub decimal : ℕ → List ℕ
decimal v = digits 10 (places_to 19 v) v

-- digits read in a base, after a number that was read
abbrev pub worth : Option ℕ → ℕ
worth d = unwrap_or d 0

unfoldable pub reads_on : ℕ → ℕ → List ℕ → ℕ
reads_on base n [] = n
reads_on base n (c ∷ cs) = reads_on base (n * base + worth (digit_of c)) cs

-- ---- bytes: two digits each
unfoldable pub hexed : List ℕ → List ℕ
hexed [] = []
hexed (b ∷ bs) = digits 16 2 b ++ hexed bs
