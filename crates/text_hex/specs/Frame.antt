-- A line of characters as the bytes of a frame.
use Rattle.std.specs.Prelude.{ℕ, ◌+◌, ◌*◌, ◌/◌, ◌≤◌, ◌<◌, ◌≡◌, refl, Option, Some, None, Result, Ok, Err, List, [], ◌∷◌, leb, length, take}
use Rattle.std.proofs.Common.{arith}
use borrow.Author.Tests.{le-leb, lt-leb}
use Rattle.std.proofs.lemmas.List.Edits.{sets}
use Rattle.wire.specs.Choose.{choose}
use Rattle.text_digits.specs.Digits.{digit_of}
use Rattle.text_hex.specs.declared.FrameError.{FrameError}
use Rattle.text_hex.specs.declared.FrameError.TheVariants.{TooLong, NotHex}

pub data Decoded : Type 0 where
  Decodes : List ℕ → Decoded
  Fails : Decoded

-- a byte's two digits in front of the rest
abbrev pub joined : Option ℕ → Option ℕ → Decoded → Decoded
joined (Some h) (Some l) (Decodes bs) = Decodes ((16 * h + l) ∷ bs)
joined (Some h) (Some l) Fails = Fails
joined (Some h) None d = Fails
joined None l d = Fails

-- Rule D4: two digits a byte; an odd count or a character that is no digit fails
unfoldable pub decoded : List ℕ → Decoded
decoded [] = Decodes []
decoded (c ∷ []) = Fails
decoded (c ∷ d ∷ cs) = joined (digit_of c) (digit_of d) (decoded cs)

-- what is joined to bytes was two digits and bytes
pub record Joins (x y : Option ℕ) (r : Decoded) (bs : List ℕ) : Type 0 where
  pub high : ℕ
  pub low : ℕ
  pub rest : List ℕ
  pub first : x ≡ Some high
  pub second : y ≡ Some low
  pub behind : r ≡ Decodes rest
  pub bytes : bs ≡ (16 * high + low) ∷ rest

pub joins : (x y : Option ℕ) (r : Decoded) (bs : List ℕ) → joined x y r ≡ Decodes bs → Joins x y r bs
joins (Some h) (Some l) (Decodes rs) bs e = record { high = h; low = l; rest = rs; first = refl; second = refl; behind = refl; bytes = cc }
joins (Some h) (Some l) Fails bs e = let z : ◌≡◌ {A = ℕ} 0 1 = cc in absurd (omega arith)
joins (Some h) None r bs e = let z : ◌≡◌ {A = ℕ} 0 1 = cc in absurd (omega arith)
joins None y r bs e = let z : ◌≡◌ {A = ℕ} 0 1 = cc in absurd (omega arith)

-- Rule D3: the most characters of a frame's line
abbrev pub line_limit : ℕ
line_limit = 4096

-- what is answered, and what the lent bytes hold
pub record Framed : Type 0 where
  pub answer : Result ℕ FrameError
  pub out : List ℕ

abbrev pub framed : List ℕ → Decoded → Framed
framed out (Decodes bs) = record { answer = Ok (length bs); out = sets out 0 bs }
framed out Fails = record { answer = Err NotHex; out = out }

abbrev pub too_long : List ℕ → Framed
too_long out = record { answer = Err TooLong; out = out }

-- Rules D3 and D4, of the first characters of a line: TooLong if there are more than the limit, more than the line's buffer has, or more than fit
-- as bytes into the buffer for them; then NotHex if they are no bytes; then the bytes, at the front
unfoldable pub frame_of : List ℕ → ℕ → List ℕ → Framed
frame_of line chars out =
    choose (leb chars line_limit)
    (choose (leb chars (length line)) (choose (leb (chars / 2) (length out)) (framed out (decoded (take chars line))) (too_long out)) (too_long out))
    (too_long out)

-- its cases
module _ (line : List ℕ) (chars : ℕ) (out : List ℕ) where
  pub above-limit : line_limit < chars → frame_of line chars out ≡ too_long out
  unfolding frame_of
  above-limit h = rw (lt-leb chars line_limit h)

  pub above-line : chars ≤ line_limit → length line < chars → frame_of line chars out ≡ too_long out
  unfolding frame_of
  above-line g h = rw (le-leb chars line_limit g, lt-leb chars (length line) h)

  pub above-out : chars ≤ line_limit → chars ≤ length line → length out < chars / 2 → frame_of line chars out ≡ too_long out
  unfolding frame_of
  above-out f g h = rw (le-leb chars line_limit f, le-leb chars (length line) g, lt-leb (chars / 2) (length out) h)

  pub fitting : chars ≤ line_limit → chars ≤ length line → chars / 2 ≤ length out → frame_of line chars out ≡ framed out (decoded (take chars line))
  unfolding frame_of
  fitting f g h = rw (le-leb chars line_limit f, le-leb chars (length line) g, le-leb (chars / 2) (length out) h)
