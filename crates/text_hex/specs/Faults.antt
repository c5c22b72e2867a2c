-- How a line is decided before it is decoded: whether all its characters are digits, and the known numbers that digits are worth.
use Rattle.std.specs.Prelude.{ℕ, ◌+◌, ◌*◌, ◌/◌, ◌%◌, ◌≤◌, ◌<◌, ◌≡◌, ◌⊎◌, refl, Bool, true, false, ◌&&◌, Option, Some, None, is_some, Result, Ok, Err, List, [], ◌∷◌, length, take, leb, MatchBool}
use Rattle.std.specs.Char.{IsAsciiHexdigit, IsNotAsciiHexdigit}
use Rattle.std.proofs.Common.{inl, inr, ap, ◌∙◌, sym, arith, leb-true, leb-false, length-take-le}
use Rattle.std.proofs.lemmas.Bool.{and_parts}
use Rattle.std.proofs.lemmas.List.Edits.{sets}
use Rattle.std.proofs.Math.Seq.{length-sets}
use Rattle.text_digits.specs.Digits.{between, digit_of}
use Rattle.text_digits.specs.DigitLaws.{below-run, above-run, figure, capital, small, strange, digital}
use Rattle.text_hex.specs.Frame.{Decoded, Decodes, Fails, joined, decoded, joins, line_limit, Framed, framed, too_long, frame_of, above-limit}
use Rattle.text_hex.specs.Frame.{above-line, above-out, fitting}
use Rattle.text_hex.specs.declared.FrameError.{FrameError}
use Rattle.text_hex.specs.declared.FrameError.TheVariants.{TooLong, NotHex}

-- ---- one character

-- whether it is a digit
unfoldable pub is_digit : ℕ → Bool
is_digit c = is_some (digit_of c)

-- what a digit is worth: its low four bits, and nine more for a letter
abbrev pub known_of : ℕ → ℕ
known_of c = c % 16 + c / 64 * 9

outside : (low high c : ℕ) → (c < low) ⊎ (high ≤ c) → between low high c ≡ false
outside low high c (inl h) = below-run low high c h
outside low high c (inr h) = above-run low high c h

-- std's test of a digit
pub hexdigit : (c : ℕ) (b : Bool) → MatchBool b (IsAsciiHexdigit c) (IsNotAsciiHexdigit c) → b ≡ is_digit c
unfolding is_digit
hexdigit c true (inl (inl r)) = rw (figure c r.0 (omega arith))
hexdigit c true (inl (inr r)) = rw (capital c r.0 (omega arith))
hexdigit c true (inr r) = rw (small c r.0 (omega arith))
hexdigit c false r = rw (strange c (outside 48 58 c r.0.0) (outside 65 71 c r.0.1) (outside 97 103 c r.1))

pub digit-known : (c : ℕ) → is_digit c ≡ true → digit_of c ≡ Some (known_of c)
unfolding is_digit
digit-known c e = go (digit_of c) refl
  where
    go : (d : Option ℕ) → digit_of c ≡ d → digit_of c ≡ Some (known_of c)
    go (Some v) p = p ∙ ap Some (digital c v p).worth
    go None p = let z : false ≡ true = ap is_some (sym p) ∙ e in cc

pub digit-none : (c : ℕ) → is_digit c ≡ false → digit_of c ≡ None
unfolding is_digit
digit-none c e = go (digit_of c) refl
  where
    go : (d : Option ℕ) → digit_of c ≡ d → digit_of c ≡ None
    go (Some v) p = let z : true ≡ false = ap is_some (sym p) ∙ e in cc
    go None p = p

-- ---- a line

unfoldable pub all_digits : List ℕ → Bool
all_digits [] = true
all_digits (c ∷ cs) = is_digit c && all_digits cs

-- the bytes of a line of digits
unfoldable pub bytes_in : List ℕ → List ℕ
bytes_in [] = []
bytes_in (c ∷ []) = []
bytes_in (c ∷ d ∷ cs) = (16 * known_of c + known_of d) ∷ bytes_in cs

pub odd-fails : (cs : List ℕ) → length cs % 2 ≡ 1 → decoded cs ≡ Fails
unfolding decoded
odd-fails [] e = absurd (omega arith)
odd-fails (c ∷ []) e = refl
odd-fails (c ∷ d ∷ cs) e = rw (odd-fails cs (omega arith)) (last (digit_of c) (digit_of d))
  where
    last : (h l : Option ℕ) → joined h l Fails ≡ Fails
    last (Some h) (Some l) = refl
    last (Some h) None = refl
    last None l = refl

pub other-fails : (cs : List ℕ) → all_digits cs ≡ false → decoded cs ≡ Fails
unfolding decoded all_digits is_digit
other-fails [] h = cc
other-fails (c ∷ []) h = refl
other-fails (c ∷ d ∷ cs) h = go (digit_of c) refl (digit_of d) refl (other-fails cs)
  where
    go : (x : Option ℕ) → digit_of c ≡ x → (y : Option ℕ) → digit_of d ≡ y → (all_digits cs ≡ false → decoded cs ≡ Fails)
        → joined (digit_of c) (digit_of d) (decoded cs) ≡ Fails
    go (Some x) p (Some y) q ih = let g : all_digits cs ≡ false = simp (p, q) at h in rw (p, q, ih g)
    go (Some x) p None q ih = rw (p, q)
    go None p y q ih = rw p

pub digits-decode : (cs : List ℕ) → length cs % 2 ≡ 0 → all_digits cs ≡ true → decoded cs ≡ Decodes (bytes_in cs)
unfolding decoded all_digits bytes_in
digits-decode [] e h = refl
digits-decode (c ∷ []) e h = absurd (omega arith)
digits-decode (c ∷ d ∷ cs) e h =
    let x = and_parts (is_digit c) (is_digit d && all_digits cs) h in
    let y = and_parts (is_digit d) (all_digits cs) x.1 in
    rw (digit-known c x.0, digit-known d y.0, digits-decode cs (omega arith) y.1)

pub bytes_in-short : (cs : List ℕ) → length cs < 2 → bytes_in cs ≡ []
unfolding bytes_in
bytes_in-short [] h = refl
bytes_in-short (c ∷ []) h = refl
bytes_in-short (c ∷ d ∷ cs) h = absurd (omega arith)

pub length-bytes-in : (cs : List ℕ) → length (bytes_in cs) ≡ length cs / 2
unfolding bytes_in
length-bytes-in [] = refl
length-bytes-in (c ∷ []) = refl
length-bytes-in (c ∷ d ∷ cs) = omega (arith, length-bytes-in cs)

-- what decoding relies on: all characters are digits, and the bytes have room
pub record Decodable (digits out : List ℕ) : Type 0 where
  pub clean : all_digits digits ≡ true
  pub room : length digits / 2 ≤ length out

-- what a line that fits is answered
pub record Fitting (line : List ℕ) (chars : ℕ) (out : List ℕ) : Type 0 where
  pub limit : chars ≤ line_limit
  pub reach : chars ≤ length line
  pub room : chars / 2 ≤ length out

module _ {line : List ℕ} {chars : ℕ} {out : List ℕ} (f : Fitting line chars out) where
  by-decoded : {d : Decoded} → decoded (take chars line) ≡ d → frame_of line chars out ≡ framed out d
  by-decoded e = fitting line chars out f.limit f.reach f.room ∙ ap (framed out) e

  pub odd-frame : 0 < chars % 2 → frame_of line chars out ≡ record { answer = Err NotHex; out = out }
  odd-frame h = by-decoded (odd-fails (take chars line) (omega (arith, length-take-le chars line f.reach)))

  pub bad-frame : all_digits (take chars line) ≡ false → frame_of line chars out ≡ record { answer = Err NotHex; out = out }
  bad-frame h = by-decoded (other-fails (take chars line) h)

  pub good-frame : chars % 2 ≤ 0 → all_digits (take chars line) ≡ true
      → frame_of line chars out ≡ record { answer = Ok (chars / 2); out = sets out 0 (bytes_in (take chars line)) }
  good-frame g h =
      let cs = take chars line in
      let n = length-take-le chars line f.reach in
      let k : length (bytes_in cs) ≡ chars / 2 = omega (arith, length-bytes-in cs) in
      by-decoded (digits-decode cs (omega arith) h) ∙ rw k

  pub decodable : all_digits (take chars line) ≡ true → Decodable (take chars line) out
  decodable h = record { clean = h; room = omega (arith, f.room, length-take-le chars line f.reach) }

-- ---- how many bytes a frame has

pub decoded-half : (cs bs : List ℕ) → decoded cs ≡ Decodes bs → 2 * length bs ≡ length cs
unfolding decoded
decoded-half [] bs e = let z : bs ≡ [] = cc in rw z
decoded-half (c ∷ []) bs e = let z : ◌≡◌ {A = ℕ} 0 1 = cc in absurd (omega arith)
decoded-half (c ∷ d ∷ cs) bs e =
    let j = joins (digit_of c) (digit_of d) (decoded cs) bs e in
    omega (arith, ap length j.bytes, decoded-half cs j.rest j.behind)

-- bytes that were answered are half of the characters, and all in what was lent
pub half-frame : (line : List ℕ) (chars : ℕ) (out : List ℕ) (k : ℕ) (b : List ℕ) → record { answer = Ok k; out = b } ≡ frame_of line chars out
    → (2 * k ≤ line_limit) × (k ≤ length b)
half-frame line chars out k b e = go (leb chars line_limit) refl (leb chars (length line)) refl (leb (chars / 2) (length out)) refl
  where
    no-long : {A : Type 0} → frame_of line chars out ≡ too_long out → A
    no-long h = let z : ◌≡◌ {A = Result ℕ FrameError} (Ok k) (Err TooLong) = ap (λ (f : Framed). f.answer) (e ∙ h) in let w : ◌≡◌ {A = ℕ} 0 1 = cc in absurd (omega arith)

    half : Fitting line chars out → (d : Decoded) → decoded (take chars line) ≡ d → (2 * k ≤ line_limit) × (k ≤ length b)
    half f (Decodes bs) d =
        let q = e ∙ by-decoded f d in
        let z : ◌≡◌ {A = Result ℕ FrameError} (Ok k) (Ok (length bs)) = ap (λ (x : Framed). x.answer) q in
        let n : k ≡ length bs = cc in
        let m = decoded-half (take chars line) bs d in
        let l = length-take-le chars line f.reach in
        let o : length b ≡ length out = ap (λ (x : Framed). length x.out) q ∙ length-sets out 0 bs in
        (omega (arith, f.limit), omega (arith, f.room))
    half f Fails d =
        let z : ◌≡◌ {A = Result ℕ FrameError} (Ok k) (Err NotHex) = ap (λ (x : Framed). x.answer) (e ∙ by-decoded f d) in
        let w : ◌≡◌ {A = ℕ} 0 1 = cc in absurd (omega arith)

    go : (s : Bool) → leb chars line_limit ≡ s → (t : Bool) → leb chars (length line) ≡ t → (u : Bool) → leb (chars / 2) (length out) ≡ u
        → (2 * k ≤ line_limit) × (k ≤ length b)
    go false s t p u q = no-long (above-limit line chars out (leb-false chars line_limit s))
    go true s false t u q = no-long (above-line line chars out (leb-true chars line_limit s) (leb-false chars (length line) t))
    go true s true t false u =
        no-long (above-out line chars out (leb-true chars line_limit s) (leb-true chars (length line) t) (leb-false (chars / 2) (length out) u))
    go true s true t true u =
        half (record { limit = leb-true chars line_limit s; reach = leb-true chars (length line) t; room = leb-true (chars / 2) (length out) u })
        (decoded (take chars line)) refl
