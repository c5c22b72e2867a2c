-- The loops over a line's characters: where each stands, and what a turn does.
use Rattle.std.proofs.Common.{ℕ, ◌+◌, ◌*◌, ◌/◌, ◌<◌, ◌≤◌, ◌≡◌, Bool, true, false, ◌&&◌, Some, None, ◌-◌, List, ◌∷◌, length, drop, set, get_or, ap, ◌∙◌, sym, arith, add-one, drop_of_length-le, length-drop}
use Rattle.std.proofs.Math.Seq.{drop-cons}
use Rattle.std.proofs.lemmas.List.Edits.{sets}
use Rattle.std.proofs.lemmas.Bool.{and_parts}
use Rattle.place.specs.Place.{Putting, put-start, put-more, put-inside}
use Rattle.text_digits.specs.Digits.{digit_of}
use Rattle.text_digits.specs.DigitLaws.{digital, below-run, above-run, figure, capital, small, strange}
use Rattle.text_hex.specs.Faults.{is_digit, digit-known, known_of, all_digits, bytes_in, bytes_in-short, length-bytes-in, Decodable}

-- ---- one character

-- what it is worth by its run, and that it is no digit below, between and above them
module _ (c : ℕ) where
  pub figure_of : {v : ℕ} → 48 ≤ c → c ≤ 57 → v ≡ c - 48 → Some v ≡ digit_of c
  figure_of g h e = ap Some e ∙ sym (figure c g (omega arith))

  pub capital_of : {v : ℕ} → 65 ≤ c → c ≤ 70 → v ≡ c - 55 → Some v ≡ digit_of c
  capital_of g h e = ap Some e ∙ sym (capital c g (omega arith))

  pub small_of : {v : ℕ} → 97 ≤ c → c ≤ 102 → v ≡ c - 87 → Some v ≡ digit_of c
  small_of g h e = ap Some e ∙ sym (small c g (omega arith))

  pub none-below : c < 48 → None ≡ digit_of c
  none-below h = sym (strange c (below-run 48 58 c h) (below-run 65 71 c (omega arith)) (below-run 97 103 c (omega arith)))

  pub none-between : 58 ≤ c → c < 65 → None ≡ digit_of c
  none-between g h = sym (strange c (above-run 48 58 c g) (below-run 65 71 c h) (below-run 97 103 c (omega arith)))

  pub none-among : 71 ≤ c → c < 97 → None ≡ digit_of c
  none-among g h = sym (strange c (above-run 48 58 c (omega arith)) (above-run 65 71 c g) (below-run 97 103 c h))

  pub none-above : 103 ≤ c → None ≡ digit_of c
  none-above g = sym (strange c (above-run 48 58 c (omega arith)) (above-run 65 71 c (omega arith)) (above-run 97 103 c g))

pub ruleset by_runs = (figure_of, capital_of, small_of, none-below, none-between, none-among, none-above)

-- ---- tested

pub test-more : (line : List ℕ) (i : ℕ) → i < length line → (all tested more : Bool) → all_digits line ≡ (all && all_digits (drop i line))
    → tested ≡ is_digit (get_or line i 0) → more ≡ (all && tested) → all_digits line ≡ (more && all_digits (drop (i + 1) line))
unfolding all_digits
test-more line i h true tested more w p q = rw (add-one i) (rw (drop-cons line i 0 h) at w ∙ rw (q, p))
test-more line i h false tested more w p q = w ∙ rw q

pub test-done : (line : List ℕ) (i : ℕ) → length line ≤ i → (all : Bool) → all_digits line ≡ (all && all_digits (drop i line)) → all ≡ all_digits line
unfolding all_digits
test-done line i h true w = sym (rw (drop_of_length-le line {i = i} h) at w)
test-done line i h false w = sym w

-- ---- decoded

pub record Decoding (line out buf : List ℕ) (k : ℕ) : Type 0 where
  pub clean : all_digits (drop (2 * k) line) ≡ true
  pub put : Putting out 0 (bytes_in line) buf k (bytes_in (drop (2 * k) line))

pub decode-start : {line out : List ℕ} → Decodable line out → Decoding line out out 0
decode-start {line} {out} d =
    record {
      clean = d.clean;
      put = put-start out 0 (bytes_in line) (omega (arith, d.room, length-bytes-in line));
    }

module _ {line out buf : List ℕ} {k : ℕ} (w : Decoding line out buf k) where
  -- the two digits of the next byte
  module _ (h : k < length line / 2) where
    two-chars : drop (2 * k) line ≡ get_or line (2 * k) 0 ∷ get_or line (2 * k + 1) 0 ∷ drop (2 * (k + 1)) line
    two-chars =
        let e : 2 * (k + 1) ≡ 2 * k + 1 + 1 = omega arith in
        rw (drop-cons line (2 * k) 0 (omega arith), ← add-one (2 * k), drop-cons line (2 * k + 1) 0 (omega arith), ← add-one (2 * k + 1), e)

    both-digits : (is_digit (get_or line (2 * k) 0) ≡ true) × (is_digit (get_or line (2 * k + 1) 0) ≡ true) × (all_digits (drop (2 * (k + 1)) line) ≡ true)
    unfolding all_digits
    both-digits =
        let x = and_parts (is_digit (get_or line (2 * k) 0)) (is_digit (get_or line (2 * k + 1) 0) && all_digits (drop (2 * (k + 1)) line)) (rw two-chars at w.clean) in
        let y = and_parts (is_digit (get_or line (2 * k + 1) 0)) (all_digits (drop (2 * (k + 1)) line)) x.1 in
        (x.0, y.0, y.1)

    pub high_digit : known_of (get_or line (2 * k) 0) < 16
    high_digit = (digital _ _ (digit-known _ both-digits.0)).below

    pub low_digit : known_of (get_or line (2 * k + 1) 0) < 16
    low_digit = (digital _ _ (digit-known _ both-digits.1)).below

    one_byte : Putting out 0 (bytes_in line) buf k ((16 * known_of (get_or line (2 * k) 0) + known_of (get_or line (2 * k + 1) 0)) ∷ bytes_in (drop (2 * (k + 1)) line))
    unfolding bytes_in
    one_byte = rw two-chars at w.put

    pub decode-inside : k < length buf
    decode-inside = put-inside one_byte

    pub decode-more : {g l : ℕ} → g ≡ known_of (get_or line (2 * k) 0) → l ≡ known_of (get_or line (2 * k + 1) 0) → Decoding line out (set buf k (16 * g + l)) (k + 1)
    decode-more q r = record { clean = both-digits.2; put = rw (q, r) (put-more one_byte) }

  pub decode-done : length line / 2 ≤ k → buf ≡ sets out 0 (bytes_in line)
  decode-done h = rw (bytes_in-short (drop (2 * k) line) (omega (arith, length-drop (2 * k) line))) at w.put.rest
