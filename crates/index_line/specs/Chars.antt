-- Characters that are digits as they are written, capitals and no small letters; the numbers that they spell.
use Rattle.std.specs.Prelude.{ℕ, zero, suc, ◌+◌, ◌-◌, ◌*◌, ◌/◌, ◌%◌, ◌^◌, ◌≤◌, ◌<◌, refl, Bool, List, [], ◌∷◌, ◌++◌, ltb, length, take, drop, Option, Some, None}
use Rattle.std.proofs.Math.Path.{◌≡◌}
use Rattle.std.proofs.Common.{ap, ◌∙◌, sym, append_assoc, append-nil, arith, pow-suc, mul_assoc, mul_comm, ltb-true, ltb-false}
use Rattle.std.proofs.Math.Bool.{true, false}
use Rattle.wire.specs.Choose.{choose, both}
use Rattle.text_digits.specs.Digits.{between, digit_of, glyph, digits, worth, reads_on}
use Rattle.text_digits.specs.DigitLaws.{Run, Inside, Outside, runs, in-run, below-run, above-run, digital, glyph-figure, glyph-letter}
use Rattle.text_digits.specs.DigitLaws as digit

-- ---- one character

-- 0 to 9, A to F
unfoldable pub capital : ℕ → Bool
capital c = choose (between 48 58 c) true (between 65 71 c)

module _ (c : ℕ) where
  pub capital-low : c < 48 → capital c ≡ false
  unfolding capital
  capital-low h = rw (below-run 48 58 c h, below-run 65 71 c (omega arith))

  pub capital-figure : 48 ≤ c → c < 58 → capital c ≡ true
  unfolding capital
  capital-figure g h = rw (in-run 48 58 c g h)

  pub capital-between : 58 ≤ c → c < 65 → capital c ≡ false
  unfolding capital
  capital-between g h = rw (above-run 48 58 c g, below-run 65 71 c h)

  pub capital-letter : 65 ≤ c → c < 71 → capital c ≡ true
  unfolding capital
  capital-letter g h = rw (above-run 48 58 c (omega arith), in-run 65 71 c g h)

  pub capital-high : 71 ≤ c → capital c ≡ false
  unfolding capital
  capital-high h = rw (above-run 48 58 c (omega arith), above-run 65 71 c h)

  -- written again it is itself
  pub capital-again : capital c ≡ true → glyph (worth (digit_of c)) ≡ c
  unfolding capital
  capital-again e = go (runs 48 58 c) (runs 65 71 c)
    where
      go : Run 48 58 c → Run 65 71 c → glyph (worth (digit_of c)) ≡ c
      go (Inside g h t) q = rw (digit.figure c g h, glyph-figure (c - 48) (omega arith)) (omega arith)
      go (Outside p) (Inside g h t) = rw (digit.capital c g h, glyph-letter (c - 55) (omega arith)) (omega arith)
      go (Outside p) (Outside q) = let f : false ≡ true = rw (p, q) at e in let z : ◌≡◌ {A = ℕ} 0 1 = cc in absurd (omega arith)

  pub worth-small : worth (digit_of c) < 16
  worth-small = go (digit_of c) refl
    where
      go : (d : Option ℕ) → digit_of c ≡ d → worth (digit_of c) < 16
      go (Some v) e = rw e (digital c v e).below
      go None e = rw e (omega arith)

pub glyph-capital : (d : ℕ) → d < 16 → capital (glyph d) ≡ true
glyph-capital d h = go (ltb d 10) refl
  where
    go : (t : Bool) → ltb d 10 ≡ t → capital (glyph d) ≡ true
    go true e = let l = ltb-true d 10 e in rw (glyph-figure d l) (capital-figure (48 + d) (omega arith) (omega arith))
    go false e = let l = ltb-false d 10 e in rw (glyph-letter d l) (capital-letter (55 + d) (omega arith) (omega arith))

-- ---- several

abbrev pub capitals : List ℕ → Bool
capitals [] = true
capitals (c ∷ cs) = choose (capital c) (capitals cs) false

pub capitals-both : (cs ds : List ℕ) → capitals cs ≡ true → capitals ds ≡ true → capitals (cs ++ ds) ≡ true
capitals-both [] ds g h = h
capitals-both (c ∷ cs) ds g h = let p = both (capital c) (capitals cs) g in rw p.0 (capitals-both cs ds p.1 h)

pub capitals-take : (k : ℕ) (cs : List ℕ) → capitals cs ≡ true → capitals (take k cs) ≡ true
capitals-take zero cs h = refl
capitals-take (suc k) [] h = refl
capitals-take (suc k) (c ∷ cs) h = let p = both (capital c) (capitals cs) h in rw p.0 (capitals-take k cs p.1)

pub capitals-drop : (k : ℕ) (cs : List ℕ) → capitals cs ≡ true → capitals (drop k cs) ≡ true
capitals-drop zero cs h = h
capitals-drop (suc k) [] h = refl
capitals-drop (suc k) (c ∷ cs) h = capitals-drop k cs (both (capital c) (capitals cs) h).1

pub capitals-digits : (k v : ℕ) → capitals (digits 16 k v) ≡ true
unfolding digits
capitals-digits zero v = refl
capitals-digits (suc k) v =
    capitals-both (digits 16 k (v / 16)) (glyph (v % 16) ∷ []) (capitals-digits k (v / 16)) (rw (glyph-capital (v % 16) (omega arith)))

-- ---- the number that they spell

-- written again they are themselves, behind the digits of the number before them
again_behind : (j n : ℕ) (cs : List ℕ) → capitals cs ≡ true → digits 16 (j + length cs) (reads_on 16 n cs) ≡ digits 16 j n ++ cs
unfolding digits reads_on
again_behind j n [] h = let e : j + 0 ≡ j = omega arith in rw e (sym (append-nil (digits 16 j n)))
again_behind j n (c ∷ cs) h =
    let p = both (capital c) (capitals cs) h in
    let v = worth (digit_of c) in
    let v₁ : v < 16 = worth-small c in
    let e : j + suc (length cs) ≡ suc j + length cs = omega arith in
    let q : (n * 16 + v) / 16 ≡ n = omega arith in
    let r : (n * 16 + v) % 16 ≡ v = omega arith in
    let s : digits 16 (j + suc (length cs)) (reads_on 16 (n * 16 + v) cs) ≡ digits 16 (suc j) (n * 16 + v) ++ cs =
    rw e (again_behind (suc j) (n * 16 + v) cs p.1)
    in
    s ∙ rw (q, r, capital-again c p.0) (append_assoc (digits 16 j n) (c ∷ []) cs)

pub again : (cs : List ℕ) {k : ℕ} → length cs ≡ k → capitals cs ≡ true → digits 16 k (reads_on 16 0 cs) ≡ cs
unfolding digits
again cs {k} e h = let z : k ≡ 0 + length cs = omega arith in rw z (again_behind 0 0 cs h)

-- it has no more digits
below-behind : (m n : ℕ) (cs : List ℕ) → n < m → reads_on 16 n cs < m * 16 ^ length cs
unfolding reads_on
below-behind m n [] h = omega arith
below-behind m n (c ∷ cs) h =
    let v₁ : worth (digit_of c) < 16 = worth-small c in
    let f : 16 * 16 ^ length cs ≡ 16 ^ suc (length cs) = mul_comm 16 (16 ^ length cs) ∙ sym (pow-suc 16 (length cs)) in
    let e : m * 16 * 16 ^ length cs ≡ m * 16 ^ suc (length cs) = mul_assoc m 16 (16 ^ length cs) ∙ ap (λ (x : ℕ). m * x) f in
    rw (← e) (below-behind (m * 16) (n * 16 + worth (digit_of c)) cs (omega arith))

pub below : (cs : List ℕ) {k : ℕ} → length cs ≡ k → reads_on 16 0 cs < 16 ^ k
below cs {k} e = rw (← e) (omega (arith, below-behind 1 0 cs (omega arith)))
