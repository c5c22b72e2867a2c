-- How long a line is, which lines are those of the entries that they spell, and the entries of a line that was written.
use Rattle.std.specs.Prelude.{ℕ, zero, suc, ◌+◌, ◌-◌, ◌*◌, ◌/◌, ◌%◌, ◌^◌, ◌≤◌, ◌<◌, ◌≡◌, refl, Bool, true, false, List, [], ◌∷◌, ◌++◌, eqb, leb, ltb, length, take, drop, get_or}
use Rattle.std.proofs.Common.{ap, ◌∙◌, append_assoc, arith, mul-suc, eqb-true, eq-eqb, leb-true, ltb-true, length-append, take-append-drop, drop_of_length-le, take_at, drop_at, drop-drop, drop-cons}
use Rattle.std.proofs.Math.Path.{sym}
use Rattle.std.proofs.Math.Nat.{one-le-pow, mod-add-div, mul-div_right, mul-mod_right}
use Rattle.wire.specs.Choose.{choose, both}
use Rattle.place.specs.Place.{length_part}
use Rattle.text_digits.specs.Digits.{digits, reads_on}
use Rattle.text_digits.specs.DigitLaws.{length_digits, glyph-figure}
use Rattle.text_hex.specs.Trips.{read-digits}
use Rattle.index.specs.Index.{Entry, sound_entry, sound_from}
use Rattle.index_line.specs.Chars.{capitals, capitals-both, capitals-take, capitals-drop, capitals-digits, again, below}
use Rattle.index_line.specs.Line.{head_digits, tag_digits, width, spelled, spelled_all, line_of, sound_entries}
use Rattle.index_line.specs.Line.{number_at, spelled_at, entries_in, tags_in, entries_of, same, spelled_well}

-- ---- lengths

pub length-spelled : (w : ℕ) (e : Entry) → length (spelled w e) ≡ width w
unfolding spelled
length-spelled w e =
    omega (
      arith,
      length-append (digits 16 tag_digits e.tag) (digits 16 w e.place ++ digits 16 w e.count),
      length-append (digits 16 w e.place) (digits 16 w e.count),
      length_digits 16 tag_digits e.tag,
      length_digits 16 w e.place,
      length_digits 16 w e.count,
    )

pub length-spelled-all : (w : ℕ) (es : List Entry) → length (spelled_all w es) ≡ width w * length es
length-spelled-all w [] = omega arith
length-spelled-all w (e ∷ es) =
    omega (arith, length-append (spelled w e) (spelled_all w es), length-spelled w e, length-spelled-all w es, mul-suc (width w) (length es))

pub length-line : (edition w : ℕ) (es : List Entry) → length (line_of edition w es) ≡ head_digits + width w * length es
length-line edition w es =
    omega (arith, length-append (digits 16 head_digits edition) (spelled_all w es), length_digits 16 head_digits edition, length-spelled-all w es)

pub length-entries : (w k : ℕ) (s : List ℕ) (i : ℕ) → length (entries_in w k s i) ≡ k
length-entries w zero s i = refl
length-entries w (suc k) s i = ap suc (length-entries w k s (i + width w))

-- ---- two lists that are one

pub same_refl : (xs : List ℕ) → same xs xs ≡ true
same_refl [] = refl
same_refl (x ∷ xs) = rw (eq-eqb x x refl) (same_refl xs)

pub same_true : (xs ys : List ℕ) → same xs ys ≡ true → xs ≡ ys
same_true [] [] h = refl
same_true [] (y ∷ ys) h = let z : ◌≡◌ {A = ℕ} 0 1 = cc in absurd (omega arith)
same_true (x ∷ xs) [] h = let z : ◌≡◌ {A = ℕ} 0 1 = cc in absurd (omega arith)
same_true (x ∷ xs) (y ∷ ys) h =
    let p = both (eqb x y) (same xs ys) h in
    let a : x ≡ y = eqb-true x y p.0 in
    let b : xs ≡ ys = same_true xs ys p.1 in
    rw (a, b)

pub same_not : (xs ys : List ℕ) → (xs ≡ ys → ⊥) → same xs ys ≡ false
same_not xs ys h = go (same xs ys) refl
  where
    go : (t : Bool) → same xs ys ≡ t → same xs ys ≡ false
    go true e = absurd (h (same_true xs ys e))
    go false e = e

-- ---- characters that are all capitals are those of the entries that they spell

-- k characters, and the characters behind them
parted : (s : List ℕ) (i k : ℕ) → take k (drop i s) ++ drop (i + k) s ≡ drop i s
parted s i k = rw (← drop-drop k i s) (take-append-drop k (drop i s))

capitals-on : (s : List ℕ) (i k : ℕ) → capitals (drop i s) ≡ true → capitals (drop (i + k) s) ≡ true
capitals-on s i k h = rw (← drop-drop k i s) (capitals-drop k (drop i s) h)

number-again : (s : List ℕ) (i k : ℕ) → capitals (drop i s) ≡ true → i + k ≤ length s → digits 16 k (number_at s i k) ≡ take k (drop i s)
number-again s i k h g = again (take k (drop i s)) (length_part s i k g) (capitals-take k (drop i s) h)

pub number-below : (s : List ℕ) (i k : ℕ) → i + k ≤ length s → number_at s i k < 16 ^ k
number-below s i k g = below (take k (drop i s)) (length_part s i k g)

pub spelled-again : (w : ℕ) (s : List ℕ) (i : ℕ) → capitals (drop i s) ≡ true → i + width w ≤ length s
    → spelled w (spelled_at w s i) ++ drop (i + width w) s ≡ drop i s
unfolding spelled_at spelled
spelled-again w s i h g =
    let j = i + tag_digits in
    let k = i + tag_digits + w in
    let a = digits 16 tag_digits (number_at s i tag_digits) in
    let b = digits 16 w (number_at s j w) in
    let c = digits 16 w (number_at s k w) in
    let e : i + width w ≡ k + w = omega arith in
    let hj = capitals-on s i tag_digits h in
    let p : a ≡ take tag_digits (drop i s) = number-again s i tag_digits h (omega arith) in
    let q : b ≡ take w (drop j s) = number-again s j w hj (omega arith) in
    let r : c ≡ take w (drop k s) = number-again s k w (capitals-on s j w hj) (omega arith) in
    let x : c ++ drop (k + w) s ≡ drop k s = rw r (parted s k w) in
    let y : b ++ drop k s ≡ drop j s = rw q (parted s j w) in
    let z : a ++ drop j s ≡ drop i s = rw p (parted s i tag_digits) in
    rw (e, append_assoc a (b ++ c) (drop (k + w) s), append_assoc b c (drop (k + w) s), x, y) z

pub all-again : (w k : ℕ) (s : List ℕ) (i : ℕ) → capitals (drop i s) ≡ true → i + width w * k ≡ length s → spelled_all w (entries_in w k s i) ≡ drop i s
all-again w zero s i h g = sym (drop_of_length-le s {i = i} (omega (arith, g)))
all-again w (suc k) s i h g =
    let m = mul-suc (width w) k in
    rw (all-again w k s (i + width w) (capitals-on s i (width w) h) (omega (arith, g, m))) (spelled-again w s i h (omega (arith, g, m)))

capitals-one : (w : ℕ) (e : Entry) → capitals (spelled w e) ≡ true
unfolding spelled
capitals-one w e =
    capitals-both (digits 16 tag_digits e.tag) (digits 16 w e.place ++ digits 16 w e.count) (capitals-digits tag_digits e.tag)
    (capitals-both (digits 16 w e.place) (digits 16 w e.count) (capitals-digits w e.place) (capitals-digits w e.count))

pub capitals-spelled : (w : ℕ) (es : List Entry) → capitals (spelled_all w es) ≡ true
capitals-spelled w [] = refl
capitals-spelled w (e ∷ es) = capitals-both (spelled w e) (spelled_all w es) (capitals-one w e) (capitals-spelled w es)

-- ---- which lines are well spelled

-- the digits of an edition below ten
head-chars : (edition : ℕ) → edition < 10 → digits 16 head_digits edition ≡ 48 ∷ (48 + edition) ∷ []
unfolding digits
head-chars edition h =
    let a : edition / 16 % 16 ≡ 0 = omega arith in
    let b : edition % 16 ≡ edition = omega arith in
    rw (a, b, glyph-figure 0 (omega arith), glyph-figure edition h)

module _ (edition w : ℕ) (s : List ℕ) where
  unlike : (line_of edition w (entries_of w s) ≡ s → ⊥) → false ≡ spelled_well edition w s
  unfolding spelled_well
  unlike h = sym (same_not (line_of edition w (entries_of w s)) s h)

  alike : line_of edition w (entries_of w s) ≡ s → true ≡ spelled_well edition w s
  unfolding spelled_well
  alike h = sym (rw h (same_refl s))

  pub well-line : spelled_well edition w s ≡ true → line_of edition w (entries_of w s) ≡ s
  unfolding spelled_well
  well-line h = same_true (line_of edition w (entries_of w s)) s h

  by_length : line_of edition w (entries_of w s) ≡ s → length s ≡ head_digits + width w * length (entries_of w s)
  by_length e = ap length (sym e) ∙ length-line edition w (entries_of w s)

  pub well-length : spelled_well edition w s ≡ true → length s ≡ head_digits + width w * tags_in w s
  well-length h = by_length (well-line h) ∙ ap (λ (k : ℕ). head_digits + width w * k) (length-entries w (tags_in w s) s head_digits)

  pub well-short : length s < head_digits → false ≡ spelled_well edition w s
  well-short h = unlike (λ e. omega (arith, by_length e))

  pub well-parts : 0 < (length s - head_digits) % width w → false ≡ spelled_well edition w s
  well-parts h =
      unlike
      (λ e.
      let n = length (entries_of w s) in
      let a : length s - head_digits ≡ width w * n = omega (arith, by_length e) in
      omega (arith, ap (λ (x : ℕ). x % width w) a, mul-mod_right (width w) n))

  module _ (small : edition < 10) where
    by-head : line_of edition w (entries_of w s) ≡ s → 48 ∷ (48 + edition) ∷ spelled_all w (entries_of w s) ≡ s
    by-head e = sym (ap (λ (l : List ℕ). l ++ spelled_all w (entries_of w s)) (head-chars edition small)) ∙ e

    pub well-first : (get_or s 0 0 ≡ 48 → ⊥) → false ≡ spelled_well edition w s
    well-first h = unlike (λ e. h (ap (λ (l : List ℕ). get_or l 0 0) (sym (by-head e))))

    pub well-second : (get_or s 1 0 ≡ 48 + edition → ⊥) → false ≡ spelled_well edition w s
    well-second h = unlike (λ e. h (ap (λ (l : List ℕ). get_or l 1 0) (sym (by-head e))))

    pub well-as : head_digits ≤ length s → get_or s 0 0 ≡ 48 → get_or s 1 0 ≡ 48 + edition → (length s - head_digits) % width w ≤ 0
        → capitals (drop head_digits s) ≡ spelled_well edition w s
    well-as h a b m = go (capitals (drop head_digits s)) refl
      where
        go : (t : Bool) → capitals (drop head_digits s) ≡ t → capitals (drop head_digits s) ≡ spelled_well edition w s
        go true t =
            let d = mod-add-div (length s - head_digits) (width w) in
            let r : spelled_all w (entries_of w s) ≡ drop 2 s = all-again w (tags_in w s) s head_digits t (omega (arith, d)) in
            let p : drop 1 s ≡ get_or s 1 0 ∷ drop 2 s = drop-cons s 1 0 (omega arith) in
            let q : s ≡ get_or s 0 0 ∷ drop 1 s = drop-cons s 0 0 (omega arith) in
            let e : 48 ∷ (48 + edition) ∷ drop 2 s ≡ s = rw (← b, ← a, ← p) (sym q) in
            t ∙ alike (rw (head-chars edition small, r) e)
        go false t =
            t
            ∙ unlike
            (λ e.
            let r : drop head_digits s ≡ spelled_all w (entries_of w s) = ap (λ (l : List ℕ). drop 2 l) (sym (by-head e)) in
            let f : false ≡ true = sym t ∙ ap capitals r ∙ capitals-spelled w (entries_of w s) in
            let z : ◌≡◌ {A = ℕ} 0 1 = cc in
            omega arith)

-- ---- the entries of a line that was written

-- digits that stand at a place
module _ (s : List ℕ) (i k v : ℕ) (rest : List ℕ) (h : drop i s ≡ digits 16 k v ++ rest) where
  number-there : v < 16 ^ k → number_at s i k ≡ v
  number-there b =
      let e : take k (drop i s) ≡ digits 16 k v = rw h (take_at (digits 16 k v) rest k (length_digits 16 k v)) in
      ap (reads_on 16 0) e ∙ read-digits 16 k v (omega arith) (omega arith) b

  behind-there : drop (i + k) s ≡ rest
  behind-there = sym (drop-drop k i s) ∙ rw h (drop_at (digits 16 k v) rest k (length_digits 16 k v))

-- what may be used fits its digits
pub record Fitting (w : ℕ) (e : Entry) : Type 0 where
  pub tag : e.tag < 16 ^ tag_digits
  pub place : e.place < 16 ^ w
  pub count : e.count < 16 ^ w

sound-fits : (w least : ℕ) (e : Entry) → sound_entry (16 ^ w) (16 ^ w - 1) least e ≡ true → Fitting w e
unfolding sound_entry
sound-fits w least e h =
    let b = ltb e.tag (2 ^ 32) in
    let c = ltb e.place (16 ^ w) in
    let d = leb 1 e.count in
    let f = leb e.count (16 ^ w - 1) in
    let p = both (leb least e.tag) (choose b (choose c (choose d f false) false) false) h in
    let q = both b (choose c (choose d f false) false) p.1 in
    let r = both c (choose d f false) q.1 in
    let x = both d f r.1 in
    let some : 1 ≤ 16 ^ w = one-le-pow w 16 (omega arith) in
    record {
      tag = omega (arith, ltb-true e.tag (2 ^ 32) q.0);
      place = ltb-true e.place (16 ^ w) r.0;
      count = omega (arith, leb-true e.count (16 ^ w - 1) x.1);
    }

pub entries-there : (w least : ℕ) (es : List Entry) (s : List ℕ) (i : ℕ) → sound_from (16 ^ w) (16 ^ w - 1) least es ≡ true
    → drop i s ≡ spelled_all w es → entries_in w (length es) s i ≡ es
unfolding spelled spelled_at
entries-there w least [] s i h d = refl
entries-there w least (e ∷ es) s i h d =
    let p = both (sound_entry (16 ^ w) (16 ^ w - 1) least e) (sound_from (16 ^ w) (16 ^ w - 1) (suc e.tag) es) h in
    let f = sound-fits w least e p.0 in
    let t = digits 16 tag_digits e.tag in
    let a = digits 16 w e.place in
    let c = digits 16 w e.count in
    let r = spelled_all w es in
    let d₁ : drop i s ≡ t ++ (a ++ (c ++ r)) = d ∙ append_assoc t (a ++ c) r ∙ ap (λ (l : List ℕ). t ++ l) (append_assoc a c r) in
    let d₂ = behind-there s i tag_digits e.tag (a ++ (c ++ r)) d₁ in
    let d₃ = behind-there s (i + tag_digits) w e.place (c ++ r) d₂ in
    let d₄ = behind-there s (i + tag_digits + w) w e.count r d₃ in
    let z : i + width w ≡ i + tag_digits + w + w = omega arith in
    rw (
      number-there s i tag_digits e.tag (a ++ (c ++ r)) d₁ f.tag,
      number-there s (i + tag_digits) w e.place (c ++ r) d₂ f.place,
      number-there s (i + tag_digits + w) w e.count r d₃ f.count,
      entries-there w (suc e.tag) es s (i + width w) p.1 (rw z d₄),
    )

pub entries-written : (edition w : ℕ) (es : List Entry) → sound_entries w es ≡ true → entries_of w (line_of edition w es) ≡ es
entries-written edition w es h =
    let l = line_of edition w es in
    let n : length l - head_digits ≡ width w * length es = omega (arith, length-line edition w es) in
    let k : tags_in w l ≡ length es = rw n (mul-div_right (length es) (omega arith)) in
    let d : drop head_digits l ≡ spelled_all w es = drop_at (digits 16 head_digits edition) (spelled_all w es) head_digits (length_digits 16 head_digits edition) in
    rw k (entries-there w 0 es l head_digits h d)
