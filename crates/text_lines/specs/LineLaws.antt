-- A line that is taken is the characters up to LF; taken from block after block, the lines are those of the whole input.
use Rattle.std.specs.Prelude.{ℕ, suc, ◌+◌, ◌^◌, ◌≤◌, ◌<◌, min, ◌≡◌, refl, Bool, true, false, List, [], ◌∷◌, ◌++◌, eqb, ltb, length, take, drop, set}
use Rattle.std.proofs.Common.{ap, ◌∙◌, sym, subst, append-nil, append_assoc, arith, ne_eqb, eqb-true, ltb-true, ltb-false, length-append, length-set, length-drop, take-suc-set, take_all}
use Rattle.std.proofs.lemmas.Bool.{eqb-false}
use Rattle.std.proofs.Math.Seq.{set_out, take-nil}
use Rattle.std.proofs.lemmas.List.{take-append-le}
use Rattle.text_lines.specs.Lines.{count_up, in_first, lines_of, Taking, takes, take_line}
use Rattle.text_lines.specs.declared.Taken.TheVariants.{Line, Part}

-- ---- what is taken

-- no character is LF
abbrev pub Clear : List ℕ → Type 0
Clear [] = Unit {0}
Clear (c ∷ cs) = (c ≡ 10 → ⊥) × Clear cs

-- the buffer and the count after characters
abbrev pub kept_line : List ℕ → ℕ → List ℕ → List ℕ
kept_line line n [] = line
kept_line line n (c ∷ cs) = kept_line (set line n c) (count_up n) cs

abbrev pub kept_count : ℕ → List ℕ → ℕ
kept_count n [] = n
kept_count n (c ∷ cs) = kept_count (count_up n) cs

-- a whole line: the characters xs, then LF
pub record Whole (rest : List ℕ) (at : ℕ) (line : List ℕ) (chars : ℕ) (next k : ℕ) (line' : List ℕ) : Type 0 where
  pub xs : List ℕ
  pub tail : List ℕ
  pub clear : Clear xs
  pub split : rest ≡ xs ++ 10 ∷ tail
  pub place : next ≡ at + suc (length xs)
  pub count : k ≡ kept_count chars xs
  pub kept : line' ≡ kept_line line chars xs

pub whole : (rest : List ℕ) (at : ℕ) (line : List ℕ) (chars next k : ℕ) (line' : List ℕ)
    → record { answer = Line next k; line = line' } ≡ takes rest at line chars → Whole rest at line chars next k line'
unfolding takes
whole [] at line chars next k line' e =
    let z : Line next k ≡ Part chars = ap (λ (t : Taking). t.answer) e in let w : ◌≡◌ {A = ℕ} 0 1 = cc in absurd (omega arith)
whole (c ∷ rest) at line chars next k line' e = go (eqb c 10) refl (whole rest (at + 1) (set line chars c) (count_up chars) next k line')
  where
    go : (b : Bool) → eqb c 10 ≡ b
        →
        (record { answer = Line next k; line = line' } ≡ takes rest (at + 1) (set line chars c) (count_up chars)
        → Whole rest (at + 1) (set line chars c) (count_up chars) next k line')
        → Whole (c ∷ rest) at line chars next k line'
    go true b ih =
        let q : ◌≡◌ {A = Taking} (record { answer = Line next k; line = line' }) (record { answer = Line (at + 1) chars; line = line }) = simp b at e in
        let z : Line next k ≡ Line (at + 1) chars = ap (λ (t : Taking). t.answer) q in
        let n : next ≡ at + 1 = cc in
        let ten : c ≡ 10 = eqb-true c 10 b in
        record { xs = []; tail = rest; clear = tt; split = rw ten; place = omega arith; count = cc; kept = ap (λ (t : Taking). t.line) q }
    go false b ih =
        let w = ih (simp b at e) in
        record {
          xs = c ∷ w.xs;
          tail = w.tail;
          clear = (eqb-false c 10 b, w.clear);
          split = ap (λ (l : List ℕ). c ∷ l) w.split;
          place = omega (arith, w.place);
          count = w.count;
          kept = w.kept;
        }

-- the part of a line that a block ends in: all of the rest
pub record Ended (rest : List ℕ) (line : List ℕ) (chars : ℕ) (k : ℕ) (line' : List ℕ) : Type 0 where
  pub clear : Clear rest
  pub count : k ≡ kept_count chars rest
  pub kept : line' ≡ kept_line line chars rest

pub ended : (rest : List ℕ) (at : ℕ) (line : List ℕ) (chars k : ℕ) (line' : List ℕ)
    → record { answer = Part k; line = line' } ≡ takes rest at line chars → Ended rest line chars k line'
unfolding takes
ended [] at line chars k line' e =
    let z : Part k ≡ Part chars = ap (λ (t : Taking). t.answer) e in
    record { clear = tt; count = cc; kept = ap (λ (t : Taking). t.line) e }
ended (c ∷ rest) at line chars k line' e = go (eqb c 10) refl (ended rest (at + 1) (set line chars c) (count_up chars) k line')
  where
    go : (b : Bool) → eqb c 10 ≡ b
        → (record { answer = Part k; line = line' } ≡ takes rest (at + 1) (set line chars c) (count_up chars)
        → Ended rest (set line chars c) (count_up chars) k line')
        → Ended (c ∷ rest) line chars k line'
    go true b ih =
        let q : ◌≡◌ {A = Taking} (record { answer = Part k; line = line' }) (record { answer = Line (at + 1) chars; line = line }) = simp b at e in
        let z : Part k ≡ Line (at + 1) chars = ap (λ (t : Taking). t.answer) q in let w : ◌≡◌ {A = ℕ} 0 1 = cc in absurd (omega arith)
    go false b ih =
        let w = ih (simp b at e) in
        record { clear = (eqb-false c 10 b, w.clear); count = w.count; kept = w.kept }

-- a line that is taken ends inside the block, and takes a character at least
pub moves : (block : List ℕ) (at : ℕ) (line : List ℕ) (chars next k : ℕ) (line' : List ℕ)
    → record { answer = Line next k; line = line' } ≡ take_line block at line chars → (at < next) × (next ≤ length block)
moves block at line chars next k line' e =
    let w = whole (drop at block) at line chars next k line' e in
    let n = length-append w.xs (10 ∷ w.tail) in
    let d = length-drop at block in
    let s = ap length w.split in
    (omega (arith, w.place), omega (arith, w.place))

-- ---- the lines of the input, of which characters are read already

abbrev pub begun : List ℕ → List (List ℕ) → List (List ℕ)
begun [] ls = ls
begun (c ∷ cs) ls = in_first c (begun cs ls)

first-line : (xs : List ℕ) (ls : List (List ℕ)) → begun xs ([] ∷ ls) ≡ xs ∷ ls
first-line [] ls = refl
first-line (x ∷ xs) ls = rw (first-line xs ls)

begun-append : (xs ys : List ℕ) (ls : List (List ℕ)) → begun (xs ++ ys) ls ≡ begun xs (begun ys ls)
begun-append [] ys ls = refl
begun-append (x ∷ xs) ys ls = ap (in_first x) (begun-append xs ys ls)

lines_clear : (xs rest : List ℕ) → Clear xs → lines_of (xs ++ rest) ≡ begun xs (lines_of rest)
lines_clear [] rest h = refl
lines_clear (x ∷ xs) rest h = rw (ne_eqb x 10 h.0) (ap (in_first x) (lines_clear xs rest h.1))

-- THE LINES, TAKEN: with the characters ks read, a whole line is the next one; at a block's end the characters are read on
pub lines-whole : {rest : List ℕ} {at : ℕ} {line : List ℕ} {chars next k : ℕ} {line' : List ℕ} (w : Whole rest at line chars next k line') (ks later : List ℕ)
    → begun ks (lines_of (rest ++ later)) ≡ (ks ++ w.xs) ∷ lines_of (w.tail ++ later)
lines-whole w ks later =
    let e = ap (λ (l : List ℕ). begun ks (lines_of (l ++ later))) w.split in
    let a = append_assoc w.xs (10 ∷ w.tail) later in
    e
    ∙ ap (λ (l : List ℕ). begun ks (lines_of l)) a
    ∙ ap (begun ks) (lines_clear w.xs (10 ∷ (w.tail ++ later)) w.clear)
    ∙ sym (begun-append ks w.xs ([] ∷ lines_of (w.tail ++ later)))
    ∙ first-line (ks ++ w.xs) (lines_of (w.tail ++ later))

pub lines-ended : {rest line : List ℕ} {chars k : ℕ} {line' : List ℕ} (w : Ended rest line chars k line') (ks later : List ℕ)
    → begun ks (lines_of (rest ++ later)) ≡ begun (ks ++ rest) (lines_of later)
lines-ended {rest} w ks later = ap (begun ks) (lines_clear rest later w.clear) ∙ sym (begun-append ks rest (lines_of later))

-- a last line without LF counts if it has a character
pub lines-last : (ks : List ℕ) → 1 ≤ length ks → begun ks (lines_of []) ≡ ks ∷ []
lines-last [] h = absurd (omega arith)
lines-last (k ∷ []) h = refl
lines-last (k ∷ l ∷ ks) h = ap (in_first k) (lines-last (l ∷ ks) (omega arith))

-- ---- what the buffer holds of the characters that were read

pub record Keeps (line : List ℕ) (chars : ℕ) (ks : List ℕ) : Type 0 where
  pub short : length line < 2 ^ 64
  pub count : chars ≡ min (length ks) 0xffff_ffff_ffff_ffff
  pub front : take (length ks) line ≡ take (length line) ks

pub keeps-none : (line : List ℕ) → length line < 2 ^ 64 → Keeps line 0 []
keeps-none line h = record { short = h; count = omega arith; front = sym (take-nil (length line)) }

keeps-one : {line : List ℕ} {chars : ℕ} {ks : List ℕ} (c : ℕ) → Keeps line chars ks → Keeps (set line chars c) (count_up chars) (ks ++ c ∷ [])
keeps-one {line} {chars} {ks} c w =
    let n = length-append ks (c ∷ []) in
    record {
      short = rw (length-set line chars c) w.short;
      count = omega (arith, w.count);
      front = go (ltb (length ks) (length line)) refl;
    }
  where
    go : (b : Bool) → ltb (length ks) (length line) ≡ b → take (length (ks ++ c ∷ [])) (set line chars c) ≡ take (length (set line chars c)) (ks ++ c ∷ [])
    go true b =
        let h = ltb-true (length ks) (length line) b in
        let e : length (ks ++ c ∷ []) ≡ suc (length ks) = omega (arith, length-append ks (c ∷ [])) in
        let k : chars ≡ length ks = omega (arith, w.count, w.short) in
        let f : take (length ks) line ≡ ks = w.front ∙ take_all (length line) ks (omega arith) in
        rw (k, e, take-suc-set line (length ks) c h, f, length-set line (length ks) c) (sym (take_all (length line) (ks ++ c ∷ []) (omega arith)))
    go false b =
        let h = ltb-false (length ks) (length line) b in
        let e : length (ks ++ c ∷ []) ≡ suc (length ks) = omega (arith, length-append ks (c ∷ [])) in
        let f : line ≡ take (length line) ks = sym (take_all (length ks) line h) ∙ w.front in
        rw (
          set_out line chars c (omega (arith, w.count, w.short)),
          take_all (length (ks ++ c ∷ [])) line (omega arith),
          take-append-le (length line) ks (c ∷ []) h,
        ) f

keeps-all : {line : List ℕ} {chars : ℕ} {ks : List ℕ} (xs : List ℕ) → Keeps line chars ks → Keeps (kept_line line chars xs) (kept_count chars xs) (ks ++ xs)
keeps-all {line} {chars} {ks} [] w = rw (append-nil ks) w
keeps-all {line} {chars} {ks} (c ∷ xs) w =
    subst (Keeps (kept_line line chars (c ∷ xs)) (kept_count chars (c ∷ xs))) (append_assoc ks (c ∷ []) xs)
    (keeps-all {line = set line chars c} {chars = count_up chars} {ks = ks ++ c ∷ []} xs (keeps-one c w))

kept-length : (line : List ℕ) (n : ℕ) (xs : List ℕ) → length (kept_line line n xs) ≡ length line
kept-length line n [] = refl
kept-length line n (x ∷ xs) = kept-length (set line n x) (count_up n) xs ∙ length-set line n x

keeps-as : {line : List ℕ} {chars : ℕ} {ks : List ℕ} (xs : List ℕ) {k : ℕ} {line' : List ℕ} → k ≡ kept_count chars xs → line' ≡ kept_line line chars xs
    → Keeps line chars ks
    → Keeps line' k (ks ++ xs) × (length line' ≡ length line)
keeps-as {line} {chars} xs e f w = rw (e, f) (keeps-all xs w, kept-length line chars xs)

pub whole-keeps :
    {rest : List ℕ} {at : ℕ} {line : List ℕ} {chars next k : ℕ} {line' : List ℕ} {ks : List ℕ} (w : Whole rest at line chars next k line')
    → Keeps line chars ks
    → Keeps line' k (ks ++ w.xs) × (length line' ≡ length line)
whole-keeps w = keeps-as w.xs w.count w.kept

pub ended-keeps : {rest line : List ℕ} {chars k : ℕ} {line' : List ℕ} {ks : List ℕ} → Ended rest line chars k line' → Keeps line chars ks
    → Keeps line' k (ks ++ rest) × (length line' ≡ length line)
ended-keeps {rest} w = keeps-as rest w.count w.kept

-- the characters that it kept whole, and the sign of too many
pub keeps-whole : {line : List ℕ} {chars : ℕ} {ks : List ℕ} → Keeps line chars ks → length ks ≤ length line → (chars ≡ length ks) × (take chars line ≡ ks)
keeps-whole {line} {chars} {ks} w h =
    let k : chars ≡ length ks = omega (arith, w.count, w.short) in
    (k, rw k (w.front ∙ take_all (length line) ks h))

pub keeps-long : {line : List ℕ} {chars : ℕ} {ks : List ℕ} → Keeps line chars ks → length line + 1 < 2 ^ 64 → length line < length ks → length line < chars
keeps-long w g h = omega (arith, w.count)
