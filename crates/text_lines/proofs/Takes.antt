-- A line's characters, found up to LF and put after those that the line has.
use Rattle.std.proofs.Common.{ℕ, zero, suc, min, ◌+◌, ◌-◌, ◌^◌, ◌≤◌, ◌<◌, ◌≡◌, refl, ap, ◌∙◌, sym, Bool, true, false, List, [], ◌∷◌, ◌++◌, length, take, drop, set, get_or, length-set, arith, leb, ltb, leb-true, leb-false, ltb-true, ltb-false, eqb-true, eq-eqb, add-zero, ne_eqb, length-take-le, length-drop, drop_of_length-le, take-append-drop, take_all}
use Rattle.std.proofs.Math.Seq.{drop-cons, set_out, take-nil}
use Rattle.std.proofs.lemmas.List.Edits.{sets}
use Rattle.memchr.specs.Find.{Nowhere, NoneBefore, Passes, is_byte}
use Rattle.wire.specs.Choose.{choose}
use Rattle.place.specs.Place.{Placed, put_at, put_part, placed, kept, put-roomy, part-inside}
use Rattle.text_lines.specs.Lines.{count_up, takes, take_line}
use Rattle.text_lines.specs.LineLaws.{Clear, kept_line, kept_count}
use Rattle.text_lines.specs.declared.Taken.TheVariants.{Line, Part}

-- ---- characters that are not LF

pub clear-take : (cs : List ℕ) (n : ℕ) → n ≤ length cs → Nowhere (Passes (is_byte 10) cs) 0 n → Clear (take n cs)
clear-take cs zero h f = tt
clear-take [] (suc n) h f = tt
clear-take (c ∷ cs) (suc n) h f =
    (λ e. f 0 (omega arith) (omega arith) (eq-eqb c 10 e), clear-take cs n (omega arith) (λ k g l. f (suc k) (omega arith) (omega arith)))

pub takes-part : (xs : List ℕ) (at : ℕ) (line : List ℕ) (n : ℕ) → Clear xs → takes xs at line n ≡ record { answer = Part (kept_count n xs); line = kept_line line n xs }
unfolding takes
takes-part [] at line n c = refl
takes-part (x ∷ xs) at line n c = rw (ne_eqb x 10 c.0) (takes-part xs (at + 1) (set line n x) (count_up n) c.1)

pub takes-whole : (xs rest : List ℕ) (at : ℕ) (line : List ℕ) (n : ℕ) → Clear xs
    → takes (xs ++ 10 ∷ rest) at line n ≡ record { answer = Line (at + length xs + 1) (kept_count n xs); line = kept_line line n xs }
unfolding takes
takes-whole [] rest at line n c = rw (add-zero at)
takes-whole (x ∷ xs) rest at line n c =
    let e : at + suc (length xs) ≡ at + 1 + length xs = omega arith in
    rw (ne_eqb x 10 c.0, e) (takes-whole xs rest (at + 1) (set line n x) (count_up n) c.1)

-- ---- what is found

pub rest_same : (block : List ℕ) (at m : ℕ) → m ≡ min at (length block) → take (length block - m) (drop m block) ≡ drop at block
rest_same block at m e = take_all (length block - m) (drop m block) (omega (arith, length-drop m block)) ∙ go (leb at (length block)) refl
  where
    go : (b : Bool) → leb at (length block) ≡ b → drop m block ≡ drop at block
    go true b = let l = leb-true at (length block) b in let q : m ≡ at = omega arith in rw q
    go false b =
        let l = leb-false at (length block) b in
        drop_of_length-le block {i = m} (omega arith) ∙ sym (drop_of_length-le block {i = at} (omega arith))

module _ (block : List ℕ) (at : ℕ) (line : List ℕ) (chars : ℕ) (rest : List ℕ) (e : rest ≡ drop at block) where
  pub part-found : Nowhere (Passes (is_byte 10) rest) 0 (length rest) → (k : ℕ) (l : List ℕ)
      → k ≡ kept_count chars rest → l ≡ kept_line line chars rest
      → record { answer = Part k; line = l } ≡ take_line block at line chars
  part-found f k l p q =
      let c : Clear rest = rw (take_all (length rest) rest (omega arith)) at (clear-take rest (length rest) (omega arith) f) in
      rw (p, q) (sym (takes-part rest at line chars c)) ∙ ap (λ (cs : List ℕ). takes cs at line chars) (e)

  pub whole-found : (n : ℕ) → NoneBefore (Passes (is_byte 10) rest) 0 (length rest) n × Passes (is_byte 10) rest n
      → (k : ℕ) (l : List ℕ) → k ≡ kept_count chars (take n rest) → l ≡ kept_line line chars (take n rest)
      → record { answer = Line (at + n + 1) k; line = l } ≡ take_line block at line chars
  whole-found n f k l p q =
      let xs = take n rest in
      let h = f.0.high in
      let c : Clear xs = clear-take rest n (omega arith) f.0.before in
      let z : length xs ≡ n = length-take-le n rest (omega arith) in
      let d : rest ≡ xs ++ 10 ∷ drop (suc n) rest =
      sym (take-append-drop n rest) ∙ ap (λ (cs : List ℕ). xs ++ cs) (drop-cons rest n 0 h ∙ ap (λ (x : ℕ). x ∷ drop (suc n) rest) (eqb-true (get_or rest n 0) 10 f.1)) in
      let t : takes (xs ++ 10 ∷ drop (suc n) rest) at line chars ≡ record { answer = Line (at + n + 1) (kept_count chars xs); line = kept_line line chars xs } =
      rw z at (takes-whole xs (drop (suc n) rest) at line chars c) in
      rw (p, q) (sym t) ∙ ap (λ (cs : List ℕ). takes cs at line chars) (sym d ∙ e)

-- ---- what is kept

pub kept_count-min : (xs : List ℕ) (n : ℕ) → n < 2 ^ 64 → kept_count n xs ≡ min (n + length xs) 0xffff_ffff_ffff_ffff
kept_count-min [] n h = omega arith
kept_count-min (x ∷ xs) n h = omega (arith, kept_count-min xs (count_up n) (omega arith))

pub kept_line-sets : (line : List ℕ) (n : ℕ) (xs : List ℕ) → length line < 2 ^ 64 → kept_line line n xs ≡ sets line n (take (length line - n) xs)
kept_line-sets line n [] h = rw (take-nil (length line - n))
kept_line-sets line n (x ∷ xs) h = go (ltb n (length line)) refl (kept_line-sets (set line n x) (count_up n) xs (omega (arith, length-set line n x)))
  where
    go : (b : Bool) → ltb n (length line) ≡ b
        → kept_line (set line n x) (count_up n) xs ≡ sets (set line n x) (count_up n) (take (length (set line n x) - count_up n) xs)
        → kept_line line n (x ∷ xs) ≡ sets line n (take (length line - n) (x ∷ xs))
    go true b ih =
        let l = ltb-true n (length line) b in
        let e : length line - n ≡ suc (length line - suc n) = omega arith in
        let m : count_up n ≡ suc n = omega arith in
        rw e (ih ∙ rw (length-set line n x, m))
    go false b ih =
        let l = ltb-false n (length line) b in
        let e : length line - n ≡ 0 = omega arith in
        let f : length (set line n x) - count_up n ≡ 0 = omega (arith, length-set line n x) in
        rw e (ih ∙ rw f (set_out line n x l))

-- what has room is put; no byte changes nothing, at any place
put_at-sets : (b : List ℕ) (at : ℕ) (ys : List ℕ) → length ys ≤ length b - at → (put_at b at ys).buf ≡ sets b at ys
unfolding put_at
put_at-sets b at [] h = go (leb (at + 0) (length b))
  where
    go : (t : Bool) → (choose t (placed b at []) (kept b at)).buf ≡ b
    go true = refl
    go false = refl
put_at-sets b at (y ∷ ys) h = ap (λ (o : Placed). o.buf) (put-roomy b at (y ∷ ys) (omega arith))

take-min : (xs : List ℕ) (room m : ℕ) → m ≡ min (length xs) room → take m xs ≡ take room xs
take-min xs room m e = go (leb (length xs) room) refl
  where
    go : (b : Bool) → leb (length xs) room ≡ b → take m xs ≡ take room xs
    go true b =
        let l = leb-true (length xs) room b in
        take_all m xs (omega arith) ∙ sym (take_all room xs (omega arith))
    go false b = let l = leb-false (length xs) room b in let q : m ≡ room = omega arith in rw q

pub keep-put : (line : List ℕ) (n : ℕ) (xs : List ℕ) (m k : ℕ) (l : List ℕ) → length line < 2 ^ 64 → m ≡ min (length xs) (length line - n)
    → ◌≡◌ {A = Placed} (record { next = k; buf = l }) (put_part line n xs 0 m) → l ≡ kept_line line n xs
keep-put line n xs m k l h e p =
    let room = length line - n in
    let z : length (take m xs) ≡ m = length-take-le m xs (omega arith) in
    ap (λ (o : Placed). o.buf) (p ∙ part-inside line n xs 0 m (omega arith))
    ∙ put_at-sets line n (take m xs) (omega arith)
    ∙ ap (sets line n) (take-min xs room m e)
    ∙ sym (kept_line-sets line n xs h)
