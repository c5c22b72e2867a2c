-- The whole dump: printing the lines of a block one after another, and block after block, prints what the whole input prints.
use Rattle.std.specs.Prelude.{ℕ, ◌+◌, ◌≤◌, ◌≡◌, refl, List, [], ◌∷◌, ◌++◌, length, drop}
use Rattle.std.proofs.Common.{ap, ◌∙◌, sym, append-nil, append_assoc, arith, drop-drop}
use Rattle.std.proofs.lemmas.List.Edits.{sets}
use Rattle.std.proofs.Math.Seq.{drop-append-add}
use Rattle.text_lines.specs.Lines.{count_up, lines_of}
use Rattle.text_lines.specs.LineLaws.{Whole, begun, lines-last, Keeps}
use Rattle.text_frames.specs.Text.{printed}
use Rattle.text_frames.specs.Dump.{printed_from, number_after, dumped_from, dumped}

-- ---- from a place of the input to a later one

-- at line n, of which the characters ks are read, with this rest of a block: the text is printed, and then all else from the later place
pub record Prints (n : ℕ) (ks rest text : List ℕ) (n' : ℕ) (ks' rest' : List ℕ) : Type 0 where
  pub same : (later : List ℕ) → printed_from n (begun ks (lines_of (rest ++ later))) ≡ text ++ printed_from n' (begun ks' (lines_of (rest' ++ later)))
  pub counts : (later : List ℕ) → number_after n (begun ks (lines_of (rest ++ later))) ≡ number_after n' (begun ks' (lines_of (rest' ++ later)))

pub prints-then : {n : ℕ} {ks rest text : List ℕ} {n' : ℕ} {ks' rest' text' : List ℕ} {n'' : ℕ} {ks'' rest'' : List ℕ}
    → Prints n ks rest text n' ks' rest' → Prints n' ks' rest' text' n'' ks'' rest'' → Prints n ks rest (text ++ text') n'' ks'' rest''
prints-then {text = text} {text' = text'} {n'' = n''} {ks'' = ks''} {rest'' = rest''} p q =
    record {
      same = λ later. p.same later
          ∙ ap (λ (l : List ℕ). text ++ l) (q.same later)
          ∙ sym (append_assoc text text' (printed_from n'' (begun ks'' (lines_of (rest'' ++ later)))));
      counts = λ later. p.counts later ∙ q.counts later;
    }

-- ---- a block's lines put into a buffer

-- what the parts that are lent must have room for
pub record Ready (line bytes table out : List ℕ) (used : ℕ) : Type 0 where
  pub chars : length line ≡ 4096
  pub byte_room : 2048 ≤ length bytes
  pub word_room : 5120 ≤ length table
  pub inside : used ≤ length out

-- since the buffer out₀ was used up to used₀, at line n₀ with ks₀ read and rest₀ ahead: a text was put, and this is where it stands
pub record Filled (block out₀ : List ℕ) (used₀ n₀ : ℕ) (ks₀ rest₀ line : List ℕ) (chars n at : ℕ) (out : List ℕ) (used : ℕ) : Type 0 where
  pub text : List ℕ
  pub ks : List ℕ
  pub keeps : Keeps line chars ks
  pub place : used ≡ used₀ + length text
  pub put : out ≡ sets out₀ used₀ text
  pub prints : Prints n₀ ks₀ rest₀ text n ks (drop at block)

pub fill_start : (block : List ℕ) {line : List ℕ} {chars : ℕ} (n at : ℕ) (out : List ℕ) (used : ℕ) {ks : List ℕ} → Keeps line chars ks
    → Filled block out used n ks (drop at block) line chars n at out used
fill_start block n at out used {ks} w =
    record {
      text = [];
      ks = ks;
      keeps = w;
      place = omega arith;
      put = refl;
      prints = record { same = λ later. refl; counts = λ later. refl };
    }

-- what follows a line in its block
pub after_line : (block : List ℕ) (at : ℕ) {line : List ℕ} {chars next k : ℕ} {line' : List ℕ} (w : Whole (drop at block) at line chars next k line')
    → drop next block ≡ w.tail
after_line block at {next = next} w =
    let e : next ≡ at + (length w.xs + 1) = omega (arith, w.place) in
    rw e (sym (drop-drop (length w.xs + 1) at block) ∙ ap (drop (length w.xs + 1)) w.split ∙ drop-append-add w.xs (10 ∷ w.tail) 1)

-- ---- THE WHOLE DUMP

abbrev pub joined : List (List ℕ) → List ℕ
joined [] = []
joined (b ∷ bs) = b ++ joined bs

abbrev pub joined_all : List (List (List ℕ)) → List (List ℕ)
joined_all [] = []
joined_all (f ∷ fs) = joined f ∷ joined_all fs

-- the texts that are written from a place of a block on, with the blocks of this file and the files that are read later: a block is printed as
-- far as there is room, the next is read where it is at its end, and at a file's end its last line is printed if it has a character
pub data Dumps : ℕ → List ℕ → List ℕ → List (List ℕ) → List (List (List ℕ)) → List ℕ → Type 0 where
  goes_on : {n : ℕ} {ks rest text : List ℕ} {n' : ℕ} {ks' rest' : List ℕ} {later : List (List ℕ)} {files : List (List (List ℕ))} {texts : List ℕ}
      → Prints n ks rest text n' ks' rest' → Dumps n' ks' rest' later files texts → Dumps n ks rest later files (text ++ texts)
  next_block : {n : ℕ} {ks b : List ℕ} {later : List (List ℕ)} {files : List (List (List ℕ))} {texts : List ℕ}
      → Dumps n ks b later files texts → Dumps n ks [] (b ∷ later) files texts
  last_line : {n : ℕ} {ks : List ℕ} {files : List (List (List ℕ))} {texts : List ℕ} → 1 ≤ length ks
      → Dumps (count_up n) [] [] [] files texts → Dumps n ks [] [] files (printed n ks ++ texts)
  next_file : {n : ℕ} {file : List (List ℕ)} {files : List (List (List ℕ))} {texts : List ℕ} → Dumps n [] [] file files texts
      → Dumps n [] [] [] (file ∷ files) texts
  the_end : {n : ℕ} → Dumps n [] [] [] [] []

-- what the lines that are left of this file print, and then the other files
abbrev pub printed_then : ℕ → List (List ℕ) → List (List ℕ) → List ℕ
printed_then n ls files = printed_from n ls ++ dumped_from (number_after n ls) files

dumps-from : {n : ℕ} {ks rest : List ℕ} {later : List (List ℕ)} {files : List (List (List ℕ))} {texts : List ℕ} → Dumps n ks rest later files texts
    → texts ≡ printed_then n (begun ks (lines_of (rest ++ joined later))) (joined_all files)
dumps-from (goes_on {text = text} {n' = n'} {ks' = ks'} {rest' = rest'} {later = later} {files = files} p d) =
    let ls = begun ks' (lines_of (rest' ++ joined later)) in
    ap (λ (l : List ℕ). text ++ l) (dumps-from d)
    ∙ sym (append_assoc text (printed_from n' ls) (dumped_from (number_after n' ls) (joined_all files)))
    ∙ rw (p.same (joined later), p.counts (joined later))
dumps-from (next_block d) = dumps-from d
dumps-from (last_line {n} {ks} h d) = rw (lines-last ks h, append-nil (printed n ks)) (ap (λ (l : List ℕ). printed n ks ++ l) (dumps-from d))
dumps-from (next_file d) = dumps-from d
dumps-from the_end = refl

-- however the files are cut into blocks, and wherever the buffer is written out
pub dump-all : {files : List (List (List ℕ))} {texts : List ℕ} → Dumps 1 [] [] [] files texts → texts ≡ dumped (joined_all files)
unfolding dumped
dump-all d = dumps-from d
