-- What a whole input prints: one file, or several one behind the other.
use Rattle.std.specs.Prelude.{ℕ, ◌≡◌, List, [], ◌∷◌, ◌++◌}
use Rattle.std.proofs.Common.{append-nil}
use Rattle.text_lines.specs.Lines.{count_up, lines_of}
use Rattle.text_frames.specs.Text.{printed}

-- each line with its number
abbrev pub printed_from : ℕ → List (List ℕ) → List ℕ
printed_from n [] = []
printed_from n (l ∷ ls) = printed n l ++ printed_from (count_up n) ls

-- the number behind the last line's
abbrev pub number_after : ℕ → List (List ℕ) → ℕ
number_after n [] = n
number_after n (l ∷ ls) = number_after (count_up n) ls

-- a file's end ends its last line; the numbers go on in the next file
abbrev pub dumped_from : ℕ → List (List ℕ) → List ℕ
dumped_from n [] = []
dumped_from n (f ∷ fs) = printed_from n (lines_of f) ++ dumped_from (number_after n (lines_of f)) fs

-- Rule D1: numbers count from 1
unfoldable pub dumped : List (List ℕ) → List ℕ
dumped files = dumped_from 1 files

-- of one file, as of the standard input: each line with its number
pub dumped-one : (file : List ℕ) → dumped (file ∷ []) ≡ printed_from 1 (lines_of file)
unfolding dumped
dumped-one file = append-nil (printed_from 1 (lines_of file))
