-- Frames counted by their verdict.
use Rattle.std.specs.Prelude.{ℕ, List, set, get_or}
use Rattle.text_lines.specs.Lines.{count_up}

-- one more of a verdict; what the list has no place for is not counted
abbrev pub counted : List ℕ → ℕ → List ℕ
counted tally verdict = set tally verdict (count_up (get_or tally verdict 0))
