-- What printing a line, a block's lines and a file's last line leaves, by what printing one line leaves.
use Rattle.std.specs.Prelude.{ℕ, ◌-◌, ◌≤◌, ◌<◌, ◌≡◌, Option, Some, None, List, length}
use Rattle.text_lines.specs.Lines.{count_up, Taking, take_line}
use Rattle.text_lines.specs.declared.Taken.TheVariants.{Line, Part}
use Rattle.stream_orders.specs.Counting.{counted}
use Rattle.stream_lines.specs.declared.State.{State}

-- the line's buffer, the text, the counts and how far the program is
pub record Memory : Type 0 where
  pub line : List ℕ
  pub out : List ℕ
  pub tally : Option (List ℕ)
  pub state : State

abbrev pub memory : List ℕ → List ℕ → Option (List ℕ) → State → Memory
memory line out tally s = record { line = line; out = out; tally = tally; state = s }

-- how a line is printed, and judged
abbrev pub Printing : Type 1
Printing = List ℕ → ℕ → ℕ → List ℕ → ℕ → List ℕ → ℕ → Type 0

abbrev pub Judging : Type 1
Judging = List ℕ → ℕ → ℕ → Type 0

-- one more of the line's verdict, where frames are counted
abbrev pub Counts : Judging → List ℕ → ℕ → Option (List ℕ) → Option (List ℕ) → Type 0
Counts Q line k None t = t ≡ None
Counts Q line k (Some old) t = (v : ℕ) × Q line k v × (t ≡ Some (counted old v))

-- a line of k characters, which the buffer holds, is printed and counted, and the next one begins
pub record Prints (P : Printing) (Q : Judging) (m : Memory) (k : ℕ) (m' : Memory) : Type 0 where
  pub text : P m.out m.state.used m.state.number m.line k m'.out m'.state.used
  pub counts : Counts Q m.line k m.tally m'.tally
  pub line : m'.line ≡ m.line
  pub number : m'.state.number ≡ count_up m.state.number
  pub none : m'.state.chars ≡ 0
  pub size : length m'.out ≡ length m.out
  pub inside : m'.state.used ≤ length m'.out

-- the characters of a whole line are in the buffer
abbrev pub with_line : Memory → List ℕ → Memory
with_line m line = memory line m.out m.tally m.state

-- the lines of a block, one after the other, as long as there is so much room; the part of a line that the block ends in is kept
pub data Turns (P : Printing) (Q : Judging) (room : ℕ) (block : List ℕ) : Memory → Memory → Type 0 where
  stops : {m : Memory} → Turns P Q room block m m
  part : {m : Memory} {k : ℕ} {line : List ℕ}
      → ◌≡◌ {A = Taking} (record { answer = Part k; line = line }) (take_line block m.state.at m.line m.state.chars) → length line ≡ length m.line
      → Turns P Q room block m (memory line m.out m.tally (record { at = length block; chars = k; number = m.state.number; used = m.state.used }))
  turn : {m m' m'' : Memory} {next k : ℕ} {line : List ℕ} → room ≤ length m.out - m.state.used
      → ◌≡◌ {A = Taking} (record { answer = Line next k; line = line }) (take_line block m.state.at m.line m.state.chars) → length line ≡ length m.line
      → Prints P Q (with_line m line) k m' → m'.state.at ≡ next → Turns P Q room block m' m'' → Turns P Q room block m m''

-- at a file's end: the last line, if it has a character
pub record Ends (P : Printing) (Q : Judging) (m m' : Memory) : Type 0 where
  pub none : m.state.chars < 1 → m' ≡ m
  pub last : 1 ≤ m.state.chars → Prints P Q m m.state.chars m' × (m'.state.at ≡ m.state.at)
