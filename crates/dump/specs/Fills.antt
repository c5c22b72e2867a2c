-- What printing a line, a block's lines and a file's last line leaves: the text that was put is what the input prints from there on, up to
-- the place that it reached.
use Rattle.std.specs.Prelude.{ℕ, ◌+◌, ◌≤◌, ◌≡◌, List, [], length, drop}
use Rattle.std.proofs.lemmas.List.Edits.{sets}
use Rattle.text_lines.specs.Lines.{lines_of}
use Rattle.text_lines.specs.LineLaws.{Keeps, begun}
use Rattle.text_frames.specs.Dump.{printed_from, number_after}
use Rattle.text_frames.specs.Print.{print_frame}
use Rattle.text_frames.specs.DumpLaws.{Filled}
use Rattle.stream_lines.specs.Turns.{Memory}
use Rattle.dump.specs.Verdict.{verdict_of}

-- a line is printed as the frame is, whatever the bytes and the words that it is read into were
pub record Puts (out : List ℕ) (used n : ℕ) (line : List ℕ) (k : ℕ) (out' : List ℕ) (next : ℕ) : Type 0 where
  pub bytes : List ℕ
  pub table : List ℕ
  pub byte_room : 2048 ≤ length bytes
  pub word_room : 5120 ≤ length table
  pub place : next ≡ (print_frame out used n line k bytes table).next
  pub text : out' ≡ (print_frame out used n line k bytes table).out

-- and so is what it is counted as; with this room it depends on the line alone (`verdict-alone` in proofs/Judges.antt)
pub record Judged (line : List ℕ) (k v : ℕ) : Type 0 where
  pub bytes : List ℕ
  pub table : List ℕ
  pub byte_room : 2048 ≤ length bytes
  pub word_room : 5120 ≤ length table
  pub verdict : v ≡ verdict_of line k bytes table

-- where printing may begin: there is room for a line's characters, and the text is in the buffer
pub record Ready (m : Memory) : Type 0 where
  pub chars : length m.line ≡ 4096
  pub inside : m.state.used ≤ length m.out

-- what a block's lines leave
pub record Fills (block : List ℕ) (m m' : Memory) : Type 0 where
  pub ready : Ready m'
  pub filled : (ks : List ℕ) → Keeps m.line m.state.chars ks
      → Filled block m.out m.state.used m.state.number ks (drop m.state.at block) m'.line m'.state.chars m'.state.number m'.state.at m'.out m'.state.used

-- the text of the lines that are left at a file's end, the number after them, and no characters kept
pub record Closed (m : Memory) (ks : List ℕ) (m' : Memory) : Type 0 where
  pub put : m'.out ≡ sets m.out m.state.used (printed_from m.state.number (begun ks (lines_of [])))
  pub place : m'.state.used ≡ m.state.used + length (printed_from m.state.number (begun ks (lines_of [])))
  pub number : m'.state.number ≡ number_after m.state.number (begun ks (lines_of []))

pub record Closes (m m' : Memory) : Type 0 where
  pub ready : Ready m'
  pub none : m'.state.chars ≡ 0
  pub closed : (ks : List ℕ) → Keeps m.line m.state.chars ks → Closed m ks m'
