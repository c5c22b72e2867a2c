-- A block's lines, printed one after another: what holds at each turn, and what a turn does.
use Rattle.std.proofs.Common.{ℕ, ◌-◌, ◌≤◌, ◌<◌, ◌≡◌, refl, ap, sym, ◌∙◌, List, length, arith}
use Rattle.text_lines.specs.Lines.{Taking, take_line}
use Rattle.text_lines.specs.LineLaws.{moves}
use Rattle.text_lines.specs.declared.Taken.{Taken}
use Rattle.text_lines.specs.declared.Taken.TheVariants.{Line, Part}
use Rattle.stream_lines.specs.Turns.{Memory, memory, with_line, Printing, Judging, Prints, Turns, stops, part, turn}

-- from place a with u characters of text to place b with v of them: the loop took a line or has not begun
pub data Moved (a u b v : ℕ) : Type 0 where
  still : b ≡ a → v ≡ u → Moved a u b v
  on : a < b → Moved a u b v

-- what is printed from here on is printed from the start on
pub record Going (P : Printing) (Q : Judging) (room : ℕ) (block : List ℕ) (m₀ m : Memory) : Type 0 where
  pub size : length m.out ≡ length m₀.out
  pub wide : length m.line ≡ length m₀.line
  pub inside : m.state.used ≤ length m.out
  pub moved : Moved m₀.state.at m₀.state.used m.state.at m.state.used
  pub after : (m' : Memory) → Turns P Q room block m m' → Turns P Q room block m₀ m'

module _ {P : Printing} {Q : Judging} {room : ℕ} {block : List ℕ} where
  pub go-start : {m : Memory} → m.state.used ≤ length m.out → Going P Q room block m m
  go-start h = record { size = refl; wide = refl; inside = h; moved = still refl refl; after = λ m' t. t }

  module _ {m₀ m : Memory} (g : Going P Q room block m₀ m) where
    -- no room for a line: where there was, one was taken
    pub go-moved : length m.out - m.state.used < room → room ≤ length m₀.out - m₀.state.used → m₀.state.at < m.state.at
    go-moved h r = elim g.moved [ still e f ↦ absurd (omega (arith, e, f, g.size, h, r)) | on p ↦ p ]

    pub go-done : Turns P Q room block m₀ m
    go-done = g.after _ stops

    pub go-part : {k : ℕ} {line : List ℕ} → ◌≡◌ {A = Taking} (record { answer = Part k; line = line }) (take_line block m.state.at m.line m.state.chars)
        → length line ≡ length m.line
        → Turns P Q room block m₀ (memory line m.out m.tally (record { at = length block; chars = k; number = m.state.number; used = m.state.used }))
    go-part e l = g.after _ (part e l)

    pub go-less : {next k : ℕ} {line : List ℕ} → ◌≡◌ {A = Taking} (record { answer = Line next k; line = line }) (take_line block m.state.at m.line m.state.chars)
        → (m.state.at < next) × (next ≤ length block)
    go-less {next} {k} {line} e = let w = moves block m.state.at m.line m.state.chars next k line e in (omega (arith, w.0, w.1), omega (arith, w.0, w.1))

    pub go-line : {next k : ℕ} {line : List ℕ} {m' : Memory} → room ≤ length m.out - m.state.used
        → ◌≡◌ {A = Taking} (record { answer = Line next k; line = line }) (take_line block m.state.at m.line m.state.chars)
        → length line ≡ length m.line → Prints P Q (with_line m line) k m' → m'.state.at ≡ next → Going P Q room block m₀ m'
    go-line r e l p n =
        let w = go-less e in
        record {
          size = omega (arith, p.size, g.size);
          wide = ap length p.line ∙ l ∙ g.wide;
          inside = p.inside;
          moved = on (elim g.moved [ still a u ↦ omega (arith, a, w.0, n) | on q ↦ omega (arith, q, w.0, n) ]);
          after = λ m' t. g.after m' (turn r e l p n t);
        }

-- an answer by its case
pub taken_as : {x y : Taken} {l : List ℕ} {o : Taking} → x ≡ y → record { answer = x; line = l } ≡ o → record { answer = y; line = l } ≡ o
taken_as {x} {y} {l} e q = ap (λ (t : Taken). record { answer = t; line = l }) (sym e) ∙ q
