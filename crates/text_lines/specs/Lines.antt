-- The lines of an input, and how they are taken from blocks of it.
use Rattle.std.specs.Prelude.{ℕ, ◌+◌, min, List, [], ◌∷◌, eqb, drop, set}
use Rattle.wire.specs.Choose.{choose}
use Rattle.text_lines.specs.declared.Taken.{Taken}
use Rattle.text_lines.specs.declared.Taken.TheVariants.{Line, Part}

-- one more, as far as a number of 64 bits goes
abbrev pub count_up : ℕ → ℕ
count_up n = min (n + 1) 0xffff_ffff_ffff_ffff

-- ---- the whole input

-- a character in front of the first line
abbrev pub in_first : ℕ → List (List ℕ) → List (List ℕ)
in_first c [] = (c ∷ []) ∷ []
in_first c (l ∷ ls) = (c ∷ l) ∷ ls

-- Rules D1 and D2: a line is ended by LF; a last line without LF counts if it has a character
abbrev pub lines_of : List ℕ → List (List ℕ)
lines_of [] = []
lines_of (c ∷ cs) = choose (eqb c 10) ([] ∷ lines_of cs) (in_first c (lines_of cs))

-- ---- a block of it

-- what is answered, and what the line's buffer holds
pub record Taking : Type 0 where
  pub answer : Taken
  pub line : List ℕ

-- characters up to LF, put behind those that the line has: those that the buffer has no room for are counted and not kept.
-- A line and the place after its LF, or the part of a line that the block ends in
unfoldable pub takes : List ℕ → ℕ → List ℕ → ℕ → Taking
takes [] at line chars = record { answer = Part chars; line = line }
takes (c ∷ rest) at line chars =
    choose (eqb c 10) (record { answer = Line (at + 1) chars; line = line }) (takes rest (at + 1) (set line chars c) (count_up chars))

abbrev pub take_line : List ℕ → ℕ → List ℕ → ℕ → Taking
take_line block at line chars = takes (drop at block) at line chars
