-- Dumps, computed: the example of FORMAT.md, and how lines end.
use Rattle.std.specs.Prelude.{ℕ, ◌≡◌, refl, List, [], ◌∷◌}
use Rattle.wire.specs.Reading.{read_message, field_at, varint_at}
use Rattle.wire.specs.Faults.{looks}
use Rattle.fault.specs.Fault.{key_fault, value_fault, field_fault, message_fault}
use Rattle.text_digits.specs.Digits.{digit_of, glyph, digits, places_to, decimal, hexed}
use Rattle.text_hex.specs.Frame.{decoded}
use Rattle.text_frames.specs.Text.{printed, told, bytes_text, value_text, field_text}
use Rattle.text_frames.specs.Dump.{dumped}

pub record Case : Type 0 where
  pub files : List (List ℕ)
  pub output : List ℕ

-- the example of FORMAT.md
abbrev pub case1 : Case
case1 =
    record {
      files =
          (48 ∷ 52 ∷ 70 ∷ 70 ∷ 70 ∷ 69 ∷ 70 ∷ 69 ∷ 70 ∷ 69 ∷ 70 ∷ 69 ∷ 70 ∷ 69 ∷ 70 ∷ 69 ∷ 70 ∷ 69 ∷ 70 ∷ 69 ∷ 48 ∷ 57 ∷ 48 ∷ 50 ∷ 67 ∷ 48 ∷ 68 ∷ 69
          ∷ 48 ∷ 50 ∷ 48 ∷ 49 ∷ 48 ∷ 48 ∷ 48 ∷ 48 ∷ 48 ∷ 48 ∷ 10 ∷ 48 ∷ 52 ∷ 10 ∷ 10 ∷ []) ∷ [];
      output =
          49 ∷ 32 ∷ 70 ∷ 32 ∷ 49 ∷ 32 ∷ 48 ∷ 32 ∷ 70 ∷ 70 ∷ 70 ∷ 70 ∷ 70 ∷ 70 ∷ 70 ∷ 70 ∷ 70 ∷ 70 ∷ 70 ∷ 70 ∷ 70 ∷ 70 ∷ 70 ∷ 70 ∷ 10 ∷ 49 ∷ 32 ∷ 70
          ∷ 32 ∷ 51 ∷ 32 ∷ 49 ∷ 32 ∷ 67 ∷ 48 ∷ 68 ∷ 69 ∷ 10 ∷ 49 ∷ 32 ∷ 70 ∷ 32 ∷ 51 ∷ 32 ∷ 50 ∷ 32 ∷ 48 ∷ 49 ∷ 48 ∷ 48 ∷ 48 ∷ 48 ∷ 48 ∷ 48 ∷ 10 ∷ 49
          ∷ 32 ∷ 79 ∷ 75 ∷ 32 ∷ 51 ∷ 32 ∷ 49 ∷ 57 ∷ 10 ∷ 50 ∷ 32 ∷ 78 ∷ 79 ∷ 32 ∷ 49 ∷ 32 ∷ 48 ∷ 32 ∷ 49 ∷ 32 ∷ 48 ∷ 10 ∷ 51 ∷ 32 ∷ 79
          ∷ 75 ∷ 32 ∷ 48 ∷ 32 ∷ 48 ∷ 10 ∷ [];
    }

-- Rule D2: nothing prints nothing
abbrev pub case2 : Case
case2 = record { files = ([]) ∷ []; output = [] }

-- Rule D2: a single LF is an empty line
abbrev pub case3 : Case
case3 = record { files = (10 ∷ []) ∷ []; output = 49 ∷ 32 ∷ 79 ∷ 75 ∷ 32 ∷ 48 ∷ 32 ∷ 48 ∷ 10 ∷ [] }

-- Rule D2: a last line without LF counts if it has a character
abbrev pub case4 : Case
case4 =
    record {
      files =
          (48 ∷ 48 ∷ 48 ∷ 48 ∷ []) ∷ [];
      output =
          49 ∷ 32 ∷ 70 ∷ 32 ∷ 48 ∷ 32 ∷ 48 ∷ 32 ∷ 48 ∷ 48 ∷ 48 ∷ 48 ∷ 48 ∷ 48 ∷ 48 ∷ 48 ∷ 48 ∷ 48 ∷ 48 ∷ 48 ∷ 48 ∷ 48 ∷ 48 ∷ 48 ∷ 10 ∷ 49 ∷ 32 ∷ 79
          ∷ 75 ∷ 32 ∷ 49 ∷ 32 ∷ 50 ∷ 10 ∷ [];
    }

-- Rule D2: LF at the very end opens no further line
abbrev pub case5 : Case
case5 = record { files = (48 ∷ 103 ∷ 10 ∷ 48 ∷ 10 ∷ []) ∷ []; output = 49 ∷ 32 ∷ 72 ∷ 69 ∷ 88 ∷ 10 ∷ 50 ∷ 32 ∷ 72 ∷ 69 ∷ 88 ∷ 10 ∷ [] }

-- Rule D4: a carriage return is a character
abbrev pub case6 : Case
case6 =
    record {
      files =
          (48 ∷ 49 ∷ 48 ∷ 48 ∷ 13 ∷ 10 ∷ 48 ∷ 49 ∷ 48 ∷ 48 ∷ 10 ∷ []) ∷ [];
      output =
          49 ∷ 32 ∷ 72 ∷ 69 ∷ 88 ∷ 10 ∷ 50 ∷ 32 ∷ 70 ∷ 32 ∷ 48 ∷ 32 ∷ 49 ∷ 32 ∷ 45 ∷ 10 ∷ 50 ∷ 32 ∷ 79 ∷ 75 ∷ 32 ∷ 49 ∷ 32 ∷ 50 ∷ 10 ∷ [];
    }

-- a file's end ends its last line, and the next file's first line has the next number
abbrev pub case7 : Case
case7 = record { files = (48 ∷ []) ∷ [] ∷ (48 ∷ 10 ∷ []) ∷ []; output = 49 ∷ 32 ∷ 72 ∷ 69 ∷ 88 ∷ 10 ∷ 50 ∷ 32 ∷ 72 ∷ 69 ∷ 88 ∷ 10 ∷ [] }

abbrev pub Right : List Case → Type 0
Right [] = Unit {0}
Right (c ∷ cs) = (dumped c.files ≡ c.output) × Right cs

pub cases : Right (case1 ∷ case2 ∷ case3 ∷ case4 ∷ case5 ∷ case6 ∷ case7 ∷ [])
unfolding dumped printed told bytes_text value_text field_text decoded digit_of glyph digits places_to decimal hexed read_message field_at varint_at message_fault
    field_fault key_fault value_fault looks
cases = (refl, (refl, (refl, (refl, (refl, (refl, (refl, tt)))))))
