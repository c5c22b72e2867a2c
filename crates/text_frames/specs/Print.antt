-- What printing a frame answers, and what it leaves in all that it was lent.
use Rattle.std.specs.Prelude.{ℕ, ◌+◌, ◌≤◌, ◌<◌, ◌≡◌, List, [], ◌∷◌, ◌++◌, leb, length, take, Result, Ok, Err}
use Rattle.std.proofs.Common.{le-leb}
use Rattle.std.proofs.lemmas.Bool.{lt-leb}
use Rattle.std.proofs.lemmas.List.Edits.{sets}
use Rattle.wire.specs.Choose.{choose}
use Rattle.wire.specs.Marks.{Mark, fields_of}
use Rattle.wire.specs.MarkLaws.{Rising}
use Rattle.wire.specs.Numbers.{number_of}
use Rattle.wire.specs.Places.{shown, item_of, items}
use Rattle.wire.specs.Written.{content_kind}
use Rattle.wire.specs.Table.{field_in, records, fields_from}
use Rattle.wire.specs.declared.Read.{Read}
use Rattle.wire.specs.declared.Read.TheVariants.{Accepted, Refused}
use Rattle.wire.specs.declared.Record.{Record}
use Rattle.place.specs.Place.{Placed, placed}
use Rattle.message_table.specs.Into.{Outcome}
use Rattle.entry_message.specs.Messages.{read_entry}
use Rattle.text_hex.specs.Frame.{frame_of}
use Rattle.text_hex.specs.declared.FrameError.{FrameError}
use Rattle.text_hex.specs.declared.FrameError.TheVariants.{TooLong, NotHex}
use Rattle.text_frames.specs.Text.{headed, word_f, word_ok, word_no, word_hex, word_long, told, value_text, field_text, fields_text}
use Rattle.text_frames.specs.Room.{Inside, AllInside}

-- ---- DEFINITIONS

-- the room in which the text of any frame has place: 32 for each byte of the longest, and a closing line
abbrev pub frame_room : ℕ
frame_room = 65664

-- the place after the text, and what is left of all that was lent
pub record Printing : Type 0 where
  pub next : ℕ
  pub out : List ℕ
  pub bytes : List ℕ
  pub table : List ℕ

-- what a message reader answered, as text: the fields are those of the records that it left
abbrev pub answer_text : ℕ → List ℕ → List ℕ → Read → List ℕ
answer_text n s table (Accepted e count) =
    fields_text (headed n word_f) (items s (fields_from count table 0)) ++ told n word_ok (count ∷ length s ∷ [])
answer_text n s table (Refused r p k f) = told n word_no (number_of r ∷ p ∷ f.place ∷ f.bytes ∷ [])

unfoldable pub outcome_text : ℕ → List ℕ → Outcome → List ℕ
outcome_text n s o = answer_text n s o.table o.answer

-- a text from a place on, and the scratch that making it left
abbrev pub shows : List ℕ → ℕ → List ℕ → List ℕ → List ℕ → Printing
shows out at text bytes table = record { next = at + length text; out = sets out at text; bytes = bytes; table = table }

-- a line that was read as a frame, whose bytes are the first ones: they are read as a message into the table
abbrev pub frame_printing : List ℕ → ℕ → ℕ → Result ℕ FrameError → List ℕ → List ℕ → Printing
frame_printing out at n (Ok k) bytes table =
    let o = read_entry (take k bytes) 0 (length (take k bytes)) table in shows out at (outcome_text n (take k bytes) o) bytes o.table
frame_printing out at n (Err TooLong) bytes table = shows out at (told n word_long []) bytes table
frame_printing out at n (Err NotHex) bytes table = shows out at (told n word_hex []) bytes table

-- where there is room for any frame; else nothing is done
unfoldable pub print_frame : List ℕ → ℕ → ℕ → List ℕ → ℕ → List ℕ → List ℕ → Printing
print_frame out at n line chars bytes table =
    choose (leb (at + frame_room) (length out))
    (frame_printing out at n (frame_of line chars bytes).answer (frame_of line chars bytes).out table)
    (record { next = at; out = out; bytes = bytes; table = table })

module _ (out : List ℕ) (at n : ℕ) (line : List ℕ) (chars : ℕ) (bytes table : List ℕ) where
  pub print-none : length out < at + frame_room → print_frame out at n line chars bytes table ≡ record { next = at; out = out; bytes = bytes; table = table }
  unfolding print_frame
  print-none h = rw (lt-leb (at + frame_room) (length out) h)

  pub print-frame : at + frame_room ≤ length out → (f : Result ℕ FrameError) (b : List ℕ) → record { answer = f; out = b } ≡ frame_of line chars bytes
      → print_frame out at n line chars bytes table ≡ frame_printing out at n f b table
  unfolding print_frame
  print-frame h f b e = rw (le-leb (at + frame_room) (length out) h, ← e)

-- ---- what the parts of the printing rely on

-- there is room for a text
abbrev pub Roomy : List ℕ → ℕ → List ℕ → Type 0
Roomy b at xs = at + length xs ≤ length b

-- a record as a field and the place of its key; both lie inside the message
abbrev pub mark_in : Record → Mark
mark_in r = record { key = r.key; field = field_in r }

abbrev pub Kept : List ℕ → Mark → Type 0
Kept s m = Inside s m.field × (m.key < length s)

abbrev pub AllKept : List ℕ → List Mark → Type 0
AllKept s [] = Unit {0}
AllKept s (m ∷ ms) = Kept s m × AllKept s ms

pub all-kept : (s : List ℕ) (last : ℕ) (ms : List Mark) → AllInside s (fields_of ms) → Rising (length s) last ms → AllKept s ms
all-kept s last [] i h = tt
all-kept s last (m ∷ ms) i h = ((i.0, h.2), all-kept s m.field.tag ms i.1 h.3)

-- there is room for a field's line, or for its value; it lies inside the message, and its kind is its content's
pub record Lined (out : List ℕ) (at : ℕ) (head s : List ℕ) (r : Record) : Type 0 where
  pub room : Roomy out at (field_text head (item_of s (field_in r)))
  pub inside : Kept s (mark_in r)
  pub kind : r.kind ≡ content_kind (shown s (field_in r).value)

pub record Valued (out : List ℕ) (at : ℕ) (s : List ℕ) (r : Record) : Type 0 where
  pub room : Roomy out at (value_text (shown s (field_in r).value))
  pub inside : Kept s (mark_in r)

-- so many records of a table are those of fields that lie inside
pub record Recorded (s table : List ℕ) (count : ℕ) : Type 0 where
  pub marks : List Mark
  pub rest : List ℕ
  pub listed : table ≡ records marks ++ rest
  pub many : count ≡ length marks
  pub inside : AllKept s marks

-- and there is room for their lines, or for these and a closing line
pub record Listed (out : List ℕ) (at : ℕ) (head s table : List ℕ) (count : ℕ) : Type 0 where
  pub has : Recorded s table count
  pub room : Roomy out at (fields_text head (items s (fields_from count table 0)))

pub record Closed (out : List ℕ) (at n : ℕ) (s table : List ℕ) (count : ℕ) : Type 0 where
  pub has : Recorded s table count
  pub room : Roomy out at (fields_text (headed n word_f) (items s (fields_from count table 0)) ++ told n word_ok (count ∷ length s ∷ []))

-- there is room for any frame, and the message is that of one
pub record Framable (out : List ℕ) (at : ℕ) (s : List ℕ) : Type 0 where
  pub room : at + frame_room ≤ length out
  pub short : length s ≤ 2048

-- and what it leaves
abbrev pub Messaged : List ℕ → ℕ → ℕ → List ℕ → List ℕ → ℕ → List ℕ → List ℕ → Type 0
Messaged out at n s table next out' table' =
    let o = read_entry s 0 (length s) table in
    (◌≡◌ {A = Placed} (record { next = next; buf = out' }) (placed out at (outcome_text n s o))) × (table' ≡ o.table)
