-- What a line is counted as: 0 for an accepted frame, the number of its refusal, 16 for LONG and 17 for HEX.
use Rattle.std.specs.Prelude.{ℕ, ◌≡◌, List, leb, length, take, Result, Ok, Err}
use Rattle.wire.specs.Choose.{choose}
use Rattle.wire.specs.Numbers.{number_of}
use Rattle.wire.specs.Reading.{Message, Fields, read_message}
use Rattle.wire.specs.Reading as reading
use Rattle.wire.specs.declared.Read.{Read}
use Rattle.wire.specs.declared.Read.TheVariants.{Accepted, Refused}
use Rattle.message_table.specs.Into.{Outcome}
use Rattle.entry_message.specs.Messages.{read_entry}
use Rattle.text_hex.specs.Frame.{Framed, Decoded, Decodes, Fails, decoded, line_limit, frame_of}
use Rattle.text_hex.specs.declared.FrameError.{FrameError}
use Rattle.text_hex.specs.declared.FrameError.TheVariants.{TooLong, NotHex}

abbrev pub read_verdict : Read → ℕ
read_verdict (Accepted e count) = 0
read_verdict (Refused r p k f) = number_of r

abbrev pub message_verdict : List ℕ → List ℕ → ℕ
message_verdict s table = read_verdict (read_entry s 0 (length s) table).answer

abbrev pub frame_verdict : Result ℕ FrameError → List ℕ → List ℕ → ℕ
frame_verdict (Ok k) bytes table = message_verdict (take k bytes) table
frame_verdict (Err TooLong) bytes table = 16
frame_verdict (Err NotHex) bytes table = 17

abbrev pub verdict_of : List ℕ → ℕ → List ℕ → List ℕ → ℕ
verdict_of line chars bytes table = frame_verdict (frame_of line chars bytes).answer (frame_of line chars bytes).out table

-- ---- their cases

module _ (s table : List ℕ) {t : List ℕ} where
  pub message-told : {r q : Read} → r ≡ q → ◌≡◌ {A = Outcome} (record { answer = r; table = t }) (read_entry s 0 (length s) table)
      → read_verdict q ≡ message_verdict s table
  message-told e o = rw (← o, e)

module _ (line : List ℕ) (chars : ℕ) (bytes table : List ℕ) {b : List ℕ} where
  pub line-told : {f g : Result ℕ FrameError} → f ≡ g → ◌≡◌ {A = Framed} (record { answer = f; out = b }) (frame_of line chars bytes)
      → frame_verdict g b table ≡ verdict_of line chars bytes table
  line-told e o = rw (← o, e)

-- ---- the verdict of a line alone, whatever it is read into

abbrev pub format_verdict : Message → ℕ
format_verdict (Fields fs) = 0
format_verdict (reading.Refused r p) = number_of r

abbrev pub decoded_verdict : Decoded → ℕ
decoded_verdict (Decodes bs) = format_verdict (read_message bs 0 (length bs))
decoded_verdict Fails = 17

abbrev pub line_verdict : List ℕ → ℕ → ℕ
line_verdict line chars = choose (leb chars line_limit) (choose (leb chars (length line)) (decoded_verdict (decoded (take chars line))) 16) 16
