-- What is printed of a line has room and stays inside the buffer; and where the lent parts are large enough, it is the text of the line.
use Rattle.std.specs.Prelude.{ℕ, ◌+◌, ◌*◌, ◌≤◌, ◌<◌, ◌≡◌, Bool, take, drop, Result, Ok, Err}
use Rattle.std.proofs.Math.Path.{refl, ap}
use Rattle.std.proofs.Common.{◌∙◌, sym, arith, length-append, length-take, take_at}
use Rattle.std.proofs.Math.Bool.{true, false}
use mathlib.Core.List.{List, [], ◌∷◌, ◌++◌}
use borrow.Author.Tests.{lt-leb, leb-true, leb-false}
use Rattle.std.proofs.Math.Dec.{leb}
use Rattle.std.proofs.Math.ListN.{length}
use Rattle.std.proofs.lemmas.List.Edits.{sets}
use Rattle.wire.specs.Limits.{record_words}
use Rattle.wire.specs.Marks.{marks}
use Rattle.wire.proofs.Marks.{marks-fields, marks-count}
use Rattle.wire.specs.Numbers.{number_of}
use Rattle.wire.specs.Places.{items}
use Rattle.wire.specs.Reading.{Message, Fields, read_message}
use Rattle.wire.specs.Reading as reading
use Rattle.wire.specs.Table.{room, filled, fields_from, fields-records}
use Rattle.wire.specs.declared.Refusal.{Refusal}
use Rattle.wire.specs.declared.Field.{Field}
use Rattle.fault.specs.Fault.{message_fault}
use Rattle.place.specs.Place.{put_front}
use Rattle.message_table.specs.Into.{read_into, into-refused, into-no-room, into-fits}
use Rattle.entry_message.specs.Messages.{read_entry, entry-open}
use Rattle.text_lines.specs.LineLaws.{Keeps, keeps-whole, keeps-long}
use Rattle.text_hex.specs.Frame.{Decoded, Decodes, Fails, decoded, line_limit, framed, frame_of, above-limit, fitting}
use Rattle.text_hex.specs.Faults.{half-frame, decoded-half}
use Rattle.text_hex.specs.declared.FrameError.{FrameError}
use Rattle.text_hex.specs.declared.FrameError.TheVariants.{TooLong, NotHex}
use Rattle.text_frames.specs.Text.{headed, word_f, word_ok, word_no, word_hex, word_long, told, fields_text, message_text, decoded_text, printed}
use Rattle.text_frames.specs.Room.{sized, told_none, told-two, told-four}
use Rattle.text_frames.specs.Print.{frame_room, Printing, outcome_text, frame_printing, print_frame, print-none, print-frame}

module _ (n : ℕ) (s t : List ℕ) (short : length s ≤ 2048) where
  opened : read_entry s 0 (length s) t ≡ read_into s 0 (length s) t
  opened = entry-open s 0 (length s) t (omega arith) (omega arith) (omega arith)

  text-refused : (r : Refusal) (p : ℕ) → read_message s 0 (length s) ≡ reading.Refused r p
      → let f = message_fault s 0 (length s) in
      outcome_text n s (read_entry s 0 (length s) t) ≡ told n word_no (number_of r ∷ p ∷ f.place ∷ f.bytes ∷ [])
  unfolding outcome_text
  text-refused r p e = ap (outcome_text n s) (opened ∙ into-refused s 0 (length s) t r p e)

  text-no-room : (fs : List Field) → read_message s 0 (length s) ≡ Fields fs → room t < length fs
      → outcome_text n s (read_entry s 0 (length s) t) ≡ told n word_no (5 ∷ 0 ∷ 0 ∷ 0 ∷ [])
  unfolding outcome_text
  text-no-room fs e h = ap (outcome_text n s) (opened ∙ into-no-room s 0 (length s) t fs e h)

  text-accepted : (fs : List Field) → read_message s 0 (length s) ≡ Fields fs → length fs ≤ room t
      → outcome_text n s (read_entry s 0 (length s) t) ≡ message_text n s (Fields fs)
  unfolding outcome_text
  text-accepted fs e h =
      let ms = marks s 0 (length s) in
      let u = filled t ms in
      let end = told n word_ok (length fs ∷ length s ∷ []) in
      ap (outcome_text n s) (opened ∙ into-fits s 0 (length s) t fs e h)
      ∙ ap (λ (c : ℕ). fields_text (headed n word_f) (items s (fields_from c u 0)) ++ end) (sym (marks-count s 0 (length s) fs e))
      ∙ ap (λ (l : List Field). fields_text (headed n word_f) (items s l) ++ end)
      (fields-records ms (drop (record_words * length ms) t) ∙ marks-fields s 0 (length s) fs e)

  fields-size : (fs : List Field) → read_message s 0 (length s) ≡ Fields fs → length (message_text n s (Fields fs)) ≤ frame_room
  fields-size fs e =
      omega (
        arith,
        (sized n s fs e).size,
        length-append (fields_text (headed n word_f) (items s fs)) (told n word_ok (length fs ∷ length s ∷ [])),
        told-two n word_ok (length fs) (length s),
      )

  -- the text of whatever the reader answers
  pub outcome-size : length (outcome_text n s (read_entry s 0 (length s) t)) ≤ frame_room
  outcome-size = go (read_message s 0 (length s)) refl
    where
      go : (m : Message) → read_message s 0 (length s) ≡ m → length (outcome_text n s (read_entry s 0 (length s) t)) ≤ frame_room
      go (reading.Refused r p) e =
          let f = message_fault s 0 (length s) in
          rw (text-refused r p e) (omega (arith, told-four n word_no (number_of r) p f.place f.bytes))
      go (Fields fs) e = by (leb (length fs) (room t)) refl
        where
          by : (b : Bool) → leb (length fs) (room t) ≡ b → length (outcome_text n s (read_entry s 0 (length s) t)) ≤ frame_room
          by true b = rw (text-accepted fs e (leb-true (length fs) (room t) b)) (fields-size fs e)
          by false b = rw (text-no-room fs e (leb-false (length fs) (room t) b)) (omega (arith, told-four n word_no 5 0 0 0))

  -- with room for every field it is the message's
  pub outcome-text : 5120 ≤ length t → outcome_text n s (read_entry s 0 (length s) t) ≡ message_text n s (read_message s 0 (length s))
  outcome-text h = go (read_message s 0 (length s)) refl
    where
      go : (m : Message) → read_message s 0 (length s) ≡ m → outcome_text n s (read_entry s 0 (length s) t) ≡ message_text n s (read_message s 0 (length s))
      go (reading.Refused r p) e = text-refused r p e ∙ ap (message_text n s) (sym e)
      go (Fields fs) e = text-accepted fs e (omega (arith, (sized n s fs e).few)) ∙ ap (message_text n s) (sym e)

module _ (out : List ℕ) (at n : ℕ) (line : List ℕ) (chars : ℕ) (bytes table : List ℕ) where
  -- the place that is answered is inside the buffer, if the one given was
  frame-inside : at + frame_room ≤ length out → (f : Result ℕ FrameError) (b : List ℕ) → record { answer = f; out = b } ≡ frame_of line chars bytes
      → (frame_printing out at n f b table).next ≤ length out
  frame-inside h (Err TooLong) b e = omega (arith, told_none n word_long)
  frame-inside h (Err NotHex) b e = omega (arith, told_none n word_hex)
  frame-inside h (Ok k) b e =
      omega (arith, outcome-size n (take k b) table (omega (arith, length-take k b, (half-frame line chars bytes k b e).0)))

  pub print-inside : at ≤ length out → (print_frame out at n line chars bytes table).next ≤ length out
  print-inside g = go (leb (at + frame_room) (length out)) refl
    where
      go : (t : Bool) → leb (at + frame_room) (length out) ≡ t → (print_frame out at n line chars bytes table).next ≤ length out
      go false t = rw (print-none out at n line chars bytes table (leb-false (at + frame_room) (length out) t)) g
      go true t =
          let h = leb-true (at + frame_room) (length out) t in
          let o = frame_of line chars bytes in
          rw (print-frame out at n line chars bytes table h o.answer o.out refl) (frame-inside h o.answer o.out refl)

  -- THE TEXT OF A LINE: with a buffer for 4,096 characters, 2,048 bytes and 1,024 records, what is put is what the line's characters print
  module _ (h : at + frame_room ≤ length out) (full : length line ≡ 4096) (b : 2048 ≤ length bytes) (t : 5120 ≤ length table) where
    abbrev Puts : List ℕ → Printing → Type 0
    Puts text o = (o.next ≡ at + length text) × (o.out ≡ sets out at text)

    long-printed : (ks : List ℕ) → Keeps line chars ks → line_limit < length ks → Puts (printed n ks) (print_frame out at n line chars bytes table)
    unfolding printed
    long-printed ks w g =
        let e = above-limit line chars bytes (omega (arith, keeps-long w (omega arith) (omega arith))) in
        rw (lt-leb (length ks) line_limit g, print-frame out at n line chars bytes table h (Err TooLong) bytes (sym e)) (refl, refl)

    decoded-printed : (d : Decoded) → decoded (take chars line) ≡ d → chars ≤ line_limit → Puts (decoded_text n d) (print_frame out at n line chars bytes table)
    decoded-printed Fails d g =
        let e = fitting line chars bytes g (omega arith) (omega arith) ∙ ap (framed bytes) d in
        rw (print-frame out at n line chars bytes table h (Err NotHex) bytes (sym e)) (refl, refl)
    decoded-printed (Decodes bs) d g =
        let e = fitting line chars bytes g (omega arith) (omega arith) ∙ ap (framed bytes) d in
        let m = decoded-half (take chars line) bs d in
        let l = length-take chars line in
        let s : take (length bs) (sets bytes 0 bs) ≡ bs =
        ap (take (length bs)) (put_front bytes bs (omega arith)) ∙ take_at bs (drop (length bs) bytes) (length bs) refl in
        rw (print-frame out at n line chars bytes table h (Ok (length bs)) (sets bytes 0 bs) (sym e), s, outcome-text n bs table (omega arith) t)
        (refl, refl)

    pub line-printed : (ks : List ℕ) → Keeps line chars ks → Puts (printed n ks) (print_frame out at n line chars bytes table)
    unfolding printed
    line-printed ks w = go (leb (length ks) line_limit) refl
      where
        go : (u : Bool) → leb (length ks) line_limit ≡ u → Puts (printed n ks) (print_frame out at n line chars bytes table)
        go false u = long-printed ks w (leb-false (length ks) line_limit u)
        go true u =
            let g = leb-true (length ks) line_limit u in
            let k = keeps-whole w (omega arith) in
            rw u (decoded-printed (decoded ks) (ap decoded k.1) (omega (arith, k.0)))
