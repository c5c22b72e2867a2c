-- A line's verdict is the line's alone, where there is room for the bytes and the fields of any frame.
use Rattle.std.specs.Prelude.{ℕ, ◌≤◌, ◌≡◌, refl, Bool, true, false, List, leb, length, take, drop}
use Rattle.std.proofs.Common.{ap, sym, ◌∙◌, arith, leb-true, leb-false, length-take, take_at}
use Rattle.std.proofs.lemmas.List.Edits.{sets}
use Rattle.wire.specs.Reading.{Message, Fields, read_message}
use Rattle.wire.specs.Reading as reading
use Rattle.message_table.specs.Into.{Outcome, read_into, into-refused, into-fits}
use Rattle.entry_message.specs.Messages.{entry-open}
use Rattle.place.specs.Place.{put_front}
use Rattle.text_hex.specs.Frame.{Framed, Decoded, Decodes, Fails, decoded, framed, frame_of, line_limit, above-limit, above-line, fitting}
use Rattle.text_hex.specs.Faults.{decoded-half}
use Rattle.text_frames.specs.Room.{sized}
use Rattle.dump.specs.Verdict.{read_verdict, message_verdict, frame_verdict, verdict_of, format_verdict, decoded_verdict, line_verdict}

module _ (s t : List ℕ) (short : length s ≤ 2048) (room : 5120 ≤ length t) where
  message-alone : message_verdict s t ≡ format_verdict (read_message s 0 (length s))
  message-alone = go (read_message s 0 (length s)) refl
    where
      told : (o : Outcome) → read_into s 0 (length s) t ≡ o → message_verdict s t ≡ read_verdict o.answer
      told o e = ap (λ (x : Outcome). read_verdict x.answer) (entry-open s 0 (length s) t (omega arith) (omega arith) (omega arith) ∙ e)

      go : (m : Message) → read_message s 0 (length s) ≡ m → message_verdict s t ≡ format_verdict (read_message s 0 (length s))
      go (reading.Refused r p) e = told _ (into-refused s 0 (length s) t r p e) ∙ ap format_verdict (sym e)
      go (Fields fs) e = told _ (into-fits s 0 (length s) t fs e (omega (arith, (sized 0 s fs e).few))) ∙ ap format_verdict (sym e)

module _ (line : List ℕ) (chars : ℕ) (bytes table : List ℕ) (b : 2048 ≤ length bytes) (t : 5120 ≤ length table) where
  framed-as : (f : Framed) → frame_of line chars bytes ≡ f → verdict_of line chars bytes table ≡ frame_verdict f.answer f.out table
  framed-as f e = ap (λ (x : Framed). frame_verdict x.answer x.out table) e

  decoded-alone : (d : Decoded) → decoded (take chars line) ≡ d → chars ≤ line_limit → chars ≤ length line
      → verdict_of line chars bytes table ≡ decoded_verdict d
  decoded-alone Fails d g h = framed-as _ (fitting line chars bytes g h (omega arith) ∙ ap (framed bytes) d)
  decoded-alone (Decodes bs) d g h =
      let m = decoded-half (take chars line) bs d in
      let l = length-take chars line in
      let s : take (length bs) (sets bytes 0 bs) ≡ bs =
      ap (take (length bs)) (put_front bytes bs (omega arith)) ∙ take_at bs (drop (length bs) bytes) (length bs) refl in
      framed-as _ (fitting line chars bytes g h (omega arith) ∙ ap (framed bytes) d)
      ∙ ap (λ (x : List ℕ). message_verdict x table) s
      ∙ message-alone bs table (omega arith) t

  pub verdict-alone : verdict_of line chars bytes table ≡ line_verdict line chars
  verdict-alone = go (leb chars line_limit) refl
    where
      go : (u : Bool) → leb chars line_limit ≡ u → verdict_of line chars bytes table ≡ line_verdict line chars
      go false u = rw u (framed-as _ (above-limit line chars bytes (leb-false chars line_limit u)))
      go true u = by (leb chars (length line)) refl
        where
          by : (v : Bool) → leb chars (length line) ≡ v → verdict_of line chars bytes table ≡ line_verdict line chars
          by false v = rw (u, v) (framed-as _ (above-line line chars bytes (leb-true chars line_limit u) (leb-false chars (length line) v)))
          by true v = rw (u, v) (decoded-alone (decoded (take chars line)) refl (leb-true chars line_limit u) (leb-true chars (length line) v))
