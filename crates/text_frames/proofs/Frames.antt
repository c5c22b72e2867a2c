-- A frame's message, from what its reader answered and left in the table.
use Rattle.std.specs.Prelude.{Result, Ok}
use Prim.Native.Nat.{ℕ, ◌+◌, ◌-◌, ◌*◌, ◌≤◌}
use mathlib.Core.Path.{◌≡◌, refl, ap, ◌∙◌, sym}
use mathlib.Core.Bool.{Bool, true, false}
use mathlib.Core.List.{List, []}
use native.Mathlib.Omega.{arith}
use lib.Dec.{leb}
use lib.ListN.{length, take, drop, length-take}
use Rattle.wire.specs.Limits.{record_words}
use Rattle.wire.specs.Faults.{nowhere}
use Rattle.wire.specs.Marks.{Mark, marks, fields_of}
use Rattle.wire.proofs.Marks.{marks-fields, marks-count}
use Rattle.wire.proofs.MarkLaws.{marks-rise}
use Rattle.wire.specs.Reading.{Message, Fields, read_message}
use Rattle.wire.specs.Reading as reading
use Rattle.wire.specs.Table.{room, filled}
use Rattle.wire.specs.declared.Fault.{Fault}
use Rattle.wire.specs.declared.Refusal.{Refusal}
use Rattle.wire.specs.declared.Refusal.TheVariants.{NoRoom}
use Rattle.wire.specs.declared.Field.{Field}
use Rattle.wire.specs.declared.Read.{Read}
use Rattle.wire.specs.declared.Read.TheVariants.{Accepted, Refused}
use Rattle.place.specs.Place.{Placed, placed, put_at, put-roomy}
use Rattle.fault.specs.Fault.{message_fault}
use Rattle.message_table.specs.Into.{Outcome, outcome, landed, read_into}
use Rattle.text_hex.specs.Frame.{Framed, frame_of}
use Rattle.text_hex.specs.Faults.{half-frame}
use Rattle.text_hex.specs.declared.FrameError.{FrameError}
use Rattle.entry_message.specs.Messages.{read_entry, entry-open}
use Rattle.text_frames.specs.Text.{told}
use Rattle.text_frames.specs.Room.{AllInside, sized, told_none}
use Rattle.text_frames.specs.Print.{frame_room, answer_text, outcome_text, Roomy, all-kept, Closed, Framable, Messaged, shows, frame_printing}
use Rattle.text_frames.specs.Print.{print_frame, print-frame}
use Rattle.text_frames.proofs.PrintLaws.{outcome-size}

-- ---- an accepted answer is that of fields

no-accept : {A : Type 0} {r : Refusal} {p n e count : ℕ} {f : Fault} → Refused r p n f ≡ Accepted e count → A
no-accept h = let z : ◌≡◌ {A = ℕ} 0 1 = cc in absurd (omega arith)

landed-accepts : (e : ℕ) (f : Fault) (t : List ℕ) (ms : List Mark) (m : Message) (x count : ℕ) (t' : List ℕ) → outcome (Accepted x count) t' ≡ landed e f t ms m
    → (fs : List Field) × (m ≡ Fields fs) × (count ≡ length fs) × (t' ≡ filled t ms)
landed-accepts e f t ms (Fields fs) x count t' h = go (leb (length fs) (room t)) refl
  where
    go : (b : Bool) → leb (length fs) (room t) ≡ b → (gs : List Field) × (Fields fs ≡ Fields gs) × (count ≡ length gs) × (t' ≡ filled t ms)
    go true b =
        let q : outcome (Accepted x count) t' ≡ outcome (Accepted e (length fs)) (filled t ms) = simp b at h in
        let a : Accepted x count ≡ Accepted e (length fs) = ap (λ (o : Outcome). o.answer) q in
        (fs, refl, cc, ap (λ (o : Outcome). o.table) q)
    go false b =
        let q : outcome (Accepted x count) t' ≡ outcome (Refused NoRoom 0 (length fs) nowhere) t = simp b at h in
        no-accept (sym (ap (λ (o : Outcome). o.answer) q))
landed-accepts e f t ms (reading.Refused r p) x count t' h = no-accept (sym (ap (λ (o : Outcome). o.answer) h))

-- an answer by its case
pub answered : {x y : Read} {t : List ℕ} {o : Outcome} → x ≡ y → outcome x t ≡ o → outcome y t ≡ o
answered {x} {y} {t} e q = ap (λ (z : Read). outcome z t) (sym e) ∙ q

module _ {out : List ℕ} {at : ℕ} {s : List ℕ} (f : Framable out at s) (n : ℕ) (t : List ℕ) {r : Read} {t' : List ℕ}
    (a : outcome r t' ≡ read_entry s 0 (length s) t) where
  -- the text of an answer has room, and is what is to be put
  pub answer-room : Roomy out at (answer_text n s t' r)
  unfolding outcome_text
  answer-room = omega (arith, f.room, outcome-size n s t f.short, ap (λ (o : Outcome). length (outcome_text n s o)) a)

  pub answer-put : {m : ℕ} {c : List ℕ} → ◌≡◌ {A = Placed} (record { next = m; buf = c }) (put_at out at (answer_text n s t' r)) → Messaged out at n s t m c t'
  unfolding outcome_text
  answer-put p =
      (p ∙ put-roomy out at (answer_text n s t' r) answer-room ∙ ap (λ (o : Outcome). placed out at (outcome_text n s o)) a, ap (λ (o : Outcome). o.table) a)

-- the records of an accepted message are those of its fields
pub closed : {out : List ℕ} {at : ℕ} {s : List ℕ} (f : Framable out at s) (n : ℕ) (t : List ℕ) {e count : ℕ} {t' : List ℕ}
    → outcome (Accepted e count) t' ≡ read_entry s 0 (length s) t → Closed out at n s t' count
unfolding read_into marks
closed {out} {at} {s} f n t {e} {count} {t'} a =
    let o = entry-open s 0 (length s) t (omega (arith, f.short)) (omega arith) (omega arith) in
    let ms = marks s 0 (length s) in
    let x = landed-accepts (length s) (message_fault s 0 (length s)) t ms (read_message s 0 (length s)) e count t' (a ∙ o) in
    let i : AllInside s (fields_of ms) = rw (marks-fields s 0 (length s) x.0 x.1) (sized n s x.0 x.1).inside in
    record {
      has =
          record {
            marks = ms;
            rest = drop (record_words * length ms) t;
            listed = x.3;
            many = x.2 ∙ sym (marks-count s 0 (length s) x.0 x.1);
            inside = all-kept s 0 ms i (marks-rise (length s - 0) s (length s) 0 0);
          };
      room = answer-room f n t a;
    }

-- ---- a line: what was put of it, and what else is left

shown-put : (out : List ℕ) (at : ℕ) {m : ℕ} {c : List ℕ} (text bytes table : List ℕ) → ◌≡◌ {A = Placed} (record { next = m; buf = c }) (placed out at text)
    → record { next = m; out = c; bytes = bytes; table = table } ≡ shows out at text bytes table
shown-put out at text bytes table e = ap (λ (o : Placed). record { next = o.next; out = o.buf; bytes = bytes; table = table }) e

pub framed-as : {f g : Result ℕ FrameError} {b : List ℕ} {o : Framed} → f ≡ g → record { answer = f; out = b } ≡ o → record { answer = g; out = b } ≡ o
framed-as {f} {g} {b} e q = ap (λ (x : Result ℕ FrameError). record { answer = x; out = b }) (sym e) ∙ q

module _ (out : List ℕ) (at n : ℕ) (line : List ℕ) (chars : ℕ) (bytes table : List ℕ) (wide : at + frame_room ≤ length out) where
  pub word_room : (word : List ℕ) → length word ≤ 5 → Roomy out at (told n word [])
  word_room word h = omega (arith, told_none n word)

  -- a line that is no frame: a word is put
  pub word-put : {m : ℕ} {c b : List ℕ} (f : Result ℕ FrameError) (word : List ℕ) → length word ≤ 5 → frame_printing out at n f b table ≡ shows out at (told n word []) b table
      → record { answer = f; out = b } ≡ frame_of line chars bytes
      → ◌≡◌ {A = Placed} (record { next = m; buf = c }) (put_at out at (told n word []))
      → record { next = m; out = c; bytes = b; table = table } ≡ print_frame out at n line chars bytes table
  word-put {m} {c} {b} f word h q e p =
      shown-put out at (told n word []) b table (p ∙ put-roomy out at (told n word []) (word_room word h))
      ∙ sym (print-frame out at n line chars bytes table wide f b e ∙ q)

  -- a frame: its message is read and printed
  module _ {k : ℕ} {b : List ℕ} (e : record { answer = Ok k; out = b } ≡ frame_of line chars bytes) where
    pub frame-inside : k ≤ length b
    frame-inside = (half-frame line chars bytes k b e).1

    pub framable : Framable out at (take k b)
    framable =
        let h = half-frame line chars bytes k b e in
        record { room = wide; short = omega (arith, length-take k b, h.0) }

    pub frame-put : {m : ℕ} {c t : List ℕ} → Messaged out at n (take k b) table m c t
        → record { next = m; out = c; bytes = b; table = t } ≡ print_frame out at n line chars bytes table
    frame-put {m} {c} {t} w =
        let o = read_entry (take k b) 0 (length (take k b)) table in
        ap (λ (u : List ℕ). record { next = m; out = c; bytes = b; table = u }) w.1
        ∙ shown-put out at (outcome_text n (take k b) o) b o.table w.0
        ∙ sym (print-frame out at n line chars bytes table wide (Ok k) b e)
