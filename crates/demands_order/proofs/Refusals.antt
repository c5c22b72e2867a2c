-- The first demand, on memory that is lent: a refusal changes nothing (rule R2), and what is accepted changes nothing outside the part that it writes (rule
-- T4). One law, and a line for every entry that is lent something to write to, and for every export to C. Over every outcome that the contracts allow.
use Rattle.std.specs.Prelude.{ℕ, ◌+◌, ◌-◌, ◌*◌, ◌≤◌, ◌<◌, ◌≡◌, Bool, List, ◌++◌, ltb, eqb, take, drop}
use Rattle.std.proofs.Math.Path.{refl}
use Rattle.std.proofs.Common.{sym, ap, ◌∙◌, subst, append_assoc, append-nil, ltb-true, ltb-false, leb-true, leb-false, length-append, length-take, length-drop, take_at, drop_at}
use Rattle.std.proofs.Math.Bool.{true, false}
use native.Mathlib.Omega.{arith}
use Rattle.std.proofs.lemmas.Bool.{eqb-false}
use Rattle.std.proofs.Math.Dec.{leb}
use Rattle.std.proofs.Math.ListN.{length}
use Rattle.std.proofs.Math.Seq.{drop-length}
use Rattle.wire.specs.Faults.{nowhere}
use Rattle.wire.specs.Limits.{message_limit, record_words}
use Rattle.wire.specs.Marks.{marks}
use Rattle.wire.proofs.Marks.{marks-count}
use Rattle.wire.specs.Varint.{encode}
use Rattle.wire.specs.Places.{part}
use Rattle.wire.specs.Reading.{Message, Fields, read_message}
use Rattle.wire.specs.Reading as reading
use Rattle.wire.specs.Table.{stamped, words, room, good, records, length-records}
use Rattle.wire.specs.declared.Read.{Read}
use Rattle.wire.specs.declared.Read.TheVariants as read
use Rattle.wire.specs.declared.Record.{Record}
use Rattle.wire.specs.declared.WireType.{WireType}
use Rattle.place.specs.Place.{length_part}
use Rattle.message_table.specs.Into.{outcome, read_into, into-refused, into-fits, into-no-room}
use Rattle.message_payload.specs.Payload.{payload}
use Rattle.write_message.specs.Writing.{Plan, Writes, Refuses, plan, Writing, into, front, back}
use Rattle.write_record.specs.Records.{Verdict, AllFine, First, checked}
use Rattle.write_message.specs.WritingLaws.{checked-fine}
use Rattle.write_insertion.specs.Insertion.{spot, aimed, aim, inserts}
use Rattle.write_insertion.specs.InsertionLaws.{spot-inside}
use Rattle.entry_answer.specs.declared.Gated.{Gated}
use Rattle.entry_answer.specs.declared.Gated.TheVariants.{Open, Shut}
use Rattle.entry_answer.specs.Gate.{gated, through}
use Rattle.entry_answer.specs.Stores.{Stored, at_front, at_end}
use Rattle.entry_answer.specs.Told as told
use Rattle.entry_answer.specs.Told.{put_told, read_told, written_told, inserted_told}
use Rattle.entry_key.specs.Keys.{key_at_front, key_at_end, key_bytes}
use Rattle.entry_message.specs.Messages.{read_entry, read_payload}
use Rattle.entry_copy.specs.Copy.{Copying, copied_by, copied, copied_told}
use Rattle.sounding.specs.Soundings.{Judgement, Good, Bad, judge, opened}
use Rattle.sounding.specs.Words.{level_size, level_room, words_of, stored, read_sounding}
use Rattle.sounding.specs.Told as soundings
use Rattle.sounding.specs.Told.{sounding_told}
use Rattle.sounding.proofs.Levels.{length-words}
use Rattle.sounding_value.specs.Values.{entered}
use Rattle.c_words.specs.Words.{Lent, as_number, as_read, as_written, as_sounding, stored_told, outcome_told, writing_told, insertion_told, levels_told, typed_of}
use Rattle.c_words.specs.Words.{key_stored}
use Rattle.c_words.specs.declared.Typed.{Typed}
use Rattle.c_words.specs.declared.Typed.TheVariants.{Is, Unknown}
use Rattle.demands_order.specs.Calls.{Every, five_words, four_words}
use Rattle.entry_varint.proofs.encode_varint.Kinds as encode-varint
use Rattle.entry_varint.proofs.encode_varint.Reads as encode-varint-reads
use Rattle.entry_varint.proofs.prepend_varint.Kinds as prepend-varint
use Rattle.entry_varint.proofs.prepend_varint.Reads as prepend-varint-reads
use Rattle.entry_key.proofs.encode_key.Kinds as encode-key
use Rattle.entry_key.proofs.encode_key.Reads as encode-key-reads
use Rattle.entry_key.proofs.prepend_key.Kinds as prepend-key
use Rattle.entry_key.proofs.prepend_key.Reads as prepend-key-reads
use Rattle.entry_message.proofs.read_message.Kinds as read-message
use Rattle.entry_message.proofs.read_message.Reads as read-message-reads
use Rattle.entry_message.proofs.read_payload.Kinds as read-payload
use Rattle.entry_message.proofs.read_payload.Reads as read-payload-reads
use Rattle.entry_write.proofs.encode_message.Kinds as encode-message
use Rattle.entry_write.proofs.encode_message.Reads as encode-message-reads
use Rattle.entry_write.proofs.prepend_message.Kinds as prepend-message
use Rattle.entry_write.proofs.prepend_message.Reads as prepend-message-reads
use Rattle.entry_write.proofs.insert.Kinds as insert
use Rattle.entry_write.proofs.insert.Reads as insert-reads
use Rattle.entry_copy.proofs.copy_message.Kinds as copy-message
use Rattle.entry_copy.proofs.copy_message.Reads as copy-message-reads
use Rattle.sounding.proofs.read_sounding.Kinds as read-sounding
use Rattle.sounding.proofs.read_sounding.Reads as read-sounding-reads
use Rattle.capgauze_c.proofs.capgauze_encode_varint.Kinds as c-encode-varint
use Rattle.capgauze_c.proofs.capgauze_encode_varint.Reads as c-encode-varint-reads
use Rattle.capgauze_c.proofs.capgauze_prepend_varint.Kinds as c-prepend-varint
use Rattle.capgauze_c.proofs.capgauze_prepend_varint.Reads as c-prepend-varint-reads
use Rattle.capgauze_c.proofs.capgauze_encode_key.Kinds as c-encode-key
use Rattle.capgauze_c.proofs.capgauze_encode_key.Reads as c-encode-key-reads
use Rattle.capgauze_c.proofs.capgauze_prepend_key.Kinds as c-prepend-key
use Rattle.capgauze_c.proofs.capgauze_prepend_key.Reads as c-prepend-key-reads
use Rattle.capgauze_c.proofs.capgauze_read_message.Kinds as c-read-message
use Rattle.capgauze_c.proofs.capgauze_read_message.Reads as c-read-message-reads
use Rattle.capgauze_c.proofs.capgauze_read_payload.Kinds as c-read-payload
use Rattle.capgauze_c.proofs.capgauze_read_payload.Reads as c-read-payload-reads
use Rattle.capgauze_c.proofs.capgauze_encode_message.Kinds as c-encode-message
use Rattle.capgauze_c.proofs.capgauze_encode_message.Reads as c-encode-message-reads
use Rattle.capgauze_c.proofs.capgauze_prepend_message.Kinds as c-prepend-message
use Rattle.capgauze_c.proofs.capgauze_prepend_message.Reads as c-prepend-message-reads
use Rattle.capgauze_c.proofs.capgauze_insert.Kinds as c-insert
use Rattle.capgauze_c.proofs.capgauze_insert.Reads as c-insert-reads
use Rattle.capgauze_c.proofs.capgauze_read_sounding.Kinds as c-read-sounding
use Rattle.capgauze_c.proofs.capgauze_read_sounding.Reads as c-read-sounding-reads
use Rattle.demands_order.specs.Refusals.{Framed, InAll, InTable, kept, put-end, put_front}

module _ (s : List ℕ) (a e : ℕ) (t : List ℕ) where
  pub into-table : (m : Message) → read_message s a e ≡ m → InTable t (outcome_told (read_into s a e t))
  into-table (reading.Refused r p) h = rw (into-refused s a e t r p h) (kept _ _ _ t)
  into-table (Fields fs) h = go (leb (length fs) (room t)) refl
    where
      go : (x : Bool) → leb (length fs) (room t) ≡ x → InTable t (outcome_told (read_into s a e t))
      go true x =
          let g = leb-true (length fs) (room t) x in
          let ms = marks s a e in
          let c = marks-count s a e fs h in
          rw (into-fits s a e t fs h g, ← c) (put_front t (records ms) (record_words * length ms) (length-records ms) (omega (arith, c)))
      go false x = rw (into-no-room s a e t fs h (leb-false (length fs) (room t) x)) (kept _ _ _ t)

  entry-table : InTable t (outcome_told (read_entry s a e t))
  unfolding read_entry
  entry-table = go (gated (length s) a e)
    where
      go : (g : Gated) → InTable t (outcome_told (through g (λ r. outcome (read.Refused r 0 0 nowhere) t) (read_into s a e t)))
      go Open = into-table (read_message s a e) refl
      go (Shut r) = kept _ _ _ t

payload-table : (m : List ℕ) (r : Record) (t : List ℕ) → InTable t (outcome_told (read_payload m r t))
unfolding read_payload
payload-table m r t = entry-table (payload m r) 0 (length (payload m r)) t

copied_all : (s t f b : List ℕ) → InAll s t f b (copied s t f b)
unfolding copied
copied_all s t f b = go (read_entry s 0 (length s) t).answer refl
  where
    same : {n : ℕ} {m : ℕ} {k : ℕ} → Framed n 0 m t t × Framed n 0 (length s) f f × Framed n (length b - length s) k b b
    same = (kept _ _ _ t, kept _ _ _ f, kept _ _ _ b)

    go : (x : Read) → (read_entry s 0 (length s) t).answer ≡ x
        → InAll s t f b (copied_by s t f b (read_entry s 0 (length s) t).answer (read_entry s 0 (length s) t).table)
    go (read.Refused r p n x) e = rw e same
    go (read.Accepted i n) e = rw e (fits (leb (length s) (length f)) refl (leb (length s) (length b)) refl)
      where
        fits : (x : Bool) → leb (length s) (length f) ≡ x → (y : Bool) → leb (length s) (length b) ≡ y
            → InAll s t f b (copied_by s t f b (read.Accepted i n) (read_entry s 0 (length s) t).table)
        fits true x true y =
            rw (x, y) (
              rw e at (entry-table s 0 (length s) t),
              put_front f s (length s) refl (leb-true (length s) (length f) x),
              put-end b s _ _ refl refl (leb-true (length s) (length b) y),
            )
        fits true x false y = rw (x, y) same
        fits false x y z = rw x same

pub read-message-frame : Every 2 read-message.ps read-message.r read-message-reads.Post
    (λ κs a x s. InTable a.1.1.1.0.now (record { told = read_told x; lent = s.1.1.1.0.now }))
read-message-frame κs a x s p =
    subst (InTable a.1.1.1.0.now) (sym (ap outcome_told p)) (entry-table a.0.now a.1.0 a.1.1.0 a.1.1.1.0.now)

pub read-payload-frame : Every 2 read-payload.ps read-payload.r read-payload-reads.Post
    (λ κs a x s. InTable a.1.1.0.now (record { told = read_told x; lent = s.1.1.0.now }))
read-payload-frame κs a x s p = subst (InTable a.1.1.0.now) (sym (ap outcome_told p)) (payload-table a.0.now a.1.0 a.1.1.0.now)

pub copy-message-frame : Every 4 copy-message.ps copy-message.r copy-message-reads.Post
    (λ κs a x s. InAll a.0.now a.1.0.now a.1.1.0.now a.1.1.1.0.now
    (record { answer = x; table = s.1.0.now; front = s.1.1.0.now; back = s.1.1.1.0.now }))
copy-message-frame κs a x s p =
    let m = a.0.now in
    let t = a.1.0.now in
    let f = a.1.1.0.now in
    let b = a.1.1.1.0.now in
    subst (InAll m t f b) (sym p) (copied_all m t f b)

pub c-read-message-frame : Every 2 c-read-message.ps c-read-message.r c-read-message-reads.Post
    (λ κs a x s. InTable a.1.1.1.0.now (record { told = as_read x; lent = s.1.1.1.0.now }))
c-read-message-frame κs a x s p =
    subst (InTable a.1.1.1.0.now) (sym p) (entry-table a.0.now a.1.0 a.1.1.0 a.1.1.1.0.now)

pub c-read-payload-frame : Every 2 c-read-payload.ps c-read-payload.r c-read-payload-reads.Post
    (λ κs a x s. InTable a.1.1.1.1.1.1.0.now (record { told = as_read x; lent = s.1.1.1.1.1.1.0.now }))
c-read-payload-frame κs a x s p =
    let t = a.1.1.1.1.1.1.0.now in
    subst (InTable t) (sym p) (payload-table a.0.now (five_words a.1.0 a.1.1.0 a.1.1.1.0 a.1.1.1.1.0 a.1.1.1.1.1.0) t)
