-- Records that know their key: what the fifth word is, that nothing else of what is written hangs on it, what insertion puts there, and what a bad one does.
-- Over every outcome that the contracts allow.
use Rattle.std.specs.Prelude.{ℕ, zero, suc, ◌+◌, ◌-◌, ◌*◌, ◌^◌, ◌≤◌, ◌<◌, ◌≡◌, Bool, true, false, List, [], ◌∷◌, ◌++◌, ltb, leb, length, drop, replicate}
use Rattle.std.proofs.Math.Path.{refl, ap, sym}
use Rattle.std.proofs.Common.{◌∙◌, subst, arith}
use borrow.Author.Tests.{le-leb, leb-true, leb-false}
use Rattle.wire.specs.Choose.{choose}
use Rattle.wire.specs.Faults.{nowhere}
use Rattle.wire.specs.Limits.{message_limit, record_words, no_key}
use Rattle.wire.specs.Marks.{Mark, marks, next, Whole}
use Rattle.wire.proofs.Marks.{marks-count, marks-whole}
use Rattle.wire.specs.Numbers.{kind_of}
use Rattle.wire.specs.Places.{part, item_of}
use Rattle.wire.specs.Reading.{varint_at, field_at, Message, Fields, read_message}
use Rattle.wire.specs.Reading as reading
use Rattle.wire.specs.Table.{stamped, words, records, record_of, room, filled, record_at, field_in, fields_from, good_value, good_head, good, key-outside}
use Rattle.wire.specs.Table.{value-words, record-behind, record-first}
use Rattle.wire.specs.VarintLaws.{Bytes}
use Rattle.wire.specs.Written.{written_item}
use Rattle.wire.specs.declared.Field.{Field}
use Rattle.wire.specs.declared.FieldFound.TheVariants as field_found
use Rattle.wire.specs.declared.Inserted.TheVariants as inserted
use Rattle.wire.specs.declared.Read.TheVariants as read
use Rattle.wire.specs.declared.Record.{Record}
use Rattle.wire.specs.declared.NewRecord.{NewRecord}
use Rattle.wire.specs.declared.Refusal.TheVariants.{BadRecord}
use Rattle.wire.specs.declared.Value.{Value}
use Rattle.wire.specs.declared.WireType.{WireType}
use Rattle.message_table.specs.Into.{Outcome, outcome, read_into, into-refused, into-no-room, into-fits}
use Rattle.message_payload.specs.Payload.{span-bad}
use Rattle.write_record.specs.Records.{tag_before, judge, AllFine, First, tested, checked}
use Rattle.write_record.specs.RecordLaws.{judge-bad, first-stays}
use Rattle.write_message.specs.Writing.{Refuses, plan, refused, front, back}
use Rattle.write_message.specs.WritingLaws.{checked-tests, plan-first, into-refuses}
use Rattle.write_message.specs.ReadBack.{before, before-next, same-before}
use Rattle.write_insertion.specs.Insertion.{Insertion, spot}
use Rattle.write_insertion.specs.Insertion as insertion
use Rattle.write_insertion.specs.InsertionLaws.{spot-inside, aim-first, inserts-refuses}
use Rattle.run_read.specs.Packed.{Packed, Values, run_record, run_records, values_from}
use Rattle.run_read.specs.Packed as packed
use Rattle.run_read.specs.Runs.{read_run}
use Rattle.run_read.specs.Runs as runs
use Rattle.run_write.specs.RunPlan.{run_judge, run_tested, run_checked, run_plan, write_run}
use Rattle.entry_answer.specs.Gate.{gated, through, gated-number}
use Rattle.entry_answer.specs.declared.Gated.{Gated}
use Rattle.entry_answer.specs.declared.Gated.TheVariants.{Open, Shut}
use Rattle.entry_answer.specs.Told.{read_told, run_count_told}
use Rattle.entry_answer.specs.declared.RunCount.TheVariants as run_count
use Rattle.entry_message.specs.Messages.{read_entry, part_of, part_at, payload_part}
use Rattle.entry_message.proofs.payload_of.Kinds as payload-of
use Rattle.entry_message.proofs.payload_of.Reads as payload-of-reads
use Rattle.demands_order.specs.Calls.{Every, Call, start, end, table, answer, left}
use Rattle.demands_order.specs.Calls as calls
use Rattle.demands_order.specs.Formats.{refused-format}
use Rattle.demands_message.specs.Inserting.{Inserting, placed, before-spot, behind-spot, at-spot}
use Rattle.demands_message.specs.Inserting as inserting
use Rattle.demands_run.specs.Runs.{RunRead, RunWritten, many, writes, read_as, written_as}
use Rattle.demands_run.specs.Runs as called_runs
use Rattle.demands_message.specs.Writing.{Encoded, Prepended, encodes, prepends}
use Rattle.demands_key.specs.Keys.{BadKey, FieldOf, Keys, Twins, at, first_of, following, following-behind, following-first, moved, none_of, not_good, of-mark}

each_of : (s : List ℕ) (e p last : ℕ) (ms : List Mark) (v : List ℕ) → Whole s e p last ms → (i : ℕ) → i < length ms
    → let t = records ms ++ v in FieldOf s e (before last t i) (record_at t i) (following e t i (length ms - suc i))
each_of s e p last [] v w i h = absurd (omega arith)
each_of s e p last (m ∷ ms) v w zero h =
    let u = records ms ++ v in
    let n : suc (length ms) - 1 ≡ length ms = omega arith in
    moved refl (record-first (record_of m) u) (ap (following e (words (record_of m) ++ u) 0) n ∙ following-first e (record_of m) ms v)
    (of-mark s e p last m ms w)
each_of s e p last (m ∷ ms) v w (suc i) h =
    let u = records ms ++ v in
    let n : suc (length ms) - suc (suc i) ≡ length ms - suc i = omega arith in
    moved (before-next last (record_of m) u i) (record-behind (record_of m) u i)
    (ap (following e (words (record_of m) ++ u) (suc i)) n ∙ following-behind e (record_of m) u i (length ms - suc i))
    (each_of s e (next e ms) m.field.tag ms v w.4 i (omega arith))

module _ (s : List ℕ) (b : Bytes s) (a e : ℕ) (t : List ℕ) where
  abbrev Told : Outcome → Type 0
  Told o = (read_told o.answer).number ≡ 0 → Keys s a e (read_told o.answer).count o.table

  keys_filled : (fs : List Field) → read_message s a e ≡ Fields fs → Keys s a e (length fs) (filled t (marks s a e))
  keys_filled fs h =
      let ms = marks s a e in
      let v = drop (record_words * length ms) t in
      let u = records ms ++ v in
      let w = marks-whole s a e fs b h in
      let c = marks-count s a e fs h in
      record {
        none = λ z. none_of s e a 0 ms w (c ∙ z);
        first = λ z. first_of s e a 0 ms v w (omega (arith, c));
        each = λ i z.
            moved (sym (same-before u i)) refl (ap (λ (n : ℕ). following e u i (n - suc i)) (sym c)) (each_of s e a 0 ms v w i (omega (arith, c)));
      }

  keys-into : (m : Message) → read_message s a e ≡ m → Told (read_into s a e t)
  keys-into (reading.Refused r p) h =
      let n = refused-format s a e r p h in rw (into-refused s a e t r p h) (λ z. absurd (omega (arith, n.0)))
  keys-into (Fields fs) h = go (leb (length fs) (room t)) refl
    where
      go : (x : Bool) → leb (length fs) (room t) ≡ x → Told (read_into s a e t)
      go true x = rw (into-fits s a e t fs h (leb-true (length fs) (room t) x)) (λ z. keys_filled fs h)
      go false x = rw (into-no-room s a e t fs h (leb-false (length fs) (room t) x)) (λ z. absurd (omega arith))

  keys-entry : Told (read_entry s a e t)
  unfolding read_entry
  keys-entry = go (gated (length s) a e) refl
    where
      go : (g : Gated) → gated (length s) a e ≡ g → Told (through g (λ r. outcome (read.Refused r 0 0 nowhere) t) (read_into s a e t))
      go Open x = keys-into (read_message s a e) refl
      go (Shut r) x = λ z. absurd (omega (arith, gated-number (length s) a e r x))

-- THE KEY WORDS of an accepted message are the places of its keys, and from one to the next, the last up to the end, stands the whole field as it was written
pub key-words : (c : Call) → Bytes (calls.message c) → (read_told (answer c)).number ≡ 0
    → Keys (calls.message c) (start c) (end c) (read_told (answer c)).count (left c)
key-words c b =
    subst (Told (calls.message c) b (start c) (end c) (table c)) (sym c.allowed) (keys-entry (calls.message c) b (start c) (end c) (table c))

module _ {s t u : List ℕ} {c : ℕ} (w : Twins s t u c) where
  same_good : (i : ℕ) → i < c → good (length s) (record_at t i) ≡ good (length s) (record_at u i)
  same_good i h = w.good-one i h ∙ sym (w.good-two i h)

  same_tag : (i : ℕ) → i ≤ c → tag_before t i ≡ tag_before u i
  same_tag zero h = refl
  same_tag (suc i) h = (w.alike i (omega arith)).tag

  same-judge : (i : ℕ) → i < c → judge (length s) (tag_before t i) (record_at t i) ≡ judge (length s) (tag_before u i) (record_at u i)
  unfolding judge
  same-judge i h = rw (same_good i h, same_tag i (omega arith), (w.alike i h).tag)

  same-tested : (k : ℕ) → k ≤ c → tested k (length s) t ≡ tested k (length s) u
  same-tested zero h = refl
  same-tested (suc k) h = rw (same-tested k (omega arith), same-judge k (omega arith))

  same-field : (i : ℕ) → i < c → field_in (record_at t i) ≡ field_in (record_at u i)
  same-field i h = let a = w.alike i h in rw (a.tag, a.kind, a.value, a.length)

  same-fields : (k i : ℕ) → i + k ≤ c → fields_from k t i ≡ fields_from k u i
  same-fields zero i h = refl
  same-fields (suc k) i h = rw (same-field i (omega arith), same-fields k (suc i) (omega arith))

  same-plan : plan message_limit s t c ≡ plan message_limit s u c
  unfolding plan checked
  same-plan =
      rw (le-leb c (room t) w.room-one, le-leb c (room u) w.room-two, same-tested c (omega arith), same-fields c 0 (omega arith))

  pub encoded-alike : {b : List ℕ} (x : Encoded s t c b) (y : Encoded s u c b) → encodes x ≡ encodes y
  encoded-alike {b} x y = encoded-by x ∙ ap (front b) same-plan ∙ sym (encoded-by y)
    where
      encoded-by : {v : List ℕ} (z : Encoded s v c b) → encodes z ≡ front b (plan message_limit s v c)
      encoded-by z = z.allowed ∙ rw (z.source, z.records, z.count, z.buffer)

  pub prepended-alike : {b : List ℕ} (x : Prepended s t c b) (y : Prepended s u c b) → prepends x ≡ prepends y
  prepended-alike {b} x y = prepended-by x ∙ ap (back b) same-plan ∙ sym (prepended-by y)
    where
      prepended-by : {v : List ℕ} (z : Prepended s v c b) → prepends z ≡ back b (plan message_limit s v c)
      prepended-by z = z.allowed ∙ rw (z.source, z.records, z.count, z.buffer)

  -- as a run of a wire type
  module _ (k : ℕ) where
    same-run-judge : (i : ℕ) → i < c → run_judge (length s) k (record_at t i) ≡ run_judge (length s) k (record_at u i)
    unfolding run_judge
    same-run-judge i h = rw (same_good i h, (w.alike i h).kind, (w.alike i h).tag)

    same-run-tested : (n : ℕ) → n ≤ c → run_tested n (length s) k t ≡ run_tested n (length s) k u
    same-run-tested zero h = refl
    same-run-tested (suc n) h = rw (same-run-tested n (omega arith), same-run-judge n (omega arith))

  same-values : (k i : ℕ) → i + k ≤ c → values_from k t i ≡ values_from k u i
  same-values zero i h = refl
  same-values (suc k) i h = rw (ap (λ (f : Field). f.value) (same-field i (omega arith)), same-values k (suc i) (omega arith))

  same-run : (k : ℕ) → run_plan message_limit s t c k ≡ run_plan message_limit s u c k
  unfolding run_plan run_checked
  same-run k =
      rw (le-leb c (room t) w.room-one, le-leb c (room u) w.room-two, same-run-tested k c (omega arith), same-values c 0 (omega arith))

  pub run-alike : {k : WireType} {b : List ℕ} (x : RunWritten s t c k b) (y : RunWritten s u c k b) → writes x ≡ writes y
  unfolding write_run
  run-alike {k} {b} x y = written_as x ∙ ap (front b) (same-run (kind_of k)) ∙ sym (written_as y)

-- the first such record, among those that are otherwise fine up to it, is BadRecord with its index
module _ (s t : List ℕ) (c i : ℕ) (short : length s ≤ message_limit) (fits : c ≤ room t) (index : i < c) (fine : tested i (length s) t ≡ AllFine)
    (k : BadKey (length s) (record_at t i)) where
  bad-tested : tested c (length s) t ≡ First BadRecord i
  bad-tested =
      let n : c - suc i + suc i ≡ c = omega arith in
      let j = judge-bad (length s) (tag_before t i) (record_at t i) (not_good (length s) (record_at t i) k) in
      let e : tested (suc i) (length s) t ≡ First BadRecord i = rw (fine, j) in
      rw n at (first-stays (length s) t (suc i) (c - suc i) BadRecord i e)

  bad-plan : plan message_limit s t c ≡ Refuses BadRecord i
  bad-plan = plan-first message_limit s t c BadRecord i (checked-tests message_limit s t c short fits ∙ bad-tested)

  pub bad-encoded : {b : List ℕ} (x : Encoded s t c b) → encodes x ≡ record { answer = refused BadRecord i; buf = b }
  unfolding front
  bad-encoded {b} x = x.allowed ∙ rw (x.source, x.records, x.count, x.buffer) (into-refuses b _ bad-plan)

  pub bad-prepended : {b : List ℕ} (x : Prepended s t c b) → prepends x ≡ record { answer = refused BadRecord i; buf = b }
  unfolding back
  bad-prepended {b} x = x.allowed ∙ rw (x.source, x.records, x.count, x.buffer) (into-refuses b _ bad-plan)

  pub bad-inserted : {r : NewRecord} (x : Inserting s t c r)
      → ◌≡◌ {A = Insertion} (record { answer = x.answer; table = inserting.left x }) (record { answer = inserted.Refused BadRecord i; table = t })
  bad-inserted {r} x =
      inserting.outcome x
      ∙ sym (inserts-refuses t c (stamped r) BadRecord i
      (aim-first message_limit s t c (stamped r) BadRecord i (checked-tests message_limit s t c short fits ∙ bad-tested)))

-- and its payload is the empty part at the front
pub bad-payload : Every 1 payload-of.ps payload-of.r payload-of-reads.Post
    (λ κs a x s. BadKey (length a.0.now) a.1.0 → part_of x ≡ part_at a.0 (record { start = 0; length = 0 }))
unfolding payload_part
bad-payload κs a x s p k = p ∙ ap (part_at a.0) (span-bad (length a.0.now) a.1.0 (not_good (length a.0.now) a.1.0 k))
