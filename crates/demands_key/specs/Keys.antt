-- Records that know their key: what the fifth word is, that nothing else of what is written hangs on it, what insertion puts there, and what a bad one does.
-- Over every outcome that the contracts allow.
use Rattle.std.specs.Prelude.{ℕ, zero, suc, ◌+◌, ◌-◌, ◌*◌, ◌^◌, ◌≤◌, ◌<◌, ◌≡◌, Bool, true, false, List, [], ◌∷◌, ◌++◌, ltb, leb, length, drop, replicate}
use Rattle.std.proofs.Math.Path.{refl, ap, sym}
use Rattle.std.proofs.Common.{◌∙◌, subst, arith}
use borrow.Author.Tests.{le-leb, leb-true, leb-false}
use Rattle.wire.specs.Choose.{choose}
use Rattle.wire.specs.Faults.{nowhere}
use Rattle.wire.specs.Limits.{message_limit, record_words, no_key}
use Rattle.wire.specs.Marks.{Mark, marks, next, Whole}
use Rattle.wire.proofs.Marks.{marks-count, marks-whole}
use Rattle.wire.specs.Numbers.{kind_of}
use Rattle.wire.specs.Places.{part, item_of}
use Rattle.wire.specs.Reading.{varint_at, field_at, Message, Fields, read_message}
use Rattle.wire.specs.Reading as reading
use Rattle.wire.specs.Table.{stamped, words, records, record_of, room, filled, record_at, field_in, fields_from, good_value, good_head, good, key-outside}
use Rattle.wire.specs.Table.{value-words, record-behind, record-first}
use Rattle.wire.specs.VarintLaws.{Bytes}
use Rattle.wire.specs.Written.{written_item}
use Rattle.wire.specs.declared.Field.{Field}
use Rattle.wire.specs.declared.FieldFound.TheVariants as field_found
use Rattle.wire.specs.declared.Inserted.TheVariants as inserted
use Rattle.wire.specs.declared.Read.TheVariants as read
use Rattle.wire.specs.declared.Record.{Record}
use Rattle.wire.specs.declared.NewRecord.{NewRecord}
use Rattle.wire.specs.declared.Refusal.TheVariants.{BadRecord}
use Rattle.wire.specs.declared.Value.{Value}
use Rattle.wire.specs.declared.WireType.{WireType}
use Rattle.message_table.specs.Into.{Outcome, outcome, read_into, into-refused, into-no-room, into-fits}
use Rattle.message_payload.specs.Payload.{span-bad}
use Rattle.write_record.specs.Records.{tag_before, judge, AllFine, First, tested, checked}
use Rattle.write_record.specs.RecordLaws.{judge-bad, first-stays}
use Rattle.write_message.specs.Writing.{Refuses, plan, refused, front, back}
use Rattle.write_message.specs.WritingLaws.{checked-tests, plan-first, into-refuses}
use Rattle.write_message.specs.ReadBack.{before, before-next, same-before}
use Rattle.write_insertion.specs.Insertion.{Insertion, spot}
use Rattle.write_insertion.specs.Insertion as insertion
use Rattle.write_insertion.specs.InsertionLaws.{spot-inside, aim-first, inserts-refuses}
use Rattle.run_read.specs.Packed.{Packed, Values, run_record, run_records, values_from}
use Rattle.run_read.specs.Packed as packed
use Rattle.run_read.specs.Runs.{read_run}
use Rattle.run_read.specs.Runs as runs
use Rattle.run_write.specs.RunPlan.{run_judge, run_tested, run_checked, run_plan, write_run}
use Rattle.entry_answer.specs.Gate.{gated, through, gated-number}
use Rattle.entry_answer.specs.declared.Gated.{Gated}
use Rattle.entry_answer.specs.declared.Gated.TheVariants.{Open, Shut}
use Rattle.entry_answer.specs.Told.{read_told, run_count_told}
use Rattle.entry_answer.specs.declared.RunCount.TheVariants as run_count
use Rattle.entry_message.specs.Messages.{read_entry, part_of, part_at, payload_part}
use Rattle.entry_message.proofs.payload_of.Kinds as payload-of
use Rattle.entry_message.proofs.payload_of.Reads as payload-of-reads
use Rattle.demands_order.specs.Calls.{Every, Call, start, end, table, answer, left}
use Rattle.demands_order.specs.Calls as calls
use Rattle.demands_order.specs.Formats.{refused-format}
use Rattle.demands_message.specs.Inserting.{Inserting, placed, before-spot, behind-spot, at-spot}
use Rattle.demands_message.specs.Inserting as inserting
use Rattle.demands_run.specs.Runs.{RunRead, RunWritten, many, writes, read_as, written_as}
use Rattle.demands_run.specs.Runs as called_runs
use Rattle.demands_message.specs.Writing.{Encoded, Prepended, encodes, prepends}

-- ---- THE FIFTH WORD OF AN ACCEPTED MESSAGE

-- of a record behind a tag: at its key a field is read, up to the place q, and it is the record's; and these bytes are the whole field
pub record FieldOf (s : List ℕ) (e last : ℕ) (r : Record) (q : ℕ) : Type 0 where
  pub inside : r.key < e
  pub reads : field_at s e r.key last ≡ field_found.Got (field_in r) q
  pub whole : part s r.key q ≡ written_item last (item_of s (field_in r))

-- where the field of record i ends, with k records behind it: at the next one's key, or at the end
abbrev pub following : ℕ → List ℕ → ℕ → ℕ → ℕ
following e t i zero = e
following e t i (suc k) = (record_at t (suc i)).key

-- of the first n records of a table: the first key is at the start, and all are so
pub record Keys (s : List ℕ) (a e n : ℕ) (t : List ℕ) : Type 0 where
  pub none : n ≡ 0 → a ≡ e
  pub first : 0 < n → (record_at t 0).key ≡ a
  pub each : (i : ℕ) → i < n → FieldOf s e (tag_before t i) (record_at t i) (following e t i (n - suc i))

pub moved : {s : List ℕ} {e a b : ℕ} {x y : Record} {p q : ℕ} → a ≡ b → x ≡ y → p ≡ q → FieldOf s e b y q → FieldOf s e a x p
moved i j k f = rw (i, j, k) f

pub of-mark : (s : List ℕ) (e p last : ℕ) (m : Mark) (ms : List Mark) → Whole s e p last (m ∷ ms) → FieldOf s e last (record_of m) (next e ms)
of-mark s e p last m ms w =
    let f : m.field ≡ field_in (record_of m) = sym (ap (λ (v : Value). record { tag = m.field.tag; value = v }) (value-words m.field.value)) in
    record {
      inside = rw w.0 w.1;
      reads = ap (λ (k : ℕ). field_at s e k last) w.0 ∙ w.2 ∙ ap (λ (x : Field). field_found.Got x (next e ms)) f;
      whole = ap (λ (k : ℕ). part s k (next e ms)) w.0 ∙ w.3 ∙ ap (λ (x : Field). written_item last (item_of s x)) f;
    }

pub following-first : (e : ℕ) (r : Record) (ms : List Mark) (v : List ℕ) → following e (words r ++ (records ms ++ v)) 0 (length ms) ≡ next e ms
following-first e r [] v = refl
following-first e r (m ∷ ms) v =
    ap (λ (x : Record). x.key) (record-behind r (records (m ∷ ms) ++ v) 0 ∙ record-first (record_of m) (records ms ++ v))

pub following-behind : (e : ℕ) (r : Record) (u : List ℕ) (i k : ℕ) → following e (words r ++ u) (suc i) k ≡ following e u i k
following-behind e r u i zero = refl
following-behind e r u i (suc k) = ap (λ (x : Record). x.key) (record-behind r u (suc i))

pub first_of : (s : List ℕ) (e p last : ℕ) (ms : List Mark) (v : List ℕ) → Whole s e p last ms → 0 < length ms → (record_at (records ms ++ v) 0).key ≡ p
first_of s e p last [] v w h = absurd (omega arith)
first_of s e p last (m ∷ ms) v w h = ap (λ (x : Record). x.key) (record-first (record_of m) (records ms ++ v)) ∙ w.0

pub none_of : (s : List ℕ) (e p last : ℕ) (ms : List Mark) → Whole s e p last ms → length ms ≡ 0 → p ≡ e
none_of s e p last [] w h = w
none_of s e p last (m ∷ ms) w h = absurd (omega arith)

-- ---- GOOD TABLES THAT DIFFER ONLY IN IT ARE WRITTEN ALIKE

pub record Alike (x y : Record) : Type 0 where
  pub tag : x.tag ≡ y.tag
  pub kind : x.kind ≡ y.kind
  pub value : x.value ≡ y.value
  pub length : x.length ≡ y.length

-- the first records, so many of them, of two tables: all are good over one source, and they differ in nothing but their keys
pub record Twins (s t u : List ℕ) (c : ℕ) : Type 0 where
  pub room-one : c ≤ room t
  pub room-two : c ≤ room u
  pub good-one : (i : ℕ) → i < c → good (length s) (record_at t i) ≡ true
  pub good-two : (i : ℕ) → i < c → good (length s) (record_at u i) ≡ true
  pub alike : (i : ℕ) → i < c → Alike (record_at t i) (record_at u i)

-- ---- A RECORD PUT IN BY HAND HAS NO KEY, and all others are as they were

module _ {s t : List ℕ} {c : ℕ} {r : NewRecord} (w : Inserting s t c r) (fine : checked message_limit s t c ≡ AllFine)
    (g : good (length s) (stamped r) ≡ true) (room-left : c < room t) where
  abbrev pub at : ℕ
  at = spot c t r.tag

  seen : (i : ℕ) → record_at (inserting.left w) i ≡ record_at (insertion.inserted t c (stamped r) at) i
  seen i = ap (λ (o : Insertion). record_at o.table i) (placed w fine g room-left)

  pub inserted-key : record_at (inserting.left w) at ≡ stamped r
  inserted-key = seen at ∙ at-spot t c (stamped r) at (spot-inside c t r.tag) (omega arith)

  pub inserted-before : (i : ℕ) → i < at → record_at (inserting.left w) i ≡ record_at t i
  inserted-before i h = seen i ∙ before-spot t c (stamped r) at (spot-inside c t r.tag) (omega arith) i h

  pub inserted-behind : (i : ℕ) → at ≤ i → i < c → record_at (inserting.left w) (suc i) ≡ record_at t i
  inserted-behind i h l = seen (suc i) ∙ behind-spot t c (stamped r) at (spot-inside c t r.tag) (omega arith) i h l

-- ---- NOR HAS ONE READ FROM A PACKED RUN

run-key : (vs : List Value) (v : List ℕ) (i : ℕ) → i < length vs → (record_at (run_records vs ++ v) i).key ≡ no_key
run-key [] v i h = absurd (omega arith)
run-key (x ∷ vs) v zero h = ap (λ (r : Record). r.key) (record-first (run_record x) (run_records vs ++ v))
run-key (x ∷ vs) v (suc i) h = ap (λ (r : Record). r.key) (record-behind (run_record x) (run_records vs ++ v) i) ∙ run-key vs v i (omega arith)

abbrev NoKeys : runs.Outcome → Type 0
NoKeys o = (i : ℕ) → i < (run_count_told o.answer).value → (record_at o.table i).key ≡ no_key

landed-keys : (t : List ℕ) (x : Packed) → NoKeys (runs.landed t x)
landed-keys t (packed.Refused r) = λ i h. absurd (omega arith)
landed-keys t (Values vs) = go (leb (length vs) (room t)) refl
  where
    go : (b : Bool) → leb (length vs) (room t) ≡ b → NoKeys (runs.landed t (Values vs))
    go true b = rw b (λ i h. run-key vs (drop (record_words * length vs) t) i h)
    go false b = rw b (λ i h. absurd (omega arith))

read-keys : (s : List ℕ) (w : WireType) (t : List ℕ) → NoKeys (read_run s w t)
unfolding read_run
read-keys s w t = go (gated (length s) 0 (length s))
  where
    go : (g : Gated) → NoKeys (through g (λ r. runs.outcome (run_count.Refused r) t) (runs.landed t (packed.packed s w)))
    go Open = landed-keys t (packed.packed s w)
    go (Shut r) = λ i h. absurd (omega arith)

pub run-keys : {s : List ℕ} {w : WireType} {t : List ℕ} (c : RunRead s w t) (i : ℕ) → i < many c → (record_at (called_runs.left c) i).key ≡ no_key
run-keys {s} {w} {t} c = subst NoKeys (sym (read_as c)) (read-keys s w t)

-- ---- A KEY THAT IS NEITHER A PLACE INSIDE THE SOURCE NOR ALL ONES

pub record BadKey (n : ℕ) (r : Record) : Type 0 where
  pub outside : n ≤ r.key
  pub some : r.key ≡ no_key → ⊥

pub not_good : (n : ℕ) (r : Record) → BadKey n r → good n r ≡ false
unfolding good good_head
not_good n r k = rw (key-outside n r.key k.outside k.some) (none-good (ltb r.tag (2 ^ 32)))
  where
    none-good : (a : Bool) → choose (choose a false false) (good_value n r.kind r.value r.length) false ≡ false
    none-good true = refl
    none-good false = refl

-- ---- a case: three fields, whose keys stand at 0, 10 and 14

abbrev keyed : List Mark → List ℕ
keyed [] = []
keyed (m ∷ ms) = m.key ∷ keyed ms

pub three-keys : keyed (marks (0x04 ∷ 0xff ∷ (replicate 8 0xfe ++ (0x09 ∷ 0x02 ∷ 0xc0 ∷ 0xde ∷ 0x02 ∷ 0x01 ∷ 0x00 ∷ 0x00 ∷ 0x00 ∷ []))) 0 19) ≡ 0 ∷ 10 ∷ 14 ∷ []
unfolding marks varint_at field_at
three-keys = refl
