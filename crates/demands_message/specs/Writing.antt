-- The third demand, for writing: a message that was read whole into a table and is written from it, forwards or from the end, gives the same bytes
-- back. Over every outcome that the contracts of `read_message`, `encode_message` and `prepend_message` allow.
-- And the second, for writing: for every source, table, count and buffer, what is written is the list that the records stand for.
use Rattle.std.specs.Prelude.{ℕ, ◌-◌, ◌≤◌, ◌≡◌, refl, length, take, drop}
use Rattle.std.proofs.Common.{ap, ◌∙◌, arith}
use mathlib.Core.List.{List, ◌++◌}
use contract.Lifetimes.{Lfts}
use borrow.Fn.Kinds.{Dens, res_t, ended_of}
use denote.Triple.Clauses.{AtExit}
use Rattle.wire.specs.Limits.{message_limit}
use Rattle.wire.specs.Marks.{marks}
use Rattle.wire.specs.Places.{items}
use Rattle.wire.specs.Reading.{Message, Fields, read_message}
use Rattle.wire.specs.Reading as reading
use Rattle.wire.proofs.Theorem.{accepted}
use Rattle.demands_order.specs.Formats.{refused-format}
use Rattle.wire.specs.Table.{room, filled}
use Rattle.write_record.specs.Records.{AllFine, checked}
use Rattle.write_record.specs.Records as records
use Rattle.write_message.specs.Writing.{Writes, plan, Writing, front, back}
use Rattle.write_message.specs.WritingLaws.{plan-fine, into-writes}
use Rattle.write_message.specs.ReadBack.{table-plan}
use Rattle.wire.specs.declared.Field.{Field}
use Rattle.wire.specs.declared.Read.{Read}
use Rattle.wire.specs.declared.Written.TheVariants.{At}
use Rattle.message_table.specs.Into.{Outcome, outcome, read_into, into-refused, into-fits}
use Rattle.entry_answer.specs.Told.{read_told}
use Rattle.entry_message.specs.Messages.{entry-open}
use Rattle.entry_write.proofs.encode_message.Kinds as encode
use Rattle.entry_write.proofs.encode_message.Reads as encode-reads
use Rattle.entry_write.proofs.prepend_message.Kinds as prepend
use Rattle.entry_write.proofs.prepend_message.Reads as prepend-reads
use Rattle.demands_order.specs.Calls.{Call, message, start, end, table, answer, left}
use Rattle.demands_message.specs.Reading.{Whole, to-meant}

-- ---- a call of a writer and one of its outcomes

pub record Encoded (s t : List ℕ) (c : ℕ) (b : List ℕ) : Type 0 where
  pub lifetimes : Lfts 3
  pub arguments : Dens lifetimes encode.ps
  pub answer : (res_t encode.r lifetimes).Denot
  pub exit : AtExit (ended_of 3 encode.ps encode.r) lifetimes
  pub allowed : encode-reads.Post lifetimes arguments answer exit
  pub source : arguments.0.now ≡ s
  pub records : arguments.1.0.now ≡ t
  pub count : arguments.1.1.0 ≡ c
  pub buffer : arguments.1.1.1.0.now ≡ b

pub record Prepended (s t : List ℕ) (c : ℕ) (b : List ℕ) : Type 0 where
  pub lifetimes : Lfts 3
  pub arguments : Dens lifetimes prepend.ps
  pub answer : (res_t prepend.r lifetimes).Denot
  pub exit : AtExit (ended_of 3 prepend.ps prepend.r) lifetimes
  pub allowed : prepend-reads.Post lifetimes arguments answer exit
  pub source : arguments.0.now ≡ s
  pub records : arguments.1.0.now ≡ t
  pub count : arguments.1.1.0 ≡ c
  pub buffer : arguments.1.1.1.0.now ≡ b

-- what they answer and leave
abbrev pub encodes : {s t : List ℕ} {c : ℕ} {b : List ℕ} → Encoded s t c b → Writing
encodes w = record { answer = w.answer; buf = w.exit.1.1.1.0.now }

abbrev pub prepends : {s t : List ℕ} {c : ℕ} {b : List ℕ} → Prepended s t c b → Writing
prepends w = record { answer = w.answer; buf = w.exit.1.1.1.0.now }

-- bytes at the front of a buffer, and at its end, with all other bytes as they were
abbrev pub at_front : List ℕ → List ℕ → Writing
at_front bs b = record { answer = At 0 (length bs); buf = bs ++ drop (length bs) b }

abbrev pub at_end : List ℕ → List ℕ → Writing
at_end bs b = record { answer = At (length b - length bs) (length bs); buf = take (length b - length bs) b ++ bs }

module _ {s t : List ℕ} {c : ℕ} {b bs : List ℕ} (p : plan message_limit s t c ≡ Writes bs) (fits : length bs ≤ length b) where
  pub encoded-as : (w : Encoded s t c b) → encodes w ≡ at_front bs b
  unfolding front
  encoded-as w =
      w.allowed
      ∙ rw (w.source, w.records, w.count, w.buffer) (into-writes b (λ (xs : List ℕ). at_front xs b) p fits)

  pub prepended-as : (w : Prepended s t c b) → prepends w ≡ at_end bs b
  unfolding back
  prepended-as w =
      w.allowed
      ∙ rw (w.source, w.records, w.count, w.buffer) (into-writes b (λ (xs : List ℕ). at_end xs b) p fits)

-- ---- THE SECOND DEMAND, FOR WRITING: records that pass every test are written as the list that they stand for, and as nothing else, so that a writer
-- which copies its source does not do

module _ {s t : List ℕ} {c : ℕ} {b : List ℕ} (fine : checked message_limit s t c ≡ AllFine)
    (short : length (records.message s t c) ≤ message_limit) (fits : length (records.message s t c) ≤ length b) where
  pub encode-writes : (w : Encoded s t c b) → encodes w ≡ at_front (records.message s t c) b
  encode-writes = encoded-as (plan-fine message_limit s t c fine short) fits

  pub prepend-writes : (w : Prepended s t c b) → prepends w ≡ at_end (records.message s t c) b
  prepend-writes = prepended-as (plan-fine message_limit s t c fine short) fits

-- ---- THE THIRD DEMAND, FOR WRITING

-- what is left of a table after an accepted read is to be written as the message
read-plan : (m t : List ℕ) (o : Message) (r : Read) (u : List ℕ) → read_message m 0 (length m) ≡ o → outcome r u ≡ read_into m 0 (length m) t
    → ((fs : List Field) → read_message m 0 (length m) ≡ Fields fs
    → (length fs ≤ room t) × (plan message_limit m (filled t (marks m 0 (length m))) (length fs) ≡ Writes m))
    → (read_told r).number ≡ 0 → plan message_limit m u (read_told r).count ≡ Writes m
read-plan m t (Fields fs) r u h e p z =
    let x = e ∙ into-fits m 0 (length m) t fs h (p fs h).0 in
    rw (ap (λ (o : Outcome). (read_told o.answer).count) x, ap (λ (o : Outcome). o.table) x) (p fs h).1
read-plan m t (reading.Refused q i) r u h e p z =
    let x = e ∙ into-refused m 0 (length m) t q i h in
    let f = refused-format m 0 (length m) q i h in
    absurd (omega (arith, f.0, ap (λ (o : Outcome). (read_told o.answer).number) x))

pub planned : (c : Call) → Whole c → (read_told (answer c)).number ≡ 0 → plan message_limit (message c) (left c) (read_told (answer c)).count ≡ Writes (message c)
planned c w z =
    let m = message c in
    let t = table c in
    let e : outcome (answer c) (left c) ≡ read_into m 0 (length m) t =
    c.allowed ∙ entry-open m (start c) (end c) t w.short (omega (arith, w.from)) (omega (arith, w.to))
    ∙ ap (λ (i : ℕ). read_into m i (end c) t) w.from ∙ ap (λ (i : ℕ). read_into m 0 i t) w.to
    in
    read-plan m t (read_message m 0 (length m)) (answer c) (left c) refl e
    (λ fs h.
    let a = accepted m 0 (length m) w.bytes fs h in
    let f : length fs ≤ room t = omega (arith, a.1, w.enough) in
    (f, table-plan m t fs w.bytes h f message_limit w.short (to-meant m (items m fs) a.0).bytes))
    z
