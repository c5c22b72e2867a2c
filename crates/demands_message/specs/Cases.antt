-- The cases of FORMAT.md that are marked P, over every outcome that the contracts of the entries allow: varints put, measured and read, messages
-- read, fields skipped.
use Rattle.std.specs.Prelude.{ℕ, ◌-◌, ◌*◌, ◌≤◌, ◌≡◌, refl, Bool, true, false, List, [], ◌∷◌, ◌++◌, leb, length, take, drop}
use Rattle.std.proofs.Common.{ap, ◌∙◌, sym, subst, leb-true, le-leb}
use Rattle.wire.specs.Choose.{choose, both}
use Rattle.wire.specs.Limits.{message_limit, record_words}
use Rattle.wire.specs.Marks.{Mark, marks, fields_of}
use Rattle.wire.proofs.Marks.{marks-fields}
use Rattle.wire.specs.Numbers.{number_of}
use Rattle.wire.specs.Varint.{encode}
use Rattle.wire.specs.Reading.{varint_at, Message, Fields, read_message}
use Rattle.wire.specs.Reading as reading
use Rattle.wire.specs.Skipping.{skip_at}
use Rattle.wire.specs.declared.WireType.{WireType}
use Rattle.wire.specs.declared.VarintFound.{VarintFound}
use Rattle.wire.specs.declared.VarintFound.TheVariants as varint_found
use Rattle.wire.specs.declared.Reached.{Reached}
use Rattle.wire.specs.Table.{room, records}
use Rattle.wire.specs.Cases.{Case, Encodes, Varint, Reads, Skips, Right, All}
use Rattle.wire.proofs.Cases.{cases}
use Rattle.wire.specs.Cases as format
use Rattle.fault.specs.Fault.{message_fault}
use Rattle.message_table.specs.Into.{Outcome, read_into, into-refused, into-fits}
use Rattle.entry_answer.specs.Gate.{gated, through-open, gated-open}
use Rattle.entry_varint.specs.Varints.{varint_read, decode_varint}
use Rattle.entry_answer.specs.Stores.{Stored, room_for, at_front, at_end}
use Rattle.entry_field.specs.Fields.{skip_answer, skip_field}
use Rattle.entry_answer.specs.Told.{Message as Answer, put_told, varint_told, skipped_told, read_told}
use Rattle.entry_message.specs.Messages.{read_entry}
use Rattle.entry_answer.specs.declared.Gated.TheVariants.{Open}
use Rattle.entry_answer.specs.declared.Put.TheVariants.{Done}
use Rattle.entry_varint.proofs.encode_varint.Kinds as encode-varint
use Rattle.entry_varint.proofs.encode_varint.Reads as encode-varint-reads
use Rattle.entry_varint.proofs.prepend_varint.Kinds as prepend-varint
use Rattle.entry_varint.proofs.prepend_varint.Reads as prepend-varint-reads
use Rattle.varint_write.proofs.encoded_len_varint.Kinds as encoded-len-varint
use Rattle.varint_write.proofs.encoded_len_varint.Reads as encoded-len-varint-reads
use Rattle.entry_varint.proofs.decode_varint.Kinds as decode-varint
use Rattle.entry_varint.proofs.decode_varint.Reads as decode-varint-reads
use Rattle.entry_field.proofs.skip_field.Kinds as skip-field
use Rattle.entry_field.proofs.skip_field.Reads as skip-field-reads
use Rattle.demands_order.specs.Calls.{Every, Call, message, start, end, table, answer, left}

-- what is told of a message of s that is read from a up to e
abbrev pub told : List ℕ → ℕ → ℕ → Message → Answer
told s a e (Fields fs) = record { number = 0; place = e; count = length fs; failing = 0; bytes = 0 }
told s a e (reading.Refused r p) =
    let f = message_fault s a e in record { number = number_of r; place = p; count = 0; failing = f.place; bytes = f.bytes }

-- and what a table t then holds: the records of the fields with their keys, in words, and every other word as it was
abbrev pub Holds : List ℕ → List Mark → Message → List ℕ → Type 0
Holds t ms (Fields fs) u = (fields_of ms ≡ fs) × (u ≡ records ms ++ drop (record_words * length ms) t)
Holds t ms (reading.Refused r p) u = u ≡ t

abbrev pub needed : Message → ℕ
needed (Fields fs) = length fs
needed (reading.Refused r p) = 0

-- a number's bytes: at the front of a buffer that has room for them, and at its end, with all other bytes as they were; and how many they are
pub record Encoded (v : ℕ) (bs : List ℕ) : Type 0 where
  pub at_front_lem : Every 1 encode-varint.ps encode-varint.r encode-varint-reads.Post
      (λ κs a x s. a.0 ≡ v → length bs ≤ length a.1.0.now
      → (put_told x ≡ record { number = 0; value = length bs }) × (s.1.0.now ≡ bs ++ drop (length bs) a.1.0.now))
  pub at-end : Every 1 prepend-varint.ps prepend-varint.r prepend-varint-reads.Post
      (λ κs a x s. a.0 ≡ v → length bs ≤ length a.1.0.now
      → (put_told x ≡ record { number = 0; value = length bs }) × (s.1.0.now ≡ take (length a.1.0.now - length bs) a.1.0.now ++ bs))
  pub measured : Every 0 encoded-len-varint.ps encoded-len-varint.r encoded-len-varint-reads.Post (λ κs a x s. a.0 ≡ v → x ≡ length bs)

-- bytes read as a varint from their first place
abbrev pub ReadsVarint : List ℕ → VarintFound → Type 0
ReadsVarint bs found = Every 1 decode-varint.ps decode-varint.r decode-varint-reads.Post
    (λ κs a x s. a.0.now ≡ bs → a.1.0 ≡ 0 → varint_told x ≡ varint_told (varint_read bs 0 found))

-- bytes skipped from a place, up to an end
abbrev pub Skipped : List ℕ → ℕ → ℕ → WireType → Reached → Type 0
Skipped bs at e w to =
    Every 1 skip-field.ps skip-field.r skip-field-reads.Post
    (λ κs a x s. a.0.now ≡ bs → a.1.0 ≡ at → a.1.1.0 ≡ e → a.1.1.1.0 ≡ w → skipped_told x ≡ skipped_told (skip_answer at to))

-- a call with a case's bytes, start and end, and room for its fields, tells what the case says, and leaves the fields in the table
abbrev pub Tells : Case → Type 0
Tells (Encodes v bs) = Encoded v bs × ReadsVarint bs (varint_found.Got v (length bs))
Tells (Varint bs found) = ReadsVarint bs found
Tells (Reads bs a e m) = (c : Call) → message c ≡ bs → start c ≡ a → end c ≡ e → needed m ≤ room (table c)
    → (read_told (answer c) ≡ told bs a e m) × Holds (table c) (marks bs a e) m (left c)
Tells (Skips bs e at w to) = Skipped bs at e w to

-- ---- the proof

pub told-into : (s : List ℕ) (a e : ℕ) (t : List ℕ) (m : Message) → read_message s a e ≡ m → needed m ≤ room t
    → (read_told (read_into s a e t).answer ≡ told s a e m) × Holds t (marks s a e) m (read_into s a e t).table
told-into s a e t (Fields fs) h g = rw (into-fits s a e t fs h g) (refl, (marks-fields s a e fs h, refl))
told-into s a e t (reading.Refused r p) h g = rw (into-refused s a e t r p h) (refl, refl)

-- a case lies inside the limit and its slice: computed for all of them at once
abbrev within : List ℕ → ℕ → ℕ → Bool
within bs a e = choose (leb (length bs) message_limit) (choose (leb a (length bs)) (leb e (length bs)) false) false

abbrev pub inside : Case → Bool
inside (Encodes v bs) = within bs 0 (length bs)
inside (Varint bs found) = within bs 0 (length bs)
inside (Reads bs a e m) = within bs a e
inside (Skips bs e at w to) = within bs at e

abbrev pub every : List Case → Bool
every [] = true
every (c ∷ cs) = choose (inside c) (every cs) false

-- so the gate is open
pub open-gate : (bs : List ℕ) (a e : ℕ) → within bs a e ≡ true → gated (length bs) a e ≡ Open
open-gate bs a e i =
    let x = both (leb (length bs) message_limit) _ i in
    let y = both (leb a (length bs)) _ x.1 in
    gated-open (length bs) a e (leb-true (length bs) message_limit x.0) (leb-true a (length bs) y.0) (leb-true e (length bs) y.1)

roomy : (b bs c : List ℕ) → length bs ≤ length b → room_for b bs c ≡ record { answer = Done (length bs); buf = c }
roomy b bs c f = rw (le-leb (length bs) (length b) f)

pub encoded : (v : ℕ) (bs : List ℕ) → encode v ≡ bs → Encoded v bs
unfolding at_front at_end
encoded v bs w =
    record {
      at_front_lem = λ κs a x s p q f.
          let b = a.1.0.now in
          let e = p ∙ ap (λ (n : ℕ). at_front b (encode n)) q ∙ ap (at_front b) w ∙ roomy b bs (bs ++ drop (length bs) b) f in
          (ap (λ (o : Stored). put_told o.answer) e, ap (λ (o : Stored). o.buf) e);
      at-end = λ κs a x s p q f.
          let b = a.1.0.now in
          let e = p ∙ ap (λ (n : ℕ). at_end b (encode n)) q ∙ ap (at_end b) w ∙ roomy b bs (take (length b - length bs) b ++ bs) f in
          (ap (λ (o : Stored). put_told o.answer) e, ap (λ (o : Stored). o.buf) e);
      measured = λ κs a x s p q. p ∙ ap (λ (n : ℕ). length (encode n)) q ∙ ap length w;
    }

pub reads-varint : (bs : List ℕ) (found : VarintFound) → varint_at bs 0 ≡ found → within bs 0 (length bs) ≡ true → ReadsVarint bs found
unfolding decode_varint
reads-varint bs found w i κs a x s p q r =
    ap varint_told
    (p ∙ ap (λ (m : List ℕ). decode_varint m a.1.0) q ∙ ap (decode_varint bs) r ∙ through-open _ _ (open-gate bs 0 (length bs) i) ∙ ap (varint_read bs 0) w)

pub skips : (bs : List ℕ) (at e : ℕ) (w : WireType) (to : Reached) → skip_at bs e at w ≡ to → within bs at e ≡ true → Skipped bs at e w to
unfolding skip_field
skips bs at e w to h i κs a x s p q r t u =
    ap skipped_told
    (p ∙ ap (λ (m : List ℕ). skip_field m a.1.0 a.1.1.0 a.1.1.1.0) q ∙ ap (λ (j : ℕ). skip_field bs j a.1.1.0 a.1.1.1.0) r
    ∙ ap (λ (j : ℕ). skip_field bs at j a.1.1.1.0) t ∙ ap (skip_field bs at e) u ∙ through-open _ _ (open-gate bs at e i) ∙ ap (skip_answer at) h)
