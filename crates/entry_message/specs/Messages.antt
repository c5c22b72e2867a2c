-- The entries on whole messages: what each answers, and what it leaves in the table.
use Rattle.std.specs.Prelude.{ℕ, ◌+◌, ◌≤◌, ◌≡◌, refl, List, [], ◌∷◌, eqb, length, take, drop}
use Rattle.std.proofs.Common.{ap, ne_eqb, arith}
use Rattle.std.specs.Borrow.{Bor}
use Rattle.wire.specs.Choose.{choose}
use Rattle.wire.specs.Faults.{nowhere}
use Rattle.wire.specs.Limits.{message_limit}
use Rattle.wire.specs.Reading.{Message, Fields, read_message}
use Rattle.wire.specs.Reading as reading
use Rattle.wire.specs.declared.Refusal.TheVariants.{Repeated}
use Rattle.wire.specs.declared.Field.{Field}
use Rattle.wire.specs.declared.Record.{Record}
use Rattle.wire.specs.declared.Read.TheVariants.{Refused}
use Rattle.wire.specs.declared.Early.{Early}
use Rattle.wire.specs.declared.Early.TheVariants as early
use Rattle.message_early.specs.Early.{stop, early_of}
use Rattle.message_table.specs.Into.{Outcome, outcome, read_into}
use Rattle.message.specs.Tags.{of_tag, at_number, sought}
use Rattle.message_payload.specs.Payload.{span_of, payload}
use Rattle.message_payload.specs.declared.Span.{Span}
use Rattle.message.specs.declared.Sought.{Sought}
use Rattle.message.specs.declared.Sought.TheVariants as sought_as
use Rattle.entry_answer.specs.Gate.{gated, through, through-open, gated-open}
use Rattle.entry_answer.specs.declared.Gated.{Gated}
use Rattle.entry_answer.specs.declared.Gated.TheVariants.{Open, Shut}
use Rattle.entry_answer.specs.declared.Picked.{Picked}
use Rattle.entry_answer.specs.declared.Picked.TheVariants as picked_as
use Rattle.entry_answer.specs.declared.Several.{Several}
use Rattle.entry_answer.specs.declared.Several.TheVariants as several_as

-- ---- a message read into a table

-- Rules R4 and F6: TooLong and BadCap answer 0, 0 and no fault, and leave the table
unfoldable pub read_entry : List ℕ → ℕ → ℕ → List ℕ → Outcome
read_entry s start e t = through (gated (length s) start e) (λ r. outcome (Refused r 0 0 nowhere) t) (read_into s start e t)

pub entry-open : (s : List ℕ) (start e : ℕ) (t : List ℕ) → length s ≤ message_limit → start ≤ length s → e ≤ length s
    → read_entry s start e t ≡ read_into s start e t
unfolding read_entry
entry-open s start e t h a b = through-open _ _ (gated-open (length s) start e h a b)

-- ---- a payload, and a payload read as a message in itself

-- a part of a lent slice: where it lies, as a block of memory and a place there, and its bytes
pub record Part : Type 0 where
  pub block : ℕ
  pub place : ℕ
  pub bytes : List ℕ

abbrev pub part_of : Bor (List ℕ) → Part
part_of p = record { block = p.ref_ptr.0; place = p.ref_ptr.1; bytes = p.now }

-- the part of a message at a start, of a length
abbrev pub part_at : Bor (List ℕ) → Span → Part
part_at m p = record { block = m.ref_ptr.0; place = m.ref_ptr.1 + p.start; bytes = take p.length (drop p.start m.now) }

-- Rule P1: a record's payload: the part of the message itself, not a copy
unfoldable pub payload_part : Bor (List ℕ) → Record → Part
payload_part m r = part_at m (span_of (length m.now) r)

pub part_bytes : (m : Bor (List ℕ)) (r : Record) (p : Bor (List ℕ)) → part_of p ≡ payload_part m r → p.now ≡ payload m.now r
unfolding payload_part
part_bytes m r p e = ap (λ (x : Part). x.bytes) e

-- Rule P3: the payload from its first byte to its last is the message; places count from its first byte
unfoldable pub read_payload : List ℕ → Record → List ℕ → Outcome
read_payload m r t = let p = payload m r in read_entry p 0 (length p) t

pub payload-read : (m p : List ℕ) (r : Record) (t : List ℕ) → p ≡ payload m r → read_entry p 0 (length p) t ≡ read_payload m r t
unfolding read_payload
payload-read m p r t e = ap (λ (x : List ℕ). read_entry x 0 (length x) t) e

-- ---- pick

-- Rule P4: of the fields of the tag: the only one, or Absent; Repeated where there are more
abbrev pub picked_of : List Field → Picked
picked_of [] = picked_as.Absent
picked_of (f ∷ []) = picked_as.Found f
picked_of (f ∷ g ∷ fs) = picked_as.Refused Repeated

-- Rules P4 and R8: the whole message is read; its refusal answers the number alone, and comes first
abbrev pub picked : ℕ → Message → Picked
picked tag (Fields fs) = picked_of (of_tag tag fs)
picked tag (reading.Refused r p) = picked_as.Refused r

unfoldable pub pick_entry : List ℕ → ℕ → Picked
pick_entry s tag = through (gated (length s) 0 (length s)) picked_as.Refused (picked tag (read_message s 0 (length s)))

-- ---- pick at a number

-- Rule P5: how many, and the one at number k, counted from 0
abbrev pub several_of : Sought → Several
several_of (sought_as.Found f n) = several_as.Found n f
several_of (sought_as.Absent n) = several_as.Absent n
several_of (sought_as.Refused r) = several_as.Refused r

unfoldable pub several_entry : List ℕ → ℕ → ℕ → Several
several_entry s tag k = through (gated (length s) 0 (length s)) several_as.Refused (several_of (sought tag k (read_message s 0 (length s))))

-- ---- pick is what there is at number 0, if that is all

abbrev pub picked_from : Several → Picked
picked_from (several_as.Found n f) = choose (eqb n 1) (picked_as.Found f) (picked_as.Refused Repeated)
picked_from (several_as.Absent n) = picked_as.Absent
picked_from (several_as.Refused r) = picked_as.Refused r

pub picked-only : (fs : List Field) → picked_of fs ≡ picked_from (several_of (at_number 0 fs))
unfolding at_number
picked-only [] = refl
picked-only (f ∷ []) = refl
picked-only (f ∷ g ∷ fs) = rw (ne_eqb (length (f ∷ g ∷ fs)) 1 (λ e. omega arith))

-- ---- pick from the front: where the search stops (rule P6), and what it answers (rules P7 and P8)

unfoldable pub early_entry : List ℕ → ℕ → Early
early_entry s tag = through (gated (length s) 0 (length s)) early.Refused (early_of tag (stop tag s))
