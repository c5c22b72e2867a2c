-- What reading a whole message into a table answers and leaves.
use Rattle.std.specs.Prelude.{ℕ, ◌≤◌, ◌<◌, ◌≡◌, List, leb, length}
use Rattle.std.proofs.Math.Path.{ap}
use Rattle.std.proofs.Common.{◌∙◌, sym, le-leb}
use Rattle.std.proofs.lemmas.Bool.{lt-leb}
use Rattle.wire.specs.Choose.{choose}
use Rattle.wire.specs.Faults.{nowhere}
use Rattle.wire.specs.Marks.{Mark, marks}
use Rattle.wire.specs.Reading.{Message, Fields, read_message}
use Rattle.wire.specs.Reading as reading
use Rattle.wire.specs.Table.{room, filled}
use Rattle.wire.specs.VarintLaws.{Bytes}
use Rattle.wire.specs.declared.Fault.{Fault}
use Rattle.wire.specs.declared.Refusal.{Refusal}
use Rattle.wire.specs.declared.Refusal.TheVariants.{NoRoom}
use Rattle.wire.specs.declared.Field.{Field}
use Rattle.wire.specs.declared.Read.{Read}
use Rattle.wire.specs.declared.Read.TheVariants.{Accepted, Refused}
use Rattle.fault.specs.Fault.{message_fault}
use Rattle.fault.specs.Short.{fault_at}
use Rattle.fault.proofs.Short.{message-short}

-- what a message reader answers, and what it leaves in the table
pub record Outcome : Type 0 where
  pub answer : Read
  pub table : List ℕ

abbrev pub outcome : Read → List ℕ → Outcome
outcome r t = record { answer = r; table = t }

-- Rules T4, T5 and R4: an accepted message with room is in the table with its keys, and the end and the count are told; one without is NoRoom with the fields
-- needed, and no read failed (rule F6); a refusal of the format has its place and where the read failed (rule F5), and leaves the table
abbrev pub landed : ℕ → Fault → List ℕ → List Mark → Message → Outcome
landed e f t ms (Fields fs) =
    choose (leb (length fs) (room t)) (outcome (Accepted e (length fs)) (filled t ms)) (outcome (Refused NoRoom 0 (length fs) nowhere) t)
landed e f t ms (reading.Refused r p) = outcome (Refused r p 0 f) t

unfoldable pub read_into : List ℕ → ℕ → ℕ → List ℕ → Outcome
read_into s start e t = landed e (message_fault s start e) t (marks s start e) (read_message s start e)

-- its three cases
module _ (s : List ℕ) (start e : ℕ) (t : List ℕ) where
  pub into-refused : (r : Refusal) (p : ℕ) → read_message s start e ≡ reading.Refused r p
      → read_into s start e t ≡ outcome (Refused r p 0 (message_fault s start e)) t
  unfolding read_into
  into-refused r p h = ap (landed e (message_fault s start e) t (marks s start e)) h

  -- where it failed by the short way
  pub into-fault : {r : Refusal} {p : ℕ} {a : Read} → Bytes s → a ≡ Refused r p 0 (fault_at s e r p) → read_message s start e ≡ reading.Refused r p
      → outcome a t ≡ read_into s start e t
  into-fault {r} {p} b g h =
      ap (λ (x : Read). outcome x t) (g ∙ ap (Refused r p 0) (sym (message-short s start e r p b h))) ∙ sym (into-refused r p h)

  pub into-no-room : (fs : List Field) → read_message s start e ≡ Fields fs → room t < length fs
      → read_into s start e t ≡ outcome (Refused NoRoom 0 (length fs) nowhere) t
  unfolding read_into
  into-no-room fs h g = ap (landed e (message_fault s start e) t (marks s start e)) h ∙ rw (lt-leb (length fs) (room t) g)

  pub into-fits : (fs : List Field) → read_message s start e ≡ Fields fs → length fs ≤ room t
      → read_into s start e t ≡ outcome (Accepted e (length fs)) (filled t (marks s start e))
  unfolding read_into
  into-fits fs h g = ap (landed e (message_fault s start e) t (marks s start e)) h ∙ rw (le-leb (length fs) (room t) g)
