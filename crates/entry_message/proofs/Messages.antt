-- The entries on whole messages: what each answers, and what it leaves in the table.
use Rattle.std.specs.Prelude.{ℕ, ◌+◌, ◌≤◌, ◌≡◌, refl, List, [], ◌∷◌, eqb, length, take, drop}
use Rattle.std.proofs.Common.{ap, ne_eqb, arith}
use Rattle.std.specs.Borrow.{Bor}
use Rattle.wire.specs.Choose.{choose}
use Rattle.wire.specs.Faults.{nowhere}
use Rattle.wire.specs.Limits.{message_limit}
use Rattle.wire.specs.Reading.{Message, Fields, read_message}
use Rattle.wire.specs.Reading as reading
use Rattle.wire.specs.declared.Refusal.TheVariants.{Repeated}
use Rattle.wire.specs.declared.Field.{Field}
use Rattle.wire.specs.declared.Record.{Record}
use Rattle.wire.specs.declared.Read.TheVariants.{Refused}
use Rattle.wire.specs.declared.Early.{Early}
use Rattle.wire.specs.declared.Early.TheVariants as early
use Rattle.message_early.specs.Early.{stop, early_of}
use Rattle.message_table.specs.Into.{Outcome, outcome, read_into}
use Rattle.message.specs.Tags.{of_tag, at_number, sought}
use Rattle.message_payload.specs.Payload.{span_of, payload}
use Rattle.message_payload.specs.declared.Span.{Span}
use Rattle.message.specs.declared.Sought.{Sought}
use Rattle.message.specs.declared.Sought.TheVariants as sought_as
use Rattle.entry_answer.specs.Gate.{gated, through, through-open, gated-open}
use Rattle.entry_answer.specs.declared.Gated.{Gated}
use Rattle.entry_answer.specs.declared.Gated.TheVariants.{Open, Shut}
use Rattle.entry_answer.specs.declared.Picked.{Picked}
use Rattle.entry_answer.specs.declared.Picked.TheVariants as picked_as
use Rattle.entry_answer.specs.declared.Several.{Several}
use Rattle.entry_answer.specs.declared.Several.TheVariants as several_as
use Rattle.entry_message.specs.Messages.{pick_entry, picked, picked-only, picked_from, several_entry, several_of}

picked-sought : (tag : ℕ) (m : Message) → picked tag m ≡ picked_from (several_of (sought tag 0 m))
picked-sought tag (Fields fs) = picked-only (of_tag tag fs)
picked-sought tag (reading.Refused r p) = refl

pub picked-several : (s : List ℕ) (tag : ℕ) → pick_entry s tag ≡ picked_from (several_entry s tag 0)
unfolding pick_entry several_entry
picked-several s tag = go (gated (length s) 0 (length s))
  where
    go : (g : Gated)
        → through g picked_as.Refused (picked tag (read_message s 0 (length s))) ≡ picked_from
        (through g several_as.Refused (several_of (sought tag 0 (read_message s 0 (length s)))))
    go Open = picked-sought tag (read_message s 0 (length s))
    go (Shut r) = refl
