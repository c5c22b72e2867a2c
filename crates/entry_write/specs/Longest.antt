-- The limit at work (rule R6), for every source: the longest payload that can be written, and one byte more.
use Rattle.std.specs.Prelude.{ℕ, ◌+◌, ◌≤◌, ◌<◌, ◌≡◌, refl, List, [], ◌∷◌, length}
use Rattle.std.proofs.Common.{ap, ◌∙◌, arith, le-leb}
use Rattle.wire.specs.Varint.{encode}
use Rattle.wire.specs.Limits.{message_limit, no_key}
use Rattle.wire.specs.Table.{record_at, good_value, good_head, good, key-none}
use Rattle.write_record.specs.Records.{judge, AllFine, checked, record_size, message}
use Rattle.write_record.specs.RecordLaws.{good-sound, record-size, message-last}
use Rattle.write_message.specs.Writing.{Plan, Refuses, plan, measured, front}
use Rattle.write_message.specs.WritingLaws.{checked-long, plan-first, plan-over, plan-fine, measured-writes, into-refuses}
use Rattle.wire.specs.declared.Refusal.TheVariants.{TooLong}
use Rattle.wire.specs.declared.Written.TheVariants.{At, Refused}

-- one record: the whole source as a payload
abbrev table : List ℕ → List ℕ
table s = 0 ∷ 1 ∷ 0 ∷ length s ∷ no_key ∷ []

abbrev one : List ℕ → Plan
one s = plan message_limit s (table s) 1

fine : (s : List ℕ) → length s ≤ message_limit → checked message_limit s (table s) 1 ≡ AllFine
unfolding checked record_at good_value good_head good judge
fine s h = rw (le-leb (length s) message_limit h, key-none (length s) no_key refl, le-leb (0 + length s) (length s) (omega arith))

size : (s : List ℕ) → length (message s (table s) 1) ≡ 1 + (length (encode (length s)) + length s)
unfolding record_at good_value good_head good record_size encode
size s =
    ap length (message-last s (table s) 0)
    ∙ record-size s 0 (record_at (table s) 0)
    (good-sound (length s) (record_at (table s) 0) (rw (key-none (length s) no_key refl) (le-leb (0 + length s) (length s) (omega arith))))

pub longest : (s : List ℕ) → length s ≡ 1048571 → measured (one s) ≡ At 0 1048575
unfolding encode
longest s h =
    let n : length (message s (table s) 1) ≡ 1048575 = size s ∙ rw h in
    measured-writes (plan-fine message_limit s (table s) 1 (fine s (omega arith)) (omega (arith, n))) ∙ ap (At 0) n

-- too long, and before no room
pub too_long : (s : List ℕ) → length s ≡ 1048572 → (one s ≡ Refuses TooLong 0) × (front [] (one s) ≡ record { answer = Refused TooLong 0 0; buf = [] })
unfolding encode front
too_long s h =
    let n : length (message s (table s) 1) ≡ 1048576 = size s ∙ rw h in
    let p = plan-over message_limit s (table s) 1 (fine s (omega arith)) (omega (arith, n)) in
    (p, into-refuses [] _ p)

-- a source above the limit with no records
pub long-source : (s : List ℕ) → message_limit < length s → plan message_limit s [] 0 ≡ Refuses TooLong 0
long-source s h = plan-first message_limit s [] 0 TooLong 0 (checked-long message_limit s [] 0 h)
