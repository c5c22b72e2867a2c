-- How many fields a message has, or why they are not counted; and that a table needs room for so many records and no more.
use Rattle.std.specs.Prelude.{ℕ, ◌≤◌, ◌<◌, length}
use Rattle.std.proofs.Math.Path.{◌≡◌, refl, ap}
use Rattle.std.proofs.Common.{◌∙◌, arith}
use mathlib.Core.List.{List}
use Rattle.wire.specs.Reading.{Message, Fields, read_message}
use Rattle.wire.specs.Reading as reading
use Rattle.wire.specs.Faults.{nowhere}
use Rattle.wire.specs.Table.{room}
use Rattle.wire.specs.declared.Refusal.TheVariants.{NoRoom}
use Rattle.wire.specs.declared.Field.{Field}
use Rattle.wire.specs.declared.Read.TheVariants.{Accepted, Refused}
use Rattle.message_table.specs.Into.{Outcome, into-fits, into-no-room}
use Rattle.wire.specs.Numbers.{number_of}
use Rattle.entry_answer.specs.Gate.{gated, through, through-open}
use Rattle.entry_answer.specs.Told.{Number}
use Rattle.entry_message.specs.Messages.{read_entry}
use Rattle.entry_answer.specs.declared.Gated.{Gated}
use Rattle.entry_answer.specs.declared.Gated.TheVariants.{Open, Shut}
use Rattle.entry_reader.specs.declared.Counted.{Counted}
use Rattle.entry_reader.specs.declared.Counted.TheVariants as counted_as

-- Rule R8: a refusal of the message answers its number alone
abbrev pub counted : Message → Counted
counted (Fields fs) = counted_as.Fields (length fs)
counted (reading.Refused r p) = counted_as.Refused r

-- number (rule R1) and value for each case
abbrev pub counted_told : Counted → Number
counted_told (counted_as.Fields n) = record { number = 0; value = n }
counted_told (counted_as.Refused r) = record { number = number_of r; value = 0 }

-- Rule R3: TooLong and BadCap come first
unfoldable pub count_entry : List ℕ → ℕ → ℕ → Counted
count_entry s start e = through (gated (length s) start e) counted_as.Refused (counted (read_message s start e))

-- ---- what was counted, and what the message reader answers with a table

module _ (s : List ℕ) (start e n : ℕ) (h : count_entry s start e ≡ counted_as.Fields n) where
  message-of : (gated (length s) start e ≡ Open) × ((fs : List Field) × (read_message s start e ≡ Fields fs) × (length fs ≡ n))
  unfolding count_entry
  message-of = go (gated (length s) start e) refl (read_message s start e) refl h
    where
      go : (g : Gated) → gated (length s) start e ≡ g → (m : Message) → read_message s start e ≡ m → through g counted_as.Refused (counted m) ≡ counted_as.Fields n
          → (gated (length s) start e ≡ Open) × ((fs : List Field) × (read_message s start e ≡ Fields fs) × (length fs ≡ n))
      go (Shut r) a m b i = let z : ◌≡◌ {A = ℕ} 0 1 = cc in absurd (omega arith)
      go Open a (reading.Refused r p) b i = let z : ◌≡◌ {A = ℕ} 0 1 = cc in absurd (omega arith)
      go Open a (Fields fs) b i = (a, (fs, b, cc))

  pub count_fits : (t : List ℕ) → n ≤ room t → (read_entry s start e t).answer ≡ Accepted e n
  unfolding read_entry
  count_fits t f =
      let m = message-of in
      let l = m.1.2 in
      ap (λ (o : Outcome). o.answer) (through-open _ _ m.0 ∙ into-fits s start e t m.1.0 m.1.1 (omega (arith, l))) ∙ ap (Accepted e) l

  pub count-short : (t : List ℕ) → room t < n → (read_entry s start e t).answer ≡ Refused NoRoom 0 n nowhere
  unfolding read_entry
  count-short t f =
      let m = message-of in
      let l = m.1.2 in
      ap (λ (o : Outcome). o.answer) (through-open _ _ m.0 ∙ into-no-room s start e t m.1.0 m.1.1 (omega (arith, l)))
      ∙ ap (λ (k : ℕ). Refused NoRoom 0 k nowhere) l
