-- What a whole message is decided to be: the number of its fields, or a refusal with its place.
use Rattle.std.specs.Prelude.{ℕ, ◌≡◌, refl, List, length}
use Rattle.std.proofs.Common.{arith}
use Rattle.wire.specs.Reading.{Message, Fields}
use Rattle.wire.specs.Reading as reading
use Rattle.wire.specs.declared.Refusal.{Refusal}
use Rattle.wire.specs.declared.Field.{Field}
use Rattle.message.specs.declared.Decided.{Decided}
use Rattle.message.specs.declared.Decided.TheVariants as decided_as

abbrev pub decided : Message → Decided
decided (Fields fs) = decided_as.Fields (length fs)
decided (reading.Refused r p) = decided_as.Refused r p

-- what was decided says of the message
pub decided-fields : (m : Message) (n : ℕ) → decided m ≡ decided_as.Fields n → (fs : List Field) × (m ≡ Fields fs) × (length fs ≡ n)
decided-fields (Fields fs) n e = (fs, refl, cc)
decided-fields (reading.Refused r p) n e = let z : ◌≡◌ {A = ℕ} 0 1 = cc in absurd (omega arith)

pub decided-refused : (m : Message) (r : Refusal) (p : ℕ) → decided m ≡ decided_as.Refused r p → m ≡ reading.Refused r p
decided-refused (Fields fs) r p e = let z : ◌≡◌ {A = ℕ} 0 1 = cc in absurd (omega arith)
decided-refused (reading.Refused x q) r p e = let a : x ≡ r = cc in let b : q ≡ p = cc in cc
