-- Any two outcomes that a contract of this crate allows are equal: of the three over a reader, over the predicates that the contracts cite.
use Prim.Native.Nat.{ℕ}
use mathlib.Core.Path.{◌≡◌, ◌∙◌, sym}
use mathlib.Core.List.{List}
use denote.Ref.{Bor}
use Rattle.entry_answer.specs.declared.More.{More}
use Rattle.entry_answer.specs.declared.Step.{Step}
use Rattle.wire.specs.Only.{One}
use Rattle.entry_reader.specs.Held.{Made, Tested, Stepped}
use Rattle.entry_reader.specs.declared.Reader.{Reader}
use Rattle.entry_reader.proofs.step_through.Kinds as step-through
use Rattle.entry_reader.proofs.step_through.Reads as step-through-reads
use Rattle.entry_reader.proofs.count_fields.Kinds as count-fields
use Rattle.entry_reader.proofs.count_fields.Reads as count-fields-reads

pub make-one : (m : Bor (List ℕ)) (place end last : ℕ) (r s : Reader) → Made m place end last r → Made m place end last s → r ≡ s
make-one m place end last r s p q = p ∙ sym q

pub has-more-one : (r : Reader) (t u : More) → Tested r t → Tested r u → t ≡ u
has-more-one r t u p q = p ∙ sym q

pub take-step-one : (r : Reader) (s t : Step) → Stepped r s → Stepped r t → s ≡ t
take-step-one r s t p q = p ∙ sym q

-- the two with plain parameters: over their contracts
pub step-through-one : One 1 step-through.ps step-through.r step-through-reads.Post (λ κs r s. r)
step-through-one κs a x y s t p q = p ∙ sym q

pub count-fields-one : One 1 count-fields.ps count-fields.r count-fields-reads.Post (λ κs r s. r)
count-fields-one κs a x y s t p q = p ∙ sym q
