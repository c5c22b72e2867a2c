-- Any two outcomes that a contract of this crate allows are equal.
use mathlib.Core.Path.{◌∙◌, sym}
use Rattle.wire.specs.Only.{One}
use Rattle.entry_message.specs.Messages.{part_of}
use Rattle.correct_supply.proofs.supply_of.Kinds as supply-of
use Rattle.correct_supply.proofs.supply_of.Reads as supply-of-reads
use Rattle.correct_supply.proofs.corrected_by.Kinds as corrected-by
use Rattle.correct_supply.proofs.corrected_by.Reads as corrected-by-reads
use Rattle.correct_supply.proofs.corrected_part.Kinds as corrected-part
use Rattle.correct_supply.proofs.corrected_part.Reads as corrected-part-reads

pub supply-of-one : One 2 supply-of.ps supply-of.r supply-of-reads.Post (λ κs r s. r)
supply-of-one κs a x y s t p q = p ∙ sym q

pub corrected-by-one : One 2 corrected-by.ps corrected-by.r corrected-by-reads.Post (λ κs r s. r)
corrected-by-one κs a x y s t p q = p ∙ sym q

-- of a part that is answered its block, its place there and its bytes are seen; the name that the logic gives it is not
pub corrected-part-one : One 1 corrected-part.ps corrected-part.r corrected-part-reads.Post (λ κs r s. part_of r)
corrected-part-one κs a x y s t p q = p ∙ sym q
