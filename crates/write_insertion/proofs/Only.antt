-- Any two outcomes that the contract of this crate allows are equal.
use mathlib.Core.Path.{◌∙◌, sym}
use Rattle.wire.specs.Only.{One}
use Rattle.write_insertion.specs.Insertion.{Insertion}
use Rattle.write_insertion.proofs.insert_record.Kinds as insert-record
use Rattle.write_insertion.proofs.insert_record.Reads as insert-record-reads

pub insert-record-one : One 2 insert-record.ps insert-record.r insert-record-reads.Post {S = Insertion} (λ κs r s. record { answer = r; table = s.1.0.now })
insert-record-one κs a x y s t p q = p ∙ sym q
