-- Any two outcomes that a contract of this crate allows are equal.
use mathlib.Core.Path.{◌∙◌, sym}
use Rattle.wire.specs.Only.{One}
use Rattle.write_insertion.specs.Insertion.{Insertion}
use Rattle.edit.specs.Edits.{Edit}
use Rattle.edit.proofs.remove_record.Kinds as remove-record
use Rattle.edit.proofs.remove_record.Reads as remove-record-reads
use Rattle.edit.proofs.replace_payload.Kinds as replace-payload
use Rattle.edit.proofs.replace_payload.Reads as replace-payload-reads
use Rattle.edit.proofs.insert_payload.Kinds as insert-payload
use Rattle.edit.proofs.insert_payload.Reads as insert-payload-reads

pub remove-record-one : One 2 remove-record.ps remove-record.r remove-record-reads.Post {S = Insertion} (λ κs r s. record { answer = r; table = s.1.0.now })
remove-record-one κs a x y s t p q = p ∙ sym q

pub replace-payload-one : One 3 replace-payload.ps replace-payload.r replace-payload-reads.Post {S = Edit}
    (λ κs r s. record { answer = r; room = s.0.now; table = s.1.0.now })
replace-payload-one κs a x y s t p q = p ∙ sym q

pub insert-payload-one : One 3 insert-payload.ps insert-payload.r insert-payload-reads.Post {S = Edit}
    (λ κs r s. record { answer = r; room = s.0.now; table = s.1.0.now })
insert-payload-one κs a x y s t p q = p ∙ sym q
