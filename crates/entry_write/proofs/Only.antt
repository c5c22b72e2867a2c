-- Any two outcomes that a contract of this crate allows are equal.
use mathlib.Core.Path.{◌∙◌, sym}
use Rattle.wire.specs.Only.{One}
use Rattle.write_message.specs.Writing.{Writing}
use Rattle.write_insertion.specs.Insertion.{Insertion}
use Rattle.entry_write.proofs.encode_message.Kinds as encode-message
use Rattle.entry_write.proofs.encode_message.Reads as encode-message-reads
use Rattle.entry_write.proofs.prepend_message.Kinds as prepend-message
use Rattle.entry_write.proofs.prepend_message.Reads as prepend-message-reads
use Rattle.entry_write.proofs.insert.Kinds as insert
use Rattle.entry_write.proofs.insert.Reads as insert-reads

pub encode-message-one : One 3 encode-message.ps encode-message.r encode-message-reads.Post {S = Writing}
    (λ κs r s. record { answer = r; buf = s.1.1.1.0.now })
encode-message-one κs a x y s t p q = p ∙ sym q

pub prepend-message-one : One 3 prepend-message.ps prepend-message.r prepend-message-reads.Post {S = Writing}
    (λ κs r s. record { answer = r; buf = s.1.1.1.0.now })
prepend-message-one κs a x y s t p q = p ∙ sym q

pub insert-one : One 2 insert.ps insert.r insert-reads.Post {S = Insertion} (λ κs r s. record { answer = r; table = s.1.0.now })
insert-one κs a x y s t p q = p ∙ sym q
