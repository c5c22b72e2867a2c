-- Any two outcomes that a contract of this crate allows are equal.
use mathlib.Core.Path.{◌∙◌, sym}
use Rattle.wire.specs.Only.{One}
use Rattle.place.specs.Place.{Placed}
use Rattle.varint_write.proofs.varint_limit.Kinds as varint-limit
use Rattle.varint_write.proofs.varint_limit.Reads as varint-limit-reads
use Rattle.varint_write.proofs.encoded_len_varint.Kinds as encoded-len-varint
use Rattle.varint_write.proofs.encoded_len_varint.Reads as encoded-len-varint-reads
use Rattle.varint_write.proofs.count_len.Kinds as count-len
use Rattle.varint_write.proofs.count_len.Reads as count-len-reads
use Rattle.varint_write.proofs.put_varint.Kinds as put-varint
use Rattle.varint_write.proofs.put_varint.Reads as put-varint-reads
use Rattle.varint_write.proofs.prepend_varint.Kinds as prepend-varint
use Rattle.varint_write.proofs.prepend_varint.Reads as prepend-varint-reads

pub varint-limit-one : One 0 varint-limit.ps varint-limit.r varint-limit-reads.Post (λ κs r s. r)
varint-limit-one κs a x y s t p q = p ∙ sym q

pub encoded-len-varint-one : One 0 encoded-len-varint.ps encoded-len-varint.r encoded-len-varint-reads.Post (λ κs r s. r)
encoded-len-varint-one κs a x y s t p q = p ∙ sym q

pub count-len-one : One 0 count-len.ps count-len.r count-len-reads.Post (λ κs r s. r)
count-len-one κs a x y s t p q = p ∙ sym q

pub put-varint-one : One 1 put-varint.ps put-varint.r put-varint-reads.Post {S = Placed} (λ κs r s. record { next = r; buf = s.0.now })
put-varint-one κs a x y s t p q = p ∙ sym q

pub prepend-varint-one : One 1 prepend-varint.ps prepend-varint.r prepend-varint-reads.Post {S = Placed} (λ κs r s. record { next = r; buf = s.0.now })
prepend-varint-one κs a x y s t p q = p ∙ sym q
