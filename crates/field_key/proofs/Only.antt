-- Any two outcomes that a contract of this crate allows are equal.
use mathlib.Core.Path.{◌∙◌, sym}
use Rattle.wire.specs.Only.{One}
use Rattle.place.specs.Place.{Placed}
use Rattle.field_key.proofs.wire_type_of.Kinds as wire-type-of
use Rattle.field_key.proofs.wire_type_of.Reads as wire-type-of-reads
use Rattle.field_key.proofs.wire_number.Kinds as wire-number
use Rattle.field_key.proofs.wire_number.Reads as wire-number-reads
use Rattle.field_key.proofs.key_len.Kinds as key-len
use Rattle.field_key.proofs.key_len.Reads as key-len-reads
use Rattle.field_key.proofs.put_key.Kinds as put-key
use Rattle.field_key.proofs.put_key.Reads as put-key-reads
use Rattle.field_key.proofs.prepend_key.Kinds as prepend-key
use Rattle.field_key.proofs.prepend_key.Reads as prepend-key-reads
use Rattle.field_key.proofs.decode_key.Kinds as decode-key
use Rattle.field_key.proofs.decode_key.Reads as decode-key-reads

pub wire-type-of-one : One 0 wire-type-of.ps wire-type-of.r wire-type-of-reads.Post (λ κs r s. r)
wire-type-of-one κs a x y s t p q = p ∙ sym q

pub wire-number-one : One 0 wire-number.ps wire-number.r wire-number-reads.Post (λ κs r s. r)
wire-number-one κs a x y s t p q = p ∙ sym q

pub key-len-one : One 0 key-len.ps key-len.r key-len-reads.Post (λ κs r s. r)
key-len-one κs a x y s t p q = p ∙ sym q

pub put-key-one : One 1 put-key.ps put-key.r put-key-reads.Post {S = Placed} (λ κs r s. record { next = r; buf = s.0.now })
put-key-one κs a x y s t p q = p ∙ sym q

pub prepend-key-one : One 1 prepend-key.ps prepend-key.r prepend-key-reads.Post {S = Placed} (λ κs r s. record { next = r; buf = s.0.now })
prepend-key-one κs a x y s t p q = p ∙ sym q

pub decode-key-one : One 1 decode-key.ps decode-key.r decode-key-reads.Post (λ κs r s. r)
decode-key-one κs a x y s t p q = p ∙ sym q
