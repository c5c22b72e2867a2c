-- Any two outcomes that a contract of this crate allows are equal.
use mathlib.Core.Path.{◌∙◌, sym}
use Rattle.wire.specs.Only.{One}
use Rattle.varint_read.proofs.decode_varint.Kinds as decode-varint
use Rattle.varint_read.proofs.decode_varint.Reads as decode-varint-reads
use Rattle.varint_read.proofs.decode_varint_capped.Kinds as decode-varint-capped
use Rattle.varint_read.proofs.decode_varint_capped.Reads as decode-varint-capped-reads

pub decode-varint-one : One 1 decode-varint.ps decode-varint.r decode-varint-reads.Post (λ κs r s. r)
decode-varint-one κs a x y s t p q = p ∙ sym q

pub decode-varint-capped-one : One 1 decode-varint-capped.ps decode-varint-capped.r decode-varint-capped-reads.Post (λ κs r s. r)
decode-varint-capped-one κs a x y s t p q = p ∙ sym q
