-- Any two outcomes that a contract of this crate allows are equal.
use mathlib.Core.Path.{◌∙◌, sym}
use Rattle.wire.specs.Only.{One}
use Rattle.entry_answer.specs.Stores.{Stored}
use Rattle.entry_varint.proofs.encode_varint.Kinds as encode-varint
use Rattle.entry_varint.proofs.encode_varint.Reads as encode-varint-reads
use Rattle.entry_varint.proofs.prepend_varint.Kinds as prepend-varint
use Rattle.entry_varint.proofs.prepend_varint.Reads as prepend-varint-reads
use Rattle.entry_varint.proofs.decode_varint.Kinds as decode-varint
use Rattle.entry_varint.proofs.decode_varint.Reads as decode-varint-reads
use Rattle.entry_varint.proofs.decode_varint_capped.Kinds as decode-varint-capped
use Rattle.entry_varint.proofs.decode_varint_capped.Reads as decode-varint-capped-reads

pub encode-varint-one : One 1 encode-varint.ps encode-varint.r encode-varint-reads.Post {S = Stored} (λ κs r s. record { answer = r; buf = s.1.0.now })
encode-varint-one κs a x y s t p q = p ∙ sym q

pub prepend-varint-one : One 1 prepend-varint.ps prepend-varint.r prepend-varint-reads.Post {S = Stored} (λ κs r s. record { answer = r; buf = s.1.0.now })
prepend-varint-one κs a x y s t p q = p ∙ sym q

pub decode-varint-one : One 1 decode-varint.ps decode-varint.r decode-varint-reads.Post (λ κs r s. r)
decode-varint-one κs a x y s t p q = p ∙ sym q

pub decode-varint-capped-one : One 1 decode-varint-capped.ps decode-varint-capped.r decode-varint-capped-reads.Post (λ κs r s. r)
decode-varint-capped-one κs a x y s t p q = p ∙ sym q
