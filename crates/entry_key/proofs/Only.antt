-- Any two outcomes that a contract of this crate allows are equal.
use mathlib.Core.Path.{◌∙◌, sym}
use Rattle.wire.specs.Only.{One}
use Rattle.entry_answer.specs.Stores.{Stored}
use Rattle.entry_key.proofs.decode_key.Kinds as decode-key
use Rattle.entry_key.proofs.decode_key.Reads as decode-key-reads
use Rattle.entry_key.proofs.encode_key.Kinds as encode-key
use Rattle.entry_key.proofs.encode_key.Reads as encode-key-reads
use Rattle.entry_key.proofs.prepend_key.Kinds as prepend-key
use Rattle.entry_key.proofs.prepend_key.Reads as prepend-key-reads
use Rattle.entry_key.proofs.key_len.Kinds as key-len
use Rattle.entry_key.proofs.key_len.Reads as key-len-reads

pub decode-key-one : One 1 decode-key.ps decode-key.r decode-key-reads.Post (λ κs r s. r)
decode-key-one κs a x y s t p q = p ∙ sym q

pub encode-key-one : One 1 encode-key.ps encode-key.r encode-key-reads.Post {S = Stored} (λ κs r s. record { answer = r; buf = s.1.1.1.0.now })
encode-key-one κs a x y s t p q = p ∙ sym q

pub prepend-key-one : One 1 prepend-key.ps prepend-key.r prepend-key-reads.Post {S = Stored} (λ κs r s. record { answer = r; buf = s.1.1.1.0.now })
prepend-key-one κs a x y s t p q = p ∙ sym q

pub key-len-one : One 0 key-len.ps key-len.r key-len-reads.Post (λ κs r s. r)
key-len-one κs a x y s t p q = p ∙ sym q
