-- Any two outcomes that a contract of this crate allows are equal.
use mathlib.Core.Path.{◌∙◌, sym}
use Rattle.wire.specs.Only.{One}
use Rattle.field_value.proofs.four_bytes.Kinds as four_bytes
use Rattle.field_value.proofs.four_bytes.Reads as four-bytes-reads
use Rattle.field_value.proofs.number_at.Kinds as number_at
use Rattle.field_value.proofs.number_at.Reads as number-at-reads
use Rattle.field_value.proofs.payload_at.Kinds as payload-at
use Rattle.field_value.proofs.payload_at.Reads as payload-at-reads
use Rattle.field_value.proofs.four_at.Kinds as four-at
use Rattle.field_value.proofs.four_at.Reads as four-at-reads
use Rattle.field_value.proofs.eight_at.Kinds as eight-at
use Rattle.field_value.proofs.eight_at.Reads as eight-at-reads
use Rattle.field_value.proofs.decode_value.Kinds as decode-value
use Rattle.field_value.proofs.decode_value.Reads as decode-value-reads

pub four-bytes-one : One 0 four_bytes.ps four_bytes.r four-bytes-reads.Post (λ κs r s. r)
four-bytes-one κs a x y s t p q = p ∙ sym q

pub number-at-one : One 1 number_at.ps number_at.r number-at-reads.Post (λ κs r s. r)
number-at-one κs a x y s t p q = p ∙ sym q

pub payload-at-one : One 1 payload-at.ps payload-at.r payload-at-reads.Post (λ κs r s. r)
payload-at-one κs a x y s t p q = p ∙ sym q

pub four-at-one : One 1 four-at.ps four-at.r four-at-reads.Post (λ κs r s. r)
four-at-one κs a x y s t p q = p ∙ sym q

pub eight-at-one : One 1 eight-at.ps eight-at.r eight-at-reads.Post (λ κs r s. r)
eight-at-one κs a x y s t p q = p ∙ sym q

pub decode-value-one : One 1 decode-value.ps decode-value.r decode-value-reads.Post (λ κs r s. r)
decode-value-one κs a x y s t p q = p ∙ sym q
