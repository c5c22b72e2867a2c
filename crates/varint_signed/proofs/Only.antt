-- Any two outcomes that a contract of this crate allows are equal.
use mathlib.Core.Path.{◌∙◌, sym}
use Rattle.wire.specs.Only.{One}
use Rattle.varint_signed.proofs.i64_to_unsigned.Kinds as i64-to-unsigned
use Rattle.varint_signed.proofs.i64_to_unsigned.Reads as i64-to-unsigned-reads
use Rattle.varint_signed.proofs.u64_to_signed.Kinds as u64-to-signed
use Rattle.varint_signed.proofs.u64_to_signed.Reads as u64-to-signed-reads

pub i64-to-unsigned-one : One 0 i64-to-unsigned.ps i64-to-unsigned.r i64-to-unsigned-reads.Post (λ κs r s. r)
i64-to-unsigned-one κs a x y s t p q = p ∙ sym q

pub u64-to-signed-one : One 0 u64-to-signed.ps u64-to-signed.r u64-to-signed-reads.Post (λ κs r s. r)
u64-to-signed-one κs a x y s t p q = p ∙ sym q
