-- Any two outcomes that a contract of this crate allows are equal.
use mathlib.Core.Path.{◌∙◌, sym}
use Rattle.wire.specs.Only.{One}
use Rattle.message_payload.proofs.payload_span.Kinds as payload-span
use Rattle.message_payload.proofs.payload_span.Reads as payload-span-reads

pub payload-span-one : One 0 payload-span.ps payload-span.r payload-span-reads.Post (λ κs r s. r)
payload-span-one κs a x y s t p q = p ∙ sym q
