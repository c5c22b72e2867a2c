-- Any two outcomes that a contract of this crate allows are equal.
use mathlib.Core.Path.{◌∙◌, sym}
use Rattle.wire.specs.Only.{One}
use Rattle.field.proofs.decode_field.Kinds as decode-field
use Rattle.field.proofs.decode_field.Reads as decode-field-reads
use Rattle.field.proofs.step_from.Kinds as step_from
use Rattle.field.proofs.step_from.Reads as step-from-reads
use Rattle.field.proofs.next_field.Kinds as next_field
use Rattle.field.proofs.next_field.Reads as next-field-reads

pub decode-field-one : One 1 decode-field.ps decode-field.r decode-field-reads.Post (λ κs r s. r)
decode-field-one κs a x y s t p q = p ∙ sym q

pub step-from-one : One 1 step_from.ps step_from.r step-from-reads.Post (λ κs r s. r)
step-from-one κs a x y s t p q = p ∙ sym q

pub next-field-one : One 1 next_field.ps next_field.r next-field-reads.Post (λ κs r s. r)
next-field-one κs a x y s t p q = p ∙ sym q
