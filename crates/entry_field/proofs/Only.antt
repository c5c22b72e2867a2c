-- Any two outcomes that a contract of this crate allows are equal.
use mathlib.Core.Path.{◌∙◌, sym}
use Rattle.wire.specs.Only.{One}
use Rattle.entry_field.proofs.decode_value.Kinds as decode-value
use Rattle.entry_field.proofs.decode_value.Reads as decode-value-reads
use Rattle.entry_field.proofs.skip_field.Kinds as skip-field
use Rattle.entry_field.proofs.skip_field.Reads as skip-field-reads
use Rattle.entry_field.proofs.step_at.Kinds as step-at
use Rattle.entry_field.proofs.step_at.Reads as step-at-reads
use Rattle.entry_field.proofs.more_at.Kinds as more-at
use Rattle.entry_field.proofs.more_at.Reads as more-at-reads

pub more-at-one : One 1 more-at.ps more-at.r more-at-reads.Post (λ κs r s. r)
more-at-one κs a x y s t p q = p ∙ sym q

pub decode-value-one : One 1 decode-value.ps decode-value.r decode-value-reads.Post (λ κs r s. r)
decode-value-one κs a x y s t p q = p ∙ sym q

pub skip-field-one : One 1 skip-field.ps skip-field.r skip-field-reads.Post (λ κs r s. r)
skip-field-one κs a x y s t p q = p ∙ sym q

pub step-at-one : One 1 step-at.ps step-at.r step-at-reads.Post (λ κs r s. r)
step-at-one κs a x y s t p q = p ∙ sym q
