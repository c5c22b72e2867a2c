-- Any two outcomes that a contract of this crate allows are equal.
use mathlib.Core.Path.{◌∙◌, sym}
use Rattle.wire.specs.Only.{One}
use Rattle.field_skip.proofs.skip_field.Kinds as skip-field
use Rattle.field_skip.proofs.skip_field.Reads as skip-field-reads

pub skip-field-one : One 1 skip-field.ps skip-field.r skip-field-reads.Post (λ κs r s. r)
skip-field-one κs a x y s t p q = p ∙ sym q
