-- Any two outcomes that a contract of this crate allows are equal.
use mathlib.Core.Path.{◌∙◌, sym}
use Rattle.wire.specs.Only.{One}
use Rattle.index.proofs.sound.Kinds as sound
use Rattle.index.proofs.sound.Reads as sound-reads

pub sound-one : One 1 sound.ps sound.r sound-reads.Post (λ κs r s. r)
sound-one κs a x y s t p q = p ∙ sym q
