-- Any two outcomes that a contract of this crate allows are equal.
use mathlib.Core.Path.{◌∙◌, sym}
use Rattle.wire.specs.Only.{One}
use Rattle.message_early.proofs.find_early.Kinds as find-early
use Rattle.message_early.proofs.find_early.Reads as find-early-reads

pub find-early-one : One 1 find-early.ps find-early.r find-early-reads.Post (λ κs r s. r)
find-early-one κs a x y s t p q = p ∙ sym q
