-- Any two outcomes that a contract of this crate allows are equal.
use mathlib.Core.Path.{◌∙◌, sym}
use Rattle.wire.specs.Only.{One}
use Rattle.wire.proofs.number_of.Kinds as number_of_lem
use Rattle.wire.proofs.number_of.Reads as number-of-reads
use Rattle.wire.proofs.good_head.Kinds as good-head
use Rattle.wire.proofs.good_head.Reads as good-head-reads

pub number-of-one : One 0 number_of_lem.ps number_of_lem.r number-of-reads.Post (λ κs r s. r)
number-of-one κs a x y s t p q = p ∙ sym q

pub good-head-one : One 0 good-head.ps good-head.r good-head-reads.Post (λ κs r s. r)
good-head-one κs a x y s t p q = p ∙ sym q
