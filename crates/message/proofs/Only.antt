-- Any two outcomes that a contract of this crate allows are equal.
use mathlib.Core.Path.{◌∙◌, sym}
use Rattle.wire.specs.Only.{One}
use Rattle.message.proofs.decide.Kinds as decide
use Rattle.message.proofs.decide.Reads as decide-reads
use Rattle.message.proofs.walk.Kinds as walk
use Rattle.message.proofs.walk.Reads as walk-reads
use Rattle.message.proofs.find_tag.Kinds as find-tag
use Rattle.message.proofs.find_tag.Reads as find-tag-reads

pub decide-one : One 1 decide.ps decide.r decide-reads.Post (λ κs r s. r)
decide-one κs a x y s t p q = p ∙ sym q

pub walk-one : One 1 walk.ps walk.r walk-reads.Post (λ κs r s. r)
walk-one κs a x y s t p q = p ∙ sym q

pub find-tag-one : One 1 find-tag.ps find-tag.r find-tag-reads.Post (λ κs r s. r)
find-tag-one κs a x y s t p q = p ∙ sym q
