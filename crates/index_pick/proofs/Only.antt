-- Any two outcomes that a contract of this crate allows are equal.
use mathlib.Core.Path.{◌∙◌, sym}
use Rattle.wire.specs.Only.{One}
use Rattle.index_pick.proofs.pick_indexed.Kinds as pick-indexed
use Rattle.index_pick.proofs.pick_indexed.Reads as pick-indexed-reads

pub pick-indexed-one : One 2 pick-indexed.ps pick-indexed.r pick-indexed-reads.Post (λ κs r s. r)
pick-indexed-one κs a x y s t p q = p ∙ sym q
