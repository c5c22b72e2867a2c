-- Any two outcomes that the contract of this crate allows are equal.
use mathlib.Core.Path.{◌∙◌, sym}
use Rattle.wire.specs.Only.{One}
use Rattle.edit_pack.specs.Packing.{Packed}
use Rattle.edit_pack.proofs.pack.Kinds as pack
use Rattle.edit_pack.proofs.pack.Reads as pack-reads

pub pack_one : One 2 pack.ps pack.r pack-reads.Post {S = Packed} (λ κs r s. record { total = r; room = s.0.now; table = s.1.0.now })
pack_one κs a x y s t p q = p ∙ sym q
