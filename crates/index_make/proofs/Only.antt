-- Any two outcomes that a contract of this crate allows are equal.
use mathlib.Core.Path.{◌∙◌, sym}
use Rattle.wire.specs.Only.{One}
use Rattle.index.specs.Index.{Outcome}
use Rattle.index_make.proofs.make_index.Kinds as make-index
use Rattle.index_make.proofs.make_index.Reads as make-index-reads
use Rattle.index_make.proofs.index_fits.Kinds as index-fits
use Rattle.index_make.proofs.index_fits.Reads as index-fits-reads

pub make-index-one : One 2 make-index.ps make-index.r make-index-reads.Post {S = Outcome} (λ κs r s. record { answer = r; index = s.1.0.now })
make-index-one κs a x y s t p q = p ∙ sym q

pub index-fits-one : One 2 index-fits.ps index-fits.r index-fits-reads.Post (λ κs r s. r)
index-fits-one κs a x y s t p q = p ∙ sym q
