-- Any two outcomes that a contract of this crate allows are equal.
use mathlib.Core.Path.{◌∙◌, sym}
use Rattle.wire.specs.Only.{One}
use Rattle.place.specs.Place.{Placed}
use Rattle.place.proofs.put_part.Kinds as put-part
use Rattle.place.proofs.put_part.Reads as put-part-reads
use Rattle.place.proofs.put_bytes.Kinds as put-bytes
use Rattle.place.proofs.put_bytes.Reads as put-bytes-reads
use Rattle.place.proofs.put_fixed.Kinds as put-fixed
use Rattle.place.proofs.put_fixed.Reads as put-fixed-reads

pub put-part-one : One 2 put-part.ps put-part.r put-part-reads.Post {S = Placed} (λ κs r s. record { next = r; buf = s.0.now })
put-part-one κs a x y s t p q = p ∙ sym q

pub put-bytes-one : One 2 put-bytes.ps put-bytes.r put-bytes-reads.Post {S = Placed} (λ κs r s. record { next = r; buf = s.0.now })
put-bytes-one κs a x y s t p q = p ∙ sym q

pub put-fixed-one : One 1 put-fixed.ps put-fixed.r put-fixed-reads.Post {S = Placed} (λ κs r s. record { next = r; buf = s.0.now })
put-fixed-one κs a x y s t p q = p ∙ sym q
