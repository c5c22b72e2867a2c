-- Any two outcomes that a contract of this crate allows are equal.
use mathlib.Core.Path.{◌∙◌, sym}
use Rattle.wire.specs.Only.{One}
use Rattle.place.specs.Place.{Placed}
use Rattle.text_digits.proofs.put_hex.Kinds as put-hex
use Rattle.text_digits.proofs.put_hex.Reads as put-hex-reads
use Rattle.text_digits.proofs.put_decimal.Kinds as put-decimal
use Rattle.text_digits.proofs.put_decimal.Reads as put-decimal-reads
use Rattle.text_digits.proofs.put_hex_bytes.Kinds as put-hex-bytes
use Rattle.text_digits.proofs.put_hex_bytes.Reads as put-hex-bytes-reads

pub put-hex-one : One 1 put-hex.ps put-hex.r put-hex-reads.Post {S = Placed} (λ κs r s. record { next = r; buf = s.0.now })
put-hex-one κs a x y s t p q = p ∙ sym q

pub put-decimal-one : One 1 put-decimal.ps put-decimal.r put-decimal-reads.Post {S = Placed} (λ κs r s. record { next = r; buf = s.0.now })
put-decimal-one κs a x y s t p q = p ∙ sym q

pub put-hex-bytes-one : One 2 put-hex-bytes.ps put-hex-bytes.r put-hex-bytes-reads.Post {S = Placed} (λ κs r s. record { next = r; buf = s.0.now })
put-hex-bytes-one κs a x y s t p q = p ∙ sym q
