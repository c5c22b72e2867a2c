-- Any two outcomes that a contract of this crate allows are equal.
use mathlib.Core.Path.{◌∙◌, sym}
use Rattle.wire.specs.Only.{One}
use Rattle.text_hex.specs.Frame.{Framed}
use Rattle.text_hex.proofs.digit_of.Kinds as digit-of
use Rattle.text_hex.proofs.digit_of.Reads as digit-of-reads
use Rattle.text_hex.proofs.frame_of.Kinds as frame-of
use Rattle.text_hex.proofs.frame_of.Reads as frame-of-reads

pub digit-of-one : One 0 digit-of.ps digit-of.r digit-of-reads.Post (λ κs r s. r)
digit-of-one κs a x y s t p q = p ∙ sym q

pub frame-of-one : One 2 frame-of.ps frame-of.r frame-of-reads.Post {S = Framed} (λ κs r s. record { answer = r; out = s.1.1.0.now })
frame-of-one κs a x y s t p q = p ∙ sym q
