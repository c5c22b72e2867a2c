-- Any two outcomes that a contract of this crate allows are equal.
use mathlib.Core.Path.{◌∙◌, sym}
use Rattle.wire.specs.Only.{One}
use Rattle.write_message.specs.Writing.{Writing}
use Rattle.write_message.proofs.weigh.Kinds as weigh
use Rattle.write_message.proofs.weigh.Reads as weigh-reads
use Rattle.write_message.proofs.write_front.Kinds as write-front
use Rattle.write_message.proofs.write_front.Reads as write-front-reads
use Rattle.write_message.proofs.write_back.Kinds as write-back
use Rattle.write_message.proofs.write_back.Reads as write-back-reads

pub weigh-one : One 2 weigh.ps weigh.r weigh-reads.Post (λ κs r s. r)
weigh-one κs a x y s t p q = p ∙ sym q

pub write-front-one : One 3 write-front.ps write-front.r write-front-reads.Post {S = Writing} (λ κs r s. record { answer = r; buf = s.1.1.1.1.0.now })
write-front-one κs a x y s t p q = p ∙ sym q

pub write-back-one : One 3 write-back.ps write-back.r write-back-reads.Post {S = Writing} (λ κs r s. record { answer = r; buf = s.1.1.1.1.0.now })
write-back-one κs a x y s t p q = p ∙ sym q
