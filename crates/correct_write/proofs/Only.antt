-- Any two outcomes that a contract of this crate allows are equal.
use mathlib.Core.Path.{◌∙◌, sym}
use Rattle.wire.specs.Only.{One}
use Rattle.entry_answer.specs.Stores.{Stored}
use Rattle.correct_write.proofs.write_corrected.Kinds as write-corrected
use Rattle.correct_write.proofs.write_corrected.Reads as write-corrected-reads

pub write-corrected-one : One 3 write-corrected.ps write-corrected.r write-corrected-reads.Post {S = Stored}
    (λ κs r s. record { answer = r; buf = s.1.1.0.now })
write-corrected-one κs a x y s t p q = p ∙ sym q
