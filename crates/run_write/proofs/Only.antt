-- Any two outcomes that a contract of this crate allows are equal.
use mathlib.Core.Path.{◌∙◌, sym}
use Rattle.wire.specs.Only.{One}
use Rattle.write_message.specs.Writing.{Writing}
use Rattle.run_write.proofs.write_run.Kinds as write-run
use Rattle.run_write.proofs.write_run.Reads as write-run-reads

pub write-run-one : One 3 write-run.ps write-run.r write-run-reads.Post {S = Writing} (λ κs r s. record { answer = r; buf = s.1.1.1.1.0.now })
write-run-one κs a x y s t p q = p ∙ sym q
