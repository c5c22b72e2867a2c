-- Any two outcomes that a contract of this crate allows are equal.
use mathlib.Core.Path.{◌∙◌, sym}
use Rattle.wire.specs.Only.{One}
use Rattle.entry_answer.specs.Stores.{Stored}
use Rattle.index.specs.Index.{Outcome}
use Rattle.index_line.proofs.write_line.Kinds as write-line
use Rattle.index_line.proofs.write_line.Reads as write-line-reads
use Rattle.index_line.proofs.read_line.Kinds as read-line
use Rattle.index_line.proofs.read_line.Reads as read-line-reads

pub write-line-one : One 2 write-line.ps write-line.r write-line-reads.Post {S = Stored} (λ κs r s. record { answer = r; buf = s.1.1.0.now })
write-line-one κs a x y s t p q = p ∙ sym q

pub read-line-one : One 2 read-line.ps read-line.r read-line-reads.Post {S = Outcome} (λ κs r s. record { answer = r; index = s.1.1.0.now })
read-line-one κs a x y s t p q = p ∙ sym q
