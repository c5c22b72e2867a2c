-- Any two outcomes that a contract of this crate allows are equal.
use mathlib.Core.Path.{◌∙◌, sym}
use Rattle.wire.specs.Only.{One}
use Rattle.text_lines.specs.Lines.{Taking}
use Rattle.text_lines.proofs.count_up.Kinds as count-up
use Rattle.text_lines.proofs.count_up.Reads as count-up-reads
use Rattle.text_lines.proofs.take_line.Kinds as take-line
use Rattle.text_lines.proofs.take_line.Reads as take-line-reads

pub count-up-one : One 0 count-up.ps count-up.r count-up-reads.Post (λ κs r s. r)
count-up-one κs a x y s t p q = p ∙ sym q

pub take-line-one : One 2 take-line.ps take-line.r take-line-reads.Post {S = Taking} (λ κs r s. record { answer = r; line = s.1.1.0.now })
take-line-one κs a x y s t p q = p ∙ sym q
