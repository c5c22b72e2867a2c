-- Any two outcomes that a contract of this crate allows are equal.
use mathlib.Core.Path.{◌∙◌, sym}
use Rattle.wire.specs.Only.{One}
use Rattle.run_read.specs.Runs.{Outcome}
use Rattle.run_read.proofs.run_count.Kinds as run-count
use Rattle.run_read.proofs.run_count.Reads as run-count-reads
use Rattle.run_read.proofs.run_value.Kinds as run-value
use Rattle.run_read.proofs.run_value.Reads as run-value-reads
use Rattle.run_read.proofs.read_run.Kinds as read-run
use Rattle.run_read.proofs.read_run.Reads as read-run-reads

pub run-count-one : One 1 run-count.ps run-count.r run-count-reads.Post (λ κs r s. r)
run-count-one κs a x y s t p q = p ∙ sym q

pub run-value-one : One 1 run-value.ps run-value.r run-value-reads.Post (λ κs r s. r)
run-value-one κs a x y s t p q = p ∙ sym q

pub read-run-one : One 2 read-run.ps read-run.r read-run-reads.Post {S = Outcome} (λ κs r s. record { answer = r; table = s.1.1.0.now })
read-run-one κs a x y s t p q = p ∙ sym q
