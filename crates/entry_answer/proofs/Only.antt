-- Any two outcomes that a contract of this crate allows are equal.
use mathlib.Core.Path.{◌∙◌, sym}
use Rattle.wire.specs.Only.{One}
use Rattle.entry_answer.proofs.gate.Kinds as gate
use Rattle.entry_answer.proofs.gate.Reads as gate-reads

pub gate-one : One 0 gate.ps gate.r gate-reads.Post (λ κs r s. r)
gate-one κs a x y s t p q = p ∙ sym q
