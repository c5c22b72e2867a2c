-- Any two outcomes that a contract of this crate allows are equal.
use mathlib.Core.Path.{◌∙◌, sym}
use Rattle.wire.specs.Only.{One}
use Rattle.message_table.specs.Into.{Outcome}
use Rattle.message_table.proofs.read_into.Kinds as read-into
use Rattle.message_table.proofs.read_into.Reads as read-into-reads

pub read-into-one : One 2 read-into.ps read-into.r read-into-reads.Post {S = Outcome} (λ κs r s. record { answer = r; table = s.1.1.1.0.now })
read-into-one κs a x y s t p q = p ∙ sym q
