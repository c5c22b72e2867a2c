-- Any two outcomes that a contract of this crate allows are equal.
use mathlib.Core.Path.{◌∙◌, sym}
use Rattle.wire.specs.Only.{One}
use Rattle.message_table.specs.Into.{Outcome}
use Rattle.entry_message.specs.Messages.{part_of}
use Rattle.entry_message.proofs.read_message.Kinds as read-message
use Rattle.entry_message.proofs.read_message.Reads as read-message-reads
use Rattle.entry_message.proofs.payload_of.Kinds as payload-of
use Rattle.entry_message.proofs.payload_of.Reads as payload-of-reads
use Rattle.entry_message.proofs.read_payload.Kinds as read-payload
use Rattle.entry_message.proofs.read_payload.Reads as read-payload-reads
use Rattle.entry_message.proofs.pick_at.Kinds as pick_at
use Rattle.entry_message.proofs.pick_at.Reads as pick-at-reads
use Rattle.entry_message.proofs.pick.Kinds as pick
use Rattle.entry_message.proofs.pick.Reads as pick-reads
use Rattle.entry_message.proofs.pick_early.Kinds as pick-early
use Rattle.entry_message.proofs.pick_early.Reads as pick-early-reads

pub read-message-one : One 2 read-message.ps read-message.r read-message-reads.Post {S = Outcome} (λ κs r s. record { answer = r; table = s.1.1.1.0.now })
read-message-one κs a x y s t p q = p ∙ sym q

-- of a part that is answered its block, its place there and its bytes are seen; the name that the logic gives it is not
pub payload-of-one : One 1 payload-of.ps payload-of.r payload-of-reads.Post (λ κs r s. part_of r)
payload-of-one κs a x y s t p q = p ∙ sym q

pub read-payload-one : One 2 read-payload.ps read-payload.r read-payload-reads.Post {S = Outcome} (λ κs r s. record { answer = r; table = s.1.1.0.now })
read-payload-one κs a x y s t p q = p ∙ sym q

pub pick-at-one : One 1 pick_at.ps pick_at.r pick-at-reads.Post (λ κs r s. r)
pick-at-one κs a x y s t p q = p ∙ sym q

pub pick-one : One 1 pick.ps pick.r pick-reads.Post (λ κs r s. r)
pick-one κs a x y s t p q = p ∙ sym q

pub pick-early-one : One 1 pick-early.ps pick-early.r pick-early-reads.Post (λ κs r s. r)
pick-early-one κs a x y s t p q = p ∙ sym q
