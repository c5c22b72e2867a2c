-- Any two outcomes that a contract of this crate allows are equal.
use mathlib.Core.Path.{◌∙◌, sym}
use Rattle.wire.specs.Only.{One}
use Rattle.fault.proofs.looked.Kinds as looked
use Rattle.fault.proofs.looked.Reads as looked-reads
use Rattle.fault.proofs.key_fault.Kinds as key-fault
use Rattle.fault.proofs.key_fault.Reads as key-fault-reads
use Rattle.fault.proofs.value_fault.Kinds as value-fault
use Rattle.fault.proofs.value_fault.Reads as value-fault-reads
use Rattle.fault.proofs.fault_at.Kinds as fault-at
use Rattle.fault.proofs.fault_at.Reads as fault-at-reads

pub looked-one : One 0 looked.ps looked.r looked-reads.Post (λ κs r s. r)
looked-one κs a x y s t p q = p ∙ sym q

pub key-fault-one : One 0 key-fault.ps key-fault.r key-fault-reads.Post (λ κs r s. r)
key-fault-one κs a x y s t p q = p ∙ sym q

pub value-fault-one : One 1 value-fault.ps value-fault.r value-fault-reads.Post (λ κs r s. r)
value-fault-one κs a x y s t p q = p ∙ sym q

pub fault-at-one : One 1 fault-at.ps fault-at.r fault-at-reads.Post (λ κs r s. r)
fault-at-one κs a x y s t p q = p ∙ sym q
