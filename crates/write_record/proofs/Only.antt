-- Any two outcomes that a contract of this crate allows are equal.
use Rattle.std.proofs.Common.{sym, ◌∙◌}
use Rattle.wire.specs.Only.{One}
use Rattle.write_record.proofs.is_good.Kinds as is-good
use Rattle.write_record.proofs.is_good.Reads as is-good-reads
use Rattle.write_record.proofs.record_at.Kinds as record-at
use Rattle.write_record.proofs.record_at.Reads as record-at-reads
use Rattle.write_record.proofs.weigh_record.Kinds as weigh-record
use Rattle.write_record.proofs.weigh_record.Reads as weigh-record-reads

pub is-good-one : One 0 is-good.ps is-good.r is-good-reads.Post (λ κs r s. r)
is-good-one κs a x y s t p q = p ∙ sym q

pub record-at-one : One 1 record-at.ps record-at.r record-at-reads.Post (λ κs r s. r)
record-at-one κs a x y s t p q = p ∙ sym q

pub weigh-record-one : One 0 weigh-record.ps weigh-record.r weigh-record-reads.Post (λ κs r s. r)
weigh-record-one κs a x y s t p q = p ∙ sym q
