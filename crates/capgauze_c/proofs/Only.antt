-- Any two outcomes that a contract of the face for C allows are equal: every word of the answer, and what was lent.
use mathlib.Core.Path.{◌∙◌, sym}
use Rattle.wire.specs.Only.{One}
use Rattle.entry_answer.specs.Told as told
use Rattle.sounding.specs.Told as soundings
use Rattle.c_words.specs.Words.{Copied, Lent, as_number, as_varint, as_key, as_value, as_place, as_step, as_read, as_picked, as_several, as_early, as_part, as_written, as_sounding}
use Rattle.c_words.specs.Words.{as_supplied}
use Rattle.capgauze_c.proofs.capgauze_encoded_len_varint.Kinds as encoded-len-varint
use Rattle.capgauze_c.proofs.capgauze_encoded_len_varint.Reads as encoded-len-varint-reads
use Rattle.capgauze_c.proofs.capgauze_i64_to_unsigned.Kinds as i64-to-unsigned
use Rattle.capgauze_c.proofs.capgauze_i64_to_unsigned.Reads as i64-to-unsigned-reads
use Rattle.capgauze_c.proofs.capgauze_u64_to_signed.Kinds as u64-to-signed
use Rattle.capgauze_c.proofs.capgauze_u64_to_signed.Reads as u64-to-signed-reads
use Rattle.capgauze_c.proofs.capgauze_decode_varint.Kinds as decode-varint
use Rattle.capgauze_c.proofs.capgauze_decode_varint.Reads as decode-varint-reads
use Rattle.capgauze_c.proofs.capgauze_decode_varint_capped.Kinds as decode-varint-capped
use Rattle.capgauze_c.proofs.capgauze_decode_varint_capped.Reads as decode-varint-capped-reads
use Rattle.capgauze_c.proofs.capgauze_encode_varint.Kinds as encode-varint
use Rattle.capgauze_c.proofs.capgauze_encode_varint.Reads as encode-varint-reads
use Rattle.capgauze_c.proofs.capgauze_prepend_varint.Kinds as prepend-varint
use Rattle.capgauze_c.proofs.capgauze_prepend_varint.Reads as prepend-varint-reads
use Rattle.capgauze_c.proofs.capgauze_decode_key.Kinds as decode-key
use Rattle.capgauze_c.proofs.capgauze_decode_key.Reads as decode-key-reads
use Rattle.capgauze_c.proofs.capgauze_encode_key.Kinds as encode-key
use Rattle.capgauze_c.proofs.capgauze_encode_key.Reads as encode-key-reads
use Rattle.capgauze_c.proofs.capgauze_prepend_key.Kinds as prepend-key
use Rattle.capgauze_c.proofs.capgauze_prepend_key.Reads as prepend-key-reads
use Rattle.capgauze_c.proofs.capgauze_key_len.Kinds as key-len
use Rattle.capgauze_c.proofs.capgauze_key_len.Reads as key-len-reads
use Rattle.capgauze_c.proofs.capgauze_decode_value.Kinds as decode-value
use Rattle.capgauze_c.proofs.capgauze_decode_value.Reads as decode-value-reads
use Rattle.capgauze_c.proofs.capgauze_skip_field.Kinds as skip-field
use Rattle.capgauze_c.proofs.capgauze_skip_field.Reads as skip-field-reads
use Rattle.capgauze_c.proofs.capgauze_step_at.Kinds as step-at
use Rattle.capgauze_c.proofs.capgauze_step_at.Reads as step-at-reads
use Rattle.capgauze_c.proofs.capgauze_read_message.Kinds as read-message
use Rattle.capgauze_c.proofs.capgauze_read_message.Reads as read-message-reads
use Rattle.capgauze_c.proofs.capgauze_payload_of.Kinds as payload-of
use Rattle.capgauze_c.proofs.capgauze_payload_of.Reads as payload-of-reads
use Rattle.capgauze_c.proofs.capgauze_read_payload.Kinds as read-payload
use Rattle.capgauze_c.proofs.capgauze_read_payload.Reads as read-payload-reads
use Rattle.capgauze_c.proofs.capgauze_pick.Kinds as pick
use Rattle.capgauze_c.proofs.capgauze_pick.Reads as pick-reads
use Rattle.capgauze_c.proofs.capgauze_pick_at.Kinds as pick_at
use Rattle.capgauze_c.proofs.capgauze_pick_at.Reads as pick-at-reads
use Rattle.capgauze_c.proofs.capgauze_pick_early.Kinds as pick-early
use Rattle.capgauze_c.proofs.capgauze_pick_early.Reads as pick-early-reads
use Rattle.capgauze_c.proofs.capgauze_encode_message.Kinds as encode-message
use Rattle.capgauze_c.proofs.capgauze_encode_message.Reads as encode-message-reads
use Rattle.capgauze_c.proofs.capgauze_prepend_message.Kinds as prepend-message
use Rattle.capgauze_c.proofs.capgauze_prepend_message.Reads as prepend-message-reads
use Rattle.capgauze_c.proofs.capgauze_insert.Kinds as insert
use Rattle.capgauze_c.proofs.capgauze_insert.Reads as insert-reads
use Rattle.sounding_graded.specs.Told.{GradedHeading}
use Rattle.c_graded.specs.Words.{as_graded}
use Rattle.capgauze_c.proofs.capgauze_read_graded.Kinds as read-graded
use Rattle.capgauze_c.proofs.capgauze_read_graded.Reads as read-graded-reads
use Rattle.capgauze_c.proofs.capgauze_read_sounding.Kinds as read-sounding
use Rattle.capgauze_c.proofs.capgauze_read_sounding.Reads as read-sounding-reads
use Rattle.capgauze_c.proofs.capgauze_make_index.Kinds as make-index
use Rattle.capgauze_c.proofs.capgauze_make_index.Reads as make-index-reads
use Rattle.capgauze_c.proofs.capgauze_index_fits.Kinds as index-fits
use Rattle.capgauze_c.proofs.capgauze_index_fits.Reads as index-fits-reads
use Rattle.capgauze_c.proofs.capgauze_pick_indexed.Kinds as pick-indexed
use Rattle.capgauze_c.proofs.capgauze_pick_indexed.Reads as pick-indexed-reads
use Rattle.capgauze_c.proofs.capgauze_write_line.Kinds as write-line
use Rattle.capgauze_c.proofs.capgauze_write_line.Reads as write-line-reads
use Rattle.capgauze_c.proofs.capgauze_read_line.Kinds as read-line
use Rattle.capgauze_c.proofs.capgauze_read_line.Reads as read-line-reads
use Rattle.capgauze_c.proofs.capgauze_run_count.Kinds as run-count
use Rattle.capgauze_c.proofs.capgauze_run_count.Reads as run-count-reads
use Rattle.capgauze_c.proofs.capgauze_run_value.Kinds as run-value
use Rattle.capgauze_c.proofs.capgauze_run_value.Reads as run-value-reads
use Rattle.capgauze_c.proofs.capgauze_read_run.Kinds as read-run
use Rattle.capgauze_c.proofs.capgauze_read_run.Reads as read-run-reads
use Rattle.capgauze_c.proofs.capgauze_write_run.Kinds as write-run
use Rattle.capgauze_c.proofs.capgauze_write_run.Reads as write-run-reads
use Rattle.capgauze_c.proofs.capgauze_corrected_part.Kinds as corrected-part
use Rattle.capgauze_c.proofs.capgauze_corrected_part.Reads as corrected-part-reads
use Rattle.capgauze_c.proofs.capgauze_corrected_by.Kinds as corrected-by
use Rattle.capgauze_c.proofs.capgauze_corrected_by.Reads as corrected-by-reads
use Rattle.capgauze_c.proofs.capgauze_write_corrected.Kinds as write-corrected
use Rattle.capgauze_c.proofs.capgauze_write_corrected.Reads as write-corrected-reads
use Rattle.capgauze_c.proofs.capgauze_remove_record.Kinds as remove-record
use Rattle.capgauze_c.proofs.capgauze_remove_record.Reads as remove-record-reads
use Rattle.capgauze_c.proofs.capgauze_replace_payload.Kinds as replace-payload
use Rattle.capgauze_c.proofs.capgauze_replace_payload.Reads as replace-payload-reads
use Rattle.capgauze_c.proofs.capgauze_insert_payload.Kinds as insert-payload
use Rattle.capgauze_c.proofs.capgauze_insert_payload.Reads as insert-payload-reads

pub encoded-len-varint-one : One 0 encoded-len-varint.ps encoded-len-varint.r encoded-len-varint-reads.Post (λ κs r s. r)
encoded-len-varint-one κs a x y s t p q = p ∙ sym q

pub i64-to-unsigned-one : One 0 i64-to-unsigned.ps i64-to-unsigned.r i64-to-unsigned-reads.Post (λ κs r s. r)
i64-to-unsigned-one κs a x y s t p q = p ∙ sym q

pub u64-to-signed-one : One 0 u64-to-signed.ps u64-to-signed.r u64-to-signed-reads.Post (λ κs r s. r)
u64-to-signed-one κs a x y s t p q = p ∙ sym q

pub decode-varint-one : One 1 decode-varint.ps decode-varint.r decode-varint-reads.Post (λ κs r s. as_varint r)
decode-varint-one κs a x y s t p q = p ∙ sym q

pub decode-varint-capped-one : One 1 decode-varint-capped.ps decode-varint-capped.r decode-varint-capped-reads.Post (λ κs r s. as_varint r)
decode-varint-capped-one κs a x y s t p q = p ∙ sym q

pub encode-varint-one : One 1 encode-varint.ps encode-varint.r encode-varint-reads.Post {S = Lent told.Number}
    (λ κs r s. record { told = as_number r; lent = s.1.0.now })
encode-varint-one κs a x y s t p q = p ∙ sym q

pub prepend-varint-one : One 1 prepend-varint.ps prepend-varint.r prepend-varint-reads.Post {S = Lent told.Number}
    (λ κs r s. record { told = as_number r; lent = s.1.0.now })
prepend-varint-one κs a x y s t p q = p ∙ sym q

pub decode-key-one : One 1 decode-key.ps decode-key.r decode-key-reads.Post (λ κs r s. as_key r)
decode-key-one κs a x y s t p q = p ∙ sym q

pub encode-key-one : One 1 encode-key.ps encode-key.r encode-key-reads.Post {S = Lent told.Number}
    (λ κs r s. record { told = as_number r; lent = s.1.1.1.0.now })
encode-key-one κs a x y s t p q = p ∙ sym q

pub prepend-key-one : One 1 prepend-key.ps prepend-key.r prepend-key-reads.Post {S = Lent told.Number}
    (λ κs r s. record { told = as_number r; lent = s.1.1.1.0.now })
prepend-key-one κs a x y s t p q = p ∙ sym q

pub key-len-one : One 0 key-len.ps key-len.r key-len-reads.Post (λ κs r s. as_number r)
key-len-one κs a x y s t p q = p ∙ sym q

pub decode-value-one : One 1 decode-value.ps decode-value.r decode-value-reads.Post (λ κs r s. as_value r)
decode-value-one κs a x y s t p q = p ∙ sym q

pub skip-field-one : One 1 skip-field.ps skip-field.r skip-field-reads.Post (λ κs r s. as_place r)
skip-field-one κs a x y s t p q = p ∙ sym q

pub step-at-one : One 1 step-at.ps step-at.r step-at-reads.Post (λ κs r s. as_step r)
step-at-one κs a x y s t p q = p ∙ sym q

pub read-message-one : One 2 read-message.ps read-message.r read-message-reads.Post {S = Lent told.Message}
    (λ κs r s. record { told = as_read r; lent = s.1.1.1.0.now })
read-message-one κs a x y s t p q = p ∙ sym q

pub payload-of-one : One 1 payload-of.ps payload-of.r payload-of-reads.Post (λ κs r s. as_part r)
payload-of-one κs a x y s t p q = p ∙ sym q

pub read-payload-one : One 2 read-payload.ps read-payload.r read-payload-reads.Post {S = Lent told.Message}
    (λ κs r s. record { told = as_read r; lent = s.1.1.1.1.1.1.0.now })
read-payload-one κs a x y s t p q = p ∙ sym q

pub pick-one : One 1 pick.ps pick.r pick-reads.Post (λ κs r s. as_picked r)
pick-one κs a x y s t p q = p ∙ sym q

pub pick-at-one : One 1 pick_at.ps pick_at.r pick-at-reads.Post (λ κs r s. as_several r)
pick-at-one κs a x y s t p q = p ∙ sym q

pub pick-early-one : One 1 pick-early.ps pick-early.r pick-early-reads.Post (λ κs r s. as_early r)
pick-early-one κs a x y s t p q = p ∙ sym q

pub encode-message-one : One 3 encode-message.ps encode-message.r encode-message-reads.Post {S = Lent told.Wrote}
    (λ κs r s. record { told = as_written r; lent = s.1.1.1.0.now })
encode-message-one κs a x y s t p q = p ∙ sym q

pub prepend-message-one : One 3 prepend-message.ps prepend-message.r prepend-message-reads.Post {S = Lent told.Wrote}
    (λ κs r s. record { told = as_written r; lent = s.1.1.1.0.now })
prepend-message-one κs a x y s t p q = p ∙ sym q

pub insert-one : One 2 insert.ps insert.r insert-reads.Post {S = Lent told.Number} (λ κs r s. record { told = as_number r; lent = s.1.0.now })
insert-one κs a x y s t p q = p ∙ sym q

pub read-sounding-one : One 2 read-sounding.ps read-sounding.r read-sounding-reads.Post {S = Lent soundings.Heading}
    (λ κs r s. record { told = as_sounding r; lent = s.1.0.now })
read-sounding-one κs a x y s t p q = p ∙ sym q

pub make-index-one : One 2 make-index.ps make-index.r make-index-reads.Post {S = Lent told.Number}
    (λ κs r s. record { told = as_number r; lent = s.1.0.now })
make-index-one κs a x y s t p q = p ∙ sym q

pub index-fits-one : One 2 index-fits.ps index-fits.r index-fits-reads.Post (λ κs r s. r)
index-fits-one κs a x y s t p q = p ∙ sym q

pub pick-indexed-one : One 2 pick-indexed.ps pick-indexed.r pick-indexed-reads.Post (λ κs r s. as_picked r)
pick-indexed-one κs a x y s t p q = p ∙ sym q

pub write-line-one : One 2 write-line.ps write-line.r write-line-reads.Post {S = Lent told.Number}
    (λ κs r s. record { told = as_number r; lent = s.1.1.0.now })
write-line-one κs a x y s t p q = p ∙ sym q

pub read-line-one : One 2 read-line.ps read-line.r read-line-reads.Post {S = Lent told.Number}
    (λ κs r s. record { told = as_number r; lent = s.1.1.0.now })
read-line-one κs a x y s t p q = p ∙ sym q

pub run-count-one : One 1 run-count.ps run-count.r run-count-reads.Post (λ κs r s. as_number r)
run-count-one κs a x y s t p q = p ∙ sym q

pub run-value-one : One 1 run-value.ps run-value.r run-value-reads.Post (λ κs r s. as_picked r)
run-value-one κs a x y s t p q = p ∙ sym q

pub read-run-one : One 2 read-run.ps read-run.r read-run-reads.Post {S = Lent told.Number}
    (λ κs r s. record { told = as_number r; lent = s.1.1.0.now })
read-run-one κs a x y s t p q = p ∙ sym q

pub write-run-one : One 3 write-run.ps write-run.r write-run-reads.Post {S = Lent told.Wrote}
    (λ κs r s. record { told = as_written r; lent = s.1.1.1.1.0.now })
write-run-one κs a x y s t p q = p ∙ sym q

pub corrected-part-one : One 2 corrected-part.ps corrected-part.r corrected-part-reads.Post (λ κs r s. as_part r)
corrected-part-one κs a x y s t p q = p ∙ sym q

pub corrected-by-one : One 2 corrected-by.ps corrected-by.r corrected-by-reads.Post (λ κs r s. as_supplied r)
corrected-by-one κs a x y s t p q = p ∙ sym q

pub write-corrected-one : One 3 write-corrected.ps write-corrected.r write-corrected-reads.Post {S = Lent told.Number}
    (λ κs r s. record { told = as_number r; lent = s.1.1.0.now })
write-corrected-one κs a x y s t p q = p ∙ sym q

pub remove-record-one : One 2 remove-record.ps remove-record.r remove-record-reads.Post {S = Lent told.Number}
    (λ κs r s. record { told = as_number r; lent = s.1.0.now })
remove-record-one κs a x y s t p q = p ∙ sym q

pub replace-payload-one : One 3 replace-payload.ps replace-payload.r replace-payload-reads.Post {S = Copied}
    (λ κs r s. record { told = as_number r; room = s.0.now; table = s.1.0.now })
replace-payload-one κs a x y s t p q = p ∙ sym q

pub insert-payload-one : One 3 insert-payload.ps insert-payload.r insert-payload-reads.Post {S = Copied}
    (λ κs r s. record { told = as_number r; room = s.0.now; table = s.1.0.now })
insert-payload-one κs a x y s t p q = p ∙ sym q

pub read-graded-one : One 2 read-graded.ps read-graded.r read-graded-reads.Post {S = Lent GradedHeading}
    (λ κs r s. record { told = as_graded r; lent = s.1.0.now })
read-graded-one κs a x y s t p q = p ∙ sym q
