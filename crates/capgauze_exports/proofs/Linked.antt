-- What C links is what the theorems speak of: every outcome that an export's contract allows, the contract of `capgauze_c` under its name allows too. So
-- each theorem over the outcomes of `capgauze_c`, as `Only.antt` there and `VerdictsC.antt` of `demands_sounding`, holds of the exports.
use Rattle.std.specs.Prelude.{ℕ, List}
use contract.Lifetimes.{Lfts}
use borrow.Fn.Kinds.{ParamKind, ResultKind, Out, Dens, res_t, ended_of}
use denote.Triple.Clauses.{AtExit}
use Rattle.capgauze_c.proofs.capgauze_encoded_len_varint.Kinds as encoded-len-varint
use Rattle.capgauze_c.proofs.capgauze_encoded_len_varint.Reads as encoded-len-varint-c
use Rattle.capgauze_exports.proofs.capgauze_encoded_len_varint.Reads as encoded-len-varint-linked
use Rattle.capgauze_c.proofs.capgauze_i64_to_unsigned.Kinds as i64-to-unsigned
use Rattle.capgauze_c.proofs.capgauze_i64_to_unsigned.Reads as i64-to-unsigned-c
use Rattle.capgauze_exports.proofs.capgauze_i64_to_unsigned.Reads as i64-to-unsigned-linked
use Rattle.capgauze_c.proofs.capgauze_u64_to_signed.Kinds as u64-to-signed
use Rattle.capgauze_c.proofs.capgauze_u64_to_signed.Reads as u64-to-signed-c
use Rattle.capgauze_exports.proofs.capgauze_u64_to_signed.Reads as u64-to-signed-linked
use Rattle.capgauze_c.proofs.capgauze_decode_varint.Kinds as decode-varint
use Rattle.capgauze_c.proofs.capgauze_decode_varint.Reads as decode-varint-c
use Rattle.capgauze_exports.proofs.capgauze_decode_varint.Reads as decode-varint-linked
use Rattle.capgauze_c.proofs.capgauze_decode_varint_capped.Kinds as decode-varint-capped
use Rattle.capgauze_c.proofs.capgauze_decode_varint_capped.Reads as decode-varint-capped-c
use Rattle.capgauze_exports.proofs.capgauze_decode_varint_capped.Reads as decode-varint-capped-linked
use Rattle.capgauze_c.proofs.capgauze_encode_varint.Kinds as encode-varint
use Rattle.capgauze_c.proofs.capgauze_encode_varint.Reads as encode-varint-c
use Rattle.capgauze_exports.proofs.capgauze_encode_varint.Reads as encode-varint-linked
use Rattle.capgauze_c.proofs.capgauze_prepend_varint.Kinds as prepend-varint
use Rattle.capgauze_c.proofs.capgauze_prepend_varint.Reads as prepend-varint-c
use Rattle.capgauze_exports.proofs.capgauze_prepend_varint.Reads as prepend-varint-linked
use Rattle.capgauze_c.proofs.capgauze_decode_key.Kinds as decode-key
use Rattle.capgauze_c.proofs.capgauze_decode_key.Reads as decode-key-c
use Rattle.capgauze_exports.proofs.capgauze_decode_key.Reads as decode-key-linked
use Rattle.capgauze_c.proofs.capgauze_encode_key.Kinds as encode-key
use Rattle.capgauze_c.proofs.capgauze_encode_key.Reads as encode-key-c
use Rattle.capgauze_exports.proofs.capgauze_encode_key.Reads as encode-key-linked
use Rattle.capgauze_c.proofs.capgauze_prepend_key.Kinds as prepend-key
use Rattle.capgauze_c.proofs.capgauze_prepend_key.Reads as prepend-key-c
use Rattle.capgauze_exports.proofs.capgauze_prepend_key.Reads as prepend-key-linked
use Rattle.capgauze_c.proofs.capgauze_key_len.Kinds as key-len
use Rattle.capgauze_c.proofs.capgauze_key_len.Reads as key-len-c
use Rattle.capgauze_exports.proofs.capgauze_key_len.Reads as key-len-linked
use Rattle.capgauze_c.proofs.capgauze_decode_value.Kinds as decode-value
use Rattle.capgauze_c.proofs.capgauze_decode_value.Reads as decode-value-c
use Rattle.capgauze_exports.proofs.capgauze_decode_value.Reads as decode-value-linked
use Rattle.capgauze_c.proofs.capgauze_skip_field.Kinds as skip-field
use Rattle.capgauze_c.proofs.capgauze_skip_field.Reads as skip-field-c
use Rattle.capgauze_exports.proofs.capgauze_skip_field.Reads as skip-field-linked
use Rattle.capgauze_c.proofs.capgauze_step_at.Kinds as step-at
use Rattle.capgauze_c.proofs.capgauze_step_at.Reads as step-at-c
use Rattle.capgauze_exports.proofs.capgauze_step_at.Reads as step-at-linked
use Rattle.capgauze_c.proofs.capgauze_read_message.Kinds as read-message
use Rattle.capgauze_c.proofs.capgauze_read_message.Reads as read-message-c
use Rattle.capgauze_exports.proofs.capgauze_read_message.Reads as read-message-linked
use Rattle.capgauze_c.proofs.capgauze_payload_of.Kinds as payload-of
use Rattle.capgauze_c.proofs.capgauze_payload_of.Reads as payload-of-c
use Rattle.capgauze_exports.proofs.capgauze_payload_of.Reads as payload-of-linked
use Rattle.capgauze_c.proofs.capgauze_read_payload.Kinds as read-payload
use Rattle.capgauze_c.proofs.capgauze_read_payload.Reads as read-payload-c
use Rattle.capgauze_exports.proofs.capgauze_read_payload.Reads as read-payload-linked
use Rattle.capgauze_c.proofs.capgauze_pick.Kinds as pick
use Rattle.capgauze_c.proofs.capgauze_pick.Reads as pick-c
use Rattle.capgauze_exports.proofs.capgauze_pick.Reads as pick-linked
use Rattle.capgauze_c.proofs.capgauze_pick_at.Kinds as pick-at
use Rattle.capgauze_c.proofs.capgauze_pick_at.Reads as pick-at-c
use Rattle.capgauze_exports.proofs.capgauze_pick_at.Reads as pick-at-linked
use Rattle.capgauze_c.proofs.capgauze_pick_early.Kinds as pick-early
use Rattle.capgauze_c.proofs.capgauze_pick_early.Reads as pick-early-c
use Rattle.capgauze_exports.proofs.capgauze_pick_early.Reads as pick-early-linked
use Rattle.capgauze_c.proofs.capgauze_encode_message.Kinds as encode-message
use Rattle.capgauze_c.proofs.capgauze_encode_message.Reads as encode-message-c
use Rattle.capgauze_exports.proofs.capgauze_encode_message.Reads as encode-message-linked
use Rattle.capgauze_c.proofs.capgauze_prepend_message.Kinds as prepend-message
use Rattle.capgauze_c.proofs.capgauze_prepend_message.Reads as prepend-message-c
use Rattle.capgauze_exports.proofs.capgauze_prepend_message.Reads as prepend-message-linked
use Rattle.capgauze_c.proofs.capgauze_insert.Kinds as insert
use Rattle.capgauze_c.proofs.capgauze_insert.Reads as insert-c
use Rattle.capgauze_exports.proofs.capgauze_insert.Reads as insert-linked
use Rattle.capgauze_c.proofs.capgauze_make_index.Kinds as make-index
use Rattle.capgauze_c.proofs.capgauze_make_index.Reads as make-index-c
use Rattle.capgauze_exports.proofs.capgauze_make_index.Reads as make-index-linked
use Rattle.capgauze_c.proofs.capgauze_index_fits.Kinds as index-fits
use Rattle.capgauze_c.proofs.capgauze_index_fits.Reads as index-fits-c
use Rattle.capgauze_exports.proofs.capgauze_index_fits.Reads as index-fits-linked
use Rattle.capgauze_c.proofs.capgauze_pick_indexed.Kinds as pick-indexed
use Rattle.capgauze_c.proofs.capgauze_pick_indexed.Reads as pick-indexed-c
use Rattle.capgauze_exports.proofs.capgauze_pick_indexed.Reads as pick-indexed-linked
use Rattle.capgauze_c.proofs.capgauze_write_line.Kinds as write-line
use Rattle.capgauze_c.proofs.capgauze_write_line.Reads as write-line-c
use Rattle.capgauze_exports.proofs.capgauze_write_line.Reads as write-line-linked
use Rattle.capgauze_c.proofs.capgauze_read_line.Kinds as read-line
use Rattle.capgauze_c.proofs.capgauze_read_line.Reads as read-line-c
use Rattle.capgauze_exports.proofs.capgauze_read_line.Reads as read-line-linked
use Rattle.capgauze_c.proofs.capgauze_read_sounding.Kinds as read-sounding
use Rattle.capgauze_c.proofs.capgauze_read_sounding.Reads as read-sounding-c
use Rattle.capgauze_exports.proofs.capgauze_read_sounding.Reads as read-sounding-linked
use Rattle.capgauze_c.proofs.capgauze_read_graded.Kinds as read-graded
use Rattle.capgauze_c.proofs.capgauze_read_graded.Reads as read-graded-c
use Rattle.capgauze_exports.proofs.capgauze_read_graded.Reads as read-graded-linked
use Rattle.capgauze_c.proofs.capgauze_run_count.Kinds as run-count
use Rattle.capgauze_c.proofs.capgauze_run_count.Reads as run-count-c
use Rattle.capgauze_exports.proofs.capgauze_run_count.Reads as run-count-linked
use Rattle.capgauze_c.proofs.capgauze_run_value.Kinds as run-value
use Rattle.capgauze_c.proofs.capgauze_run_value.Reads as run-value-c
use Rattle.capgauze_exports.proofs.capgauze_run_value.Reads as run-value-linked
use Rattle.capgauze_c.proofs.capgauze_read_run.Kinds as read-run
use Rattle.capgauze_c.proofs.capgauze_read_run.Reads as read-run-c
use Rattle.capgauze_exports.proofs.capgauze_read_run.Reads as read-run-linked
use Rattle.capgauze_c.proofs.capgauze_write_run.Kinds as write-run
use Rattle.capgauze_c.proofs.capgauze_write_run.Reads as write-run-c
use Rattle.capgauze_exports.proofs.capgauze_write_run.Reads as write-run-linked
use Rattle.capgauze_c.proofs.capgauze_corrected_part.Kinds as corrected-part
use Rattle.capgauze_c.proofs.capgauze_corrected_part.Reads as corrected-part-c
use Rattle.capgauze_exports.proofs.capgauze_corrected_part.Reads as corrected-part-linked
use Rattle.capgauze_c.proofs.capgauze_corrected_by.Kinds as corrected-by
use Rattle.capgauze_c.proofs.capgauze_corrected_by.Reads as corrected-by-c
use Rattle.capgauze_exports.proofs.capgauze_corrected_by.Reads as corrected-by-linked
use Rattle.capgauze_c.proofs.capgauze_write_corrected.Kinds as write-corrected
use Rattle.capgauze_c.proofs.capgauze_write_corrected.Reads as write-corrected-c
use Rattle.capgauze_exports.proofs.capgauze_write_corrected.Reads as write-corrected-linked
use Rattle.capgauze_c.proofs.capgauze_remove_record.Kinds as remove-record
use Rattle.capgauze_c.proofs.capgauze_remove_record.Reads as remove-record-c
use Rattle.capgauze_exports.proofs.capgauze_remove_record.Reads as remove-record-linked
use Rattle.capgauze_c.proofs.capgauze_replace_payload.Kinds as replace-payload
use Rattle.capgauze_c.proofs.capgauze_replace_payload.Reads as replace-payload-c
use Rattle.capgauze_exports.proofs.capgauze_replace_payload.Reads as replace-payload-linked
use Rattle.capgauze_c.proofs.capgauze_insert_payload.Kinds as insert-payload
use Rattle.capgauze_c.proofs.capgauze_insert_payload.Reads as insert-payload-c
use Rattle.capgauze_exports.proofs.capgauze_insert_payload.Reads as insert-payload-linked

-- of two contracts for functions with n lifetimes, parameters ps and result r: every outcome, the answer and all that was lent, that the first allows
-- for given arguments, the second allows for them
abbrev pub Allows : (n : ℕ) (ps : List (ParamKind n)) (r : ResultKind n) → Out n ps r → Out n ps r → Type 0
Allows n ps r linked post = (κs : Lfts n) (a : Dens κs ps) (x : (res_t r κs).Denot) (s : AtExit (ended_of n ps r) κs) → linked κs a x s → post κs a x s

pub encoded-len-varint-allows : Allows 0 encoded-len-varint.ps encoded-len-varint.r encoded-len-varint-linked.Post encoded-len-varint-c.Post
encoded-len-varint-allows κs a x s p = p

pub i64-to-unsigned-allows : Allows 0 i64-to-unsigned.ps i64-to-unsigned.r i64-to-unsigned-linked.Post i64-to-unsigned-c.Post
i64-to-unsigned-allows κs a x s p = p

pub u64-to-signed-allows : Allows 0 u64-to-signed.ps u64-to-signed.r u64-to-signed-linked.Post u64-to-signed-c.Post
u64-to-signed-allows κs a x s p = p

pub decode-varint-allows : Allows 1 decode-varint.ps decode-varint.r decode-varint-linked.Post decode-varint-c.Post
decode-varint-allows κs a x s p = p

pub decode-varint-capped-allows : Allows 1 decode-varint-capped.ps decode-varint-capped.r decode-varint-capped-linked.Post decode-varint-capped-c.Post
decode-varint-capped-allows κs a x s p = p

pub encode-varint-allows : Allows 1 encode-varint.ps encode-varint.r encode-varint-linked.Post encode-varint-c.Post
encode-varint-allows κs a x s p = p

pub prepend-varint-allows : Allows 1 prepend-varint.ps prepend-varint.r prepend-varint-linked.Post prepend-varint-c.Post
prepend-varint-allows κs a x s p = p

pub decode-key-allows : Allows 1 decode-key.ps decode-key.r decode-key-linked.Post decode-key-c.Post
decode-key-allows κs a x s p = p

pub encode-key-allows : Allows 1 encode-key.ps encode-key.r encode-key-linked.Post encode-key-c.Post
encode-key-allows κs a x s p = p

pub prepend-key-allows : Allows 1 prepend-key.ps prepend-key.r prepend-key-linked.Post prepend-key-c.Post
prepend-key-allows κs a x s p = p

pub key-len-allows : Allows 0 key-len.ps key-len.r key-len-linked.Post key-len-c.Post
key-len-allows κs a x s p = p

pub decode-value-allows : Allows 1 decode-value.ps decode-value.r decode-value-linked.Post decode-value-c.Post
decode-value-allows κs a x s p = p

pub skip-field-allows : Allows 1 skip-field.ps skip-field.r skip-field-linked.Post skip-field-c.Post
skip-field-allows κs a x s p = p

pub step-at-allows : Allows 1 step-at.ps step-at.r step-at-linked.Post step-at-c.Post
step-at-allows κs a x s p = p

pub read-message-allows : Allows 2 read-message.ps read-message.r read-message-linked.Post read-message-c.Post
read-message-allows κs a x s p = p

pub payload-of-allows : Allows 1 payload-of.ps payload-of.r payload-of-linked.Post payload-of-c.Post
payload-of-allows κs a x s p = p

pub read-payload-allows : Allows 2 read-payload.ps read-payload.r read-payload-linked.Post read-payload-c.Post
read-payload-allows κs a x s p = p

pub pick-allows : Allows 1 pick.ps pick.r pick-linked.Post pick-c.Post
pick-allows κs a x s p = p

pub pick-at-allows : Allows 1 pick-at.ps pick-at.r pick-at-linked.Post pick-at-c.Post
pick-at-allows κs a x s p = p

pub pick-early-allows : Allows 1 pick-early.ps pick-early.r pick-early-linked.Post pick-early-c.Post
pick-early-allows κs a x s p = p

pub encode-message-allows : Allows 3 encode-message.ps encode-message.r encode-message-linked.Post encode-message-c.Post
encode-message-allows κs a x s p = p

pub prepend-message-allows : Allows 3 prepend-message.ps prepend-message.r prepend-message-linked.Post prepend-message-c.Post
prepend-message-allows κs a x s p = p

pub insert-allows : Allows 2 insert.ps insert.r insert-linked.Post insert-c.Post
insert-allows κs a x s p = p

pub make-index-allows : Allows 2 make-index.ps make-index.r make-index-linked.Post make-index-c.Post
make-index-allows κs a x s p = p

pub index-fits-allows : Allows 2 index-fits.ps index-fits.r index-fits-linked.Post index-fits-c.Post
index-fits-allows κs a x s p = p

pub pick-indexed-allows : Allows 2 pick-indexed.ps pick-indexed.r pick-indexed-linked.Post pick-indexed-c.Post
pick-indexed-allows κs a x s p = p

pub write-line-allows : Allows 2 write-line.ps write-line.r write-line-linked.Post write-line-c.Post
write-line-allows κs a x s p = p

pub read-line-allows : Allows 2 read-line.ps read-line.r read-line-linked.Post read-line-c.Post
read-line-allows κs a x s p = p

pub read-sounding-allows : Allows 2 read-sounding.ps read-sounding.r read-sounding-linked.Post read-sounding-c.Post
read-sounding-allows κs a x s p = p

pub read-graded-allows : Allows 2 read-graded.ps read-graded.r read-graded-linked.Post read-graded-c.Post
read-graded-allows κs a x s p = p

pub run-count-allows : Allows 1 run-count.ps run-count.r run-count-linked.Post run-count-c.Post
run-count-allows κs a x s p = p

pub run-value-allows : Allows 1 run-value.ps run-value.r run-value-linked.Post run-value-c.Post
run-value-allows κs a x s p = p

pub read-run-allows : Allows 2 read-run.ps read-run.r read-run-linked.Post read-run-c.Post
read-run-allows κs a x s p = p

pub write-run-allows : Allows 3 write-run.ps write-run.r write-run-linked.Post write-run-c.Post
write-run-allows κs a x s p = p

pub corrected-part-allows : Allows 2 corrected-part.ps corrected-part.r corrected-part-linked.Post corrected-part-c.Post
corrected-part-allows κs a x s p = p

pub corrected-by-allows : Allows 2 corrected-by.ps corrected-by.r corrected-by-linked.Post corrected-by-c.Post
corrected-by-allows κs a x s p = p

pub write-corrected-allows : Allows 3 write-corrected.ps write-corrected.r write-corrected-linked.Post write-corrected-c.Post
write-corrected-allows κs a x s p = p

pub remove-record-allows : Allows 2 remove-record.ps remove-record.r remove-record-linked.Post remove-record-c.Post
remove-record-allows κs a x s p = p

pub replace-payload-allows : Allows 3 replace-payload.ps replace-payload.r replace-payload-linked.Post replace-payload-c.Post
replace-payload-allows κs a x s p = p

pub insert-payload-allows : Allows 3 insert-payload.ps insert-payload.r insert-payload-linked.Post insert-payload-c.Post
insert-payload-allows κs a x s p = p
