-- Any two outcomes that a contract allows are equal: the answer, and the contents of all that was lent. Gathered here, a line for each public function
-- of each library crate; each is proved beside its contract, in `proofs/Only.antt` of its crate, by the one general law of wire/specs/Only. The face's
-- have their own names, those of the other crates their crate's name in front. The programs `dump`, `soundings` and `replay` have no public function.
-- `stream` and `stream_lines` are not here: the contracts of `stream` say which bytes `read_block` took from its reader and `write_all` put into its
-- writer. `write_out` says that the whole text was written where it answers no error. How much one call takes, and whether it fails, is left to the system. The exports of `capgauze_exports` are
-- held to the functions of `capgauze_c`, which are here, by `proofs/Linked.antt` there. What `fmt` of `Wanted` and `Fault` in `stream_orders` writes is
-- their `output`.

-- what all share
pub use Rattle.wire.proofs.Only.{number-of-one as wire-number-of-one}
pub use Rattle.wire.proofs.Only.{good-head-one as wire-good-head-one}
-- bytes put at a place
pub use Rattle.place.proofs.Only.{put-part-one as place-put-part-one}
pub use Rattle.place.proofs.Only.{put-bytes-one as place-put-bytes-one}
pub use Rattle.place.proofs.Only.{put-fixed-one as place-put-fixed-one}
-- varints
pub use Rattle.varint_write.proofs.Only.{varint-limit-one as varint-varint-limit-one}
pub use Rattle.varint_write.proofs.Only.{encoded-len-varint-one as varint-encoded-len-varint-one}
pub use Rattle.varint_read.proofs.Only.{decode-varint-one as varint-read-decode-varint-one}
pub use Rattle.varint_read.proofs.Only.{decode-varint-capped-one as varint-read-decode-varint-capped-one}
pub use Rattle.varint_write.proofs.Only.{count-len-one as varint-count-len-one}
pub use Rattle.varint_write.proofs.Only.{put-varint-one as varint-put-varint-one}
pub use Rattle.varint_write.proofs.Only.{prepend-varint-one as varint-prepend-varint-one}
pub use Rattle.varint_signed.proofs.Only.{i64-to-unsigned-one as signed-i64-to-unsigned-one}
pub use Rattle.varint_signed.proofs.Only.{u64-to-signed-one as signed-u64-to-signed-one}
-- one field
pub use Rattle.field_key.proofs.Only.{wire-type-of-one as key-wire-type-of-one}
pub use Rattle.field_key.proofs.Only.{wire-number-one as key-wire-number-one}
pub use Rattle.field_key.proofs.Only.{key-len-one as key-key-len-one}
pub use Rattle.field_key.proofs.Only.{put-key-one as key-put-key-one}
pub use Rattle.field_key.proofs.Only.{prepend-key-one as key-prepend-key-one}
pub use Rattle.field_key.proofs.Only.{decode-key-one as key-decode-key-one}
pub use Rattle.field_value.proofs.Only.{four-bytes-one as value-four-bytes-one}
pub use Rattle.field_value.proofs.Only.{number-at-one as value-number-at-one}
pub use Rattle.field_value.proofs.Only.{payload-at-one as value-payload-at-one}
pub use Rattle.field_value.proofs.Only.{four-at-one as value-four-at-one}
pub use Rattle.field_value.proofs.Only.{eight-at-one as value-eight-at-one}
pub use Rattle.field_value.proofs.Only.{decode-value-one as value-decode-value-one}
pub use Rattle.field.proofs.Only.{decode-field-one as field-decode-field-one}
pub use Rattle.field.proofs.Only.{step-from-one as field-step-from-one}
pub use Rattle.field.proofs.Only.{next-field-one as field-next-field-one}
pub use Rattle.field_skip.proofs.Only.{skip-field-one as skip-skip-field-one}
-- where a failing read began
pub use Rattle.fault.proofs.Only.{looked-one as fault-looked-one}
pub use Rattle.fault.proofs.Only.{key-fault-one as fault-key-fault-one}
pub use Rattle.fault.proofs.Only.{value-fault-one as fault-value-fault-one}
pub use Rattle.fault.proofs.Only.{fault-at-one as fault-fault-at-one}
-- whole messages
pub use Rattle.message.proofs.Only.{decide-one as message-decide-one}
pub use Rattle.message.proofs.Only.{walk-one as message-walk-one}
pub use Rattle.message.proofs.Only.{find-tag-one as message-find-tag-one}
pub use Rattle.message_table.proofs.Only.{read-into-one as table-read-into-one}
pub use Rattle.message_payload.proofs.Only.{payload-span-one as payload-payload-span-one}
-- one record
pub use Rattle.write_record.proofs.Only.{is-good-one as record-is-good-one}
pub use Rattle.write_record.proofs.Only.{record-at-one as record-record-at-one}
pub use Rattle.write_record.proofs.Only.{weigh-record-one as record-weigh-record-one}
-- tables written
pub use Rattle.write_message.proofs.Only.{weigh-one as writer-weigh-one}
pub use Rattle.write_message.proofs.Only.{write-front-one as writer-write-front-one}
pub use Rattle.write_message.proofs.Only.{write-back-one as writer-write-back-one}
-- a record put among others
pub use Rattle.write_insertion.proofs.Only.{insert-record-one as insertion-insert-record-one}
-- a tag looked for from the front
pub use Rattle.message_early.proofs.Only.{find-early-one as early-find-early-one}
-- what every reader tests first
pub use Rattle.entry_answer.proofs.Only.{gate-one as answer-gate-one}
-- the face
pub use Rattle.entry_varint.proofs.Only.{encode-varint-one}
pub use Rattle.entry_varint.proofs.Only.{prepend-varint-one}
pub use Rattle.entry_varint.proofs.Only.{decode-varint-one}
pub use Rattle.entry_varint.proofs.Only.{decode-varint-capped-one}
pub use Rattle.entry_key.proofs.Only.{decode-key-one}
pub use Rattle.entry_key.proofs.Only.{encode-key-one}
pub use Rattle.entry_key.proofs.Only.{prepend-key-one}
pub use Rattle.entry_key.proofs.Only.{key-len-one}
pub use Rattle.entry_field.proofs.Only.{decode-value-one}
pub use Rattle.entry_field.proofs.Only.{skip-field-one}
pub use Rattle.entry_field.proofs.Only.{step-at-one}
pub use Rattle.entry_field.proofs.Only.{more-at-one}
pub use Rattle.entry_message.proofs.Only.{read-message-one}
pub use Rattle.entry_message.proofs.Only.{payload-of-one}
pub use Rattle.entry_message.proofs.Only.{read-payload-one}
pub use Rattle.entry_message.proofs.Only.{pick-at-one}
pub use Rattle.entry_message.proofs.Only.{pick-one}
pub use Rattle.entry_message.proofs.Only.{pick-early-one}
pub use Rattle.entry_write.proofs.Only.{encode-message-one}
pub use Rattle.entry_write.proofs.Only.{prepend-message-one}
pub use Rattle.entry_write.proofs.Only.{insert-one}
-- the reader that holds a message; of its first three, over the predicates that their contracts cite
pub use Rattle.entry_reader.proofs.Only.{make-one as reader-make-one}
pub use Rattle.entry_reader.proofs.Only.{has-more-one as reader-has-more-one}
pub use Rattle.entry_reader.proofs.Only.{take-step-one as reader-take-step-one}
pub use Rattle.entry_reader.proofs.Only.{step-through-one as reader-step-through-one}
pub use Rattle.entry_reader.proofs.Only.{count-fields-one as reader-count-fields-one}
-- a message read and written back
pub use Rattle.entry_copy.proofs.Only.{copy-message-one as copy-copy-message-one}
-- an index beside a stored message
pub use Rattle.index.proofs.Only.{sound-one as index-sound-one}
pub use Rattle.index_make.proofs.Only.{make-index-one as index-make-index-one}
pub use Rattle.index_make.proofs.Only.{index-fits-one as index-index-fits-one}
pub use Rattle.index_pick.proofs.Only.{pick-indexed-one as index-pick-indexed-one}
pub use Rattle.index_line.proofs.Only.{write-line-one as index-write-line-one}
pub use Rattle.index_line.proofs.Only.{read-line-one as index-read-line-one}
-- digits
pub use Rattle.text_hex.proofs.Only.{digit-of-one as hex-digit-of-one}
pub use Rattle.text_hex.proofs.Only.{frame-of-one as hex-frame-of-one}
pub use Rattle.text_digits.proofs.Only.{put-hex-one as digits-put-hex-one}
pub use Rattle.text_digits.proofs.Only.{put-decimal-one as digits-put-decimal-one}
pub use Rattle.text_digits.proofs.Only.{put-hex-bytes-one as digits-put-hex-bytes-one}
-- lines
pub use Rattle.text_lines.proofs.Only.{count-up-one as lines-count-up-one}
pub use Rattle.text_lines.proofs.Only.{take-line-one as lines-take-line-one}
-- frames as text
pub use Rattle.text_frames.proofs.Only.{put-frame-one as frames-put-frame-one}
-- single fields as numbers
pub use Rattle.sounding_value.proofs.Only.{number-of-one as single-number-of-one}
pub use Rattle.sounding_value.proofs.Only.{need-one as single-need-one}
pub use Rattle.sounding_value.proofs.Only.{limit-one as single-limit-one}
pub use Rattle.sounding_value.proofs.Only.{measure-one as single-measure-one}
-- soundings
pub use Rattle.sounding_note.proofs.Only.{another-one as note-another-one, next-number-one as note-next-number-one, number-of-tag-one as note-number-of-tag-one}
pub use Rattle.sounding.proofs.Only.{read-sounding-one as sounding-read-sounding-one}
-- soundings of the second edition
pub use Rattle.sounding_grade.proofs.Only.{join_one as grade-join-one, reached-one as grade-reached-one, gate-one as grade-gate-one}
pub use Rattle.sounding_grade.proofs.Only.{values-flaws-one as grade-values-flaws-one, level-flaw-one as grade-level-flaw-one}
pub use Rattle.sounding_grade.proofs.Only.{head-flaw-one as grade-head-flaw-one}
pub use Rattle.sounding_wind.proofs.Only.{read-windy-one as wind-read-windy-one}
pub use Rattle.sounding_graded.proofs.Only.{read-graded-one as graded-read-graded-one}
-- soundings as text
pub use Rattle.sounding_text.proofs.Only.{put-sounding-one as columns-put-sounding-one}
pub use Rattle.sounding_text.proofs.Only.{put-edition-one as columns-put-edition-one}
-- the face for C
pub use Rattle.c_words.proofs.Only.{typed-of-one as c-typed-of-one}
pub use Rattle.c_words.proofs.Only.{put-words-one as c-put-words-one}
pub use Rattle.c_words.proofs.Only.{varint-words-one as c-varint-words-one}
pub use Rattle.c_words.proofs.Only.{read-words-one as c-read-words-one}
pub use Rattle.c_words.proofs.Only.{key-words-one as c-key-words-one}
pub use Rattle.c_words.proofs.Only.{value-read-words-one as c-value-read-words-one}
pub use Rattle.c_words.proofs.Only.{skipped-words-one as c-skipped-words-one}
pub use Rattle.c_words.proofs.Only.{step-words-one as c-step-words-one}
pub use Rattle.c_words.proofs.Only.{key-len-words-one as c-key-len-words-one}
pub use Rattle.c_words.proofs.Only.{written-words-one as c-written-words-one}
pub use Rattle.c_words.proofs.Only.{inserted-words-one as c-inserted-words-one}
pub use Rattle.c_words.proofs.Only.{pick-words-one as c-pick-words-one}
pub use Rattle.c_words.proofs.Only.{indexed-words-one as c-indexed-words-one}
pub use Rattle.c_words.proofs.Only.{several-words-one as c-several-words-one}
pub use Rattle.c_words.proofs.Only.{early-words-one as c-early-words-one}
pub use Rattle.c_words.proofs.Only.{sounding-words-one as c-sounding-words-one}
pub use Rattle.capgauze_c.proofs.Only.{encoded-len-varint-one as c-encoded-len-varint-one}
pub use Rattle.capgauze_c.proofs.Only.{i64-to-unsigned-one as c-i64-to-unsigned-one}
pub use Rattle.capgauze_c.proofs.Only.{u64-to-signed-one as c-u64-to-signed-one}
pub use Rattle.capgauze_c.proofs.Only.{decode-varint-one as c-decode-varint-one}
pub use Rattle.capgauze_c.proofs.Only.{decode-varint-capped-one as c-decode-varint-capped-one}
pub use Rattle.capgauze_c.proofs.Only.{encode-varint-one as c-encode-varint-one}
pub use Rattle.capgauze_c.proofs.Only.{prepend-varint-one as c-prepend-varint-one}
pub use Rattle.capgauze_c.proofs.Only.{decode-key-one as c-decode-key-one}
pub use Rattle.capgauze_c.proofs.Only.{encode-key-one as c-encode-key-one}
pub use Rattle.capgauze_c.proofs.Only.{prepend-key-one as c-prepend-key-one}
pub use Rattle.capgauze_c.proofs.Only.{key-len-one as c-key-len-one}
pub use Rattle.capgauze_c.proofs.Only.{decode-value-one as c-decode-value-one}
pub use Rattle.capgauze_c.proofs.Only.{skip-field-one as c-skip-field-one}
pub use Rattle.capgauze_c.proofs.Only.{step-at-one as c-step-at-one}
pub use Rattle.capgauze_c.proofs.Only.{read-message-one as c-read-message-one}
pub use Rattle.capgauze_c.proofs.Only.{payload-of-one as c-payload-of-one}
pub use Rattle.capgauze_c.proofs.Only.{read-payload-one as c-read-payload-one}
pub use Rattle.capgauze_c.proofs.Only.{pick-one as c-pick-one}
pub use Rattle.capgauze_c.proofs.Only.{pick-at-one as c-pick-at-one}
pub use Rattle.capgauze_c.proofs.Only.{pick-early-one as c-pick-early-one}
pub use Rattle.capgauze_c.proofs.Only.{make-index-one as c-make-index-one}
pub use Rattle.capgauze_c.proofs.Only.{index-fits-one as c-index-fits-one}
pub use Rattle.capgauze_c.proofs.Only.{pick-indexed-one as c-pick-indexed-one}
pub use Rattle.capgauze_c.proofs.Only.{write-line-one as c-write-line-one}
pub use Rattle.capgauze_c.proofs.Only.{read-line-one as c-read-line-one}
pub use Rattle.capgauze_c.proofs.Only.{encode-message-one as c-encode-message-one}
pub use Rattle.capgauze_c.proofs.Only.{prepend-message-one as c-prepend-message-one}
pub use Rattle.capgauze_c.proofs.Only.{insert-one as c-insert-one}
pub use Rattle.capgauze_c.proofs.Only.{read-sounding-one as c-read-sounding-one}
pub use Rattle.c_graded.proofs.Only.{grade-of-one as c-grade-of-one, grade-number-one as c-grade-number-one, graded-words-one as c-graded-words-one}
pub use Rattle.capgauze_c.proofs.Only.{read-graded-one as c-read-graded-one}
pub use Rattle.stream_orders.proofs.Only.{argument-of-one as stream-argument-of-one}
pub use Rattle.stream_orders.proofs.Only.{no-orders-one as stream-no-orders-one}
pub use Rattle.stream_orders.proofs.Only.{ordered-one as stream-ordered-one}
pub use Rattle.stream_orders.proofs.Only.{fault-of-one as stream-fault-of-one}
pub use Rattle.stream_orders.proofs.Only.{count-one-one as stream-count-one-one}
pub use Rattle.correct_supply.proofs.Only.{supply-of-one, corrected-by-one, corrected-part-one}
pub use Rattle.correct_write.proofs.Only.{write-corrected-one}
pub use Rattle.c_words.proofs.Only.{supplier-words-one as c-supplier-words-one, supply-words-one as c-supply-words-one}
pub use Rattle.capgauze_c.proofs.Only.{corrected-part-one as c-corrected-part-one, corrected-by-one as c-corrected-by-one}
pub use Rattle.capgauze_c.proofs.Only.{write-corrected-one as c-write-corrected-one}
pub use Rattle.run_read.proofs.Only.{run-count-one, run-value-one, read-run-one}
pub use Rattle.run_write.proofs.Only.{write-run-one}
pub use Rattle.c_words.proofs.Only.{run-count-words-one as c-run-count-words-one, run-value-words-one as c-run-value-words-one}
pub use Rattle.capgauze_c.proofs.Only.{run-count-one as c-run-count-one, run-value-one as c-run-value-one}
pub use Rattle.capgauze_c.proofs.Only.{read-run-one as c-read-run-one, write-run-one as c-write-run-one}
pub use Rattle.edit_live.proofs.Only.{span-at-one, last-end-one, spare-one, is-nearer-one, next-live-one, first-overlap-one, first-keyed-one}
pub use Rattle.edit_pack.proofs.Only.{pack_one}
pub use Rattle.edit.proofs.Only.{remove-record-one, replace-payload-one, insert-payload-one}
pub use Rattle.capgauze_c.proofs.Only.{remove-record-one as c-remove-record-one, replace-payload-one as c-replace-payload-one}
pub use Rattle.capgauze_c.proofs.Only.{insert-payload-one as c-insert-payload-one}
