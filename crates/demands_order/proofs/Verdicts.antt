-- The first demand, which number exactly: whatever the contract of an entry allows, its number is told by its order. A number is told exactly if its condition
-- holds and no earlier one does, and 0 exactly if none holds (`Ordered`). The other entries never refuse: `encoded_len_varint`, the two signed mappings,
-- `wire_type_of`, `wire_number`, `payload_of` and `make`.
use Rattle.std.specs.Prelude.{◌≡◌, ℕ, List}
use Rattle.std.proofs.Common.{ap, ◌∙◌}
use Rattle.wire.specs.Table.{stamped}
use Rattle.message_table.specs.Into.{Outcome}
use Rattle.write_message.specs.Writing.{Writing}
use Rattle.write_insertion.specs.Insertion.{Insertion}
use Rattle.entry_answer.specs.Told.{put_told, varint_told, more_told, key_len_told, key_told, value_told, skipped_told, step_told, read_told, picked_told, several_told}
use Rattle.entry_answer.specs.Told.{early_told, written_told, inserted_told}
use Rattle.entry_answer.specs.declared.More.{More}
use Rattle.entry_answer.specs.declared.Step.{Step}
use Rattle.entry_reader.specs.Held.{Tested, Stepped}
use Rattle.entry_reader.specs.Counting.{counted_told}
use Rattle.entry_reader.specs.declared.Reader.{Reader}
use Rattle.entry_copy.specs.Copy.{Copying, copied_told}
use Rattle.demands_order.specs.Order.{Rule, first_of, Ordered, Numbered, ordered}
use Rattle.demands_order.specs.Rules.{decode_varint_order, decode_varint_capped_order, decode_key_order, decode_value_order, skip_field_order, step_at_order, more_at_order}
use Rattle.demands_order.specs.Rules.{read_message_order, read_payload_order, count_fields_order, copy_message_order, pick_order, pick_at_order, pick_early_order}
use Rattle.demands_order.specs.Rules.{put_varint_order, put_key_order, key_len_order, write_order, insert_order}
use Rattle.demands_order.specs.Entries.{decode-varint-order, decode-varint-capped-order, decode-key-order, decode-value-order, skip-field-order}
use Rattle.demands_order.specs.Entries.{step-at-order, more-at-order}
use Rattle.demands_order.specs.Entries.{read-message-order, count-fields-order, pick-at-order, pick-order, pick-early-order}
use Rattle.demands_order.proofs.Entries.{read-payload-order}
use Rattle.demands_order.proofs.Entries.{copy-message-order}
use Rattle.demands_order.specs.Entries.{stored_number, encode-varint-order, prepend-varint-order, encode-key-order, prepend-key-order, key-len-order}
use Rattle.demands_order.proofs.Entries.{encode-message-order, prepend-message-order, insert-order}
use Rattle.entry_varint.proofs.decode_varint.Kinds as decode-varint
use Rattle.entry_varint.proofs.decode_varint.Reads as decode-varint-reads
use Rattle.entry_varint.proofs.decode_varint_capped.Kinds as decode-varint-capped
use Rattle.entry_varint.proofs.decode_varint_capped.Reads as decode-varint-capped-reads
use Rattle.entry_key.proofs.decode_key.Kinds as decode-key
use Rattle.entry_key.proofs.decode_key.Reads as decode-key-reads
use Rattle.entry_field.proofs.decode_value.Kinds as decode-value
use Rattle.entry_field.proofs.decode_value.Reads as decode-value-reads
use Rattle.entry_field.proofs.skip_field.Kinds as skip-field
use Rattle.entry_field.proofs.skip_field.Reads as skip-field-reads
use Rattle.entry_field.proofs.step_at.Kinds as step-at
use Rattle.entry_field.proofs.step_at.Reads as step-at-reads
use Rattle.entry_field.proofs.more_at.Kinds as more-at
use Rattle.entry_field.proofs.more_at.Reads as more-at-reads
use Rattle.entry_message.proofs.read_message.Kinds as read-message
use Rattle.entry_message.proofs.read_message.Reads as read-message-reads
use Rattle.entry_message.proofs.read_payload.Kinds as read-payload
use Rattle.entry_message.proofs.read_payload.Reads as read-payload-reads
use Rattle.entry_message.proofs.pick_at.Kinds as pick_at
use Rattle.entry_message.proofs.pick_at.Reads as pick-at-reads
use Rattle.entry_message.proofs.pick_early.Kinds as pick-early
use Rattle.entry_message.proofs.pick_early.Reads as pick-early-reads
use Rattle.entry_message.proofs.pick.Kinds as pick
use Rattle.entry_message.proofs.pick.Reads as pick-reads
use Rattle.entry_varint.proofs.encode_varint.Kinds as encode-varint
use Rattle.entry_varint.proofs.encode_varint.Reads as encode-varint-reads
use Rattle.entry_varint.proofs.prepend_varint.Kinds as prepend-varint
use Rattle.entry_varint.proofs.prepend_varint.Reads as prepend-varint-reads
use Rattle.entry_key.proofs.encode_key.Kinds as encode-key
use Rattle.entry_key.proofs.encode_key.Reads as encode-key-reads
use Rattle.entry_key.proofs.prepend_key.Kinds as prepend-key
use Rattle.entry_key.proofs.prepend_key.Reads as prepend-key-reads
use Rattle.entry_key.proofs.key_len.Kinds as key-len
use Rattle.entry_key.proofs.key_len.Reads as key-len-reads
use Rattle.entry_write.proofs.encode_message.Kinds as encode-message
use Rattle.entry_write.proofs.encode_message.Reads as encode-message-reads
use Rattle.entry_write.proofs.prepend_message.Kinds as prepend-message
use Rattle.entry_write.proofs.prepend_message.Reads as prepend-message-reads
use Rattle.entry_write.proofs.insert.Kinds as insert
use Rattle.entry_write.proofs.insert.Reads as insert-reads
use Rattle.entry_reader.proofs.step_through.Kinds as step-through
use Rattle.entry_reader.proofs.step_through.Reads as step-through-reads
use Rattle.entry_reader.proofs.count_fields.Kinds as count-fields
use Rattle.entry_reader.proofs.count_fields.Reads as count-fields-reads
use Rattle.entry_copy.proofs.copy_message.Kinds as copy-message
use Rattle.entry_copy.proofs.copy_message.Reads as copy-message-reads
use Rattle.demands_order.specs.Verdicts.{by_order}

pub read-message-number : Numbered 2 read-message.ps read-message.r read-message-reads.Post (λ κs x. (read_told x).number)
    (λ κs a. read_message_order a.0.now a.1.0 a.1.1.0 a.1.1.1.0.now)
read-message-number κs a x s p =
    by_order (λ (o : Outcome). (read_told o.answer).number) p (read-message-order a.0.now a.1.0 a.1.1.0 a.1.1.1.0.now)

pub read-payload-number : Numbered 2 read-payload.ps read-payload.r read-payload-reads.Post (λ κs x. (read_told x).number)
    (λ κs a. read_payload_order a.0.now a.1.0 a.1.1.0.now)
read-payload-number κs a x s p = by_order (λ (o : Outcome). (read_told o.answer).number) p (read-payload-order a.0.now a.1.0 a.1.1.0.now)

pub copy-message-number : Numbered 4 copy-message.ps copy-message.r copy-message-reads.Post (λ κs x. (copied_told x).number)
    (λ κs a. copy_message_order a.0.now a.1.0.now a.1.1.0.now a.1.1.1.0.now)
copy-message-number κs a x s p =
    by_order (λ (o : Copying). (copied_told o.answer).number) p (copy-message-order a.0.now a.1.0.now a.1.1.0.now a.1.1.1.0.now)

pub encode-message-number : Numbered 3 encode-message.ps encode-message.r encode-message-reads.Post (λ κs x. (written_told x).number)
    (λ κs a. write_order a.0.now a.1.0.now a.1.1.0 a.1.1.1.0.now)
encode-message-number κs a x s p =
    by_order (λ (o : Writing). (written_told o.answer).number) p (encode-message-order a.0.now a.1.0.now a.1.1.0 a.1.1.1.0.now)

pub prepend-message-number : Numbered 3 prepend-message.ps prepend-message.r prepend-message-reads.Post (λ κs x. (written_told x).number)
    (λ κs a. write_order a.0.now a.1.0.now a.1.1.0 a.1.1.1.0.now)
prepend-message-number κs a x s p =
    by_order (λ (o : Writing). (written_told o.answer).number) p (prepend-message-order a.0.now a.1.0.now a.1.1.0 a.1.1.1.0.now)

pub insert-number : Numbered 2 insert.ps insert.r insert-reads.Post (λ κs x. (inserted_told x).number)
    (λ κs a. insert_order a.0.now a.1.0.now a.1.1.0 (stamped a.1.1.1.0))
insert-number κs a x s p =
    by_order (λ (o : Insertion). (inserted_told o.answer).number) p (insert-order a.0.now a.1.0.now a.1.1.0 (stamped a.1.1.1.0))
