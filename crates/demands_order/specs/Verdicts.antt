-- The first demand, which number exactly: whatever the contract of an entry allows, its number is told by its order. A number is told exactly if its condition
-- holds and no earlier one does, and 0 exactly if none holds (`Ordered`). The other entries never refuse: `encoded_len_varint`, the two signed mappings,
-- `wire_type_of`, `wire_number`, `payload_of` and `make`.
use Rattle.std.specs.Prelude.{◌≡◌, ℕ, List}
use Rattle.std.proofs.Common.{ap, ◌∙◌}
use Rattle.wire.specs.Table.{stamped}
use Rattle.message_table.specs.Into.{Outcome}
use Rattle.write_message.specs.Writing.{Writing}
use Rattle.write_insertion.specs.Insertion.{Insertion}
use Rattle.entry_answer.specs.Told.{put_told, varint_told, more_told, key_len_told, key_told, value_told, skipped_told, step_told, read_told, picked_told, several_told}
use Rattle.entry_answer.specs.Told.{early_told, written_told, inserted_told}
use Rattle.entry_answer.specs.declared.More.{More}
use Rattle.entry_answer.specs.declared.Step.{Step}
use Rattle.entry_reader.specs.Held.{Tested, Stepped}
use Rattle.entry_reader.specs.Counting.{counted_told}
use Rattle.entry_reader.specs.declared.Reader.{Reader}
use Rattle.entry_copy.specs.Copy.{Copying, copied_told}
use Rattle.demands_order.specs.Order.{Rule, first_of, Ordered, Numbered, ordered}
use Rattle.demands_order.specs.Rules.{decode_varint_order, decode_varint_capped_order, decode_key_order, decode_value_order, skip_field_order, step_at_order, more_at_order}
use Rattle.demands_order.specs.Rules.{read_message_order, read_payload_order, count_fields_order, copy_message_order, pick_order, pick_at_order, pick_early_order}
use Rattle.demands_order.specs.Rules.{put_varint_order, put_key_order, key_len_order, write_order, insert_order}
pub use Rattle.demands_order.specs.Entries.{order-r}
use Rattle.demands_order.specs.Entries.{decode-varint-order, decode-varint-capped-order, decode-key-order, decode-value-order, skip-field-order}
use Rattle.demands_order.specs.Entries.{step-at-order, more-at-order}
use Rattle.demands_order.specs.Entries.{read-message-order, count-fields-order, pick-at-order, pick-order, pick-early-order}
use Rattle.demands_order.specs.Entries.{stored_number, encode-varint-order, prepend-varint-order, encode-key-order, prepend-key-order, key-len-order}
use Rattle.entry_varint.proofs.decode_varint.Kinds as decode-varint
use Rattle.entry_varint.proofs.decode_varint.Reads as decode-varint-reads
use Rattle.entry_varint.proofs.decode_varint_capped.Kinds as decode-varint-capped
use Rattle.entry_varint.proofs.decode_varint_capped.Reads as decode-varint-capped-reads
use Rattle.entry_key.proofs.decode_key.Kinds as decode-key
use Rattle.entry_key.proofs.decode_key.Reads as decode-key-reads
use Rattle.entry_field.proofs.decode_value.Kinds as decode-value
use Rattle.entry_field.proofs.decode_value.Reads as decode-value-reads
use Rattle.entry_field.proofs.skip_field.Kinds as skip-field
use Rattle.entry_field.proofs.skip_field.Reads as skip-field-reads
use Rattle.entry_field.proofs.step_at.Kinds as step-at
use Rattle.entry_field.proofs.step_at.Reads as step-at-reads
use Rattle.entry_field.proofs.more_at.Kinds as more-at
use Rattle.entry_field.proofs.more_at.Reads as more-at-reads
use Rattle.entry_message.proofs.read_message.Kinds as read-message
use Rattle.entry_message.proofs.read_message.Reads as read-message-reads
use Rattle.entry_message.proofs.read_payload.Kinds as read-payload
use Rattle.entry_message.proofs.read_payload.Reads as read-payload-reads
use Rattle.entry_message.proofs.pick_at.Kinds as pick_at
use Rattle.entry_message.proofs.pick_at.Reads as pick-at-reads
use Rattle.entry_message.proofs.pick_early.Kinds as pick-early
use Rattle.entry_message.proofs.pick_early.Reads as pick-early-reads
use Rattle.entry_message.proofs.pick.Kinds as pick
use Rattle.entry_message.proofs.pick.Reads as pick-reads
use Rattle.entry_varint.proofs.encode_varint.Kinds as encode-varint
use Rattle.entry_varint.proofs.encode_varint.Reads as encode-varint-reads
use Rattle.entry_varint.proofs.prepend_varint.Kinds as prepend-varint
use Rattle.entry_varint.proofs.prepend_varint.Reads as prepend-varint-reads
use Rattle.entry_key.proofs.encode_key.Kinds as encode-key
use Rattle.entry_key.proofs.encode_key.Reads as encode-key-reads
use Rattle.entry_key.proofs.prepend_key.Kinds as prepend-key
use Rattle.entry_key.proofs.prepend_key.Reads as prepend-key-reads
use Rattle.entry_key.proofs.key_len.Kinds as key-len
use Rattle.entry_key.proofs.key_len.Reads as key-len-reads
use Rattle.entry_write.proofs.encode_message.Kinds as encode-message
use Rattle.entry_write.proofs.encode_message.Reads as encode-message-reads
use Rattle.entry_write.proofs.prepend_message.Kinds as prepend-message
use Rattle.entry_write.proofs.prepend_message.Reads as prepend-message-reads
use Rattle.entry_write.proofs.insert.Kinds as insert
use Rattle.entry_write.proofs.insert.Reads as insert-reads
use Rattle.entry_reader.proofs.step_through.Kinds as step-through
use Rattle.entry_reader.proofs.step_through.Reads as step-through-reads
use Rattle.entry_reader.proofs.count_fields.Kinds as count-fields
use Rattle.entry_reader.proofs.count_fields.Reads as count-fields-reads
use Rattle.entry_copy.proofs.copy_message.Kinds as copy-message
use Rattle.entry_copy.proofs.copy_message.Reads as copy-message-reads

-- an outcome is what the entry's definition gives, and that has the number of its order
pub by_order : {A : Type 0} (number : A → ℕ) {x y : A} {rs : List Rule} → x ≡ y → number y ≡ first_of rs → Ordered rs (number x)
by_order number {x} {y} {rs} p h = ordered rs (number x) (ap number p ∙ h)

-- ---- varints, keys, single fields

pub decode-varint-number : Numbered 1 decode-varint.ps decode-varint.r decode-varint-reads.Post (λ κs x. (varint_told x).number)
    (λ κs a. decode_varint_order a.0.now a.1.0)
decode-varint-number κs a x s p = by_order (λ y. (varint_told y).number) p (decode-varint-order a.0.now a.1.0)

pub decode-varint-capped-number : Numbered 1 decode-varint-capped.ps decode-varint-capped.r decode-varint-capped-reads.Post (λ κs x. (varint_told x).number)
    (λ κs a. decode_varint_capped_order a.0.now a.1.0 a.1.1.0)
decode-varint-capped-number κs a x s p = by_order (λ y. (varint_told y).number) p (decode-varint-capped-order a.0.now a.1.0 a.1.1.0)

pub decode-key-number : Numbered 1 decode-key.ps decode-key.r decode-key-reads.Post (λ κs x. (key_told x).number)
    (λ κs a. decode_key_order a.0.now a.1.0 a.1.1.0 a.1.1.1.0)
decode-key-number κs a x s p = by_order (λ y. (key_told y).number) p (decode-key-order a.0.now a.1.0 a.1.1.0 a.1.1.1.0)

pub decode-value-number : Numbered 1 decode-value.ps decode-value.r decode-value-reads.Post (λ κs x. (value_told x).number)
    (λ κs a. decode_value_order a.0.now a.1.0 a.1.1.0 a.1.1.1.0)
decode-value-number κs a x s p = by_order (λ y. (value_told y).number) p (decode-value-order a.0.now a.1.0 a.1.1.0 a.1.1.1.0)

pub skip-field-number : Numbered 1 skip-field.ps skip-field.r skip-field-reads.Post (λ κs x. (skipped_told x).number)
    (λ κs a. skip_field_order a.0.now a.1.0 a.1.1.0 a.1.1.1.0)
skip-field-number κs a x s p = by_order (λ y. (skipped_told y).number) p (skip-field-order a.0.now a.1.0 a.1.1.0 a.1.1.1.0)

pub step-at-number : Numbered 1 step-at.ps step-at.r step-at-reads.Post (λ κs x. (step_told 0 0 x).number)
    (λ κs a. step_at_order a.0.now a.1.0 a.1.1.0 a.1.1.1.0)
step-at-number κs a x s p = by_order (λ y. (step_told 0 0 y).number) p (step-at-order 0 0 a.0.now a.1.0 a.1.1.0 a.1.1.1.0)

pub more-at-number : Numbered 1 more-at.ps more-at.r more-at-reads.Post (λ κs x. (more_told x).number) (λ κs a. more_at_order a.0.now a.1.0 a.1.1.0)
more-at-number κs a x s p = by_order (λ y. (more_told y).number) p (more-at-order a.0.now a.1.0 a.1.1.0)

-- ---- a reader that holds a message: of its test and its step, over the predicates that their contracts cite

pub has-more-number : (r : Reader) (x : More) → Tested r x → Ordered (more_at_order r.message.now r.place r.end) (more_told x).number
has-more-number r x p = by_order (λ y. (more_told y).number) p (more-at-order r.message.now r.place r.end)

pub take-step-number : (r : Reader) (x : Step) → Stepped r x
    → Ordered (step_at_order r.message.now r.place r.end r.last) (step_told r.place r.last x).number
take-step-number r x p =
    by_order (λ y. (step_told r.place r.last y).number) p (step-at-order r.place r.last r.message.now r.place r.end r.last)

pub step-through-number : Numbered 1 step-through.ps step-through.r step-through-reads.Post (λ κs x. (step_told 0 0 x).number)
    (λ κs a. step_at_order a.0.now a.1.0 a.1.1.0 a.1.1.1.0)
step-through-number κs a x s p = by_order (λ y. (step_told 0 0 y).number) p (step-at-order 0 0 a.0.now a.1.0 a.1.1.0 a.1.1.1.0)

pub count-fields-number : Numbered 1 count-fields.ps count-fields.r count-fields-reads.Post (λ κs x. (counted_told x).number)
    (λ κs a. count_fields_order a.0.now a.1.0 a.1.1.0)
count-fields-number κs a x s p = by_order (λ y. (counted_told y).number) p (count-fields-order a.0.now a.1.0 a.1.1.0)

-- ---- messages

pub pick-at-number : Numbered 1 pick_at.ps pick_at.r pick-at-reads.Post (λ κs x. (several_told x).number) (λ κs a. pick_at_order a.0.now)
pick-at-number κs a x s p = by_order (λ y. (several_told y).number) p (pick-at-order a.0.now a.1.0 a.1.1.0)

pub pick-number : Numbered 1 pick.ps pick.r pick-reads.Post (λ κs x. (picked_told x).number) (λ κs a. pick_order a.0.now a.1.0)
pick-number κs a x s p = by_order (λ y. (picked_told y).number) p (pick-order a.0.now a.1.0)

pub pick-early-number : Numbered 1 pick-early.ps pick-early.r pick-early-reads.Post (λ κs x. (early_told x).number)
    (λ κs a. pick_early_order a.0.now a.1.0)
pick-early-number κs a x s p = by_order (λ y. (early_told y).number) p (pick-early-order a.0.now a.1.0)

-- ---- bytes put

pub encode-varint-number : Numbered 1 encode-varint.ps encode-varint.r encode-varint-reads.Post (λ κs x. (put_told x).number)
    (λ κs a. put_varint_order a.0 a.1.0.now)
encode-varint-number κs a x s p = by_order stored_number p (encode-varint-order a.0 a.1.0.now)

pub prepend-varint-number : Numbered 1 prepend-varint.ps prepend-varint.r prepend-varint-reads.Post (λ κs x. (put_told x).number)
    (λ κs a. put_varint_order a.0 a.1.0.now)
prepend-varint-number κs a x s p = by_order stored_number p (prepend-varint-order a.0 a.1.0.now)

pub encode-key-number : Numbered 1 encode-key.ps encode-key.r encode-key-reads.Post (λ κs x. (put_told x).number)
    (λ κs a. put_key_order a.0 a.1.0 a.1.1.0 a.1.1.1.0.now)
encode-key-number κs a x s p = by_order stored_number p (encode-key-order a.0 a.1.0 a.1.1.0 a.1.1.1.0.now)

pub prepend-key-number : Numbered 1 prepend-key.ps prepend-key.r prepend-key-reads.Post (λ κs x. (put_told x).number)
    (λ κs a. put_key_order a.0 a.1.0 a.1.1.0 a.1.1.1.0.now)
prepend-key-number κs a x s p = by_order stored_number p (prepend-key-order a.0 a.1.0 a.1.1.0 a.1.1.1.0.now)

pub key-len-number : Numbered 0 key-len.ps key-len.r key-len-reads.Post (λ κs x. (key_len_told x).number) (λ κs a. key_len_order a.0 a.1.0)
key-len-number κs a x s p = by_order (λ y. (key_len_told y).number) p (key-len-order a.0 a.1.0)

-- ---- records written, inserted
