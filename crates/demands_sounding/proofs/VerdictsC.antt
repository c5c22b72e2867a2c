-- The first demand, which number exactly, for C: the first word of every answer of an export is told by the order of its entry. A wire type above 3 is 6
-- before all else.
use Rattle.std.specs.Prelude.{refl}
use Rattle.std.proofs.Common.{ap, subst, sym}
use Rattle.wire.specs.Table.{stamped}
use Rattle.entry_answer.specs.Told as told
use Rattle.entry_answer.specs.Told.{value_told, skipped_told}
use Rattle.entry_key.specs.Keys.{key_at_front, key_at_end}
use Rattle.entry_field.specs.Fields.{decode_value, skip_field}
use Rattle.sounding.specs.Told as soundings
use Rattle.sounding.specs.Words.{outcome, read_sounding}
use Rattle.c_words.specs.Words.{Lent, key_stored, value_typed, place_typed}
use Rattle.demands_order.specs.Calls.{five_words, four_words}
use Rattle.demands_order.specs.Order.{Ordered, Numbered}
use Rattle.demands_order.specs.Rules.{decode_varint_order, decode_varint_capped_order, decode_key_order, decode_value_order, skip_field_order, step_at_order}
use Rattle.demands_order.specs.Rules.{read_message_order, read_payload_order, pick_order, pick_at_order, pick_early_order}
use Rattle.demands_order.specs.Rules.{put_varint_order, put_key_order, key_len_order, write_order, insert_order, typed_order}
use Rattle.demands_order.specs.Entries.{decode-varint-order, decode-varint-capped-order, decode-key-order, decode-value-order, skip-field-order, step-at-order}
use Rattle.demands_order.specs.Entries.{read-message-order, pick-at-order, pick-order, pick-early-order}
use Rattle.demands_order.proofs.Entries.{read-payload-order}
use Rattle.demands_order.specs.Entries.{encode-varint-order, prepend-varint-order, encode-key-order, prepend-key-order, key-len-order}
use Rattle.demands_order.specs.Entries.{typed-told}
use Rattle.demands_order.proofs.Entries.{encode-message-order, prepend-message-order, insert-order}
use Rattle.demands_order.specs.Verdicts.{by_order}
use Rattle.demands_sounding.specs.SoundingRules.{read_sounding_order}
use Rattle.demands_sounding.proofs.SoundingVerdict.{read-sounding-number}
use Rattle.capgauze_c.proofs.capgauze_decode_varint.Kinds as decode-varint
use Rattle.capgauze_c.proofs.capgauze_decode_varint.Reads as decode-varint-reads
use Rattle.capgauze_c.proofs.capgauze_decode_varint_capped.Kinds as decode-varint-capped
use Rattle.capgauze_c.proofs.capgauze_decode_varint_capped.Reads as decode-varint-capped-reads
use Rattle.capgauze_c.proofs.capgauze_encode_varint.Kinds as encode-varint
use Rattle.capgauze_c.proofs.capgauze_encode_varint.Reads as encode-varint-reads
use Rattle.capgauze_c.proofs.capgauze_prepend_varint.Kinds as prepend-varint
use Rattle.capgauze_c.proofs.capgauze_prepend_varint.Reads as prepend-varint-reads
use Rattle.capgauze_c.proofs.capgauze_decode_key.Kinds as decode-key
use Rattle.capgauze_c.proofs.capgauze_decode_key.Reads as decode-key-reads
use Rattle.capgauze_c.proofs.capgauze_encode_key.Kinds as encode-key
use Rattle.capgauze_c.proofs.capgauze_encode_key.Reads as encode-key-reads
use Rattle.capgauze_c.proofs.capgauze_prepend_key.Kinds as prepend-key
use Rattle.capgauze_c.proofs.capgauze_prepend_key.Reads as prepend-key-reads
use Rattle.capgauze_c.proofs.capgauze_key_len.Kinds as key-len
use Rattle.capgauze_c.proofs.capgauze_key_len.Reads as key-len-reads
use Rattle.capgauze_c.proofs.capgauze_decode_value.Kinds as decode-value
use Rattle.capgauze_c.proofs.capgauze_decode_value.Reads as decode-value-reads
use Rattle.capgauze_c.proofs.capgauze_skip_field.Kinds as skip-field
use Rattle.capgauze_c.proofs.capgauze_skip_field.Reads as skip-field-reads
use Rattle.capgauze_c.proofs.capgauze_step_at.Kinds as step-at
use Rattle.capgauze_c.proofs.capgauze_step_at.Reads as step-at-reads
use Rattle.capgauze_c.proofs.capgauze_read_message.Kinds as read-message
use Rattle.capgauze_c.proofs.capgauze_read_message.Reads as read-message-reads
use Rattle.capgauze_c.proofs.capgauze_read_payload.Kinds as read-payload
use Rattle.capgauze_c.proofs.capgauze_read_payload.Reads as read-payload-reads
use Rattle.capgauze_c.proofs.capgauze_pick.Kinds as pick
use Rattle.capgauze_c.proofs.capgauze_pick.Reads as pick-reads
use Rattle.capgauze_c.proofs.capgauze_pick_at.Kinds as pick_at
use Rattle.capgauze_c.proofs.capgauze_pick_at.Reads as pick-at-reads
use Rattle.capgauze_c.proofs.capgauze_pick_early.Kinds as pick-early
use Rattle.capgauze_c.proofs.capgauze_pick_early.Reads as pick-early-reads
use Rattle.capgauze_c.proofs.capgauze_encode_message.Kinds as encode-message
use Rattle.capgauze_c.proofs.capgauze_encode_message.Reads as encode-message-reads
use Rattle.capgauze_c.proofs.capgauze_prepend_message.Kinds as prepend-message
use Rattle.capgauze_c.proofs.capgauze_prepend_message.Reads as prepend-message-reads
use Rattle.capgauze_c.proofs.capgauze_insert.Kinds as insert
use Rattle.capgauze_c.proofs.capgauze_insert.Reads as insert-reads
use Rattle.capgauze_c.proofs.capgauze_read_sounding.Kinds as read-sounding
use Rattle.capgauze_c.proofs.capgauze_read_sounding.Reads as read-sounding-reads

pub c-read-sounding-number : Numbered 2 read-sounding.ps read-sounding.r read-sounding-reads.Post (λ κs x. x.number)
    (λ κs a. read_sounding_order a.0.now a.1.0.now)
c-read-sounding-number κs a x s p =
    let o = read_sounding a.0.now a.1.0.now in
    subst (Ordered (read_sounding_order a.0.now a.1.0.now)) (sym (ap (λ (l : Lent soundings.Heading). l.told.number) p))
    (read-sounding-number κs a o.answer s (ap (λ (l : Lent soundings.Heading). outcome o.answer l.lent) p))
