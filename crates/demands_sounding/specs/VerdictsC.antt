-- The first demand, which number exactly, for C: the first word of every answer of an export is told by the order of its entry. A wire type above 3 is 6
-- before all else.
use Rattle.std.specs.Prelude.{refl}
use Rattle.std.proofs.Common.{ap, subst, sym}
use Rattle.wire.specs.Table.{stamped}
use Rattle.entry_answer.specs.Told as told
use Rattle.entry_answer.specs.Told.{value_told, skipped_told}
use Rattle.entry_key.specs.Keys.{key_at_front, key_at_end}
use Rattle.entry_field.specs.Fields.{decode_value, skip_field}
use Rattle.sounding.specs.Told as soundings
use Rattle.sounding.specs.Words.{outcome, read_sounding}
use Rattle.c_words.specs.Words.{Lent, key_stored, value_typed, place_typed}
use Rattle.demands_order.specs.Calls.{five_words, four_words}
use Rattle.demands_order.specs.Order.{Ordered, Numbered}
use Rattle.demands_order.specs.Rules.{decode_varint_order, decode_varint_capped_order, decode_key_order, decode_value_order, skip_field_order, step_at_order}
use Rattle.demands_order.specs.Rules.{read_message_order, read_payload_order, pick_order, pick_at_order, pick_early_order}
use Rattle.demands_order.specs.Rules.{put_varint_order, put_key_order, key_len_order, write_order, insert_order, typed_order}
use Rattle.demands_order.specs.Entries.{decode-varint-order, decode-varint-capped-order, decode-key-order, decode-value-order, skip-field-order, step-at-order}
use Rattle.demands_order.specs.Entries.{read-message-order, pick-at-order, pick-order, pick-early-order}
use Rattle.demands_order.proofs.Entries.{read-payload-order}
use Rattle.demands_order.specs.Entries.{encode-varint-order, prepend-varint-order, encode-key-order, prepend-key-order, key-len-order}
use Rattle.demands_order.specs.Entries.{typed-told}
use Rattle.demands_order.proofs.Entries.{encode-message-order, prepend-message-order, insert-order}
use Rattle.demands_order.specs.Verdicts.{by_order}
use Rattle.demands_sounding.specs.SoundingRules.{read_sounding_order}
use Rattle.capgauze_c.proofs.capgauze_decode_varint.Kinds as decode-varint
use Rattle.capgauze_c.proofs.capgauze_decode_varint.Reads as decode-varint-reads
use Rattle.capgauze_c.proofs.capgauze_decode_varint_capped.Kinds as decode-varint-capped
use Rattle.capgauze_c.proofs.capgauze_decode_varint_capped.Reads as decode-varint-capped-reads
use Rattle.capgauze_c.proofs.capgauze_encode_varint.Kinds as encode-varint
use Rattle.capgauze_c.proofs.capgauze_encode_varint.Reads as encode-varint-reads
use Rattle.capgauze_c.proofs.capgauze_prepend_varint.Kinds as prepend-varint
use Rattle.capgauze_c.proofs.capgauze_prepend_varint.Reads as prepend-varint-reads
use Rattle.capgauze_c.proofs.capgauze_decode_key.Kinds as decode-key
use Rattle.capgauze_c.proofs.capgauze_decode_key.Reads as decode-key-reads
use Rattle.capgauze_c.proofs.capgauze_encode_key.Kinds as encode-key
use Rattle.capgauze_c.proofs.capgauze_encode_key.Reads as encode-key-reads
use Rattle.capgauze_c.proofs.capgauze_prepend_key.Kinds as prepend-key
use Rattle.capgauze_c.proofs.capgauze_prepend_key.Reads as prepend-key-reads
use Rattle.capgauze_c.proofs.capgauze_key_len.Kinds as key-len
use Rattle.capgauze_c.proofs.capgauze_key_len.Reads as key-len-reads
use Rattle.capgauze_c.proofs.capgauze_decode_value.Kinds as decode-value
use Rattle.capgauze_c.proofs.capgauze_decode_value.Reads as decode-value-reads
use Rattle.capgauze_c.proofs.capgauze_skip_field.Kinds as skip-field
use Rattle.capgauze_c.proofs.capgauze_skip_field.Reads as skip-field-reads
use Rattle.capgauze_c.proofs.capgauze_step_at.Kinds as step-at
use Rattle.capgauze_c.proofs.capgauze_step_at.Reads as step-at-reads
use Rattle.capgauze_c.proofs.capgauze_read_message.Kinds as read-message
use Rattle.capgauze_c.proofs.capgauze_read_message.Reads as read-message-reads
use Rattle.capgauze_c.proofs.capgauze_read_payload.Kinds as read-payload
use Rattle.capgauze_c.proofs.capgauze_read_payload.Reads as read-payload-reads
use Rattle.capgauze_c.proofs.capgauze_pick.Kinds as pick
use Rattle.capgauze_c.proofs.capgauze_pick.Reads as pick-reads
use Rattle.capgauze_c.proofs.capgauze_pick_at.Kinds as pick_at
use Rattle.capgauze_c.proofs.capgauze_pick_at.Reads as pick-at-reads
use Rattle.capgauze_c.proofs.capgauze_pick_early.Kinds as pick-early
use Rattle.capgauze_c.proofs.capgauze_pick_early.Reads as pick-early-reads
use Rattle.capgauze_c.proofs.capgauze_encode_message.Kinds as encode-message
use Rattle.capgauze_c.proofs.capgauze_encode_message.Reads as encode-message-reads
use Rattle.capgauze_c.proofs.capgauze_prepend_message.Kinds as prepend-message
use Rattle.capgauze_c.proofs.capgauze_prepend_message.Reads as prepend-message-reads
use Rattle.capgauze_c.proofs.capgauze_insert.Kinds as insert
use Rattle.capgauze_c.proofs.capgauze_insert.Reads as insert-reads
use Rattle.capgauze_c.proofs.capgauze_read_sounding.Kinds as read-sounding
use Rattle.capgauze_c.proofs.capgauze_read_sounding.Reads as read-sounding-reads

-- ---- varints, keys, single fields

pub c-decode-varint-number : Numbered 1 decode-varint.ps decode-varint.r decode-varint-reads.Post (λ κs x. x.number)
    (λ κs a. decode_varint_order a.0.now a.1.0)
c-decode-varint-number κs a x s p = by_order (λ w. w.number) p (decode-varint-order a.0.now a.1.0)

pub c-decode-varint-capped-number : Numbered 1 decode-varint-capped.ps decode-varint-capped.r decode-varint-capped-reads.Post (λ κs x. x.number)
    (λ κs a. decode_varint_capped_order a.0.now a.1.0 a.1.1.0)
c-decode-varint-capped-number κs a x s p = by_order (λ w. w.number) p (decode-varint-capped-order a.0.now a.1.0 a.1.1.0)

pub c-encode-varint-number : Numbered 1 encode-varint.ps encode-varint.r encode-varint-reads.Post (λ κs x. x.number)
    (λ κs a. put_varint_order a.0 a.1.0.now)
c-encode-varint-number κs a x s p = by_order (λ (o : Lent told.Number). o.told.number) p (encode-varint-order a.0 a.1.0.now)

pub c-prepend-varint-number : Numbered 1 prepend-varint.ps prepend-varint.r prepend-varint-reads.Post (λ κs x. x.number)
    (λ κs a. put_varint_order a.0 a.1.0.now)
c-prepend-varint-number κs a x s p = by_order (λ (o : Lent told.Number). o.told.number) p (prepend-varint-order a.0 a.1.0.now)

pub c-decode-key-number : Numbered 1 decode-key.ps decode-key.r decode-key-reads.Post (λ κs x. x.number)
    (λ κs a. decode_key_order a.0.now a.1.0 a.1.1.0 a.1.1.1.0)
c-decode-key-number κs a x s p = by_order (λ w. w.number) p (decode-key-order a.0.now a.1.0 a.1.1.0 a.1.1.1.0)

pub c-encode-key-number : Numbered 1 encode-key.ps encode-key.r encode-key-reads.Post (λ κs x. x.number)
    (λ κs a. typed_order a.1.1.0 (λ w. put_key_order a.0 a.1.0 w a.1.1.1.0.now))
unfolding key_stored
c-encode-key-number κs a x s p =
    let b = a.1.1.1.0.now in
    by_order (λ (o : Lent told.Number). o.told.number) p
    (typed-told (λ (o : Lent told.Number). o.told.number) (λ t. key_stored b t (key_at_front b a.0 a.1.0)) (λ w. put_key_order a.0 a.1.0 w b) refl
    (λ w. encode-key-order a.0 a.1.0 w b) a.1.1.0)

pub c-prepend-key-number : Numbered 1 prepend-key.ps prepend-key.r prepend-key-reads.Post (λ κs x. x.number)
    (λ κs a. typed_order a.1.1.0 (λ w. put_key_order a.0 a.1.0 w a.1.1.1.0.now))
unfolding key_stored
c-prepend-key-number κs a x s p =
    let b = a.1.1.1.0.now in
    by_order (λ (o : Lent told.Number). o.told.number) p
    (typed-told (λ (o : Lent told.Number). o.told.number) (λ t. key_stored b t (key_at_end b a.0 a.1.0)) (λ w. put_key_order a.0 a.1.0 w b) refl
    (λ w. prepend-key-order a.0 a.1.0 w b) a.1.1.0)

pub c-key-len-number : Numbered 0 key-len.ps key-len.r key-len-reads.Post (λ κs x. x.number) (λ κs a. key_len_order a.0 a.1.0)
c-key-len-number κs a x s p = by_order (λ w. w.number) p (key-len-order a.0 a.1.0)

pub c-decode-value-number : Numbered 1 decode-value.ps decode-value.r decode-value-reads.Post (λ κs x. x.number)
    (λ κs a. typed_order a.1.1.1.0 (decode_value_order a.0.now a.1.0 a.1.1.0))
unfolding value_typed
c-decode-value-number κs a x s p =
    let m = a.0.now in
    let at = a.1.0 in
    let e = a.1.1.0 in
    by_order (λ w. w.number) p
    (typed-told (λ (y : told.Value). y.number) (λ t. value_typed at t (λ w. value_told (decode_value m at e w))) (decode_value_order m at e) refl
    (decode-value-order m at e) a.1.1.1.0)

pub c-skip-field-number : Numbered 1 skip-field.ps skip-field.r skip-field-reads.Post (λ κs x. x.number)
    (λ κs a. typed_order a.1.1.1.0 (skip_field_order a.0.now a.1.0 a.1.1.0))
unfolding place_typed
c-skip-field-number κs a x s p =
    let m = a.0.now in
    let at = a.1.0 in
    let e = a.1.1.0 in
    by_order (λ w. w.number) p
    (typed-told (λ (y : told.Place). y.number) (λ t. place_typed at t (λ w. skipped_told (skip_field m at e w))) (skip_field_order m at e) refl
    (skip-field-order m at e) a.1.1.1.0)

pub c-step-at-number : Numbered 1 step-at.ps step-at.r step-at-reads.Post (λ κs x. x.number)
    (λ κs a. step_at_order a.0.now a.1.0 a.1.1.0 a.1.1.1.0)
c-step-at-number κs a x s p = by_order (λ w. w.number) p (step-at-order a.1.0 a.1.1.1.0 a.0.now a.1.0 a.1.1.0 a.1.1.1.0)

-- ---- messages

pub c-read-message-number : Numbered 2 read-message.ps read-message.r read-message-reads.Post (λ κs x. x.number)
    (λ κs a. read_message_order a.0.now a.1.0 a.1.1.0 a.1.1.1.0.now)
c-read-message-number κs a x s p =
    by_order (λ (o : Lent told.Message). o.told.number) p (read-message-order a.0.now a.1.0 a.1.1.0 a.1.1.1.0.now)

pub c-read-payload-number : Numbered 2 read-payload.ps read-payload.r read-payload-reads.Post (λ κs x. x.number)
    (λ κs a. read_payload_order a.0.now (five_words a.1.0 a.1.1.0 a.1.1.1.0 a.1.1.1.1.0 a.1.1.1.1.1.0)
    a.1.1.1.1.1.1.0.now)
c-read-payload-number κs a x s p =
    by_order (λ (o : Lent told.Message). o.told.number) p
    (read-payload-order a.0.now (five_words a.1.0 a.1.1.0 a.1.1.1.0 a.1.1.1.1.0 a.1.1.1.1.1.0)
    a.1.1.1.1.1.1.0.now)

pub c-pick-number : Numbered 1 pick.ps pick.r pick-reads.Post (λ κs x. x.number) (λ κs a. pick_order a.0.now a.1.0)
c-pick-number κs a x s p = by_order (λ w. w.number) p (pick-order a.0.now a.1.0)

pub c-pick-at-number : Numbered 1 pick_at.ps pick_at.r pick-at-reads.Post (λ κs x. x.number) (λ κs a. pick_at_order a.0.now)
c-pick-at-number κs a x s p = by_order (λ w. w.number) p (pick-at-order a.0.now a.1.0 a.1.1.0)

pub c-pick-early-number : Numbered 1 pick-early.ps pick-early.r pick-early-reads.Post (λ κs x. x.number) (λ κs a. pick_early_order a.0.now a.1.0)
c-pick-early-number κs a x s p = by_order (λ w. w.number) p (pick-early-order a.0.now a.1.0)

-- ---- records written, inserted

pub c-encode-message-number : Numbered 3 encode-message.ps encode-message.r encode-message-reads.Post (λ κs x. x.number)
    (λ κs a. write_order a.0.now a.1.0.now a.1.1.0 a.1.1.1.0.now)
c-encode-message-number κs a x s p =
    by_order (λ (o : Lent told.Wrote). o.told.number) p (encode-message-order a.0.now a.1.0.now a.1.1.0 a.1.1.1.0.now)

pub c-prepend-message-number : Numbered 3 prepend-message.ps prepend-message.r prepend-message-reads.Post (λ κs x. x.number)
    (λ κs a. write_order a.0.now a.1.0.now a.1.1.0 a.1.1.1.0.now)
c-prepend-message-number κs a x s p =
    by_order (λ (o : Lent told.Wrote). o.told.number) p (prepend-message-order a.0.now a.1.0.now a.1.1.0 a.1.1.1.0.now)

pub c-insert-number : Numbered 2 insert.ps insert.r insert-reads.Post (λ κs x. x.number)
    (λ κs a. insert_order a.0.now a.1.0.now a.1.1.0
    (stamped (four_words a.1.1.1.0 a.1.1.1.1.0 a.1.1.1.1.1.0 a.1.1.1.1.1.1.0)))
c-insert-number κs a x s p =
    by_order (λ (o : Lent told.Number). o.told.number) p
    (insert-order a.0.now a.1.0.now a.1.1.0
    (stamped (four_words a.1.1.1.0 a.1.1.1.1.0 a.1.1.1.1.1.0 a.1.1.1.1.1.1.0)))

-- ---- soundings: as the entry's outcome that leaves the same levels
