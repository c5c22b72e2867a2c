-- What the definition of each entry answers has the number that its order tells. One lemma for every reader, `order-r`, and one for every test of records,
-- `order-t`; each entry then takes a line or two. The entries' outcomes are in Verdicts, those of the exports to C in VerdictsC.
use Rattle.std.specs.Prelude.{ℕ, zero, suc, ◌+◌, ◌-◌, ◌≤◌, ◌<◌, ◌≡◌, Bool, List, [], ◌∷◌, ◌++◌, ltb, length, drop}
use Rattle.std.proofs.Math.Path.{refl, sym}
use Rattle.std.proofs.Common.{ap, ◌∙◌, arith, lt-ltb, le-ltb, ltb-true, ltb-false, eqb-true}
use Rattle.std.proofs.Math.Bool.{true, false}
use Rattle.std.proofs.lemmas.Bool.{eqb-false}
use Rattle.std.proofs.Math.Dec.{leb, eqb}
use Rattle.wire.specs.Faults.{nowhere}
use Rattle.wire.specs.Choose.{choose}
use Rattle.wire.specs.Limits.{message_limit}
use Rattle.wire.specs.Marks.{marks}
use Rattle.wire.specs.Numbers.{number_of}
use Rattle.wire.specs.Varint.{encode}
use Rattle.wire.specs.Reading.{varint_at, capped_at, key_at, value_at, step_at, wire_of, Message, Fields, read_message}
use Rattle.wire.specs.Reading as reading
use Rattle.wire.specs.Skipping.{skip_at}
use Rattle.wire.specs.Table.{room, good}
use Rattle.write_record.specs.Records.{Verdict, AllFine, First, checked}
use Rattle.write_record.specs.Records as records
use Rattle.write_message.specs.Writing.{passed, plan, Writing, into, front, back}
use Rattle.write_insertion.specs.Insertion.{aimed, aim, inserts}
use Rattle.wire.specs.declared.Refusal.{Refusal}
use Rattle.wire.specs.declared.Refusal.TheVariants.{Truncated, TooLong, NoRoom, BadRecord, OutOfOrder, Repeated}
use Rattle.wire.specs.declared.Record.{Record}
use Rattle.wire.specs.declared.Field.{Field}
use Rattle.wire.specs.declared.Early.TheVariants as early_as
use Rattle.wire.specs.declared.Read.{Read}
use Rattle.wire.specs.declared.Read.TheVariants as read
use Rattle.wire.specs.declared.WireType.{WireType}
use Rattle.wire.specs.declared.VarintFound.{VarintFound}
use Rattle.wire.specs.declared.VarintFound.TheVariants as varint_found
use Rattle.wire.specs.declared.KeyFound.{KeyFound}
use Rattle.wire.specs.declared.KeyFound.TheVariants as key_found
use Rattle.wire.specs.declared.ValueFound.{ValueFound}
use Rattle.wire.specs.declared.ValueFound.TheVariants as value_found
use Rattle.wire.specs.declared.Stepped.{Stepped}
use Rattle.wire.specs.declared.Stepped.TheVariants as stepped
use Rattle.wire.specs.declared.Reached.{Reached}
use Rattle.wire.specs.declared.Reached.TheVariants as reached
use Rattle.fault.specs.Fault.{message_fault}
use Rattle.message_table.specs.Into.{Outcome, outcome, landed, read_into}
use Rattle.message_payload.specs.Payload.{payload}
use Rattle.message.specs.Tags.{of_tag, at_number, sought}
use Rattle.message.specs.Tags as tags
use Rattle.message_early.specs.Early.{Stop, Ends, Above, stop, only, early_of}
use Rattle.message_early.specs.Early as early
use Rattle.entry_answer.specs.Gate.{gated, through}
use Rattle.entry_varint.specs.Varints.{varint_read, decode_varint, decode_varint_capped}
use Rattle.entry_key.specs.Keys.{key_answer, decode_key, key_bytes, key_at_front, key_at_end, key_len}
use Rattle.entry_field.specs.Fields.{value_answer, decode_value, skip_answer, skip_field, step_answer, step_entry}
use Rattle.entry_answer.specs.Stores.{Stored, room_for, at_front, at_end}
use Rattle.entry_field.specs.Test.{more_of, more_entry}
use Rattle.entry_message.specs.Messages.{read_entry, read_payload, picked_of, picked, pick_entry, several_of, several_entry, early_entry}
use Rattle.entry_reader.specs.Counting.{counted, count_entry, counted_told}
use Rattle.entry_reader.specs.declared.Counted.TheVariants as counted_as
use Rattle.entry_copy.specs.Copy.{copied_by, copied, copied_told}
use Rattle.entry_write.specs.Writers.{encode_message, prepend_message}
use Rattle.entry_answer.specs.Told.{put_told, varint_told, more_told, key_len_told, key_told, value_told, skipped_told, step_told, read_told, picked_told, several_told}
use Rattle.entry_answer.specs.Told.{early_told, written_told, inserted_told}
use Rattle.entry_answer.specs.declared.VarintRead.TheVariants as varint_answer
use Rattle.entry_answer.specs.declared.KeyRead.TheVariants as key_read
use Rattle.entry_answer.specs.declared.ValueRead.TheVariants as value_read
use Rattle.entry_answer.specs.declared.Skipped.TheVariants as skipped
use Rattle.entry_answer.specs.declared.Step.TheVariants as step
use Rattle.entry_answer.specs.declared.More.TheVariants as more
use Rattle.entry_answer.specs.declared.KeyLength.{KeyLength}
use Rattle.entry_answer.specs.declared.Picked.TheVariants as picked_as
use Rattle.entry_answer.specs.declared.Several.TheVariants as several_as
use Rattle.c_words.specs.Words.{typed_of, typed-above}
use Rattle.c_words.specs.declared.Typed.{Typed}
use Rattle.c_words.specs.declared.Typed.TheVariants.{Is, Unknown}
use Rattle.demands_order.specs.Order.{Rule, when, first_of, or_else, refused-first}
use Rattle.demands_order.specs.Rules.{order_r, varint_rules, capped_rules, key_rules, value_rules, step_rules, skip_rules, message_rules, table_rules, room_rules}
use Rattle.demands_order.specs.Rules.{output_rule, new_rules}
use Rattle.demands_order.specs.Rules.{decode_varint_order, decode_varint_capped_order, decode_key_order, decode_value_order, skip_field_order, step_at_order, more_at_order}
use Rattle.demands_order.specs.Rules.{read_message_order, read_payload_order, count_fields_order, copy_message_order, fields_in, early_rules, early_read, repeated_rules}
use Rattle.demands_order.specs.Rules.{pick_order, pick_at_order, pick_early_order}
use Rattle.demands_order.specs.Rules.{put_varint_order, put_key_order, key_len_order, write_order, insert_order, typed_order}
use Rattle.demands_order.specs.RulesLaws.{above, behind, varint_number, key_number, value_number, step_number, message_number, reached_number, verdict_number}
use Rattle.demands_order.specs.RulesLaws.{varint-told, capped-told, key-told, value-told, step-told, message-told, fields_read_lem, stop_number, Seen, stop-told}
use Rattle.demands_order.specs.RulesLaws.{stop-seen, skip-told}
use Rattle.demands_order.proofs.RulesLaws.{order-t}
use Rattle.demands_order.specs.Entries.{read-message-order}

pub read-payload-order : (m : List ℕ) (r : Record) (t : List ℕ) → (read_told (read_payload m r t).answer).number ≡ first_of (read_payload_order m r t)
unfolding read_payload
read-payload-order m r t = let p = payload m r in read-message-order p 0 (length p) t

pub copy-message-order : (s t f b : List ℕ) → (copied_told (copied s t f b).answer).number ≡ first_of (copy_message_order s t f b)
unfolding copied
copy-message-order s t f b =
    go (read_entry s 0 (length s) t).answer refl
    ∙ behind (read_message_order s 0 (length s) t) (room_rules f s ++ room_rules b s) (read-message-order s 0 (length s) t) refl
  where
    go : (x : Read) → (read_entry s 0 (length s) t).answer ≡ x
        → (copied_told (copied_by s t f b x (read_entry s 0 (length s) t).table).answer).number
        ≡ or_else (read_told x).number (first_of (room_rules f s ++ room_rules b s))
    go (read.Refused r p n x) e = sym (refused-first r _)
    go (read.Accepted i n) e = fits (leb (length s) (length f)) refl (leb (length s) (length b)) refl
      where
        fits : (x : Bool) → leb (length s) (length f) ≡ x → (y : Bool) → leb (length s) (length b) ≡ y
            → (copied_told (copied_by s t f b (read.Accepted i n) (read_entry s 0 (length s) t).table).answer).number ≡ first_of (room_rules f s ++ room_rules b s)
        fits true x true y = rw (above (length s) (length f), above (length s) (length b), x, y)
        fits true x false y = rw (above (length s) (length f), above (length s) (length b), x, y)
        fits false x y z = rw (above (length s) (length f), x)

module _ (s t : List ℕ) (c : ℕ) where
  -- what is to be written
  abbrev bytes : List ℕ
  bytes = records.message s t c

  module _ (b : List ℕ) (done : List ℕ → Writing) (sure : (bs : List ℕ) → (written_told (done bs).answer).number ≡ 0) where
    write-told : (written_told (into b (plan message_limit s t c) done).answer).number ≡ first_of (write_order s t c b)
    unfolding plan
    write-told = go (checked message_limit s t c) ∙ order-t s t c _ (output_rule s t c ∷ room_rules b bytes) refl
      where
        go : (v : Verdict) → (written_told (into b (passed message_limit bytes v) done).answer).number
            ≡ or_else (verdict_number v) (first_of (output_rule s t c ∷ room_rules b bytes))
        go (First r i) = sym (refused-first r _)
        go AllFine = short (leb (length bytes) message_limit) refl (leb (length bytes) (length b)) refl
          where
            short : (x : Bool) → leb (length bytes) message_limit ≡ x → (y : Bool) → leb (length bytes) (length b) ≡ y
                → (written_told (into b (passed message_limit bytes AllFine) done).answer).number ≡ first_of (output_rule s t c ∷ room_rules b bytes)
            short true x true y = rw (above (length bytes) message_limit, above (length bytes) (length b), x, y) (sure bytes)
            short true x false y = rw (above (length bytes) message_limit, above (length bytes) (length b), x, y)
            short false x y h = rw (above (length bytes) message_limit, x)

  pub insert-order : (r : Record) → (inserted_told (inserts t c r (aim message_limit s t c r)).answer).number ≡ first_of (insert_order s t c r)
  unfolding inserts aim
  insert-order r = go (checked message_limit s t c) ∙ order-t s t c _ (new_rules s t c r) refl
    where
      go : (v : Verdict) → (inserted_told (inserts t c r (aimed (length s) t c r v)).answer).number
          ≡ or_else (verdict_number v) (first_of (new_rules s t c r))
      go (First why i) = sym (refused-first why _)
      go AllFine = fits (good (length s) r) refl (eqb c (room t)) refl
        where
          fits : (x : Bool) → good (length s) r ≡ x → (y : Bool) → eqb c (room t) ≡ y
              → (inserted_told (inserts t c r (aimed (length s) t c r AllFine)).answer).number ≡ first_of (new_rules s t c r)
          fits true x true y = rw (x, y)
          fits true x false y = rw (x, y)
          fits false x y h = rw x

pub encode-message-order : (s t : List ℕ) (c : ℕ) (b : List ℕ) → (written_told (encode_message s t c b).answer).number ≡ first_of (write_order s t c b)
unfolding front
encode-message-order s t c b = write-told s t c b _ (λ bs. refl)

pub prepend-message-order : (s t : List ℕ) (c : ℕ) (b : List ℕ) → (written_told (prepend_message s t c b).answer).number ≡ first_of (write_order s t c b)
unfolding back
prepend-message-order s t c b = write-told s t c b _ (λ bs. refl)
