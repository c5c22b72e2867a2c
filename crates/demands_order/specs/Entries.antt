-- What the definition of each entry answers has the number that its order tells. One lemma for every reader, `order-r`, and one for every test of records,
-- `order-t`; each entry then takes a line or two. The entries' outcomes are in Verdicts, those of the exports to C in VerdictsC.
use Rattle.std.specs.Prelude.{ℕ, zero, suc, ◌+◌, ◌-◌, ◌≤◌, ◌<◌, ◌≡◌, Bool, List, [], ◌∷◌, ◌++◌, ltb, length, drop}
use Rattle.std.proofs.Math.Path.{refl, sym}
use Rattle.std.proofs.Common.{ap, ◌∙◌, arith, lt-ltb, le-ltb, ltb-true, ltb-false, eqb-true}
use Rattle.std.proofs.Math.Bool.{true, false}
use Rattle.std.proofs.lemmas.Bool.{eqb-false}
use Rattle.std.proofs.Math.Dec.{leb, eqb}
use Rattle.wire.specs.Faults.{nowhere}
use Rattle.wire.specs.Choose.{choose}
use Rattle.wire.specs.Limits.{message_limit}
use Rattle.wire.specs.Marks.{marks}
use Rattle.wire.specs.Numbers.{number_of}
use Rattle.wire.specs.Varint.{encode}
use Rattle.wire.specs.Reading.{varint_at, capped_at, key_at, value_at, step_at, wire_of, Message, Fields, read_message}
use Rattle.wire.specs.Reading as reading
use Rattle.wire.specs.Skipping.{skip_at}
use Rattle.wire.specs.Table.{room, good}
use Rattle.write_record.specs.Records.{Verdict, AllFine, First, checked}
use Rattle.write_record.specs.Records as records
use Rattle.write_message.specs.Writing.{passed, plan, Writing, into, front, back}
use Rattle.write_insertion.specs.Insertion.{aimed, aim, inserts}
use Rattle.wire.specs.declared.Refusal.{Refusal}
use Rattle.wire.specs.declared.Refusal.TheVariants.{Truncated, TooLong, NoRoom, BadRecord, OutOfOrder, Repeated}
use Rattle.wire.specs.declared.Record.{Record}
use Rattle.wire.specs.declared.Field.{Field}
use Rattle.wire.specs.declared.Early.TheVariants as early_as
use Rattle.wire.specs.declared.Read.{Read}
use Rattle.wire.specs.declared.Read.TheVariants as read
use Rattle.wire.specs.declared.WireType.{WireType}
use Rattle.wire.specs.declared.VarintFound.{VarintFound}
use Rattle.wire.specs.declared.VarintFound.TheVariants as varint_found
use Rattle.wire.specs.declared.KeyFound.{KeyFound}
use Rattle.wire.specs.declared.KeyFound.TheVariants as key_found
use Rattle.wire.specs.declared.ValueFound.{ValueFound}
use Rattle.wire.specs.declared.ValueFound.TheVariants as value_found
use Rattle.wire.specs.declared.Stepped.{Stepped}
use Rattle.wire.specs.declared.Stepped.TheVariants as stepped
use Rattle.wire.specs.declared.Reached.{Reached}
use Rattle.wire.specs.declared.Reached.TheVariants as reached
use Rattle.fault.specs.Fault.{message_fault}
use Rattle.message_table.specs.Into.{Outcome, outcome, landed, read_into}
use Rattle.message_payload.specs.Payload.{payload}
use Rattle.message.specs.Tags.{of_tag, at_number, sought}
use Rattle.message.specs.Tags as tags
use Rattle.message_early.specs.Early.{Stop, Ends, Above, stop, only, early_of}
use Rattle.message_early.specs.Early as early
use Rattle.entry_answer.specs.Gate.{gated, through}
use Rattle.entry_varint.specs.Varints.{varint_read, decode_varint, decode_varint_capped}
use Rattle.entry_key.specs.Keys.{key_answer, decode_key, key_bytes, key_at_front, key_at_end, key_len}
use Rattle.entry_field.specs.Fields.{value_answer, decode_value, skip_answer, skip_field, step_answer, step_entry}
use Rattle.entry_answer.specs.Stores.{Stored, room_for, at_front, at_end}
use Rattle.entry_field.specs.Test.{more_of, more_entry}
use Rattle.entry_message.specs.Messages.{read_entry, read_payload, picked_of, picked, pick_entry, several_of, several_entry, early_entry}
use Rattle.entry_reader.specs.Counting.{counted, count_entry, counted_told}
use Rattle.entry_reader.specs.declared.Counted.TheVariants as counted_as
use Rattle.entry_copy.specs.Copy.{copied_by, copied, copied_told}
use Rattle.entry_write.specs.Writers.{encode_message, prepend_message}
use Rattle.entry_answer.specs.Told.{put_told, varint_told, more_told, key_len_told, key_told, value_told, skipped_told, step_told, read_told, picked_told, several_told}
use Rattle.entry_answer.specs.Told.{early_told, written_told, inserted_told}
use Rattle.entry_answer.specs.declared.VarintRead.TheVariants as varint_answer
use Rattle.entry_answer.specs.declared.KeyRead.TheVariants as key_read
use Rattle.entry_answer.specs.declared.ValueRead.TheVariants as value_read
use Rattle.entry_answer.specs.declared.Skipped.TheVariants as skipped
use Rattle.entry_answer.specs.declared.Step.TheVariants as step
use Rattle.entry_answer.specs.declared.More.TheVariants as more
use Rattle.entry_answer.specs.declared.KeyLength.{KeyLength}
use Rattle.entry_answer.specs.declared.Picked.TheVariants as picked_as
use Rattle.entry_answer.specs.declared.Several.TheVariants as several_as
use Rattle.c_words.specs.Words.{typed_of, typed-above}
use Rattle.c_words.specs.declared.Typed.{Typed}
use Rattle.c_words.specs.declared.Typed.TheVariants.{Is, Unknown}
use Rattle.demands_order.specs.Order.{Rule, when, first_of, or_else, refused-first}
use Rattle.demands_order.specs.Rules.{order_r, varint_rules, capped_rules, key_rules, value_rules, step_rules, skip_rules, message_rules, table_rules, room_rules}
use Rattle.demands_order.specs.Rules.{output_rule, new_rules}
use Rattle.demands_order.specs.Rules.{decode_varint_order, decode_varint_capped_order, decode_key_order, decode_value_order, skip_field_order, step_at_order, more_at_order}
use Rattle.demands_order.specs.Rules.{read_message_order, read_payload_order, count_fields_order, copy_message_order, fields_in, early_rules, early_read, repeated_rules}
use Rattle.demands_order.specs.Rules.{pick_order, pick_at_order, pick_early_order}
use Rattle.demands_order.specs.Rules.{put_varint_order, put_key_order, key_len_order, write_order, insert_order, typed_order}
use Rattle.demands_order.specs.RulesLaws.{above, behind, varint_number, key_number, value_number, step_number, message_number, reached_number, verdict_number}
use Rattle.demands_order.specs.RulesLaws.{varint-told, capped-told, key-told, value-told, step-told, message-told, fields_read_lem, stop_number, Seen, stop-told}
use Rattle.demands_order.specs.RulesLaws.{stop-seen, skip-told}

-- ---- ORDER R, of every reader: the gate, then what is met

module _ {A : Type 0} (number : A → ℕ) (refused : Refusal → A) (told : (r : Refusal) → number (refused r) ≡ number_of r) where
  pub order-r : (s : List ℕ) (at e : ℕ) (found : A) (met : List Rule) → number found ≡ first_of met
      → number (through (gated (length s) at e) refused found) ≡ first_of (order_r s at e met)
  unfolding gated
  order-r s at e found met h = go (leb (length s) message_limit) refl (leb at (length s)) refl (leb e (length s)) refl
    where
      go : (a : Bool) → leb (length s) message_limit ≡ a → (b : Bool) → leb at (length s) ≡ b → (c : Bool) → leb e (length s) ≡ c
          → number (through (gated (length s) at e) refused found) ≡ first_of (order_r s at e met)
      go false a b x c y = rw (above (length s) message_limit, a) (told TooLong)
      go true a false b c y = rw (above (length s) message_limit, above at (length s), a, b) (told _)
      go true a true b false c = rw (above (length s) message_limit, above at (length s), above e (length s), a, b, c) (told _)
      go true a true b true c = rw (above (length s) message_limit, above at (length s), above e (length s), a, b, c) h

-- ---- the readers

varint-number : (s : List ℕ) (at : ℕ) (x : VarintFound) → (varint_told (varint_read s at x)).number ≡ varint_number x
varint-number s at (varint_found.Got v q) = refl
varint-number s at (varint_found.Refused r) = refl

pub decode-varint-order : (s : List ℕ) (at : ℕ) → (varint_told (decode_varint s at)).number ≡ first_of (decode_varint_order s at)
unfolding decode_varint
decode-varint-order s at =
    order-r (λ y. (varint_told y).number) (λ r. varint_answer.Refused r at 0) (λ r. refl) s at (length s) _ (varint_rules s at)
    (varint-number s at (varint_at s at) ∙ varint-told s at)

pub decode-varint-capped-order : (s : List ℕ) (at e : ℕ) → (varint_told (decode_varint_capped s at e)).number ≡ first_of (decode_varint_capped_order s at e)
unfolding decode_varint_capped
decode-varint-capped-order s at e =
    order-r (λ y. (varint_told y).number) (λ r. varint_answer.Refused r at 0) (λ r. refl) s at e _ (capped_rules s e at)
    (varint-number s at (capped_at s e at) ∙ capped-told s e at)

key-number : (s : List ℕ) (at last : ℕ) (x : KeyFound) → (key_told (key_answer s at last x)).number ≡ key_number x
key-number s at last (key_found.Got k q) = refl
key-number s at last (key_found.Refused r) = refl

pub decode-key-order : (s : List ℕ) (at e last : ℕ) → (key_told (decode_key s at e last)).number ≡ first_of (decode_key_order s at e last)
unfolding decode_key
decode-key-order s at e last =
    order-r (λ y. (key_told y).number) (λ r. key_read.Refused r at last nowhere) (λ r. refl) s at e _ (key_rules s e at last)
    (key-number s at last (key_at s e at last) ∙ key-told s e at last)

value-number : (s : List ℕ) (at : ℕ) (w : WireType) (x : ValueFound) → (value_told (value_answer s at w x)).number ≡ value_number x
value-number s at w (value_found.Got v q) = refl
value-number s at w (value_found.Refused r) = refl

pub decode-value-order : (s : List ℕ) (at e : ℕ) (w : WireType) → (value_told (decode_value s at e w)).number ≡ first_of (decode_value_order s at e w)
unfolding decode_value
decode-value-order s at e w =
    order-r (λ y. (value_told y).number) (λ r. value_read.Refused r at nowhere) (λ r. refl) s at e _ (value_rules s e at w)
    (value-number s at w (value_at s e at w) ∙ value-told s e at w)

skip-number : (at : ℕ) (x : Reached) → (skipped_told (skip_answer at x)).number ≡ reached_number x
skip-number at (reached.To q) = refl
skip-number at (reached.Refused r f) = refl

pub skip-field-order : (s : List ℕ) (at e : ℕ) (w : WireType) → (skipped_told (skip_field s at e w)).number ≡ first_of (skip_field_order s at e w)
unfolding skip_field skip_at
skip-field-order s at e w =
    order-r (λ y. (skipped_told y).number) (λ r. skipped.Refused r at nowhere) (λ r. refl) s at e _ (skip_rules (length s - at) s e at w)
    (skip-number at (skip_at s e at w) ∙ skip-told (length s - at) s e at w)

-- whatever place and tag an end is told with
step-number : (p l : ℕ) (s : List ℕ) (at e last : ℕ) (x : Stepped) → (step_told p l (step_answer s at e last x)).number ≡ step_number x
step-number p l s at e last (stepped.Field f q) = refl
step-number p l s at e last stepped.End = refl
step-number p l s at e last (stepped.Refused r) = refl

pub step-at-order : (p l : ℕ) (s : List ℕ) (at e last : ℕ) → (step_told p l (step_entry s at e last)).number ≡ first_of (step_at_order s at e last)
unfolding step_entry
step-at-order p l s at e last =
    order-r (λ y. (step_told p l y).number) (λ r. step.Refused r at last nowhere) (λ r. refl) s at e _ (step_rules s e at last)
    (step-number p l s at e last (step_at s e at last) ∙ step-told s e at last)

more-told : (at e : ℕ) → (more_told (more_of at e)).number ≡ first_of (when (ltb e at) Truncated ∷ [])
unfolding more_of
more-told at e = go (ltb at e) refl (eqb at e) refl
  where
    go : (a : Bool) → ltb at e ≡ a → (b : Bool) → eqb at e ≡ b → (more_told (more_of at e)).number ≡ first_of (when (ltb e at) Truncated ∷ [])
    go true a b h = rw (a, le-ltb e at (omega (arith, ltb-true at e a)))
    go false a true b = rw (a, b, le-ltb e at (omega (arith, eqb-true at e b)))
    go false a false b = rw (a, b, lt-ltb e at (past (ltb e at) refl))
      where
        past : (c : Bool) → ltb e at ≡ c → e < at
        past true c = ltb-true e at c
        past false c = absurd (eqb-false at e b (omega (arith, ltb-false at e a, ltb-false e at c)))

pub more-at-order : (s : List ℕ) (at e : ℕ) → (more_told (more_entry s at e)).number ≡ first_of (more_at_order s at e)
unfolding more_entry
more-at-order s at e = order-r (λ y. (more_told y).number) more.Refused (λ r. refl) s at e (more_of at e) (when (ltb e at) Truncated ∷ []) (more-told at e)

-- ---- messages

into-told : (s : List ℕ) (a e : ℕ) (t : List ℕ) → (read_told (read_into s a e t).answer).number ≡ first_of (message_rules s a e ++ table_rules s a e t)
unfolding read_into read_message
into-told s a e t = go (read_message s a e) refl ∙ behind (message_rules s a e) (table_rules s a e t) (message-told s a e) refl
  where
    go : (m : Message) → read_message s a e ≡ m
        → (read_told (landed e (message_fault s a e) t (marks s a e) m).answer).number ≡ or_else (message_number m) (first_of (table_rules s a e t))
    go (reading.Refused r p) h = sym (refused-first r _)
    go (Fields fs) h = rw (fields_read_lem (e - a) s e a a 0 fs h) (fits (leb (length fs) (room t)) refl)
      where
        fits : (b : Bool) → leb (length fs) (room t) ≡ b → (read_told (landed e (message_fault s a e) t (marks s a e) (Fields fs)).answer).number
            ≡ first_of (when (ltb (room t) (length fs)) NoRoom ∷ [])
        fits true b = rw (above (length fs) (room t), b)
        fits false b = rw (above (length fs) (room t), b)

pub read-message-order : (s : List ℕ) (a e : ℕ) (t : List ℕ) → (read_told (read_entry s a e t).answer).number ≡ first_of (read_message_order s a e t)
unfolding read_entry
read-message-order s a e t =
    order-r (λ (o : Outcome). (read_told o.answer).number) (λ r. outcome (read.Refused r 0 0 nowhere) t) (λ r. refl) s a e (read_into s a e t)
    (message_rules s a e ++ table_rules s a e t) (into-told s a e t)

counted-number : (m : Message) → (counted_told (counted m)).number ≡ message_number m
counted-number (Fields fs) = refl
counted-number (reading.Refused r p) = refl

pub count-fields-order : (s : List ℕ) (a e : ℕ) → (counted_told (count_entry s a e)).number ≡ first_of (count_fields_order s a e)
unfolding count_entry
count-fields-order s a e =
    order-r (λ y. (counted_told y).number) counted_as.Refused (λ r. refl) s a e _ (message_rules s a e) (counted-number (read_message s a e) ∙ message-told s a e)

several-told : (tag k : ℕ) (m : Message) → (several_told (several_of (sought tag k m))).number ≡ message_number m
unfolding at_number
several-told tag k (reading.Refused r p) = refl
several-told tag k (Fields fs) = go (drop k (of_tag tag fs))
  where
    go : (gs : List Field) → (several_told (several_of (tags.first_of (length (of_tag tag fs)) gs))).number ≡ 0
    go [] = refl
    go (g ∷ gs) = refl

pub pick-at-order : (s : List ℕ) (tag k : ℕ) → (several_told (several_entry s tag k)).number ≡ first_of (pick_at_order s)
unfolding several_entry
pick-at-order s tag k =
    let o = read_message s 0 (length s) in
    order-r (λ y. (several_told y).number) several_as.Refused (λ r. refl) s 0 (length s) _ (message_rules s 0 (length s))
    (several-told tag k o ∙ message-told s 0 (length s))

picked-told : (s : List ℕ) (tag : ℕ) → (picked_told (picked tag (read_message s 0 (length s)))).number
    ≡ first_of (message_rules s 0 (length s) ++ repeated_rules tag (fields_in s 0 (length s)))
unfolding read_message
picked-told s tag = go (read_message s 0 (length s)) refl
    ∙ behind (message_rules s 0 (length s)) (repeated_rules tag (fields_in s 0 (length s))) (message-told s 0 (length s)) refl
  where
    only : (gs : List Field) → (picked_told (picked_of gs)).number ≡ first_of (when (ltb 1 (length gs)) Repeated ∷ [])
    only [] = refl
    only (f ∷ []) = refl
    only (f ∷ g ∷ gs) = rw (lt-ltb 1 (length (f ∷ g ∷ gs)) (omega arith))

    go : (m : Message) → read_message s 0 (length s) ≡ m
        → (picked_told (picked tag m)).number ≡ or_else (message_number m) (first_of (repeated_rules tag (fields_in s 0 (length s))))
    go (reading.Refused r p) h = sym (refused-first r _)
    go (Fields fs) h = rw (fields_read_lem (length s - 0) s (length s) 0 0 0 fs h) (only (of_tag tag fs))

pub pick-order : (s : List ℕ) (tag : ℕ) → (picked_told (pick_entry s tag)).number ≡ first_of (pick_order s tag)
unfolding pick_entry
pick-order s tag =
    let met = message_rules s 0 (length s) ++ repeated_rules tag (fields_in s 0 (length s)) in
    order-r (λ y. (picked_told y).number) picked_as.Refused (λ r. refl) s 0 (length s) _ met (picked-told s tag)

early-told : (tag : ℕ) (x : Stop) (gs : List Field) → Seen x gs → (early_told (early_of tag x)).number ≡ or_else (stop_number x) (first_of (repeated_rules tag gs))
unfolding early_of
early-told tag x gs h = go x h
  where
    one : (n : ℕ) (fs : List Field) → (early_told (only n fs)).number ≡ first_of (when (ltb 1 (length fs)) Repeated ∷ [])
    one n [] = refl
    one n (f ∷ []) = refl
    one n (f ∷ g ∷ fs) = rw (lt-ltb 1 (length (f ∷ g ∷ fs)) (omega arith))

    go : (x : Stop) → Seen x gs → (early_told (early_of tag x)).number ≡ or_else (stop_number x) (first_of (repeated_rules tag gs))
    go (Ends fs) h = one (length fs) (of_tag tag fs) ∙ ap (λ (l : List Field). first_of (repeated_rules tag l)) (sym h)
    go (Above fs p) h = one (length fs + 1) (of_tag tag fs) ∙ ap (λ (l : List Field). first_of (repeated_rules tag l)) (sym h)
    go (early.Refused r) h = sym (refused-first r _)

pub pick-early-order : (s : List ℕ) (tag : ℕ) → (early_told (early_entry s tag)).number ≡ first_of (pick_early_order s tag)
unfolding early_entry stop
pick-early-order s tag =
    let rules = early_rules (length s) tag s 0 0 in
    let seen = early_read (length s) tag s 0 0 in
    order-r (λ y. (early_told y).number) early_as.Refused (λ r. refl) s 0 (length s) (early_of tag (stop tag s)) (rules ++ repeated_rules tag seen)
    (early-told tag (stop tag s) seen (stop-seen (length s) tag s 0 0) ∙ behind rules (repeated_rules tag seen) (stop-told (length s) tag s 0 0) refl)

-- ---- bytes put

abbrev pub stored_number : Stored → ℕ
stored_number o = (put_told o.answer).number

room-told : (b xs c : List ℕ) → stored_number (room_for b xs c) ≡ first_of (room_rules b xs)
room-told b xs c = go (leb (length xs) (length b)) refl
  where
    go : (t : Bool) → leb (length xs) (length b) ≡ t → stored_number (room_for b xs c) ≡ first_of (room_rules b xs)
    go true t = rw (above (length xs) (length b), t)
    go false t = rw (above (length xs) (length b), t)

pub encode-varint-order : (v : ℕ) (b : List ℕ) → stored_number (at_front b (encode v)) ≡ first_of (put_varint_order v b)
unfolding at_front
encode-varint-order v b = room-told b (encode v) _

pub prepend-varint-order : (v : ℕ) (b : List ℕ) → stored_number (at_end b (encode v)) ≡ first_of (put_varint_order v b)
unfolding at_end
prepend-varint-order v b = room-told b (encode v) _

-- a tag that falls, then what follows
falls-told : {A : Type 0} (number : A → ℕ) (last tag : ℕ) (x y : A) (rest : List Rule) → number x ≡ first_of rest → number y ≡ number_of OutOfOrder
    → number (choose (leb last tag) x y) ≡ first_of (when (ltb tag last) OutOfOrder ∷ rest)
falls-told number last tag x y rest h g = go (leb last tag) refl
  where
    go : (t : Bool) → leb last tag ≡ t → number (choose (leb last tag) x y) ≡ first_of (when (ltb tag last) OutOfOrder ∷ rest)
    go true t = rw (above last tag, t) h
    go false t = rw (above last tag, t) g

pub encode-key-order : (last tag : ℕ) (w : WireType) (b : List ℕ) → stored_number (key_at_front b last tag w) ≡ first_of (put_key_order last tag w b)
unfolding key_at_front at_front
encode-key-order last tag w b = let k = key_bytes last tag w in falls-told stored_number last tag (at_front b k) _ (room_rules b k) (room-told b k _) refl

pub prepend-key-order : (last tag : ℕ) (w : WireType) (b : List ℕ) → stored_number (key_at_end b last tag w) ≡ first_of (put_key_order last tag w b)
unfolding key_at_end at_end
prepend-key-order last tag w b = let k = key_bytes last tag w in falls-told stored_number last tag (at_end b k) _ (room_rules b k) (room-told b k _) refl

pub key-len-order : (last tag : ℕ) → (key_len_told (key_len last tag)).number ≡ first_of (key_len_order last tag)
unfolding key_len
key-len-order last tag = falls-told (λ (y : KeyLength). (key_len_told y).number) last tag _ _ [] refl refl

-- ---- a message copied

-- ---- ORDER T

-- ---- for C

-- a wire type as a number: 6 above 3, else the order with that type
pub typed-told : {A : Type 0} (number : A → ℕ) (by : Typed → A) (rules : WireType → List Rule) → number (by Unknown) ≡ number_of BadRecord
    → ((w : WireType) → number (by (Is w)) ≡ first_of (rules w)) → (kind : ℕ) → number (by (typed_of kind)) ≡ first_of (typed_order kind rules)
unfolding typed_of
typed-told number by rules u h kind = go (ltb 3 kind) refl
  where
    known : (n : ℕ) → n ≤ 3 → typed_of n ≡ Is (wire_of n)
    known zero g = refl
    known (suc zero) g = refl
    known (suc (suc zero)) g = refl
    known (suc (suc (suc zero))) g = refl
    known (suc (suc (suc (suc n)))) g = absurd (omega arith)

    go : (t : Bool) → ltb 3 kind ≡ t → number (by (typed_of kind)) ≡ first_of (typed_order kind rules)
    go true t = rw t (ap (λ (x : Typed). number (by x)) (typed-above kind (omega (arith, ltb-true 3 kind t))) ∙ u)
    go false t = rw t (ap (λ (x : Typed). number (by x)) (known kind (omega (arith, ltb-false 3 kind t))) ∙ h (wire_of kind))
