-- The first demand, on memory that is lent: a refusal changes nothing (rule R2), and what is accepted changes nothing outside the part that it writes (rule
-- T4). One law, and a line for every entry that is lent something to write to, and for every export to C. Over every outcome that the contracts allow.
use Rattle.std.specs.Prelude.{ℕ, ◌+◌, ◌-◌, ◌*◌, ◌≤◌, ◌<◌, ◌≡◌, Bool, List, ◌++◌, ltb, eqb, take, drop}
use Rattle.std.proofs.Math.Path.{refl}
use Rattle.std.proofs.Common.{sym, ap, ◌∙◌, subst, append_assoc, append-nil, ltb-true, ltb-false, leb-true, leb-false, length-append, length-take, length-drop, take_at, drop_at}
use Rattle.std.proofs.Math.Bool.{true, false}
use native.Mathlib.Omega.{arith}
use Rattle.std.proofs.lemmas.Bool.{eqb-false}
use Rattle.std.proofs.Math.Dec.{leb}
use Rattle.std.proofs.Math.ListN.{length}
use Rattle.std.proofs.Math.Seq.{drop-length}
use Rattle.wire.specs.Faults.{nowhere}
use Rattle.wire.specs.Limits.{message_limit, record_words}
use Rattle.wire.specs.Marks.{marks}
use Rattle.wire.proofs.Marks.{marks-count}
use Rattle.wire.specs.Varint.{encode}
use Rattle.wire.specs.Places.{part}
use Rattle.wire.specs.Reading.{Message, Fields, read_message}
use Rattle.wire.specs.Reading as reading
use Rattle.wire.specs.Table.{stamped, words, room, good, records, length-records}
use Rattle.wire.specs.declared.Read.{Read}
use Rattle.wire.specs.declared.Read.TheVariants as read
use Rattle.wire.specs.declared.Record.{Record}
use Rattle.wire.specs.declared.WireType.{WireType}
use Rattle.place.specs.Place.{length_part}
use Rattle.message_table.specs.Into.{outcome, read_into, into-refused, into-fits, into-no-room}
use Rattle.message_payload.specs.Payload.{payload}
use Rattle.write_message.specs.Writing.{Plan, Writes, Refuses, plan, Writing, into, front, back}
use Rattle.write_record.specs.Records.{Verdict, AllFine, First, checked}
use Rattle.write_message.specs.WritingLaws.{checked-fine}
use Rattle.write_insertion.specs.Insertion.{spot, aimed, aim, inserts}
use Rattle.write_insertion.specs.InsertionLaws.{spot-inside}
use Rattle.entry_answer.specs.declared.Gated.{Gated}
use Rattle.entry_answer.specs.declared.Gated.TheVariants.{Open, Shut}
use Rattle.entry_answer.specs.Gate.{gated, through}
use Rattle.entry_answer.specs.Stores.{Stored, at_front, at_end}
use Rattle.entry_answer.specs.Told as told
use Rattle.entry_answer.specs.Told.{put_told, read_told, written_told, inserted_told}
use Rattle.entry_key.specs.Keys.{key_at_front, key_at_end, key_bytes}
use Rattle.entry_message.specs.Messages.{read_entry, read_payload}
use Rattle.entry_copy.specs.Copy.{Copying, copied_by, copied, copied_told}
use Rattle.sounding.specs.Soundings.{Judgement, Good, Bad, judge, opened}
use Rattle.sounding.specs.Words.{level_size, level_room, words_of, stored, read_sounding}
use Rattle.sounding.specs.Told as soundings
use Rattle.sounding.specs.Told.{sounding_told}
use Rattle.sounding.proofs.Levels.{length-words}
use Rattle.sounding_value.specs.Values.{entered}
use Rattle.c_words.specs.Words.{Lent, as_number, as_read, as_written, as_sounding, stored_told, outcome_told, writing_told, insertion_told, levels_told, typed_of}
use Rattle.c_words.specs.Words.{key_stored}
use Rattle.c_words.specs.declared.Typed.{Typed}
use Rattle.c_words.specs.declared.Typed.TheVariants.{Is, Unknown}
use Rattle.demands_order.specs.Calls.{Every, five_words, four_words}
use Rattle.entry_varint.proofs.encode_varint.Kinds as encode-varint
use Rattle.entry_varint.proofs.encode_varint.Reads as encode-varint-reads
use Rattle.entry_varint.proofs.prepend_varint.Kinds as prepend-varint
use Rattle.entry_varint.proofs.prepend_varint.Reads as prepend-varint-reads
use Rattle.entry_key.proofs.encode_key.Kinds as encode-key
use Rattle.entry_key.proofs.encode_key.Reads as encode-key-reads
use Rattle.entry_key.proofs.prepend_key.Kinds as prepend-key
use Rattle.entry_key.proofs.prepend_key.Reads as prepend-key-reads
use Rattle.entry_message.proofs.read_message.Kinds as read-message
use Rattle.entry_message.proofs.read_message.Reads as read-message-reads
use Rattle.entry_message.proofs.read_payload.Kinds as read-payload
use Rattle.entry_message.proofs.read_payload.Reads as read-payload-reads
use Rattle.entry_write.proofs.encode_message.Kinds as encode-message
use Rattle.entry_write.proofs.encode_message.Reads as encode-message-reads
use Rattle.entry_write.proofs.prepend_message.Kinds as prepend-message
use Rattle.entry_write.proofs.prepend_message.Reads as prepend-message-reads
use Rattle.entry_write.proofs.insert.Kinds as insert
use Rattle.entry_write.proofs.insert.Reads as insert-reads
use Rattle.entry_copy.proofs.copy_message.Kinds as copy-message
use Rattle.entry_copy.proofs.copy_message.Reads as copy-message-reads
use Rattle.sounding.proofs.read_sounding.Kinds as read-sounding
use Rattle.sounding.proofs.read_sounding.Reads as read-sounding-reads
use Rattle.capgauze_c.proofs.capgauze_encode_varint.Kinds as c-encode-varint
use Rattle.capgauze_c.proofs.capgauze_encode_varint.Reads as c-encode-varint-reads
use Rattle.capgauze_c.proofs.capgauze_prepend_varint.Kinds as c-prepend-varint
use Rattle.capgauze_c.proofs.capgauze_prepend_varint.Reads as c-prepend-varint-reads
use Rattle.capgauze_c.proofs.capgauze_encode_key.Kinds as c-encode-key
use Rattle.capgauze_c.proofs.capgauze_encode_key.Reads as c-encode-key-reads
use Rattle.capgauze_c.proofs.capgauze_prepend_key.Kinds as c-prepend-key
use Rattle.capgauze_c.proofs.capgauze_prepend_key.Reads as c-prepend-key-reads
use Rattle.capgauze_c.proofs.capgauze_read_message.Kinds as c-read-message
use Rattle.capgauze_c.proofs.capgauze_read_message.Reads as c-read-message-reads
use Rattle.capgauze_c.proofs.capgauze_read_payload.Kinds as c-read-payload
use Rattle.capgauze_c.proofs.capgauze_read_payload.Reads as c-read-payload-reads
use Rattle.capgauze_c.proofs.capgauze_encode_message.Kinds as c-encode-message
use Rattle.capgauze_c.proofs.capgauze_encode_message.Reads as c-encode-message-reads
use Rattle.capgauze_c.proofs.capgauze_prepend_message.Kinds as c-prepend-message
use Rattle.capgauze_c.proofs.capgauze_prepend_message.Reads as c-prepend-message-reads
use Rattle.capgauze_c.proofs.capgauze_insert.Kinds as c-insert
use Rattle.capgauze_c.proofs.capgauze_insert.Reads as c-insert-reads
use Rattle.capgauze_c.proofs.capgauze_read_sounding.Kinds as c-read-sounding
use Rattle.capgauze_c.proofs.capgauze_read_sounding.Reads as c-read-sounding-reads

-- of a number n that is told, memory b that was lent and c that is left: a refusal leaves all as it was; what is accepted leaves all before `from` and
-- from `to` on; and the length stays
pub record Framed (n from to : ℕ) (b c : List ℕ) : Type 0 where
  pub refused : (n ≡ 0 → ⊥) → c ≡ b
  pub before : n ≡ 0 → take from c ≡ take from b
  pub behind : n ≡ 0 → drop to c ≡ drop to b
  pub same : length c ≡ length b

-- ---- of each kind of answer, the part that is written

-- bytes at a buffer's front, and at its end
abbrev pub AtFront : List ℕ → Lent told.Number → Type 0
AtFront b o = Framed o.told.number 0 o.told.value b o.lent

abbrev pub AtEnd : List ℕ → Lent told.Number → Type 0
AtEnd b o = Framed o.told.number (length b - o.told.value) (length b) b o.lent

-- so many records of a table
abbrev pub InTable : List ℕ → Lent told.Message → Type 0
InTable t o = Framed o.told.number 0 (record_words * o.told.count) t o.lent

-- a message, from its start on
abbrev pub InBuffer : List ℕ → Lent told.Wrote → Type 0
InBuffer b o = Framed o.told.number o.told.start (o.told.start + o.told.length) b o.lent

-- the records from the new one's place on, up to the new count
abbrev pub Among : List ℕ → ℕ → Record → Lent told.Number → Type 0
Among t c r o = Framed o.told.number (record_words * spot c t r.tag) (record_words * o.told.value) t o.lent

-- so many levels
abbrev pub InLevels : List ℕ → Lent soundings.Heading → Type 0
InLevels t o = Framed o.told.number 0 (level_size * o.told.levels) t o.lent

-- so many records, and the message s at the front of one buffer and at the end of another
abbrev pub InAll : List ℕ → List ℕ → List ℕ → List ℕ → Copying → Type 0
InAll s t f b o =
    let x = copied_told o.answer in
    Framed x.number 0 (record_words * x.value) t o.table
    × Framed x.number 0 (length s) f o.front
    × Framed x.number (length b - length s) (length b) b o.back

-- ---- THE LAW: what is as it was, and elements put in the place of as many

pub kept : (n from to : ℕ) (b : List ℕ) → Framed n from to b b
kept n from to b = record { refused = λ z. refl; before = λ z. refl; behind = λ z. refl; same = refl }

pub put : (p q : ℕ) (b xs : List ℕ) → p + length xs ≡ q → q ≤ length b → Framed 0 p q b (take p b ++ xs ++ drop q b)
put p q b xs e h =
    let l : length (take p b) ≡ p = simp length-take (omega arith) in
    let m : length (take p b ++ xs) ≡ q = simp length-append (omega arith) in
    record {
      refused = λ z. absurd (z refl);
      before = λ z. ap (take p) (append_assoc (take p b) xs (drop q b)) ∙ take_at (take p b) (xs ++ drop q b) p l;
      behind = λ z. drop_at (take p b ++ xs) (drop q b) q m;
      same = length-append (take p b ++ xs) (drop q b) ∙ simp length-drop (omega arith);
    }

pub put_front : (b xs : List ℕ) (q : ℕ) → length xs ≡ q → q ≤ length b → Framed 0 0 q b (xs ++ drop q b)
put_front b xs q e h = put 0 q b xs (omega arith) h

pub put-end : (b xs : List ℕ) (p q : ℕ) → p ≡ length b - length xs → q ≡ length b → length xs ≤ length b → Framed 0 p q b (take (length b - length xs) b ++ xs)
put-end b xs p q d e h =
    let m = length b - length xs in
    let w = put m (length b) b xs (omega arith) (omega arith) in
    let z : take m b ++ xs ++ drop (length b) b ≡ take m b ++ xs = ap (λ (l : List ℕ). take m b ++ xs ++ l) (drop-length b) ∙ append-nil (take m b ++ xs) in
    rw (d, e) (subst (Framed 0 m (length b) b) z w)

-- ---- of each definition

below : (a b : ℕ) → a ≤ b → (a ≡ b → ⊥) → a < b
below a b h n = go (ltb a b) refl
  where
    go : (x : Bool) → ltb a b ≡ x → a < b
    go true x = ltb-true a b x
    go false x = absurd (n (omega (arith, ltb-false a b x)))

module _ (b xs : List ℕ) where
  pub stored-front : AtFront b (stored_told (at_front b xs))
  unfolding at_front
  stored-front = go (leb (length xs) (length b)) refl
    where
      go : (x : Bool) → leb (length xs) (length b) ≡ x → AtFront b (stored_told (at_front b xs))
      go true x = rw x (put_front b xs (length xs) refl (leb-true (length xs) (length b) x))
      go false x = rw x (kept _ _ _ b)

  stored-end : AtEnd b (stored_told (at_end b xs))
  unfolding at_end
  stored-end = go (leb (length xs) (length b)) refl
    where
      go : (x : Bool) → leb (length xs) (length b) ≡ x → AtEnd b (stored_told (at_end b xs))
      go true x = rw x (put-end b xs _ _ refl refl (leb-true (length xs) (length b) x))
      go false x = rw x (kept _ _ _ b)

module _ (b : List ℕ) (last tag : ℕ) (w : WireType) where
  key-front : AtFront b (stored_told (key_at_front b last tag w))
  unfolding key_at_front
  key-front = go (leb last tag) refl
    where
      go : (x : Bool) → leb last tag ≡ x → AtFront b (stored_told (key_at_front b last tag w))
      go true x = rw x (stored-front b (key_bytes last tag w))
      go false x = rw x (kept _ _ _ b)

  key-end : AtEnd b (stored_told (key_at_end b last tag w))
  unfolding key_at_end
  key-end = go (leb last tag) refl
    where
      go : (x : Bool) → leb last tag ≡ x → AtEnd b (stored_told (key_at_end b last tag w))
      go true x = rw x (stored-end b (key_bytes last tag w))
      go false x = rw x (kept _ _ _ b)

-- a wire type as a number
typed-front : (b : List ℕ) (f : WireType → Stored) → ((w : WireType) → AtFront b (stored_told (f w))) → (t : Typed) → AtFront b (key_stored b t f)
unfolding key_stored
typed-front b f h (Is w) = h w
typed-front b f h Unknown = kept _ _ _ b

typed-end : (b : List ℕ) (f : WireType → Stored) → ((w : WireType) → AtEnd b (stored_told (f w))) → (t : Typed) → AtEnd b (key_stored b t f)
unfolding key_stored
typed-end b f h (Is w) = h w
typed-end b f h Unknown = kept _ _ _ b

module _ (b : List ℕ) where
  into-buffer : (done : List ℕ → Writing) → ((bs : List ℕ) → length bs ≤ length b → InBuffer b (writing_told (done bs))) → (p : Plan)
      → InBuffer b (writing_told (into b p done))
  into-buffer done h (Refuses r i) = kept _ _ _ b
  into-buffer done h (Writes bs) = go (leb (length bs) (length b)) refl
    where
      go : (x : Bool) → leb (length bs) (length b) ≡ x → InBuffer b (writing_told (into b (Writes bs) done))
      go true x = rw x (h bs (leb-true (length bs) (length b) x))
      go false x = rw x (kept _ _ _ b)

  pub front-buffer : (p : Plan) → InBuffer b (writing_told (front b p))
  unfolding front
  front-buffer = into-buffer _ (λ bs h. let z : 0 + length bs ≡ length bs = omega arith in rw z (put_front b bs (length bs) refl h))

  pub back-buffer : (p : Plan) → InBuffer b (writing_told (back b p))
  unfolding back
  back-buffer = into-buffer _ (λ bs h. put-end b bs _ _ refl (omega arith) h)

pub insert-among : (most : ℕ) (s t : List ℕ) (c : ℕ) (r : Record) → Among t c r (insertion_told (inserts t c r (aim most s t c r)))
unfolding inserts aim
insert-among most s t c r = go (checked most s t c) refl
  where
    go : (v : Verdict) → checked most s t c ≡ v → Among t c r (insertion_told (inserts t c r (aimed (length s) t c r v)))
    go (First why i) e = kept _ _ _ t
    go AllFine e = fits (good (length s) r) refl (eqb c (room t)) refl
      where
        fits : (x : Bool) → good (length s) r ≡ x → (y : Bool) → eqb c (room t) ≡ y
            → Among t c r (insertion_told (inserts t c r (aimed (length s) t c r AllFine)))
        fits false x y z = rw x (kept _ _ _ t)
        fits true x true y = rw (x, y) (kept _ _ _ t)
        fits true x false y =
            let i = spot-inside c t r.tag in
            let k = (checked-fine most s t c e).1.count in
            let f : c < room t = below c (room t) k (eqb-false c (room t) y) in
            let l = length_part t (record_words * spot c t r.tag) (record_words * c - record_words * spot c t r.tag) (omega arith) in
            rw (x, y)
            (put (record_words * spot c t r.tag) (record_words * (c + 1)) t (words r ++ part t (record_words * spot c t r.tag) (record_words * c))
            (omega (arith, l, length-append (words r) (part t (record_words * spot c t r.tag) (record_words * c)))) (omega arith))

levels-in : (s t : List ℕ) → InLevels t (levels_told (read_sounding s t))
unfolding read_sounding
levels-in s t = go (judge (opened s) (entered s))
  where
    go : (j : Judgement) → InLevels t (levels_told (stored t j))
    go (Bad r) = kept _ _ _ t
    go (Good r) = fits (leb (length r.levels) (level_room t)) refl
      where
        fits : (x : Bool) → leb (length r.levels) (level_room t) ≡ x → InLevels t (levels_told (stored t (Good r)))
        fits true x =
            rw x (put_front t (words_of r.levels) (level_size * length r.levels) (length-words r.levels)
            (omega (arith, leb-true (length r.levels) (level_room t) x)))
        fits false x = rw x (kept _ _ _ t)

-- ---- EVERY ENTRY THAT IS LENT SOMETHING TO WRITE TO

pub encode-varint-frame : Every 1 encode-varint.ps encode-varint.r encode-varint-reads.Post
    (λ κs a x s. AtFront a.1.0.now (record { told = put_told x; lent = s.1.0.now }))
encode-varint-frame κs a x s p = subst (AtFront a.1.0.now) (sym (ap stored_told p)) (stored-front a.1.0.now (encode a.0))

pub prepend-varint-frame : Every 1 prepend-varint.ps prepend-varint.r prepend-varint-reads.Post
    (λ κs a x s. AtEnd a.1.0.now (record { told = put_told x; lent = s.1.0.now }))
prepend-varint-frame κs a x s p = subst (AtEnd a.1.0.now) (sym (ap stored_told p)) (stored-end a.1.0.now (encode a.0))

pub encode-key-frame : Every 1 encode-key.ps encode-key.r encode-key-reads.Post
    (λ κs a x s. AtFront a.1.1.1.0.now (record { told = put_told x; lent = s.1.1.1.0.now }))
encode-key-frame κs a x s p = subst (AtFront a.1.1.1.0.now) (sym (ap stored_told p)) (key-front a.1.1.1.0.now a.0 a.1.0 a.1.1.0)

pub prepend-key-frame : Every 1 prepend-key.ps prepend-key.r prepend-key-reads.Post
    (λ κs a x s. AtEnd a.1.1.1.0.now (record { told = put_told x; lent = s.1.1.1.0.now }))
prepend-key-frame κs a x s p = subst (AtEnd a.1.1.1.0.now) (sym (ap stored_told p)) (key-end a.1.1.1.0.now a.0 a.1.0 a.1.1.0)

pub encode-message-frame : Every 3 encode-message.ps encode-message.r encode-message-reads.Post
    (λ κs a x s. InBuffer a.1.1.1.0.now (record { told = written_told x; lent = s.1.1.1.0.now }))
encode-message-frame κs a x s p =
    let b = a.1.1.1.0.now in
    subst (InBuffer b) (sym (ap writing_told p)) (front-buffer b (plan message_limit a.0.now a.1.0.now a.1.1.0))

pub prepend-message-frame : Every 3 prepend-message.ps prepend-message.r prepend-message-reads.Post
    (λ κs a x s. InBuffer a.1.1.1.0.now (record { told = written_told x; lent = s.1.1.1.0.now }))
prepend-message-frame κs a x s p =
    let b = a.1.1.1.0.now in
    subst (InBuffer b) (sym (ap writing_told p)) (back-buffer b (plan message_limit a.0.now a.1.0.now a.1.1.0))

pub insert-frame : Every 2 insert.ps insert.r insert-reads.Post
    (λ κs a x s. Among a.1.0.now a.1.1.0 (stamped a.1.1.1.0) (record { told = inserted_told x; lent = s.1.0.now }))
insert-frame κs a x s p =
    let t = a.1.0.now in
    let c = a.1.1.0 in
    let r = stamped a.1.1.1.0 in
    subst (Among t c r) (sym (ap insertion_told p)) (insert-among message_limit a.0.now t c r)

pub read-sounding-frame : Every 2 read-sounding.ps read-sounding.r read-sounding-reads.Post
    (λ κs a x s. InLevels a.1.0.now (record { told = sounding_told x; lent = s.1.0.now }))
read-sounding-frame κs a x s p = subst (InLevels a.1.0.now) (sym (ap levels_told p)) (levels-in a.0.now a.1.0.now)

-- ---- EVERY EXPORT TO C THAT IS LENT SOMETHING TO WRITE TO

pub c-encode-varint-frame : Every 1 c-encode-varint.ps c-encode-varint.r c-encode-varint-reads.Post
    (λ κs a x s. AtFront a.1.0.now (record { told = as_number x; lent = s.1.0.now }))
c-encode-varint-frame κs a x s p = subst (AtFront a.1.0.now) (sym p) (stored-front a.1.0.now (encode a.0))

pub c-prepend-varint-frame : Every 1 c-prepend-varint.ps c-prepend-varint.r c-prepend-varint-reads.Post
    (λ κs a x s. AtEnd a.1.0.now (record { told = as_number x; lent = s.1.0.now }))
c-prepend-varint-frame κs a x s p = subst (AtEnd a.1.0.now) (sym p) (stored-end a.1.0.now (encode a.0))

pub c-encode-key-frame : Every 1 c-encode-key.ps c-encode-key.r c-encode-key-reads.Post
    (λ κs a x s. AtFront a.1.1.1.0.now (record { told = as_number x; lent = s.1.1.1.0.now }))
c-encode-key-frame κs a x s p =
    let b = a.1.1.1.0.now in
    subst (AtFront b) (sym p) (typed-front b (key_at_front b a.0 a.1.0) (key-front b a.0 a.1.0) (typed_of a.1.1.0))

pub c-prepend-key-frame : Every 1 c-prepend-key.ps c-prepend-key.r c-prepend-key-reads.Post
    (λ κs a x s. AtEnd a.1.1.1.0.now (record { told = as_number x; lent = s.1.1.1.0.now }))
c-prepend-key-frame κs a x s p =
    let b = a.1.1.1.0.now in
    subst (AtEnd b) (sym p) (typed-end b (key_at_end b a.0 a.1.0) (key-end b a.0 a.1.0) (typed_of a.1.1.0))

pub c-encode-message-frame : Every 3 c-encode-message.ps c-encode-message.r c-encode-message-reads.Post
    (λ κs a x s. InBuffer a.1.1.1.0.now (record { told = as_written x; lent = s.1.1.1.0.now }))
c-encode-message-frame κs a x s p =
    let b = a.1.1.1.0.now in
    subst (InBuffer b) (sym p) (front-buffer b (plan message_limit a.0.now a.1.0.now a.1.1.0))

pub c-prepend-message-frame : Every 3 c-prepend-message.ps c-prepend-message.r c-prepend-message-reads.Post
    (λ κs a x s. InBuffer a.1.1.1.0.now (record { told = as_written x; lent = s.1.1.1.0.now }))
c-prepend-message-frame κs a x s p =
    let b = a.1.1.1.0.now in
    subst (InBuffer b) (sym p) (back-buffer b (plan message_limit a.0.now a.1.0.now a.1.1.0))

pub c-insert-frame : Every 2 c-insert.ps c-insert.r c-insert-reads.Post
    (λ κs a x s. Among a.1.0.now a.1.1.0 (stamped (four_words a.1.1.1.0 a.1.1.1.1.0 a.1.1.1.1.1.0 a.1.1.1.1.1.1.0))
    (record { told = as_number x; lent = s.1.0.now }))
c-insert-frame κs a x s p =
    let t = a.1.0.now in
    let c = a.1.1.0 in
    let r = stamped (four_words a.1.1.1.0 a.1.1.1.1.0 a.1.1.1.1.1.0 a.1.1.1.1.1.1.0) in
    subst (Among t c r) (sym p) (insert-among message_limit a.0.now t c r)

pub c-read-sounding-frame : Every 2 c-read-sounding.ps c-read-sounding.r c-read-sounding-reads.Post
    (λ κs a x s. InLevels a.1.0.now (record { told = as_sounding x; lent = s.1.0.now }))
c-read-sounding-frame κs a x s p = subst (InLevels a.1.0.now) (sym p) (levels-in a.0.now a.1.0.now)
