-- What stays of memory that is lent to the cores below the entries: a core that puts bytes answers the place behind them, or where they start, and the place
-- given where it puts none; nothing but the bytes between is changed. Of the cores that read into a table, write one and insert into one, the same as of
-- their entries.
use Rattle.std.specs.Prelude.{ℕ, ◌+◌, ◌-◌, ◌*◌, ◌≤◌, ◌≡◌, refl, Bool, true, false, List, ◌++◌, leb, length, take, drop}
use Rattle.std.proofs.Common.{sym, ap, ◌∙◌, subst, arith, leb-true}
use Rattle.std.proofs.lemmas.List.Edits.{sets, sets-eq}
use Rattle.wire.specs.Fixed.{fixed}
use Rattle.wire.specs.Numbers.{kind_of}
use Rattle.wire.specs.Varint.{encode}
use Rattle.wire.specs.Reading.{read_message}
use Rattle.wire.specs.Table.{stamped}
use Rattle.place.specs.Place.{Placed, put_at, prepend_at, put_part}
use Rattle.write_message.specs.Writing.{plan}
use Rattle.entry_answer.specs.Told.{read_told, written_told, inserted_told}
use Rattle.c_words.specs.Words.{outcome_told, writing_told, insertion_told}
use Rattle.demands_order.specs.Calls.{Every}
use Rattle.demands_order.specs.Refusals.{Framed, InTable, InBuffer, Among, kept, put, front-buffer, back-buffer, insert-among}
use Rattle.place.proofs.put_part.Kinds as put-part
use Rattle.place.proofs.put_part.Reads as put-part-reads
use Rattle.place.proofs.put_fixed.Kinds as put-fixed
use Rattle.place.proofs.put_fixed.Reads as put-fixed-reads
use Rattle.varint_write.proofs.put_varint.Kinds as put-varint
use Rattle.varint_write.proofs.put_varint.Reads as put-varint-reads
use Rattle.varint_write.proofs.prepend_varint.Kinds as prepend-varint
use Rattle.varint_write.proofs.prepend_varint.Reads as prepend-varint-reads
use Rattle.field_key.proofs.put_key.Kinds as put-key
use Rattle.field_key.proofs.put_key.Reads as put-key-reads
use Rattle.field_key.proofs.prepend_key.Kinds as prepend-key
use Rattle.field_key.proofs.prepend_key.Reads as prepend-key-reads
use Rattle.message_table.proofs.read_into.Kinds as read-into
use Rattle.message_table.proofs.read_into.Reads as read-into-reads
use Rattle.write_message.proofs.write_front.Kinds as write-front
use Rattle.write_message.proofs.write_front.Reads as write-front-reads
use Rattle.write_message.proofs.write_back.Kinds as write-back
use Rattle.write_message.proofs.write_back.Reads as write-back-reads
use Rattle.write_insertion.proofs.insert_record.Kinds as insert-record
use Rattle.write_insertion.proofs.insert_record.Reads as insert-record-reads

-- from a place on, up to the place answered; and from the place answered up to a place
abbrev pub Behind : List ℕ → ℕ → Placed → Type 0
Behind b at o = Framed 0 at o.next b o.buf

abbrev pub Before : List ℕ → ℕ → Placed → Type 0
Before b end o = Framed 0 o.next end b o.buf

-- ---- the laws

sets-framed : (p q : ℕ) (b xs : List ℕ) → p + length xs ≡ q → q ≤ length b → Framed 0 p q b (sets b p xs)
sets-framed p q b xs e h =
    subst (Framed 0 p q b) (sym (sets-eq xs b p (omega arith) ∙ ap (λ (n : ℕ). take p b ++ xs ++ drop n b) e)) (put p q b xs e h)

put-behind : (b : List ℕ) (at : ℕ) (xs : List ℕ) → Behind b at (put_at b at xs)
unfolding put_at
put-behind b at xs = go (leb (at + length xs) (length b)) refl
  where
    go : (t : Bool) → leb (at + length xs) (length b) ≡ t → Behind b at (put_at b at xs)
    go true t = rw t (sets-framed at (at + length xs) b xs refl (leb-true (at + length xs) (length b) t))
    go false t = rw t (kept 0 at at b)

put-before : (b : List ℕ) (end : ℕ) (xs : List ℕ) → Before b end (prepend_at b end xs)
unfolding prepend_at
put-before b end xs = go (leb end (length b)) refl (leb (length xs) end) refl
  where
    go : (t : Bool) → leb end (length b) ≡ t → (u : Bool) → leb (length xs) end ≡ u → Before b end (prepend_at b end xs)
    go false t u e = rw t (kept 0 end end b)
    go true t false u = rw (t, u) (kept 0 end end b)
    go true t true u = rw (t, u) (sets-framed (end - length xs) end b xs (omega (arith, leb-true (length xs) end u)) (leb-true end (length b) t))

part-behind : (b : List ℕ) (at : ℕ) (s : List ℕ) (from n : ℕ) → Behind b at (put_part b at s from n)
unfolding put_part
part-behind b at s from n = go (leb (from + n) (length s)) refl
  where
    go : (t : Bool) → leb (from + n) (length s) ≡ t → Behind b at (put_part b at s from n)
    go true t = rw t (put-behind b at (take n (drop from s)))
    go false t = rw t (kept 0 at at b)

-- ---- bytes put

pub put-part-frame : Every 2 put-part.ps put-part.r put-part-reads.Post (λ κs a x s. Behind a.0.now a.1.0 (record { next = x; buf = s.0.now }))
put-part-frame κs a x s p =
    subst (Behind a.0.now a.1.0) (sym p) (part-behind a.0.now a.1.0 a.1.1.0.now a.1.1.1.0 a.1.1.1.1.0)

pub put-fixed-frame : Every 1 put-fixed.ps put-fixed.r put-fixed-reads.Post (λ κs a x s. Behind a.0.now a.1.0 (record { next = x; buf = s.0.now }))
put-fixed-frame κs a x s p = subst (Behind a.0.now a.1.0) (sym p) (put-behind a.0.now a.1.0 (fixed a.1.1.0 a.1.1.1.0))

pub put-varint-frame : Every 1 put-varint.ps put-varint.r put-varint-reads.Post
    (λ κs a x s. Behind a.0.now a.1.0 (record { next = x; buf = s.0.now }))
put-varint-frame κs a x s p = subst (Behind a.0.now a.1.0) (sym p) (put-behind a.0.now a.1.0 (encode a.1.1.0))

pub prepend-varint-frame : Every 1 prepend-varint.ps prepend-varint.r prepend-varint-reads.Post
    (λ κs a x s. Before a.0.now a.1.0 (record { next = x; buf = s.0.now }))
prepend-varint-frame κs a x s p = subst (Before a.0.now a.1.0) (sym p) (put-before a.0.now a.1.0 (encode a.1.1.0))

pub put-key-frame : Every 1 put-key.ps put-key.r put-key-reads.Post (λ κs a x s. Behind a.0.now a.1.0 (record { next = x; buf = s.0.now }))
put-key-frame κs a x s p =
    subst (Behind a.0.now a.1.0) (sym p) (put-behind a.0.now a.1.0 (encode (4 * (a.1.1.1.0 - a.1.1.0) + kind_of a.1.1.1.1.0)))

pub prepend-key-frame : Every 1 prepend-key.ps prepend-key.r prepend-key-reads.Post
    (λ κs a x s. Before a.0.now a.1.0 (record { next = x; buf = s.0.now }))
prepend-key-frame κs a x s p =
    subst (Before a.0.now a.1.0) (sym p) (put-before a.0.now a.1.0 (encode (4 * (a.1.1.1.0 - a.1.1.0) + kind_of a.1.1.1.1.0)))

-- ---- tables

pub write-front-frame : Every 3 write-front.ps write-front.r write-front-reads.Post
    (λ κs a x s. InBuffer a.1.1.1.1.0.now (record { told = written_told x; lent = s.1.1.1.1.0.now }))
write-front-frame κs a x s p =
    let b = a.1.1.1.1.0.now in
    subst (InBuffer b) (sym (ap writing_told p)) (front-buffer b (plan a.1.1.1.0 a.0.now a.1.0.now a.1.1.0))

pub write-back-frame : Every 3 write-back.ps write-back.r write-back-reads.Post
    (λ κs a x s. InBuffer a.1.1.1.1.0.now (record { told = written_told x; lent = s.1.1.1.1.0.now }))
write-back-frame κs a x s p =
    let b = a.1.1.1.1.0.now in
    subst (InBuffer b) (sym (ap writing_told p)) (back-buffer b (plan a.1.1.1.0 a.0.now a.1.0.now a.1.1.0))

pub insert-record-frame : Every 2 insert-record.ps insert-record.r insert-record-reads.Post
    (λ κs a x s. Among a.1.0.now a.1.1.0 (stamped a.1.1.1.0) (record { told = inserted_told x; lent = s.1.0.now }))
insert-record-frame κs a x s p =
    let t = a.1.0.now in
    let c = a.1.1.0 in
    let r = stamped a.1.1.1.0 in
    subst (Among t c r) (sym (ap insertion_told p)) (insert-among a.1.1.1.1.0 a.0.now t c r)
