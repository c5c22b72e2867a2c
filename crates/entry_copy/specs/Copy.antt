-- What copying answers and leaves: a message that is accepted stands in the table, and its bytes stand in both buffers.
use Rattle.std.specs.Prelude.{ℕ, ◌-◌, ◌≤◌, ◌<◌, ◌≡◌, Bool, ◌⊎◌}
use Rattle.std.proofs.Math.Path.{refl, ap, sym}
use Rattle.std.proofs.Common.{◌∙◌, inl, inr, arith}
use Rattle.std.proofs.Math.Bool.{true, false}
use mathlib.Core.List.{List, ◌++◌}
use borrow.Author.Tests.{le-leb, leb-true, leb-false}
use Rattle.std.proofs.Math.Dec.{leb}
use Rattle.std.proofs.Math.ListN.{length, take, drop}
use Rattle.wire.specs.Choose.{choose}
use Rattle.wire.specs.Limits.{message_limit}
use Rattle.wire.specs.Marks.{marks}
use Rattle.wire.specs.VarintLaws.{Bytes}
use Rattle.wire.specs.Places.{part}
use Rattle.wire.specs.Reading.{Message, Fields, read_message}
use Rattle.wire.specs.Reading as reading
use Rattle.wire.proofs.Theorem.{accepted}
use Rattle.wire.specs.Table.{room, filled}
use Rattle.write_message.specs.Writing.{Writes, plan, Writing, front, back}
use Rattle.write_message.specs.WritingLaws.{into-writes}
use Rattle.write_message.specs.ReadBack.{table-plan}
use Rattle.wire.specs.declared.Fault.{Fault}
use Rattle.wire.specs.declared.Refusal.{Refusal}
use Rattle.wire.specs.declared.Refusal.TheVariants.{NoRoom}
use Rattle.wire.specs.declared.Read.{Read}
use Rattle.wire.specs.declared.Read.TheVariants as read
use Rattle.wire.specs.declared.Written.TheVariants.{At}
use Rattle.message_table.specs.Into.{Outcome, outcome, read_into, into-refused, into-no-room, into-fits}
use Rattle.wire.specs.Numbers.{number_of}
use Rattle.entry_answer.specs.Gate.{gated, gated-long}
use Rattle.entry_answer.specs.Told.{Number}
use Rattle.entry_answer.specs.declared.Gated.{Gated}
use Rattle.entry_answer.specs.declared.Gated.TheVariants.{Open, Shut}
use Rattle.entry_reader.specs.Counting.{count_entry}
use Rattle.entry_reader.specs.declared.Counted.{Counted}
use Rattle.entry_reader.specs.declared.Counted.TheVariants as counted_as
use Rattle.entry_message.specs.Messages.{read_entry, entry-open}
use Rattle.entry_write.specs.Writers.{encode_message, prepend_message}
use Rattle.entry_copy.specs.declared.Copied.{Copied}
use Rattle.entry_copy.specs.declared.Copied.TheVariants as copied_as
use Rattle.std.proofs.Math.Seq.{take-length}

pub record Copying : Type 0 where
  pub answer : Copied
  pub table : List ℕ
  pub front : List ℕ
  pub back : List ℕ

abbrev pub stays : Refusal → List ℕ → List ℕ → List ℕ → Copying
stays r t f b = record { answer = copied_as.Refused r; table = t; front = f; back = b }

-- after a read that left u of the table: NoRoom for a buffer that is shorter than the message
abbrev pub copied_by : List ℕ → List ℕ → List ℕ → List ℕ → Read → List ℕ → Copying
copied_by s t f b (read.Accepted e n) u =
    choose (leb (length s) (length f))
    (choose (leb (length s) (length b))
    (record { answer = copied_as.Fields n; table = u; front = s ++ drop (length s) f; back = take (length b - length s) b ++ s })
    (stays NoRoom t f b))
    (stays NoRoom t f b)
copied_by s t f b (read.Refused r p n x) u = stays r t f b

-- the whole message is read first
unfoldable pub copied : List ℕ → List ℕ → List ℕ → List ℕ → Copying
copied s t f b = let o = read_entry s 0 (length s) t in copied_by s t f b o.answer o.table

-- where a buffer is too short: the message's own refusal, or NoRoom
abbrev pub short_of : Counted → Refusal
short_of (counted_as.Fields n) = NoRoom
short_of (counted_as.Refused r) = r

-- number (rule R1) and value for each case
abbrev pub copied_told : Copied → Number
copied_told (copied_as.Fields n) = record { number = 0; value = n }
copied_told (copied_as.Refused r) = record { number = number_of r; value = 0 }

-- ---- its cases

module _ (s t f b : List ℕ) where
  pub copied-read : (r : Read) (u : List ℕ) → outcome r u ≡ read_entry s 0 (length s) t → copied s t f b ≡ copied_by s t f b r u
  unfolding copied
  copied-read r u e = sym (ap (λ (o : Outcome). copied_by s t f b o.answer o.table) e)

  module _ (h : (length f < length s) ⊎ (length b < length s)) where
    accepted-short : (e n : ℕ) (u : List ℕ) → copied_by s t f b (read.Accepted e n) u ≡ stays NoRoom t f b
    accepted-short e n u = go (leb (length s) (length f)) refl (leb (length s) (length b)) refl h
      where
        go : (x : Bool) → leb (length s) (length f) ≡ x → (y : Bool) → leb (length s) (length b) ≡ y → (length f < length s) ⊎ (length b < length s)
            → copied_by s t f b (read.Accepted e n) u ≡ stays NoRoom t f b
        go false x y z k = rw x
        go true x false z k = rw (x, z)
        go true x true z (inl k) = absurd (omega (arith, leb-true (length s) (length f) x))
        go true x true z (inr k) = absurd (omega (arith, leb-true (length s) (length b) z))

    -- a buffer too short
    pub copied-short : copied s t f b ≡ stays (short_of (count_entry s 0 (length s))) t f b
    unfolding copied count_entry read_entry
    copied-short = go (gated (length s) 0 (length s)) refl (read_message s 0 (length s)) refl
      where
        go : (g : Gated) → gated (length s) 0 (length s) ≡ g → (m : Message) → read_message s 0 (length s) ≡ m
            → copied s t f b ≡ stays (short_of (count_entry s 0 (length s))) t f b
        go (Shut r) x m y = rw x
        go Open x (reading.Refused r p) y = rw (x, y, into-refused s 0 (length s) t r p y)
        go Open x (Fields fs) y = rw (x, y) (fits (leb (length fs) (room t)) refl)
          where
            fits : (z : Bool) → leb (length fs) (room t) ≡ z → copied_by s t f b (read_into s 0 (length s) t).answer (read_into s 0 (length s) t).table
                ≡ stays NoRoom t f b
            fits true z =
                rw (into-fits s 0 (length s) t fs y (leb-true (length fs) (room t) z))
                (accepted-short (length s) (length fs) (filled t (marks s 0 (length s))))
            fits false z = rw (into-no-room s 0 (length s) t fs y (leb-false (length fs) (room t) z))

-- ---- what an entry that accepts, or refuses, left

-- the table is to be written as the message, or is as it was
abbrev pub Left : List ℕ → List ℕ → Read → List ℕ → Type 0
Left s t (read.Accepted e n) u = plan message_limit s u n ≡ Writes s
Left s t (read.Refused r p n x) u = u ≡ t

whole : (m : List ℕ) → part m 0 (length m) ≡ m
whole m = let e : length m - 0 ≡ length m = omega arith in ap (λ (n : ℕ). take n m) e ∙ take-length m

module _ (s t : List ℕ) (b : Bytes s) where
  left-into : length s ≤ message_limit → (o : Message) → read_message s 0 (length s) ≡ o
      → Left s t (read_into s 0 (length s) t).answer (read_into s 0 (length s) t).table
  left-into h (reading.Refused r p) e = rw (into-refused s 0 (length s) t r p e) refl
  left-into h (Fields fs) e = go (leb (length fs) (room t)) refl
    where
      go : (x : Bool) → leb (length fs) (room t) ≡ x → Left s t (read_into s 0 (length s) t).answer (read_into s 0 (length s) t).table
      go true x =
          let f = leb-true (length fs) (room t) x in
          let w = (accepted s 0 (length s) b fs e).0 in
          rw (into-fits s 0 (length s) t fs e f) (table-plan s t fs b e f message_limit h (sym w.bytes ∙ whole s))
      go false x = rw (into-no-room s 0 (length s) t fs e (leb-false (length fs) (room t) x)) refl

  left-entry : Left s t (read_entry s 0 (length s) t).answer (read_entry s 0 (length s) t).table
  unfolding read_entry
  left-entry = go (leb (length s) message_limit) refl
    where
      go : (x : Bool) → leb (length s) message_limit ≡ x → Left s t (read_entry s 0 (length s) t).answer (read_entry s 0 (length s) t).table
      go true x =
          let h = leb-true (length s) message_limit x in
          rw (entry-open s 0 (length s) t h (omega arith) (omega arith)) (left-into h (read_message s 0 (length s)) refl)
      go false x = rw (gated-long (length s) 0 (length s) (leb-false (length s) message_limit x)) refl

  pub left_by : (r : Read) (u : List ℕ) → outcome r u ≡ read_entry s 0 (length s) t → Left s t r u
  left_by r u e = rw (ap (λ (o : Outcome). o.answer) e, ap (λ (o : Outcome). o.table) e) left-entry

-- ---- so the bytes come back

module _ (s u : List ℕ) (n : ℕ) (p : plan message_limit s u n ≡ Writes s) where
  pub front-back : (f : List ℕ) → length s ≤ length f → (encode_message s u n f).buf ≡ s ++ drop (length s) f
  unfolding front
  front-back f h = ap (λ (o : Writing). o.buf) (into-writes f (λ (bs : List ℕ). record { answer = At 0 (length bs); buf = bs ++ drop (length bs) f }) p h)

  pub end_back : (b : List ℕ) → length s ≤ length b → (prepend_message s u n b).buf ≡ take (length b - length s) b ++ s
  unfolding back
  end_back b h =
      ap (λ (o : Writing). o.buf)
      (into-writes b (λ (bs : List ℕ). record { answer = At (length b - length bs) (length bs); buf = take (length b - length bs) b ++ bs }) p h)

-- ---- and copying is what it is said to be: of a read that refused, and of one that accepted and the two writers behind it

module _ (s t f b : List ℕ) (bytes : Bytes s) (h : length s ≤ length f) (g : length s ≤ length b) (x : Read) (u : List ℕ)
    (e : outcome x u ≡ read_entry s 0 (length s) t) where
  same : (y : Read) → x ≡ y → outcome y u ≡ read_entry s 0 (length s) t
  same y q = ap (λ (z : Read). outcome z u) (sym q) ∙ e

  pub copy-refused : (r : Refusal) (p n : ℕ) (i : Fault) → x ≡ read.Refused r p n i
      → record { answer = copied_as.Refused r; table = u; front = f; back = b } ≡ copied s t f b
  copy-refused r p n i q =
      let w = same (read.Refused r p n i) q in
      let z : u ≡ t = left_by s t bytes (read.Refused r p n i) u w in
      ap (λ (v : List ℕ). stays r v f b) z ∙ sym (copied-read s t f b (read.Refused r p n i) u w)

  pub copy_done : (end n : ℕ) → x ≡ read.Accepted end n → (w v : Writing) → w ≡ encode_message s u n f → v ≡ prepend_message s u n b
      → record { answer = copied_as.Fields n; table = u; front = w.buf; back = v.buf } ≡ copied s t f b
  copy_done end n q w v i j =
      let k = same (read.Accepted end n) q in
      let p = left_by s t bytes (read.Accepted end n) u k in
      let y : w.buf ≡ s ++ drop (length s) f = ap (λ (o : Writing). o.buf) i ∙ front-back s u n p f h in
      let z : v.buf ≡ take (length b - length s) b ++ s = ap (λ (o : Writing). o.buf) j ∙ end_back s u n p b g in
      rw (y, z) (sym (copied-read s t f b (read.Accepted end n) u k ∙ rw (le-leb (length s) (length f) h, le-leb (length s) (length b) g)))
