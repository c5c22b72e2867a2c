-- THE LENGTH THAT IS NEEDED (rules R6 and R7), over every outcome of `encode_message` and `prepend_message`. A buffer that is too short is told how many bytes
-- the message has: with so many, either writer writes it, and with fewer, either tells the same again. So a buffer of no bytes measures.
use Rattle.std.specs.Prelude.{ℕ, ◌-◌, ◌≤◌, ◌<◌, ◌≡◌, refl, Bool, true, false, List, ltb, leb, length}
use Rattle.std.proofs.Common.{ap, ◌∙◌, sym, subst, arith, le-leb, leb-true, leb-false, ltb-true, ltb-false}
use Rattle.std.proofs.lemmas.Bool.{lt-leb}
use Rattle.wire.specs.Limits.{message_limit}
use Rattle.wire.specs.Numbers.{number_of}
use Rattle.wire.specs.declared.Refusal.{Refusal}
use Rattle.wire.specs.declared.Refusal.TheVariants.{NoRoom}
use Rattle.write_record.specs.Records.{AllFine, checked, message}
use Rattle.write_message.specs.Writing.{Plan, Writes, Refuses, plan, Writing, front, back}
use Rattle.write_message.specs.WritingLaws.{plan-fine, plan-short, plan-why}
use Rattle.entry_answer.specs.Told.{Wrote, written_told}
use Rattle.demands_order.specs.Calls.{Every}
use Rattle.entry_write.proofs.encode_message.Kinds as encode-message
use Rattle.entry_write.proofs.encode_message.Reads as encode-message-reads
use Rattle.entry_write.proofs.prepend_message.Kinds as prepend-message
use Rattle.entry_write.proofs.prepend_message.Reads as prepend-message-reads

-- ---- what is said of a source, a table, a count and a buffer, and of the words that are told of them: of every outcome of one writer, and of both

abbrev pub Encodes : (List ℕ → List ℕ → ℕ → List ℕ → Wrote → Type 0) → Type 0
Encodes said =
    Every 3 encode-message.ps encode-message.r encode-message-reads.Post
    (λ κs a x s. said a.0.now a.1.0.now a.1.1.0 a.1.1.1.0.now (written_told x))

abbrev pub Prepends : (List ℕ → List ℕ → ℕ → List ℕ → Wrote → Type 0) → Type 0
Prepends said =
    Every 3 prepend-message.ps prepend-message.r prepend-message-reads.Post
    (λ κs a x s. said a.0.now a.1.0.now a.1.1.0 a.1.1.1.0.now (written_told x))

abbrev pub Both : (List ℕ → List ℕ → ℕ → List ℕ → Wrote → Type 0) → Type 0
Both said = Encodes said × Prepends said

abbrev pub wrote : ℕ → ℕ → ℕ → Wrote
wrote k p n = record { number = k; start = p; length = n }

-- n bytes, and a buffer of `room`: they are written from `start` on where they fit, and else they are told
pub record Needs (n room start : ℕ) (o : Wrote) : Type 0 where
  pub fits : n ≤ room → o ≡ wrote 0 start n
  pub none : room < n → o ≡ wrote (number_of NoRoom) 0 n

-- of records that found no room in a buffer of `room`: the length told is more than that, and within the limit; whoever writes the same records needs
-- so much
pub record Enough (s t : List ℕ) (c room : ℕ) (o : Wrote) : Type 0 where
  pub start : o.start ≡ 0
  pub more : room < o.length
  pub few : o.length ≤ message_limit
  pub encoded : Encodes (λ s' t' c' b p. s' ≡ s → t' ≡ t → c' ≡ c → Needs o.length (length b) 0 p)
  pub prepended : Prepends (λ s' t' c' b p. s' ≡ s → t' ≡ t → c' ≡ c → Needs o.length (length b) (length b - o.length) p)

-- of n bytes and no buffer: 0 is told exactly if they are none, and else n
pub record Sizes (n : ℕ) (o : Wrote) : Type 0 where
  pub nothing : n ≡ 0 → o ≡ wrote 0 0 0
  pub needed : 0 < n → o ≡ wrote (number_of NoRoom) 0 n
  pub exactly : o.number ≡ 0 → n ≡ 0

-- ---- what the two writers have in common: what is told of a plan. A message of n bytes in a buffer of `room` starts at `from room n`

abbrev pub told : Writing → Wrote
told o = written_told o.answer

pub record Tells (write : List ℕ → Plan → Writing) (from : ℕ → ℕ → ℕ) : Type 0 where
  pub fits : (b bs : List ℕ) → length bs ≤ length b → told (write b (Writes bs)) ≡ wrote 0 (from (length b) (length bs)) (length bs)
  pub none : (b bs : List ℕ) → length b < length bs → told (write b (Writes bs)) ≡ wrote (number_of NoRoom) 0 (length bs)
  pub refuses : (b : List ℕ) (r : Refusal) (i : ℕ) → told (write b (Refuses r i)) ≡ wrote (number_of r) i 0
  pub first : (n : ℕ) → from 0 n ≡ 0

pub front-tells : Tells front (λ room n. 0)
unfolding front
front-tells =
    record {
      fits = λ b bs h. rw (le-leb (length bs) (length b) h);
      none = λ b bs h. rw (lt-leb (length bs) (length b) h);
      refuses = λ b r i. refl;
      first = λ n. refl;
    }

pub back-tells : Tells back (λ room n. room - n)
unfolding back
back-tells =
    record {
      fits = λ b bs h. rw (le-leb (length bs) (length b) h);
      none = λ b bs h. rw (lt-leb (length bs) (length b) h);
      refuses = λ b r i. refl;
      first = λ n. omega arith;
    }

abbrev pub length_of : Plan → ℕ
length_of (Writes bs) = length bs
length_of (Refuses r i) = 0

module _ {write : List ℕ → Plan → Writing} {from : ℕ → ℕ → ℕ} (w : Tells write from) where
  pub needs : (b bs : List ℕ) {p : Plan} → p ≡ Writes bs → Needs (length bs) (length b) (from (length b) (length bs)) (told (write b p))
  needs b bs e =
      subst (λ (p : Plan). Needs (length bs) (length b) (from (length b) (length bs)) (told (write b p))) (sym e)
      (record { fits = w.fits b bs; none = w.none b bs })

  -- NoRoom is told of bytes that are more than the buffer has, and of nothing else
  pub short : (b : List ℕ) (p : Plan) → ((r : Refusal) (i : ℕ) → p ≡ Refuses r i → number_of r ≡ number_of NoRoom → ⊥)
      → (told (write b p)).number ≡ number_of NoRoom → (bs : List ℕ) × (p ≡ Writes bs) × (length b < length bs)
  short b (Refuses r i) other z = absurd (other r i refl (sym (ap (λ (o : Wrote). o.number) (w.refuses b r i)) ∙ z))
  short b (Writes bs) other z = go (leb (length bs) (length b)) refl
    where
      go : (x : Bool) → leb (length bs) (length b) ≡ x → (cs : List ℕ) × (Writes bs ≡ Writes cs) × (length b < length cs)
      go true x = absurd (omega (arith, sym (ap (λ (o : Wrote). o.number) (w.fits b bs (leb-true (length bs) (length b) x))) ∙ z))
      go false x = (bs, refl, leb-false (length bs) (length b) x)

  -- the length is told, whatever the buffer
  pub tells-length : (b : List ℕ) (p : Plan) → (told (write b p)).length ≡ length_of p
  tells-length b (Refuses r i) = ap (λ (o : Wrote). o.length) (w.refuses b r i)
  tells-length b (Writes bs) = go (leb (length bs) (length b)) refl
    where
      go : (x : Bool) → leb (length bs) (length b) ≡ x → (told (write b (Writes bs))).length ≡ length bs
      go true x = ap (λ (o : Wrote). o.length) (w.fits b bs (leb-true (length bs) (length b) x))
      go false x = ap (λ (o : Wrote). o.length) (w.none b bs (leb-false (length bs) (length b) x))

  pub others : (b : List ℕ) (p : Plan) → ((told (write b p)).number ≡ 0 → ⊥) → ((told (write b p)).number ≡ number_of NoRoom → ⊥) → (told (write b p)).length ≡ 0
  others b (Refuses r i) x y = ap (λ (o : Wrote). o.length) (w.refuses b r i)
  others b (Writes bs) x y = go (leb (length bs) (length b)) refl
    where
      go : (z : Bool) → leb (length bs) (length b) ≡ z → (told (write b (Writes bs))).length ≡ 0
      go true z = absurd (x (ap (λ (o : Wrote). o.number) (w.fits b bs (leb-true (length bs) (length b) z))))
      go false z = absurd (y (ap (λ (o : Wrote). o.number) (w.none b bs (leb-false (length bs) (length b) z))))

-- ---- the same records again

pub same-plan : {s t u v : List ℕ} {c d : ℕ} → u ≡ s → v ≡ t → d ≡ c → plan message_limit u v d ≡ plan message_limit s t c
same-plan e f g = rw (e, f, g)

pub zero-only : (n : ℕ) (o : Wrote) → (0 < n → o ≡ wrote (number_of NoRoom) 0 n) → o.number ≡ 0 → n ≡ 0
zero-only n o h z = go (ltb 0 n) refl
  where
    go : (x : Bool) → ltb 0 n ≡ x → n ≡ 0
    go true x = absurd (omega (arith, sym (ap (λ (y : Wrote). y.number) (h (ltb-true 0 n x))) ∙ z))
    go false x = omega (arith, ltb-false 0 n x)

-- ---- OVER EVERY OUTCOME
