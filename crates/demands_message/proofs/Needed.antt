-- THE LENGTH THAT IS NEEDED (rules R6 and R7), over every outcome of `encode_message` and `prepend_message`. A buffer that is too short is told how many bytes
-- the message has: with so many, either writer writes it, and with fewer, either tells the same again. So a buffer of no bytes measures.
use Rattle.std.specs.Prelude.{ℕ, ◌-◌, ◌≤◌, ◌<◌, ◌≡◌, refl, Bool, true, false, List, ltb, leb, length}
use Rattle.std.proofs.Common.{ap, ◌∙◌, sym, subst, arith, le-leb, leb-true, leb-false, ltb-true, ltb-false}
use Rattle.std.proofs.lemmas.Bool.{lt-leb}
use Rattle.wire.specs.Limits.{message_limit}
use Rattle.wire.specs.Numbers.{number_of}
use Rattle.wire.specs.declared.Refusal.{Refusal}
use Rattle.wire.specs.declared.Refusal.TheVariants.{NoRoom}
use Rattle.write_record.specs.Records.{AllFine, checked, message}
use Rattle.write_message.specs.Writing.{Plan, Writes, Refuses, plan, Writing, front, back}
use Rattle.write_message.specs.WritingLaws.{plan-fine, plan-short, plan-why}
use Rattle.entry_answer.specs.Told.{Wrote, written_told}
use Rattle.demands_order.specs.Calls.{Every}
use Rattle.entry_write.proofs.encode_message.Kinds as encode-message
use Rattle.entry_write.proofs.encode_message.Reads as encode-message-reads
use Rattle.entry_write.proofs.prepend_message.Kinds as prepend-message
use Rattle.entry_write.proofs.prepend_message.Reads as prepend-message-reads
use Rattle.demands_message.specs.Needed.{Both, Encodes, Enough, Needs, Prepends, Sizes, Tells, back-tells, front-tells, length_of, needs, others, same-plan, short, tells-length, told, wrote, zero-only}

encodes : {n : ℕ} {s t : List ℕ} {c : ℕ} (bs : List ℕ) → plan message_limit s t c ≡ Writes bs → n ≡ length bs
    → Encodes (λ s' t' c' b o. s' ≡ s → t' ≡ t → c' ≡ c → Needs n (length b) 0 o)
encodes bs e l κs a x st p f g h =
    let b = a.1.1.1.0.now in
    subst (λ (k : ℕ). Needs k (length b) 0 (written_told x)) (sym l)
    (subst (Needs (length bs) (length b) 0) (sym (ap told p)) (needs front-tells b bs (same-plan f g h ∙ e)))

prepends : {n : ℕ} {s t : List ℕ} {c : ℕ} (bs : List ℕ) → plan message_limit s t c ≡ Writes bs → n ≡ length bs
    → Prepends (λ s' t' c' b o. s' ≡ s → t' ≡ t → c' ≡ c → Needs n (length b) (length b - n) o)
prepends bs e l κs a x st p f g h =
    let b = a.1.1.1.0.now in
    subst (λ (k : ℕ). Needs k (length b) (length b - k) (written_told x)) (sym l)
    (subst (Needs (length bs) (length b) (length b - length bs)) (sym (ap told p)) (needs back-tells b bs (same-plan f g h ∙ e)))

module _ {write : List ℕ → Plan → Writing} {from : ℕ → ℕ → ℕ} (w : Tells write from) (s t : List ℕ) (c : ℕ) (b : List ℕ) (o : Wrote)
    (q : o ≡ told (write b (plan message_limit s t c))) where
  enough : o.number ≡ number_of NoRoom → Enough s t c (length b) o
  enough z =
      let m = short w b (plan message_limit s t c) (plan-why message_limit s t c) (sym (ap (λ (x : Wrote). x.number) q) ∙ z) in
      let v = q ∙ ap (λ (p : Plan). told (write b p)) m.1 ∙ w.none b m.0 m.2 in
      let l : o.length ≡ length m.0 = ap (λ (x : Wrote). x.length) v in
      record {
        start = ap (λ (x : Wrote). x.start) v;
        more = omega (arith, l, m.2);
        few = omega (arith, l, plan-short message_limit s t c m.0 m.1);
        encoded = encodes m.0 m.1 l;
        prepended = prepends m.0 m.1 l;
      }

  measures : checked message_limit s t c ≡ AllFine → length (message s t c) ≤ message_limit → length b ≡ 0 → Sizes (length (message s t c)) o
  measures fine few none =
      let bs = message s t c in
      let k = needs w b bs (plan-fine message_limit s t c fine few) in
      let full : 0 < length bs → o ≡ wrote (number_of NoRoom) 0 (length bs) = λ h. q ∙ k.none (omega (arith, none, h)) in
      record {
        nothing = λ h. q ∙ k.fits (omega (arith, h)) ∙ ap (λ (n : ℕ). wrote 0 (from n (length bs)) (length bs)) none
            ∙ ap (λ (n : ℕ). wrote 0 n (length bs)) (w.first (length bs)) ∙ ap (wrote 0 0) h;
        needed = full;
        exactly = zero-only (length bs) o full;
      }

  other : (o.number ≡ 0 → ⊥) → (o.number ≡ number_of NoRoom → ⊥) → o.length ≡ 0
  other =
      subst (λ (x : Wrote). (x.number ≡ 0 → ⊥) → (x.number ≡ number_of NoRoom → ⊥) → x.length ≡ 0) (sym q)
      (others w b (plan message_limit s t c))

-- NoRoom tells a length that is enough, for either writer, and that nothing less is
pub needed-is-enough : Both (λ s t c b o. o.number ≡ number_of NoRoom → Enough s t c (length b) o)
needed-is-enough = (
  λ κs a x st p. enough front-tells a.0.now a.1.0.now a.1.1.0 a.1.1.1.0.now (written_told x) (ap told p),
  λ κs a x st p. enough back-tells a.0.now a.1.0.now a.1.1.0 a.1.1.1.0.now (written_told x) (ap told p),
)

-- of the same records both writers tell the same length, whatever their buffers, and whether it is needed or was written
pub needed-both : Encodes (λ s t c b o. Prepends (λ s' t' c' b' o'. s' ≡ s → t' ≡ t → c' ≡ c → o'.length ≡ o.length))
needed-both κs a x st p ls d y su q f g h =
    ap (λ (o : Writing). (told o).length) q
    ∙ tells-length back-tells d.1.1.1.0.now (plan message_limit d.0.now d.1.0.now d.1.1.0)
    ∙ ap length_of (same-plan f g h)
    ∙ sym (ap (λ (o : Writing). (told o).length) p
    ∙ tells-length front-tells a.1.1.1.0.now (plan message_limit a.0.now a.1.0.now a.1.1.0))

-- of records that pass every test, a buffer of no bytes is told the length, and 0 exactly if nothing is to be written
pub no-buffer-measures : Both (λ s t c b o. checked message_limit s t c ≡ AllFine → length (message s t c) ≤ message_limit → length b ≡ 0
    → Sizes (length (message s t c)) o)
no-buffer-measures = (
  λ κs a x st p. measures front-tells a.0.now a.1.0.now a.1.1.0 a.1.1.1.0.now (written_told x) (ap told p),
  λ κs a x st p. measures back-tells a.0.now a.1.0.now a.1.1.0 a.1.1.1.0.now (written_told x) (ap told p),
)

-- no other refusal tells a length
pub only-no-room-tells : Both (λ s t c b o. (o.number ≡ 0 → ⊥) → (o.number ≡ number_of NoRoom → ⊥) → o.length ≡ 0)
only-no-room-tells = (
  λ κs a x st p. other front-tells a.0.now a.1.0.now a.1.1.0 a.1.1.1.0.now (written_told x) (ap told p),
  λ κs a x st p. other back-tells a.0.now a.1.0.now a.1.1.0 a.1.1.1.0.now (written_told x) (ap told p),
)
