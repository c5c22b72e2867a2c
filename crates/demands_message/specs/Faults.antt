-- Where a read failed (rules F1 to F6), over every outcome that the contracts of the message reader and of a step allow; and that all else that they tell
-- is what it is without it.
use Rattle.std.specs.Prelude.{ℕ, suc, ◌+◌, ◌≤◌, ◌<◌, ◌≡◌, Bool, true, false, List, leb, length, get_or}
use Rattle.std.proofs.Math.Path.{refl}
use Rattle.std.proofs.Common.{ap, ◌∙◌, sym, subst, arith, leb-true, leb-false}
use Rattle.wire.specs.Choose.{choose}
use Rattle.wire.specs.Faults.{nowhere}
use Rattle.wire.specs.Numbers.{number_of}
use Rattle.wire.specs.VarintLaws.{Bytes}
use Rattle.wire.specs.Marks.{marks}
use Rattle.wire.specs.Reading.{varint_at, step_at, Message, Fields, read_message}
use Rattle.wire.specs.Reading as reading
use Rattle.wire.specs.StepBack as back
use Rattle.wire.specs.Table.{room}
use Rattle.wire.specs.declared.Fault.{Fault}
use Rattle.wire.specs.declared.Refusal.{Refusal}
use Rattle.wire.specs.declared.Refusal.TheVariants.{Truncated}
use Rattle.wire.specs.declared.VarintFound.TheVariants as varint_found
use Rattle.wire.specs.declared.Stepped.{Stepped}
use Rattle.wire.specs.declared.Stepped.TheVariants as stepped
use Rattle.wire.specs.declared.Read.{Read}
use Rattle.wire.specs.declared.Read.TheVariants as read
use Rattle.fault.specs.Fault.{message_fault}
use Rattle.fault.specs.Inside.{Blamed}
use Rattle.fault.proofs.Inside.{step-blamed, fault-inside, fault-bytes}
use Rattle.message_table.specs.Into.{Outcome, outcome, landed, read_into, into-refused, into-no-room, into-fits}
use Rattle.entry_answer.specs.Gate.{gated, through, gated-opens, gated-number}
use Rattle.entry_answer.specs.Told.{read_told}
use Rattle.entry_answer.specs.Told as told
use Rattle.entry_answer.specs.declared.Gated.{Gated}
use Rattle.entry_answer.specs.declared.Gated.TheVariants.{Open, Shut}
use Rattle.entry_answer.specs.declared.Step.{Step}
use Rattle.entry_answer.specs.declared.Step.TheVariants as step
use Rattle.entry_field.specs.Fields.{step_answer, step_entry}
use Rattle.entry_message.specs.Messages.{read_entry}
use Rattle.entry_field.proofs.step_at.Kinds as step-at
use Rattle.entry_field.proofs.step_at.Reads as step-at-reads
use Rattle.demands_order.specs.Formats.{Format, field-ok, refused-format}
use Rattle.demands_order.specs.Calls.{Every, Call, message, start, end, table, answer}

-- ---- a message

-- a fault of slice s: no earlier than the place p that is told, nor than the start a; in the slice; its bytes are of a varint that is refused, and all of
-- them but perhaps the last are 0x80 or more
pub record Located (s : List ℕ) (a p : ℕ) (f : Fault) : Type 0 where
  pub start : a ≤ p
  pub from : p ≤ f.place
  pub inside : f.place + f.bytes ≤ length s
  pub few : f.bytes ≤ 9
  pub varint : 0 < f.bytes → (x : Refusal) × (varint_at s f.place ≡ varint_found.Refused x)
  pub on : 0 < f.bytes → (i : ℕ) → suc i < f.bytes → 128 ≤ get_or s (f.place + i) 0

-- what a refusal carries: 1 to 3 a fault in the slice, all others none
abbrev pub Faulted : List ℕ → ℕ → Read → Type 0
Faulted s a (read.Accepted e n) = Unit {0}
Faulted s a (read.Refused r p n f) = (number_of r ≤ 3 → Located s a p f) × (4 ≤ number_of r → f ≡ nowhere)

module _ (s : List ℕ) (b : Bytes s) (a e : ℕ) (t : List ℕ) where
  into-faulted : a ≤ length s → (m : Message) → read_message s a e ≡ m → Faulted s a (read_into s a e t).answer
  into-faulted l (reading.Refused r p) h =
      let i = fault-inside s a e r p b l h in
      let w = fault-bytes s a e r p b l h in
      let n = refused-format s a e r p h in
      rw (into-refused s a e t r p h) (
        λ k. record { start = i.0; from = i.1; inside = i.2; few = i.3; varint = λ z. (w z).0; on = λ z. (w z).1 },
        λ k. absurd (omega (arith, n.1)),
      )
  into-faulted l (Fields fs) h = go (leb (length fs) (room t)) refl
    where
      go : (x : Bool) → leb (length fs) (room t) ≡ x → Faulted s a (read_into s a e t).answer
      go true x = rw (into-fits s a e t fs h (leb-true (length fs) (room t) x)) tt
      go false x = rw (into-no-room s a e t fs h (leb-false (length fs) (room t) x)) (λ k. absurd (omega arith), λ k. refl)

  entry-faulted : Faulted s a (read_entry s a e t).answer
  unfolding read_entry
  entry-faulted = go (gated (length s) a e) refl
    where
      go : (g : Gated) → gated (length s) a e ≡ g → Faulted s a (through g (λ r. outcome (read.Refused r 0 0 nowhere) t) (read_into s a e t)).answer
      go Open x = into-faulted (gated-opens (length s) a e x).1 (read_message s a e) refl
      go (Shut r) x = (λ k. absurd (omega (arith, gated-number (length s) a e r x)), λ k. refl)

-- EVERY REFUSED MESSAGE names a place in it, and the bytes that a technician can see there
pub message-faulted : (c : Call) → Bytes (message c) → Faulted (message c) (start c) (answer c)
message-faulted c b =
    subst (λ (o : Outcome). Faulted (message c) (start c) o.answer) (sym c.allowed) (entry-faulted (message c) b (start c) (end c) (table c))

-- ---- all else is as it was: number, place and count are those of rule R4, which knows no fault

pub record Three : Type 0 where
  pub number : ℕ
  pub place : ℕ
  pub count : ℕ

abbrev pub three : told.Message → Three
three t = record { number = t.number; place = t.place; count = t.count }

abbrev pub landed_three : ℕ → List ℕ → Message → Three
landed_three e t (Fields fs) =
    choose (leb (length fs) (room t)) (record { number = 0; place = e; count = length fs }) (record { number = 5; place = 0; count = length fs })
landed_three e t (reading.Refused r p) = record { number = number_of r; place = p; count = 0 }

abbrev pub entry_three : List ℕ → ℕ → ℕ → List ℕ → Three
entry_three s a e t = through (gated (length s) a e) (λ r. record { number = number_of r; place = 0; count = 0 }) (landed_three e t (read_message s a e))

entry-three : (s : List ℕ) (a e : ℕ) (t : List ℕ) → three (read_told (read_entry s a e t).answer) ≡ entry_three s a e t
unfolding read_entry read_into
entry-three s a e t = go (gated (length s) a e) (read_message s a e)
  where
    go : (g : Gated) (m : Message)
        → three (read_told (through g (λ r. outcome (read.Refused r 0 0 nowhere) t) (landed e (message_fault s a e) t (marks s a e) m)).answer)
        ≡ through g (λ r. record { number = number_of r; place = 0; count = 0 }) (landed_three e t m)
    go (Shut r) m = refl
    go Open (reading.Refused r p) = refl
    go Open (Fields fs) = fits (leb (length fs) (room t)) refl
      where
        fits : (x : Bool) → leb (length fs) (room t) ≡ x
            → three (read_told (landed e (message_fault s a e) t (marks s a e) (Fields fs)).answer) ≡ landed_three e t (Fields fs)
        fits true x = rw x
        fits false x = rw x

pub answers-else-same : (c : Call) → three (read_told (answer c)) ≡ entry_three (message c) (start c) (end c) (table c)
answers-else-same c =
    ap (λ (o : Outcome). three (read_told o.answer)) c.allowed ∙ entry-three (message c) (start c) (end c) (table c)

-- ---- a step

abbrev pub StepFaulted : List ℕ → ℕ → Step → Type 0
StepFaulted s at (step.Field f q) = Unit {0}
StepFaulted s at step.End = Unit {0}
StepFaulted s at (step.Refused r p last f) = (number_of r ≤ 3 → Blamed s at f) × (4 ≤ number_of r → f ≡ nowhere)

module _ (s : List ℕ) (b : Bytes s) (at e last : ℕ) where
  step-number : (r : Refusal) → step_at s e at last ≡ stepped.Refused r → number_of r ≤ 3
  step-number r h = go (back.steps s e at last)
    where
      go : back.Steps s e at last (step_at s e at last) → number_of r ≤ 3
      go (back.field f q l x y) = absurd (omega (arith, ap back.way (sym y ∙ h)))
      go (back.refused x l y z) =
          let i : stepped.Refused x ≡ stepped.Refused r = sym z ∙ h in
          let j : r ≡ x = cc in
          let f : Format x = rw y at (field-ok s e at last) in
          rw j f.1
      go (back.end l y) = absurd (omega (arith, ap back.way (sym y ∙ h)))
      go (back.past l y) =
          let i : stepped.Refused Truncated ≡ stepped.Refused r = sym y ∙ h in
          let j : r ≡ Truncated = cc in
          rw j (omega arith)

  entry-step : StepFaulted s at (step_entry s at e last)
  unfolding step_entry
  entry-step = go (gated (length s) at e) refl (step_at s e at last) refl
    where
      go : (g : Gated) → gated (length s) at e ≡ g → (x : Stepped) → step_at s e at last ≡ x
          → StepFaulted s at (through g (λ r. step.Refused r at last nowhere) (step_answer s at e last (step_at s e at last)))
      go (Shut r) h x i = (λ k. absurd (omega (arith, gated-number (length s) at e r h)), λ k. refl)
      go Open h (stepped.Field f q) i = rw i tt
      go Open h stepped.End i = rw i tt
      go Open h (stepped.Refused r) i =
          let l = (gated-opens (length s) at e h).1 in
          rw i (λ k. step-blamed s b e at last l r i, λ k. absurd (omega (arith, step-number r i)))

-- EVERY REFUSED STEP names a place no earlier than its own
pub step-faulted : Every 1 step-at.ps step-at.r step-at-reads.Post (λ κs a x s. Bytes a.0.now → StepFaulted a.0.now a.1.0 x)
step-faulted κs a x s p b =
    subst (StepFaulted a.0.now a.1.0) (sym p) (entry-step a.0.now b a.1.0 a.1.1.0 a.1.1.1.0)
