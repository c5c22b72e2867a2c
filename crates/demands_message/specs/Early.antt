-- THE LOOKUP THAT STOPS EARLY (rules P7 and P8). Where the full pick does not refuse, it answers the same. Elsewhere, if it answers, the bytes
-- before the key that it stopped at are an accepted message, and pick on them answers the same. It has read a key for every field up to the wanted
-- tag, and one more where it stopped at a higher key; where it is refused, it tells of none.
use Rattle.std.specs.Prelude.{ℕ, ◌+◌, ◌≤◌, ◌≡◌, true, ◌⊎◌, List, [], ◌∷◌, take}
use Rattle.std.proofs.Math.Path.{refl, ap, sym}
use Rattle.std.proofs.Common.{◌∙◌, arith}
use Rattle.std.proofs.Math.Logic.{inl, inr}
use Rattle.std.proofs.Math.ListN.{length}
use Rattle.std.proofs.Math.Seq.{take-length, length-take-le}
use contract.Lifetimes.{Lfts}
use borrow.Fn.Kinds.{Dens, res_t, ended_of}
use denote.Triple.Clauses.{AtExit}
use Rattle.wire.specs.Reading.{Message, Fields, key_at, read_message}
use Rattle.wire.specs.Reading as reading
use Rattle.wire.specs.Limits.{message_limit}
use Rattle.wire.specs.declared.Refusal.{Refusal}
use Rattle.wire.specs.declared.Field.{Field}
use Rattle.wire.specs.declared.Early.{Early}
use Rattle.wire.specs.declared.Early.TheVariants as early
use Rattle.message.specs.Tags.{of_tag}
use Rattle.message_early.specs.Early.{above, only, early_of, stop}
use Rattle.message_early.specs.Laws.{UpTo, last_of, Stopped, at-end, at_key, not-read}
use Rattle.message_early.proofs.Laws.{stopped}
use Rattle.entry_answer.specs.Gate.{gated, through, through-open, through-shut, gated-open, gated-opens}
use Rattle.entry_message.specs.Messages.{picked_of, picked, pick_entry, early_entry}
use Rattle.entry_answer.specs.declared.Gated.{Gated}
use Rattle.entry_answer.specs.declared.Gated.TheVariants.{Open, Shut}
use Rattle.entry_answer.specs.declared.Picked.{Picked}
use Rattle.entry_answer.specs.declared.Picked.TheVariants as picked_as
use Rattle.entry_message.proofs.pick_early.Kinds as kinds
use Rattle.entry_message.proofs.pick_early.Reads as reads

-- ---- what is promised of an answer r of the lookup

-- a field, or that there is none
abbrev pub Answers : Picked → Type 0
Answers (picked_as.Found f) = Unit {0}
Answers picked_as.Absent = Unit {0}
Answers (picked_as.Refused r) = ⊥

-- what it answers, and the keys that it tells of
abbrev pub answer_of : Early → Picked
answer_of (early.Found f n) = picked_as.Found f
answer_of (early.Absent n) = picked_as.Absent
answer_of (early.Refused r) = picked_as.Refused r

abbrev pub keys_of : Early → ℕ
keys_of (early.Found f n) = n
keys_of (early.Absent n) = n
keys_of (early.Refused r) = 0

-- the bytes of s before a place are a message of fields up to the tag t, on which pick answers as r does; the place is the end, or has a key above t
pub record Before (s : List ℕ) (t : ℕ) (r : Early) : Type 0 where
  pub place : ℕ
  pub fields : List Field
  pub inside : place ≤ length s
  pub accepted : read_message (take place s) 0 place ≡ Fields fields
  pub low : UpTo t fields
  pub same : pick_entry (take place s) t ≡ answer_of r
  pub keys : ((place ≡ length s) × (keys_of r ≡ length fields)) ⊎
      ((above t (key_at s (length s) place (last_of 0 fields)) ≡ true) × (keys_of r ≡ length fields + 1))

pub record Promise (s : List ℕ) (t : ℕ) (r : Early) : Type 0 where
  pub full : Answers (pick_entry s t) → answer_of r ≡ pick_entry s t
  pub early : Answers (answer_of r) → Before s t r
  pub refused : (Answers (answer_of r) → ⊥) → keys_of r ≡ 0

-- ---- the proof

only-picked : (n : ℕ) (fs : List Field) → answer_of (only n fs) ≡ picked_of fs
only-picked n [] = refl
only-picked n (f ∷ []) = refl
only-picked n (f ∷ g ∷ fs) = refl

only-keys : (n : ℕ) (fs : List Field) → Answers (answer_of (only n fs)) → keys_of (only n fs) ≡ n
only-keys n [] h = refl
only-keys n (f ∷ []) h = refl
only-keys n (f ∷ g ∷ fs) h = absurd h

none_told : (r : Early) → (Answers (answer_of r) → ⊥) → keys_of r ≡ 0
none_told (early.Found f n) h = absurd (h tt)
none_told (early.Absent n) h = absurd (h tt)
none_told (early.Refused r) h = refl

-- pick on a message that is not too long
pick-short : (s : List ℕ) (t : ℕ) → length s ≤ message_limit → pick_entry s t ≡ picked t (read_message s 0 (length s))
unfolding pick_entry
pick-short s t h = through-open _ _ (gated-open (length s) 0 (length s) h (omega arith) (omega arith))

module _ (s : List ℕ) (t : ℕ) where
  -- where the gate is open
  judged : length s ≤ message_limit → (r : Early) → r ≡ early_of t (stop t s) → Promise s t r
  unfolding early_of
  judged short r e = go (stopped t s)
    where
      go : Stopped t s → Promise s t r
      go (at-end fs a low b) =
          let x : r ≡ only (length fs) (of_tag t fs) = e ∙ ap (early_of t) a in
          let p : pick_entry s t ≡ answer_of r = pick-short s t short ∙ ap (picked t) b ∙ sym (ap answer_of x ∙ only-picked (length fs) (of_tag t fs)) in
          record {
            full = λ h. sym p;
            early = λ h. record {
              place = length s;
              fields = fs;
              inside = omega arith;
              accepted = rw (take-length s) b;
              low = low;
              same = rw (take-length s) p;
              keys = inl (refl, ap keys_of x ∙ only-keys (length fs) (of_tag t fs) (rw x at h));
            };
            refused = none_told r;
          }
      go (at_key fs k a low b key c d) =
          let x : r ≡ only (length fs + 1) (of_tag t fs) = e ∙ ap (early_of t) a in
          let y : answer_of r ≡ picked_of (of_tag t fs) = ap answer_of x ∙ only-picked (length fs + 1) (of_tag t fs) in
          let n : length (take k s) ≡ k = length-take-le k s (omega arith) in
          record {
            full = λ h. y ∙ full (read_message s 0 (length s)) refl h;
            early = λ h. record {
              place = k;
              fields = fs;
              inside = omega arith;
              accepted = c;
              low = low;
              same = pick-short (take k s) t (rw n (omega arith)) ∙ rw n (ap (picked t) c) ∙ sym y;
              keys = inr (key, ap keys_of x ∙ only-keys (length fs + 1) (of_tag t fs) (rw x at h));
            };
            refused = none_told r;
          }
        where
          full : (m : Message) → read_message s 0 (length s) ≡ m → Answers (pick_entry s t) → picked_of (of_tag t fs) ≡ pick_entry s t
          full (Fields gs) w h = sym (pick-short s t short ∙ ap (picked t) w ∙ ap picked_of (d gs w))
          full (reading.Refused why i) w h = absurd (rw (pick-short s t short, w) at h)
      go (not-read why i a b) =
          let x : r ≡ early.Refused why = e ∙ ap (early_of t) a in
          record {
            full = λ h. ap answer_of x ∙ sym (pick-short s t short ∙ ap (picked t) b);
            early = λ h. absurd (rw x at h);
            refused = none_told r;
          }

  shut : {why : Refusal} → gated (length s) 0 (length s) ≡ Shut why → pick_entry s t ≡ picked_as.Refused why
  unfolding pick_entry
  shut e = through-shut _ _ e

  -- THE THEOREM
  pub early-promise : Promise s t (early_entry s t)
  unfolding early_entry
  early-promise = go (gated (length s) 0 (length s)) refl
    where
      go : (g : Gated) → gated (length s) 0 (length s) ≡ g → Promise s t (through g early.Refused (early_of t (stop t s)))
      go Open e = judged (gated-opens (length s) 0 (length s) e).0 (early_of t (stop t s)) refl
      go (Shut why) e = record { full = λ h. sym (shut e); early = λ h. absurd h; refused = λ h. refl }

-- over every outcome that the contract of `pick_early` allows
pub every-early : (κs : Lfts 1) (a : Dens κs kinds.ps) (r : (res_t kinds.r κs).Denot) (x : AtExit (ended_of 1 kinds.ps kinds.r) κs) → reads.Post κs a r x
    → Promise a.0.now a.1.0 r
every-early κs a r x h = rw h (early-promise a.0.now a.1.0)
