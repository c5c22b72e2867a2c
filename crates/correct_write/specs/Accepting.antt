-- Whether a message is accepted, as a lookup of any tag tells it; and its items then.
use Rattle.std.specs.Prelude.{ℕ, ◌≤◌, ◌≡◌, refl, List, [], ◌∷◌, length, drop}
use Rattle.std.proofs.Common.{ap, ◌∙◌, sym, arith}
use Rattle.wire.specs.Limits.{message_limit}
use Rattle.wire.specs.Reading.{Message, Fields, read_message}
use Rattle.wire.specs.Reading as reading
use Rattle.wire.specs.declared.Refusal.{Refusal}
use Rattle.wire.specs.declared.Field.{Field}
use Rattle.message.specs.Tags.{of_tag, first_of, at_number, sought}
use Rattle.entry_answer.specs.Gate.{gated, through, through-open, gated-opens}
use Rattle.entry_answer.specs.declared.Gated.{Gated}
use Rattle.entry_answer.specs.declared.Gated.TheVariants.{Open, Shut}
use Rattle.entry_answer.specs.declared.Several.{Several}
use Rattle.entry_answer.specs.declared.Several.TheVariants as several
use Rattle.entry_message.specs.Messages.{several_of, several_entry}
use Rattle.correct_write.specs.Corrected.{Taken, Items, Refused, taken_of, taken}
use Rattle.correct_write.specs.Rests.{items_from, Rest, rest-start, start-items}

abbrev pub usable : Taken → Gated
usable (Items is) = Open
usable (Refused r) = Shut r

abbrev pub told_of : Several → Gated
told_of (several.Found n f) = Open
told_of (several.Absent n) = Open
told_of (several.Refused r) = Shut r

told-first : (n : ℕ) (fs : List Field) → told_of (several_of (first_of n fs)) ≡ Open
told-first n [] = refl
told-first n (f ∷ fs) = refl

pub several-usable : (s : List ℕ) → told_of (several_entry s 0 0) ≡ usable (taken s)
unfolding several_entry taken at_number
several-usable s = go (gated (length s) 0 (length s)) (read_message s 0 (length s))
  where
    go : (g : Gated) (m : Message) → told_of (through g several.Refused (several_of (sought 0 0 m))) ≡ usable (through g Refused (taken_of s m))
    go Open (Fields fs) = told-first (length (of_tag 0 fs)) (drop 0 (of_tag 0 fs))
    go Open (reading.Refused r p) = refl
    go (Shut r) m = refl

no-shut : {A : Type 0} {r : Refusal} → Shut r ≡ Open → A
no-shut e = let z : ◌≡◌ {A = ℕ} 0 1 = cc in absurd (omega arith)

pub taken-shut : (s : List ℕ) (r : Refusal) → usable (taken s) ≡ Shut r → taken s ≡ Refused r
taken-shut s r h = go (taken s) refl
  where
    go : (t : Taken) → taken s ≡ t → taken s ≡ Refused r
    go (Items is) e = no-shut (sym h ∙ ap usable e)
    go (Refused x) e = let y : Shut x ≡ Shut r = sym (ap usable e) ∙ h in let z : x ≡ r = cc in e ∙ ap Refused z

-- what is known of a message that is accepted
pub record Entered (s : List ℕ) : Type 0 where
  pub short : length s ≤ message_limit
  pub rest : Rest s 0 0
  pub items : taken s ≡ Items (items_from s 0 0)

pub entered : (s : List ℕ) → usable (taken s) ≡ Open → Entered s
unfolding taken
entered s h = go (gated (length s) 0 (length s)) refl (read_message s 0 (length s)) refl
  where
    go : (g : Gated) → gated (length s) 0 (length s) ≡ g → (m : Message) → read_message s 0 (length s) ≡ m → Entered s
    go Open g (Fields fs) m =
        record {
          short = (gated-opens (length s) 0 (length s) g).0;
          rest = rest-start s fs m;
          items = through-open Refused (taken_of s (read_message s 0 (length s))) g ∙ ap (taken_of s) m ∙ ap Items (sym (start-items s fs m));
        }
    go Open g (reading.Refused r p) m = no-shut {r = r} (rw (g, m) at h)
    go (Shut r) g m x = no-shut {r = r} (rw g at h)
