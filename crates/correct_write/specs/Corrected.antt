-- A correction over an original: the items of the result, its bytes, and what writing it answers and leaves (rules G1 and G5).
use Rattle.std.specs.Prelude.{ℕ, ◌≤◌, ◌<◌, ◌≡◌, List, [], ◌∷◌, ◌++◌, ltb, leb, length, drop}
use Rattle.std.proofs.Common.{◌∙◌, le-leb}
use Rattle.std.proofs.lemmas.Bool.{lt-leb}
use Rattle.wire.specs.Choose.{choose}
use Rattle.wire.specs.Limits.{message_limit}
use Rattle.wire.specs.Written.{Item, written}
use Rattle.wire.specs.Places.{items}
use Rattle.wire.specs.Reading.{Message, Fields, read_message}
use Rattle.wire.specs.Reading as reading
use Rattle.wire.specs.declared.Refusal.{Refusal}
use Rattle.wire.specs.declared.Refusal.TheVariants.{TooLong, NoRoom}
use Rattle.entry_answer.specs.Gate.{gated, through}
use Rattle.entry_answer.specs.Stores.{Stored, at_front}
use Rattle.entry_answer.specs.declared.Put.TheVariants as put

-- ---- the items of the result (rule G1)

-- those of lower tags, and those of higher
abbrev pub below : ℕ → List Item → List Item
below t [] = []
below t (i ∷ is) = choose (ltb i.tag t) (i ∷ below t is) (below t is)

abbrev pub above : ℕ → List Item → List Item
above t [] = []
above t (i ∷ is) = choose (ltb t i.tag) (i ∷ above t is) (above t is)

-- Rule G1: in front of each of the correction's the original's of lower tags, behind it those of higher; those of its own tag are replaced
abbrev pub corrected : List Item → List Item → List Item
corrected [] os = os
corrected (c ∷ cs) os = below c.tag os ++ c ∷ corrected cs (above c.tag os)

-- ---- what each message is: its items, or its refusal

pub data Taken : Type 0 where
  Items : List Item → Taken
  Refused : Refusal → Taken

abbrev pub taken_of : List ℕ → Message → Taken
taken_of s (Fields fs) = Items (items s fs)
taken_of s (reading.Refused r p) = Refused r

unfoldable pub taken : List ℕ → Taken
taken s = through (gated (length s) 0 (length s)) Refused (taken_of s (read_message s 0 (length s)))

-- ---- what is to be written, or why nothing is (rule G5)

pub data Planned : Type 0 where
  Gives : List ℕ → Planned
  Refuses : Refusal → Planned

-- 4 for the result
abbrev pub limited : List ℕ → Planned
limited bs = choose (leb (length bs) message_limit) (Gives bs) (Refuses TooLong)

-- the original's refusal, then the correction's
abbrev pub planned : Taken → Taken → Planned
planned (Items os) (Items cs) = limited (written (corrected cs os))
planned (Items os) (Refused r) = Refuses r
planned (Refused r) c = Refuses r

-- 5 behind all else; a refusal leaves the buffer as it was
abbrev pub stored : List ℕ → Planned → Stored
stored b (Gives bs) = at_front b bs
stored b (Refuses r) = record { answer = put.Refused r; buf = b }

-- Rule G5: the result at the buffer's front, every other byte as it was
unfoldable pub write_corrected : List ℕ → List ℕ → List ℕ → Stored
write_corrected o c b = stored b (planned (taken o) (taken c))

-- ---- case by case

module _ (o c b : List ℕ) where
  pub write-original : (r : Refusal) → taken o ≡ Refused r → write_corrected o c b ≡ record { answer = put.Refused r; buf = b }
  unfolding write_corrected
  write-original r h = rw h

  module _ (os : List Item) (h : taken o ≡ Items os) where
    pub write-correction : (r : Refusal) → taken c ≡ Refused r → write_corrected o c b ≡ record { answer = put.Refused r; buf = b }
    unfolding write_corrected
    write-correction r g = rw (h, g)

    module _ (cs : List Item) (g : taken c ≡ Items cs) where
      both : write_corrected o c b ≡ stored b (limited (written (corrected cs os)))
      unfolding write_corrected
      both = rw (h, g)

      pub write-long : message_limit < length (written (corrected cs os)) → write_corrected o c b ≡ record { answer = put.Refused TooLong; buf = b }
      write-long l = both ∙ rw (lt-leb (length (written (corrected cs os))) message_limit l)

      module _ (l : length (written (corrected cs os)) ≤ message_limit) where
        fits : write_corrected o c b ≡ at_front b (written (corrected cs os))
        fits = both ∙ rw (le-leb (length (written (corrected cs os))) message_limit l)

        pub write-no-room : length b < length (written (corrected cs os)) → write_corrected o c b ≡ record { answer = put.Refused NoRoom; buf = b }
        unfolding at_front
        write-no-room n = fits ∙ rw (lt-leb (length (written (corrected cs os))) (length b) n)

        pub write_done : length (written (corrected cs os)) ≤ length b
            → write_corrected o c b
            ≡ record {
              answer = put.Done (length (written (corrected cs os)));
              buf = written (corrected cs os) ++ drop (length (written (corrected cs os))) b;
            }
        unfolding at_front
        write_done n = fits ∙ rw (le-leb (length (written (corrected cs os))) (length b) n)
