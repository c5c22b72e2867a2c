-- An index as a line of characters: two digits for the edition, then for each entry its tag, its place and its count in digits.
-- Place and count have w digits each: six in edition 02, which is written, and four in edition 01, which is read still.
use Rattle.std.specs.Prelude.{ℕ, zero, suc, ◌+◌, ◌-◌, ◌*◌, ◌/◌, ◌^◌, ◌≤◌, ◌<◌, ◌≡◌, refl, Bool, true, false, List, [], ◌∷◌, ◌++◌, eqb, leb, length, take, drop}
use Rattle.std.proofs.Common.{◌∙◌}
use borrow.Author.Tests.{le-leb, lt-leb, leb-true, leb-false}
use Rattle.wire.specs.Choose.{choose}
use Rattle.wire.specs.declared.Refusal.TheVariants.{NoRoom, BadIndex}
use Rattle.text_digits.specs.Digits.{digits, reads_on}
use Rattle.entry_answer.specs.Stores.{Stored, at_front}
use Rattle.entry_answer.specs.declared.Put.TheVariants as put
use Rattle.entry_answer.specs.declared.Indexed.TheVariants as indexed_as
use Rattle.index.specs.Index.{Entry, entry, room, indexed, entries_from, sound_from, sound_index}
use Rattle.index.specs.Index.{Outcome, outcome, landed, landed-fits, landed_none}

-- ---- the characters (rule A8)

-- the digits of the edition, and those of a tag
abbrev pub head_digits : ℕ
head_digits = 2

abbrev pub tag_digits : ℕ
tag_digits = 8

-- the characters of an entry
abbrev pub width : ℕ → ℕ
width w = tag_digits + 2 * w

unfoldable pub spelled : ℕ → Entry → List ℕ
spelled w e = digits 16 tag_digits e.tag ++ (digits 16 w e.place ++ digits 16 w e.count)

abbrev pub spelled_all : ℕ → List Entry → List ℕ
spelled_all w [] = []
spelled_all w (e ∷ es) = spelled w e ++ spelled_all w es

-- Rule A8: the line of an edition
abbrev pub line_of : ℕ → ℕ → List Entry → List ℕ
line_of edition w es = digits 16 head_digits edition ++ spelled_all w es

-- a place and a count have w digits
abbrev pub sound_entries : ℕ → List Entry → Bool
sound_entries w es = sound_from (16 ^ w) (16 ^ w - 1) 0 es

-- ---- written (rule A8)

-- Rule A8: an index that may not be used is BadIndex, then a line without room NoRoom; other bytes stay, and after a refusal all
unfoldable pub write_line : ℕ → ℕ → List ℕ → ℕ → List ℕ → Stored
write_line edition w t n b =
    choose (sound_index t n (16 ^ w) (16 ^ w - 1)) (at_front b (line_of edition w (entries_from n t 0))) (record { answer = put.Refused BadIndex; buf = b })

module _ (edition w : ℕ) (t : List ℕ) (n : ℕ) (b : List ℕ) where
  pub line-unsound : sound_index t n (16 ^ w) (16 ^ w - 1) ≡ false → write_line edition w t n b ≡ record { answer = put.Refused BadIndex; buf = b }
  unfolding write_line
  line-unsound h = rw h

  module _ (h : sound_index t n (16 ^ w) (16 ^ w - 1) ≡ true) where
    pub line-no-room : length b < length (line_of edition w (entries_from n t 0)) → write_line edition w t n b ≡ record { answer = put.Refused NoRoom; buf = b }
    unfolding write_line at_front
    line-no-room g = rw (h, lt-leb (length (line_of edition w (entries_from n t 0))) (length b) g)

    pub line-done : length (line_of edition w (entries_from n t 0)) ≤ length b
        → let l = line_of edition w (entries_from n t 0) in write_line edition w t n b ≡ record { answer = put.Done (length l); buf = l ++ drop (length l) b }
    unfolding write_line at_front
    line-done g = rw (h, le-leb (length (line_of edition w (entries_from n t 0))) (length b) g)

-- ---- read (rule A9)

-- the number that k characters from place i on spell
abbrev pub number_at : List ℕ → ℕ → ℕ → ℕ
number_at s i k = reads_on 16 0 (take k (drop i s))

unfoldable pub spelled_at : ℕ → List ℕ → ℕ → Entry
spelled_at w s i = entry (number_at s i tag_digits) (number_at s (i + tag_digits) w) (number_at s (i + tag_digits + w) w)

-- k entries from place i on
abbrev pub entries_in : ℕ → ℕ → List ℕ → ℕ → List Entry
entries_in w zero s i = []
entries_in w (suc k) s i = spelled_at w s i ∷ entries_in w k s (i + width w)

-- how many a line has
abbrev pub tags_in : ℕ → List ℕ → ℕ
tags_in w s = (length s - head_digits) / width w

abbrev pub entries_of : ℕ → List ℕ → List Entry
entries_of w s = entries_in w (tags_in w s) s head_digits

-- whether two lists are one, character by character
abbrev pub same : List ℕ → List ℕ → Bool
same [] [] = true
same [] (y ∷ ys) = false
same (x ∷ xs) [] = false
same (x ∷ xs) (y ∷ ys) = choose (eqb x y) (same xs ys) false

-- the line of the entries that it spells is the line itself
unfoldable pub spelled_well : ℕ → ℕ → List ℕ → Bool
spelled_well edition w s = same (line_of edition w (entries_of w s)) s

-- Rule A9: the line is the one of its entries, and they may be used
unfoldable pub accepted : ℕ → ℕ → List ℕ → Bool
accepted edition w s = choose (spelled_well edition w s) (sound_entries w (entries_of w s)) false

-- Rule A9: a line that is not accepted is BadIndex, then an index without room NoRoom; after a refusal all words stay
abbrev pub settled : List ℕ → Bool → List Entry → Outcome
settled t ok es = choose ok (landed t es) (outcome (indexed_as.Refused BadIndex) t)

-- of one edition
unfoldable pub read_line : ℕ → ℕ → List ℕ → List ℕ → Outcome
read_line edition w s t = settled t (accepted edition w s) (entries_of w s)

module _ (edition w : ℕ) (s : List ℕ) where
  pub accepted-not : spelled_well edition w s ≡ false → accepted edition w s ≡ false
  unfolding accepted
  accepted-not h = rw h

  pub accepted-as : spelled_well edition w s ≡ true → accepted edition w s ≡ sound_entries w (entries_of w s)
  unfolding accepted
  accepted-as h = rw h

module _ (edition w : ℕ) (s t : List ℕ) where
  pub read-bad : accepted edition w s ≡ false → read_line edition w s t ≡ outcome (indexed_as.Refused BadIndex) t
  unfolding read_line
  read-bad h = rw h

  module _ (h : accepted edition w s ≡ true) where
    pub read-no-room : room t < length (entries_of w s) → read_line edition w s t ≡ outcome (indexed_as.Refused NoRoom) t
    unfolding read_line
    read-no-room g = rw h (landed_none t (entries_of w s) g)

    pub read_done : length (entries_of w s) ≤ room t → read_line edition w s t ≡ outcome (indexed_as.Tags (length (entries_of w s))) (indexed t (entries_of w s))
    unfolding read_line
    read_done g = rw h (landed-fits t (entries_of w s) g)

-- ---- either edition (rule A9)

-- the longest message that has lines of edition 01
abbrev pub old_limit : ℕ
old_limit = 65535

-- Rule A9: edition 02, or edition 01 beside a message of m bytes that is not longer than that
unfoldable pub accepted_either : ℕ → List ℕ → Bool
accepted_either m s = choose (accepted 2 6 s) true (choose (leb m old_limit) (accepted 1 4 s) false)

unfoldable pub entries_either : List ℕ → List Entry
entries_either s = choose (accepted 2 6 s) (entries_of 6 s) (entries_of 4 s)

unfoldable pub read_either : ℕ → List ℕ → List ℕ → Outcome
read_either m s t = settled t (accepted_either m s) (entries_either s)

module _ (m : ℕ) (s t : List ℕ) where
  pub either-new : accepted 2 6 s ≡ true → read_either m s t ≡ read_line 2 6 s t
  unfolding read_either accepted_either entries_either read_line
  either-new h = rw h

  module _ (h : accepted 2 6 s ≡ false) where
    pub either-old : m ≤ old_limit → read_either m s t ≡ read_line 1 4 s t
    unfolding read_either accepted_either entries_either read_line
    either-old g = rw (h, le-leb m old_limit g)

    pub either-late : old_limit < m → read_either m s t ≡ outcome (indexed_as.Refused BadIndex) t
    unfolding read_either accepted_either
    either-late g = rw (h, lt-leb m old_limit g)

    pub either-none : accepted 1 4 s ≡ false → read_either m s t ≡ outcome (indexed_as.Refused BadIndex) t
    either-none g = go (leb m old_limit) refl
      where
        go : (b : Bool) → leb m old_limit ≡ b → read_either m s t ≡ outcome (indexed_as.Refused BadIndex) t
        go true b = either-old (leb-true m old_limit b) ∙ read-bad 1 4 s t g
        go false b = either-late (leb-false m old_limit b)
