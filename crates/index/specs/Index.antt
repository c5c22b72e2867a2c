-- An index: for each tag the place of its first key, and how many fields it has.
use Rattle.std.specs.Prelude.{ℕ, zero, suc, ◌+◌, ◌*◌, ◌/◌, ◌^◌, ◌≤◌, ◌<◌, ◌≡◌, refl, Bool, true, false, List, [], ◌∷◌, ◌++◌, ltb, leb, length, drop, get_or}
use Rattle.std.proofs.Common.{ap, ◌∙◌, sym, arith, le-leb, length-append, get_or-drop, drop-drop}
use Rattle.std.proofs.lemmas.Bool.{lt-leb}
use Rattle.wire.specs.Choose.{choose}
use Rattle.wire.specs.declared.Refusal.TheVariants.{NoRoom}
use Rattle.entry_answer.specs.declared.Indexed.{Indexed}
use Rattle.entry_answer.specs.declared.Indexed.TheVariants.{Tags, Refused}

pub record Entry : Type 0 where
  pub tag : ℕ
  pub place : ℕ
  pub count : ℕ

abbrev pub entry : ℕ → ℕ → ℕ → Entry
entry t p c = record { tag = t; place = p; count = c }

-- ---- as words (rule A2)

abbrev pub index_words : ℕ
index_words = 3

abbrev pub words_of : Entry → List ℕ
words_of e = e.tag ∷ e.place ∷ e.count ∷ []

abbrev pub entry_words : List Entry → List ℕ
entry_words [] = []
entry_words (e ∷ es) = words_of e ++ entry_words es

pub length-words : (es : List Entry) → length (entry_words es) ≡ index_words * length es
length-words [] = refl
length-words (e ∷ es) = omega (arith, length-words es)

-- how many entries an index has room for
abbrev pub room : List ℕ → ℕ
room t = length t / index_words

-- the entries first, and the words after them as they were
abbrev pub indexed : List ℕ → List Entry → List ℕ
indexed t es = entry_words es ++ drop (index_words * length es) t

-- entry i, and k entries from entry i on
unfoldable pub entry_at : List ℕ → ℕ → Entry
entry_at t i = entry (get_or t (index_words * i) 0) (get_or t (index_words * i + 1) 0) (get_or t (index_words * i + 2) 0)

abbrev pub entries_from : ℕ → List ℕ → ℕ → List Entry
entries_from zero t i = []
entries_from (suc k) t i = entry_at t i ∷ entries_from k t (suc i)

pub length_from : (k : ℕ) (t : List ℕ) (i : ℕ) → length (entries_from k t i) ≡ k
length_from zero t i = refl
length_from (suc k) t i = ap suc (length_from k t (suc i))

entries_at : (es : List Entry) (rest t : List ℕ) (i : ℕ) → drop (index_words * i) t ≡ entry_words es ++ rest → entries_from (length es) t i ≡ es
unfolding entry_at
entries_at [] rest t i h = refl
entries_at (e ∷ es) rest t i h =
    let at : (j : ℕ) → get_or t (index_words * i + j) 0 ≡ get_or (entry_words (e ∷ es) ++ rest) j 0 =
    λ j. sym (get_or-drop (index_words * i) t j 0) ∙ ap (λ (l : List ℕ). get_or l j 0) h
    in
    let z : index_words * i + 0 ≡ index_words * i = omega arith in
    let a : get_or t (index_words * i) 0 ≡ e.tag = rw z at (at 0) in
    let n : index_words * suc i ≡ index_words * i + 3 = omega arith in
    let d : drop (index_words * suc i) t ≡ entry_words es ++ rest = rw n (sym (drop-drop 3 (index_words * i) t) ∙ ap (λ (l : List ℕ). drop 3 l) h) in
    rw (a, at 1, at 2, entries_at es rest t (suc i) d)

-- the entries of an index that begins with their words
pub entries-indexed : (t : List ℕ) (es : List Entry) → entries_from (length es) (indexed t es) 0 ≡ es
entries-indexed t es = entries_at es (drop (index_words * length es) t) (indexed t es) 0 refl

-- ---- which may be used (rule A5)

-- a tag from a least one up to the last, a place below a bound, a count that is neither 0 nor above a bound
unfoldable pub sound_entry : ℕ → ℕ → ℕ → Entry → Bool
sound_entry places counts least e =
    choose (leb least e.tag)
    (choose (ltb e.tag (2 ^ 32)) (choose (ltb e.place places) (choose (leb 1 e.count) (leb e.count counts) false) false) false)
    false

abbrev pub sound_from : ℕ → ℕ → ℕ → List Entry → Bool
sound_from places counts least [] = true
sound_from places counts least (e ∷ es) = choose (sound_entry places counts least e) (sound_from places counts (suc e.tag) es) false

-- Rule A5: the first n entries, for which there is room
unfoldable pub sound_index : List ℕ → ℕ → ℕ → ℕ → Bool
sound_index t n places counts = choose (leb n (room t)) (sound_from places counts 0 (entries_from n t 0)) false

-- an index that begins with entries that may be used may be used
pub sound-indexed : (places counts : ℕ) (t : List ℕ) (es : List Entry) → sound_from places counts 0 es ≡ true
    → sound_index (indexed t es) (length es) places counts ≡ true
unfolding sound_index
sound-indexed places counts t es h =
    let n = length-append (entry_words es) (drop (index_words * length es) t) in
    rw (le-leb (length es) (room (indexed t es)) (omega (arith, n, length-words es)), entries-indexed t es) h

-- ---- what is answered, and left in the index

pub record Outcome : Type 0 where
  pub answer : Indexed
  pub index : List ℕ

abbrev pub outcome : Indexed → List ℕ → Outcome
outcome r t = record { answer = r; index = t }

-- Rules A3 and A9: entries with room are in the index, and their number is told; without it NoRoom, and the words as they were
abbrev pub landed : List ℕ → List Entry → Outcome
landed t es = choose (leb (length es) (room t)) (outcome (Tags (length es)) (indexed t es)) (outcome (Refused NoRoom) t)

pub landed-fits : (t : List ℕ) (es : List Entry) → length es ≤ room t → landed t es ≡ outcome (Tags (length es)) (indexed t es)
landed-fits t es h = rw (le-leb (length es) (room t) h)

pub landed_none : (t : List ℕ) (es : List Entry) → room t < length es → landed t es ≡ outcome (Refused NoRoom) t
landed_none t es h = rw (lt-leb (length es) (room t) h)
