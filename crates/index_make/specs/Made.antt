-- What making an index answers and leaves, and which indexes are a message's.
use Rattle.std.specs.Prelude.{ℕ, ◌+◌, ◌*◌, ◌≤◌, ◌<◌, ◌≡◌, refl, Bool, true, false, List, [], ◌∷◌, ◌++◌, eqb, length, drop}
use Rattle.std.proofs.Math.Path.{ap, sym}
use Rattle.std.proofs.Common.{◌∙◌, arith, eq-eqb, eqb-true, length-append}
use Rattle.wire.specs.Choose.{choose}
use Rattle.wire.specs.Reading.{Message, Fields, read_message}
use Rattle.wire.specs.Reading as reading
use Rattle.wire.specs.Marks.{Mark, marks}
use Rattle.wire.specs.declared.Refusal.{Refusal}
use Rattle.wire.specs.declared.Refusal.TheVariants.{NoRoom}
use Rattle.entry_answer.specs.Gate.{gated, through, through-open, through-shut}
use Rattle.entry_answer.specs.declared.Gated.TheVariants.{Open, Shut}
use Rattle.entry_answer.specs.declared.Indexed.{Indexed}
use Rattle.entry_answer.specs.declared.Indexed.TheVariants as indexed_as
use Rattle.index.specs.Index.{Entry, entry, index_words, room, indexed, entry_words, length-words}
use Rattle.index.specs.Index.{Outcome, outcome, landed, landed-fits, landed_none}

-- ---- the index of a message (rule A1)

-- an entry ahead of those of the fields behind it: one with the first of them, if that is of its tag
abbrev pub joined : Entry → List Entry → List Entry
joined o [] = o ∷ []
joined o (e ∷ es) = choose (eqb e.tag o.tag) (entry o.tag o.place (o.count + e.count) ∷ es) (o ∷ e ∷ es)

-- Rule A1: fields of one tag stand together, since tags never fall
abbrev pub index_of : List Mark → List Entry
index_of [] = []
index_of (m ∷ ms) = joined (entry m.field.tag m.key 1) (index_of ms)

pub data Made : Type 0 where
  Entries : List Entry → Made
  Refused : Refusal → Made

abbrev pub made_of : Message → List Entry → Made
made_of (Fields fs) es = Entries es
made_of (reading.Refused r p) es = Refused r

-- Rule A1: only a message that is accepted has an index
unfoldable pub made : List ℕ → Made
made s = made_of (read_message s 0 (length s)) (index_of (marks s 0 (length s)))

-- how many tags
abbrev pub tags_of : Made → Indexed
tags_of (Entries es) = indexed_as.Tags (length es)
tags_of (Refused r) = indexed_as.Refused r

abbrev pub into_index : List ℕ → Made → List ℕ
into_index t (Entries es) = indexed t es
into_index t (Refused r) = t

-- what the number of tags says of what was made
pub tags-entries : (m : Made) (n : ℕ) → tags_of m ≡ indexed_as.Tags n → (es : List Entry) × (m ≡ Entries es) × (length es ≡ n)
tags-entries (Entries es) n e = (es, refl, cc)
tags-entries (Refused r) n e = let z : ◌≡◌ {A = ℕ} 0 1 = cc in absurd (omega arith)

pub tags-refused : (m : Made) (r : Refusal) → tags_of m ≡ indexed_as.Refused r → m ≡ Refused r
tags-refused (Entries es) r e = let z : ◌≡◌ {A = ℕ} 0 1 = cc in absurd (omega arith)
tags-refused (Refused x) r e = cc

-- the message is good, and the index has room for its entries
pub record Ready (s t : List ℕ) : Type 0 where
  pub entries : List Entry
  pub read : made s ≡ Entries entries
  pub room : index_words * length entries ≤ length t

-- ---- what is answered, and left in the index

-- Rule A3: a refusal of the message leaves the words
abbrev pub taken : List ℕ → Made → Outcome
taken t (Entries es) = landed t es
taken t (Refused r) = outcome (indexed_as.Refused r) t

-- Rule A3: a message above the limit comes first
unfoldable pub make_index : List ℕ → List ℕ → Outcome
make_index s t = through (gated (length s) 0 (length s)) (λ r. outcome (indexed_as.Refused r) t) (taken t (made s))

module _ (s t : List ℕ) where
  pub make-shut : (r : Refusal) → gated (length s) 0 (length s) ≡ Shut r → make_index s t ≡ outcome (indexed_as.Refused r) t
  unfolding make_index
  make-shut r h = through-shut _ _ h

  module _ (h : gated (length s) 0 (length s) ≡ Open) where
    pub make-refused : (r : Refusal) → made s ≡ Refused r → make_index s t ≡ outcome (indexed_as.Refused r) t
    unfolding make_index
    make-refused r m = through-open _ _ h ∙ ap (taken t) m

    pub make-no-room : (es : List Entry) → made s ≡ Entries es → room t < length es → make_index s t ≡ outcome (indexed_as.Refused NoRoom) t
    unfolding make_index
    make-no-room es m g = through-open _ _ h ∙ ap (taken t) m ∙ landed_none t es g

    pub make-fits : (es : List Entry) → made s ≡ Entries es → length es ≤ room t → make_index s t ≡ outcome (indexed_as.Tags (length es)) (indexed t es)
    unfolding make_index
    make-fits es m g = through-open _ _ h ∙ ap (taken t) m ∙ landed-fits t es g

-- ---- rule A4: an index fits a message if it is the one that is made of it

-- whether a list starts with words
abbrev pub starts : List ℕ → List ℕ → Bool
starts [] t = true
starts (w ∷ ws) [] = false
starts (w ∷ ws) (v ∷ t) = choose (eqb v w) (starts ws t) false

-- whether words start with the entries, which are all that are left behind n of so many tags
abbrev pub agrees_from : ℕ → ℕ → List ℕ → Made → Bool
agrees_from tags n t (Entries es) = choose (eqb (n + length es) tags) (starts (entry_words es) t) false
agrees_from tags n t (Refused r) = false

abbrev pub agrees : List ℕ → ℕ → Made → Bool
agrees t tags m = agrees_from tags 0 t m

unfoldable pub index_fits : List ℕ → List ℕ → ℕ → Bool
index_fits s t tags = through (gated (length s) 0 (length s)) (λ r. false) (agrees t tags (made s))

-- ---- its cases

starts_more : (w v : ℕ) (ws t : List ℕ) → starts (w ∷ ws) (v ∷ t) ≡ true → (v ≡ w) × (starts ws t ≡ true)
starts_more w v ws t h = go (eqb v w) refl
  where
    go : (b : Bool) → eqb v w ≡ b → (v ≡ w) × (starts ws t ≡ true)
    go true b = (eqb-true v w b, rw b at h)
    go false b = let x : false ≡ true = rw b at h in let z : ◌≡◌ {A = ℕ} 0 1 = cc in absurd (omega arith)

-- a list that starts with words is those and what follows them, and no other does
pub starts-true : (ws t : List ℕ) → starts ws t ≡ true → t ≡ ws ++ drop (length ws) t
starts-true [] t h = refl
starts-true (w ∷ ws) [] h = let z : ◌≡◌ {A = ℕ} 0 1 = cc in absurd (omega arith)
starts-true (w ∷ ws) (v ∷ t) h =
    let x = starts_more w v ws t h in
    ap (λ (l : List ℕ). v ∷ l) (starts-true ws t x.1) ∙ ap (λ (n : ℕ). n ∷ ws ++ drop (length ws) t) x.0

pub starts-same : (ws t : List ℕ) → starts ws (ws ++ t) ≡ true
starts-same [] t = refl
starts-same (w ∷ ws) t = rw (eq-eqb w w refl) (starts-same ws t)

-- an index without room for so many tags starts with no so many entries
agrees-none : (t : List ℕ) (tags : ℕ) (m : Made) → room t < tags → false ≡ agrees t tags m
agrees-none t tags (Refused r) h = refl
agrees-none t tags (Entries es) h = go (eqb (0 + length es) tags) refl (starts (entry_words es) t) refl
  where
    go : (a : Bool) → eqb (0 + length es) tags ≡ a → (b : Bool) → starts (entry_words es) t ≡ b → false ≡ agrees t tags (Entries es)
    go false a b x = rw a
    go true a false x = rw (a, x)
    go true a true x =
        let n = ap length (starts-true (entry_words es) t x) ∙ length-append (entry_words es) (drop (length (entry_words es)) t) in
        absurd (omega (arith, n, length-words es, eqb-true (0 + length es) tags a, h))

module _ (s t : List ℕ) (tags : ℕ) where
  pub fits-shut : (r : Refusal) → gated (length s) 0 (length s) ≡ Shut r → false ≡ index_fits s t tags
  unfolding index_fits
  fits-shut r h = sym (through-shut _ _ h)

  module _ (h : gated (length s) 0 (length s) ≡ Open) where
    pub fits-open : index_fits s t tags ≡ agrees t tags (made s)
    unfolding index_fits
    fits-open = through-open _ _ h

    pub fits-none : room t < tags → false ≡ index_fits s t tags
    fits-none g = agrees-none t tags (made s) g ∙ sym fits-open
