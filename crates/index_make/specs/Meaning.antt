-- What an index says of a message: its tags rise, and each has the place of its first key and the number of its fields.
use Rattle.std.specs.Prelude.{ℕ, zero, suc, ◌+◌, ◌*◌, ◌^◌, ◌≤◌, ◌<◌, ◌≡◌, refl, Bool, true, false, List, [], ◌∷◌, eqb, length}
use Rattle.std.proofs.Common.{ap, ◌∙◌, sym, arith, lt-ltb, le-leb, eq-eqb, ne_eqb, eqb-true}
use Rattle.std.proofs.lemmas.Bool.{eqb-false}
use Rattle.wire.specs.Choose.{choose}
use Rattle.wire.proofs.ReadingLaws.{field-moves}
use Rattle.wire.specs.Marks.{Mark, marks_from, fields_of}
use Rattle.wire.specs.MarkLaws.{Marked, none, some, marked, Rising}
use Rattle.message.specs.Tags.{of_tag}
use Rattle.index.specs.Index.{Entry, entry, sound_entry, sound_from}
use Rattle.index_make.specs.Made.{joined, index_of}

-- every field takes two bytes at least
pub marks-few : (k : ℕ) (s : List ℕ) (p last : ℕ) → p ≤ length s → p + 2 * length (marks_from k s (length s) p last) ≤ length s
marks-few zero s p last h = omega arith
marks-few (suc k) s p last h = go (marked k s (length s) p last) (λ q t. marks-few k s q t)
  where
    go : Marked k s (length s) p last → ((q t : ℕ) → q ≤ length s → q + 2 * length (marks_from k s (length s) q t) ≤ length s)
        → p + 2 * length (marks_from (suc k) s (length s) p last) ≤ length s
    go (none x) ih = rw x (omega arith)
    go (some f q a x y) ih =
        let v = field-moves s (length s) p last f q x in
        rw y (omega (arith, v.0, ih q f.tag v.1))

-- ---- the tags of an index rise strictly; a place lies before the end; a count is neither 0 nor above the number of fields

abbrev pub Sorted : ℕ → ℕ → ℕ → List Entry → Type 0
Sorted places counts least [] = Unit {0}
Sorted places counts least (e ∷ es) =
    (least ≤ e.tag) × (e.tag < 2 ^ 32) × (e.place < places) × (1 ≤ e.count) × (e.count ≤ counts) × Sorted places counts (suc e.tag) es

pub sorted-wider : (places p counts c least l : ℕ) (es : List Entry) → places ≤ p → counts ≤ c → l ≤ least → Sorted places counts least es → Sorted p c l es
sorted-wider places p counts c least l [] a b d h = tt
sorted-wider places p counts c least l (e ∷ es) a b d h = (
  omega (arith, d, h.0),
  h.1,
  omega (arith, a, h.2),
  h.3,
  omega (arith, b, h.4),
  sorted-wider places p counts c (suc e.tag) (suc e.tag) es a b (omega arith) h.5,
)

pub sorted-sound : (places counts least : ℕ) (es : List Entry) → Sorted places counts least es → sound_from places counts least es ≡ true
unfolding sound_entry
sorted-sound places counts least [] h = refl
sorted-sound places counts least (e ∷ es) h =
    let a = le-leb least e.tag h.0 in
    let b = lt-ltb e.tag (2 ^ 32) h.1 in
    let c = lt-ltb e.place places h.2 in
    rw (a, b, c, le-leb 1 e.count h.3, le-leb e.count counts h.4) (sorted-sound places counts (suc e.tag) es h.5)

-- the first field's entry joined with those of the rest
joined-sorted : (e n last : ℕ) (m : Mark) (es : List Entry) → last ≤ m.field.tag → m.field.tag < 2 ^ 32 → m.key < e → Sorted e n m.field.tag es
    → Sorted e (suc n) last (joined (entry m.field.tag m.key 1) es)
joined-sorted e n last m [] a b c g = (a, b, c, omega arith, omega arith, tt)
joined-sorted e n last m (o ∷ es) a b c g = go (eqb o.tag m.field.tag) refl
  where
    go : (x : Bool) → eqb o.tag m.field.tag ≡ x → Sorted e (suc n) last (joined (entry m.field.tag m.key 1) (o ∷ es))
    go true x =
        let y = eqb-true o.tag m.field.tag x in
        rw x (
          a,
          b,
          c,
          omega (arith, g.3),
          omega (arith, g.4),
          sorted-wider e e n (suc n) (suc o.tag) (suc m.field.tag) es (omega arith) (omega arith) (omega (arith, y)) g.5,
        )
    go false x =
        let y = eqb-false o.tag m.field.tag x in
        rw x (
          a,
          b,
          c,
          omega arith,
          omega arith,
          (
            omega (arith, y, g.0),
            g.1,
            g.2,
            g.3,
            omega (arith, g.4),
            sorted-wider e e n (suc n) (suc o.tag) (suc o.tag) es (omega arith) (omega arith) (omega arith) g.5,
          ),
        )

pub sorted-index : (e last : ℕ) (ms : List Mark) → Rising e last ms → Sorted e (length ms) last (index_of ms)
sorted-index e last [] h = tt
sorted-index e last (m ∷ ms) h = joined-sorted e (length ms) last m (index_of ms) h.0 h.1 h.2 (sorted-index e m.field.tag ms h.3)

-- ---- which entry a tag has

pub data Listed : Type 0 where
  unlisted : Listed
  listed : Entry → Listed

-- the entry of a tag
abbrev pub entry_of : ℕ → List Entry → Listed
entry_of t [] = unlisted
entry_of t (e ∷ es) = choose (eqb e.tag t) (listed e) (entry_of t es)

-- the fields of a tag, with the places of their keys
abbrev pub marks_of : ℕ → List Mark → List Mark
marks_of t [] = []
marks_of t (m ∷ ms) = choose (eqb m.field.tag t) (m ∷ marks_of t ms) (marks_of t ms)

-- Rule A1: none has no entry; else the place of the first key, and how many there are
abbrev pub meant : ℕ → List Mark → Listed
meant t [] = unlisted
meant t (m ∷ ms) = listed (entry t m.key (suc (length ms)))

pub fields-marks : (t : ℕ) (ms : List Mark) → of_tag t (fields_of ms) ≡ fields_of (marks_of t ms)
fields-marks t [] = refl
fields-marks t (m ∷ ms) = go (eqb m.field.tag t) refl (fields-marks t ms)
  where
    go : (b : Bool) → eqb m.field.tag t ≡ b → of_tag t (fields_of ms) ≡ fields_of (marks_of t ms)
        → of_tag t (fields_of (m ∷ ms)) ≡ fields_of (marks_of t (m ∷ ms))
    go true b ih = rw (b, ih)
    go false b ih = rw (b, ih)

-- a tag below all has no entry
none_below : (places counts least t : ℕ) (es : List Entry) → t < least → Sorted places counts least es → entry_of t es ≡ unlisted
none_below places counts least t [] l h = refl
none_below places counts least t (e ∷ es) l h =
    rw (ne_eqb e.tag t (λ x. omega (arith, x, l, h.0))) (none_below places counts (suc e.tag) t es (omega (arith, l, h.0)) h.5)

none-meant : (t : ℕ) (ms : List Mark) → meant t ms ≡ unlisted → ms ≡ []
none-meant t [] h = refl
none-meant t (m ∷ ms) h = let z : ◌≡◌ {A = ℕ} 0 1 = cc in absurd (omega arith)

counted : (t : ℕ) (o : Entry) (ms : List Mark) → listed o ≡ meant t ms → o.count ≡ length ms
counted t o [] h = let z : ◌≡◌ {A = ℕ} 0 1 = cc in absurd (omega arith)
counted t o (m ∷ ms) h = let z : o ≡ entry t m.key (suc (length ms)) = cc in ap (λ (e : Entry). e.count) z

-- one more field, of this tag or of another
module _ (e n t : ℕ) (m : Mark) (ms : List Mark) where
  same_tag : (es : List Entry) → m.field.tag ≡ t → Sorted e n m.field.tag es → entry_of t es ≡ meant t (marks_of t ms)
      → entry_of t (joined (entry m.field.tag m.key 1) es) ≡ listed (entry t m.key (suc (length (marks_of t ms))))
  same_tag [] x g ih = rw (none-meant t (marks_of t ms) (sym ih), x, eq-eqb t t refl)
  same_tag (o ∷ es) x g ih = go (eqb o.tag t) refl
    where
      go : (b : Bool) → eqb o.tag t ≡ b
          → entry_of t (joined (entry m.field.tag m.key 1) (o ∷ es)) ≡ listed (entry t m.key (suc (length (marks_of t ms))))
      go true b =
          let c = counted t o (marks_of t ms) (rw b at ih) in
          let z : 1 + o.count ≡ suc (length (marks_of t ms)) = omega (arith, c) in
          rw (x, b, eq-eqb t t refl, z)
      go false b =
          let y = eqb-false o.tag t b in
          let w = none_below e n (suc t) t (o ∷ es) (omega arith) (omega (arith, y, x, g.0), g.1, g.2, g.3, g.4, g.5) in
          rw (x, b, eq-eqb t t refl, none-meant t (marks_of t ms) (sym ih ∙ w))

  other_tag : (es : List Entry) → (m.field.tag ≡ t → ⊥) → entry_of t (joined (entry m.field.tag m.key 1) es) ≡ entry_of t es
  other_tag [] x = rw (ne_eqb m.field.tag t x)
  other_tag (o ∷ es) x = go (eqb o.tag m.field.tag) refl
    where
      go : (b : Bool) → eqb o.tag m.field.tag ≡ b → entry_of t (joined (entry m.field.tag m.key 1) (o ∷ es)) ≡ entry_of t (o ∷ es)
      go true b =
          let y = eqb-true o.tag m.field.tag b in
          rw (b, ne_eqb m.field.tag t x, ne_eqb o.tag t (λ z. x (sym y ∙ z)))
      go false b = rw (b, ne_eqb m.field.tag t x)

-- THE MEANING: the entry of each tag
pub index-means : (e last t : ℕ) (ms : List Mark) → Rising e last ms → entry_of t (index_of ms) ≡ meant t (marks_of t ms)
index-means e last t [] h = refl
index-means e last t (m ∷ ms) h = go (eqb m.field.tag t) refl (index-means e m.field.tag t ms h.3)
  where
    go : (b : Bool) → eqb m.field.tag t ≡ b → entry_of t (index_of ms) ≡ meant t (marks_of t ms)
        → entry_of t (index_of (m ∷ ms)) ≡ meant t (marks_of t (m ∷ ms))
    go true b ih =
        let x = eqb-true m.field.tag t b in
        rw b (same_tag e (length ms) t m ms (index_of ms) x (sorted-index e m.field.tag ms h.3) ih)
    go false b ih = rw b (other_tag e (length ms) t m ms (index_of ms) (eqb-false m.field.tag t b) ∙ ih)

-- the counts of all tags are the number of fields
abbrev pub counts_of : List Entry → ℕ
counts_of [] = 0
counts_of (e ∷ es) = e.count + counts_of es

joined-counts : (o : Entry) (es : List Entry) → counts_of (joined o es) ≡ o.count + counts_of es
joined-counts o [] = refl
joined-counts o (e ∷ es) = go (eqb e.tag o.tag) refl
  where
    go : (b : Bool) → eqb e.tag o.tag ≡ b → counts_of (joined o (e ∷ es)) ≡ o.count + counts_of (e ∷ es)
    go true b = rw b (omega arith)
    go false b = rw b refl

pub index-counts : (ms : List Mark) → counts_of (index_of ms) ≡ length ms
index-counts [] = refl
index-counts (m ∷ ms) = joined-counts (entry m.field.tag m.key 1) (index_of ms) ∙ omega (arith, index-counts ms)
