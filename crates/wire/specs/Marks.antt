-- The fields of a message with the places of their keys.
use Rattle.std.specs.Prelude.{ℕ, zero, suc, ◌+◌, ◌-◌, ◌≤◌, ◌<◌, ◌≡◌, refl, Bool, true, false, List, [], ◌∷◌, ltb, eqb, length}
use Rattle.std.proofs.Common.{ap, ◌∙◌, sym, arith, lt-ltb, le-ltb, ltb-true, ltb-false}
use Rattle.wire.specs.Choose.{choose}
use Rattle.wire.specs.VarintLaws.{Bytes}
use Rattle.wire.specs.Written.{written_item}
use Rattle.wire.specs.Places.{part, item_of}
use Rattle.wire.specs.Reading.{field_at, Fields, reads_from, read_message}
use Rattle.wire.specs.Theorem.{turn-field, Stands, none, some, ended-fields}
use Rattle.wire.specs.declared.Field.{Field}
use Rattle.wire.specs.declared.FieldFound.{FieldFound}
use Rattle.wire.specs.declared.FieldFound.TheVariants as field_found

pub record Mark : Type 0 where
  pub key : ℕ
  pub field : Field

abbrev pub noted : ℕ → FieldFound → (Field → ℕ → List Mark) → List Mark
noted p (field_found.Got f q) go = record { key = p; field = f } ∷ go f q
noted p (field_found.Refused r) go = []

-- as reads_from, up to the end or a refusal
abbrev pub marks_from : ℕ → List ℕ → ℕ → ℕ → ℕ → List Mark
marks_from zero s e p last = []
marks_from (suc k) s e p last = choose (ltb p e) (noted p (field_at s e p last) (λ f q. marks_from k s e q f.tag)) []

unfoldable pub marks : List ℕ → ℕ → ℕ → List Mark
marks s a e = marks_from (e - a) s e a 0

abbrev pub fields_of : List Mark → List Field
fields_of [] = []
fields_of (m ∷ ms) = m.field ∷ fields_of ms

-- ---- one turn

module _ (s : List ℕ) (e p last : ℕ) where
  pub marks-turn : (k : ℕ) (f : Field) (q : ℕ) → p < e → field_at s e p last ≡ field_found.Got f q
      → marks_from (suc k) s e p last ≡ record { key = p; field = f } ∷ marks_from k s e q f.tag
  marks-turn k f q h g = rw (lt-ltb p e h, g)

  pub marks-end : (k : ℕ) → e ≤ p → marks_from k s e p last ≡ []
  marks-end zero h = refl
  marks-end (suc k) h = rw (le-ltb p e h)

-- each stands before the end, and whole fields follow one another: a field is read from its key up to the next, and these bytes are the field's
abbrev pub next : ℕ → List Mark → ℕ
next e [] = e
next e (m ∷ ms) = m.key

abbrev pub Whole : List ℕ → ℕ → ℕ → ℕ → List Mark → Type 0
Whole s e p last [] = p ≡ e
Whole s e p last (m ∷ ms) =
    (m.key ≡ p) × (p < e) × (field_at s e p last ≡ field_found.Got m.field (next e ms))
    × (part s p (next e ms) ≡ written_item last (item_of s m.field)) × Whole s e (next e ms) m.field.tag ms

-- ---- the fields of an accepted message

pub fields-count : (ms : List Mark) → length (fields_of ms) ≡ length ms
fields-count [] = refl
fields-count (m ∷ ms) = ap suc (fields-count ms)

-- ---- whole fields: the next key is where the field ended

pub next_place : (s : List ℕ) (e q t : ℕ) (ms : List Mark) → Whole s e q t ms → next e ms ≡ q
next_place s e q t [] w = sym w
next_place s e q t (m ∷ ms) w = w.0

pub whole-none : (k : ℕ) (s : List ℕ) (e p last : ℕ) → p ≡ e → Whole s e p last (marks_from k s e p last)
whole-none k s e p last a = rw (marks-end s e p last k (omega arith)) a
