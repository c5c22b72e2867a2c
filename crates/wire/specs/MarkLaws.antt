-- Laws of the fields of a message with their keys, up to its end or a refusal.
use Rattle.std.specs.Prelude.{ℕ, zero, suc, ◌^◌, ◌≤◌, ◌<◌, ◌≡◌, refl, Bool, true, false, List, [], ◌∷◌, ltb}
use Rattle.std.proofs.Common.{ltb-true, ltb-false}
use Rattle.wire.specs.Reading.{field_at}
use Rattle.wire.specs.Marks.{Mark, marks_from, marks-turn, marks-end}
use Rattle.wire.specs.declared.Field.{Field}
use Rattle.wire.specs.declared.FieldFound.{FieldFound}
use Rattle.wire.specs.declared.FieldFound.TheVariants as field_found

-- ---- tags never fall, and every key stands before the end

abbrev pub Rising : ℕ → ℕ → List Mark → Type 0
Rising e last [] = Unit {0}
Rising e last (m ∷ ms) = (last ≤ m.field.tag) × (m.field.tag < 2 ^ 32) × (m.key < e) × Rising e m.field.tag ms

-- a list of marks is none, or a field and those behind it
pub data Marked (k : ℕ) (s : List ℕ) (e p last : ℕ) : Type 0 where
  none : marks_from (suc k) s e p last ≡ [] → Marked k s e p last
  some : (f : Field) (q : ℕ) → p < e → field_at s e p last ≡ field_found.Got f q
      → marks_from (suc k) s e p last ≡ record { key = p; field = f } ∷ marks_from k s e q f.tag → Marked k s e p last

pub marked : (k : ℕ) (s : List ℕ) (e p last : ℕ) → Marked k s e p last
marked k s e p last = go (ltb p e) refl (field_at s e p last) refl
  where
    go : (b : Bool) → ltb p e ≡ b → (o : FieldFound) → field_at s e p last ≡ o → Marked k s e p last
    go false b o x = none (marks-end s e p last (suc k) (ltb-false p e b))
    go true b (field_found.Refused r) x = none (rw (b, x))
    go true b (field_found.Got f q) x = let a = ltb-true p e b in some f q a x (marks-turn s e p last k f q a x)
