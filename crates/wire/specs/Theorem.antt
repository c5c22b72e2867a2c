-- Whole messages (rule M7): what is accepted is exactly what some good list of items is written as, and there is one such list.
use Rattle.std.specs.Prelude.{ℕ, zero, suc, ◌+◌, ◌-◌, ◌*◌, ◌≤◌, ◌<◌, ◌≡◌, refl, Bool, true, false, ltb, eqb}
use Rattle.std.proofs.Math.Path.{ap, sym}
use Rattle.std.proofs.Common.{◌∙◌, arith, lt-ltb, le-ltb, ltb-true, ltb-false, eq-eqb, ne_eqb, eqb-true, length-append, take-append-drop}
use mathlib.Core.List.{List, [], ◌∷◌, ◌++◌, append_assoc}
use Rattle.std.proofs.Math.ListN.{length, drop, length-drop}
use Rattle.std.proofs.Math.Seq.{length-take-le}
use Rattle.wire.specs.VarintLaws.{Bytes}
use Rattle.wire.specs.Written.{Item, written_item, written_from, written, GoodFrom, Good}
use Rattle.wire.specs.Places.{part, items, join, behind}
use Rattle.wire.specs.Reading.{field_at, Message, Fields, Refused, in_front, ended, reads_from, read_message}
use Rattle.wire.specs.declared.Refusal.{Refusal}
use Rattle.wire.specs.declared.Refusal.TheVariants.{Truncated}
use Rattle.wire.specs.declared.Field.{Field}
use Rattle.wire.specs.declared.FieldFound.{FieldFound}
use Rattle.wire.specs.declared.FieldFound.TheVariants as field_found

-- ---- the case laws of one turn

module _ (s : List ℕ) (e m p last : ℕ) where
  pub turn-field : (k : ℕ) (f : Field) (q : ℕ) → p < e → field_at s e p last ≡ field_found.Got f q
      → reads_from (suc k) s e m p last ≡ in_front f (reads_from k s e p q f.tag)
  turn-field k f q h g = rw (lt-ltb p e h, g)

  pub turn-refused : (k : ℕ) (r : Refusal) → p < e → field_at s e p last ≡ field_found.Refused r → reads_from (suc k) s e m p last ≡ Refused r p
  turn-refused k r h g = rw (lt-ltb p e h, g)

  pub turn-ended : (k : ℕ) → e ≤ p → reads_from k s e m p last ≡ ended e m p
  turn-ended zero h = refl
  turn-ended (suc k) h = rw (le-ltb p e h)

  pub turn_end : (k : ℕ) → p ≡ e → reads_from k s e m p last ≡ Fields []
  turn_end k h = turn-ended k (omega arith) ∙ rw (eq-eqb p e h)

  pub turn-past : (k : ℕ) → e < p → reads_from k s e m p last ≡ Refused Truncated m
  turn-past k h = turn-ended k (omega arith) ∙ rw (ne_eqb p e (λ z. omega arith))

pub refused-fields : {A : Type 0} (r : Refusal) (p : ℕ) (fs : List Field) → Refused r p ≡ Fields fs → A
refused-fields r p fs e = let z : ◌≡◌ {A = ℕ} 0 1 = cc in absurd (omega arith)

pub in-front-fields : (f : Field) (r : Message) (fs : List Field) → in_front f r ≡ Fields fs → (gs : List Field) × (r ≡ Fields gs) × (fs ≡ f ∷ gs)
in-front-fields f (Fields gs) fs e = (gs, refl, cc)
in-front-fields f (Refused r p) fs e = refused-fields r p fs e

-- what stands behind a message that is accepted from place p: no field at the end, or one and a message behind it
pub data Stands (k : ℕ) (s : List ℕ) (e p last : ℕ) (fs : List Field) : Type 0 where
  none : p ≡ e → fs ≡ [] → Stands k s e p last fs
  some : (f : Field) (q : ℕ) (gs : List Field) → p < e → field_at s e p last ≡ field_found.Got f q → reads_from k s e p q f.tag ≡ Fields gs → fs ≡ f ∷ gs
      → Stands k s e p last fs

pub ended-fields : (k : ℕ) (s : List ℕ) (e m p last : ℕ) (fs : List Field) → ended e m p ≡ Fields fs → Stands k s e p last fs
ended-fields k s e m p last fs h = go (eqb p e) refl
  where
    go : (b : Bool) → eqb p e ≡ b → Stands k s e p last fs
    go true b = let r : Fields [] ≡ Fields fs = simp b at h in none (eqb-true p e b) cc
    go false b = refused-fields Truncated m fs (simp b at h)

-- ---- READ, THEN WRITTEN

abbrev pub Took : List ℕ → ℕ → ℕ → ℕ → List Field → Type 0
Took s e p last fs = (part s p e ≡ written_from last (items s fs)) × GoodFrom last (items s fs) × (p + 2 * length fs ≤ e)

pub took-none : (k : ℕ) (s : List ℕ) (e p last : ℕ) (fs : List Field) → p ≡ e → fs ≡ [] → Took s e p last fs
took-none k s e p last fs a b = let z : e - p ≡ 0 = omega arith in rw (b, z) (refl, tt, omega arith)

-- ---- WRITTEN, THEN READ

-- ---- THE THEOREM

-- the bytes from start up to the end are those that a good list is written as
pub record Written (s : List ℕ) (start e : ℕ) (is : List Item) : Type 0 where
  pub good : Good is
  pub bytes : part s start e ≡ written is
