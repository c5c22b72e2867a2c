-- The fields of a message with the places of their keys.
use Rattle.std.specs.Prelude.{ℕ, zero, suc, ◌+◌, ◌-◌, ◌≤◌, ◌<◌, ◌≡◌, refl, Bool, true, false, List, [], ◌∷◌, ltb, eqb, length}
use Rattle.std.proofs.Common.{ap, ◌∙◌, sym, arith, lt-ltb, le-ltb, ltb-true, ltb-false}
use Rattle.wire.specs.Choose.{choose}
use Rattle.wire.specs.VarintLaws.{Bytes}
use Rattle.wire.specs.Written.{written_item}
use Rattle.wire.specs.Places.{part, item_of}
use Rattle.wire.specs.Reading.{field_at, Fields, reads_from, read_message}
use Rattle.wire.proofs.ReadingLaws.{field-moves, field-took}
use Rattle.wire.specs.Theorem.{turn-field, Stands, none, some, ended-fields}
use Rattle.wire.proofs.Theorem.{stands}
use Rattle.wire.specs.declared.Field.{Field}
use Rattle.wire.specs.declared.FieldFound.{FieldFound}
use Rattle.wire.specs.declared.FieldFound.TheVariants as field_found
use Rattle.wire.specs.Marks.{Whole, fields-count, fields_of, marks, marks-end, marks-turn, marks_from, next_place, whole-none}

pub marks-read : (k : ℕ) (s : List ℕ) (e m p last : ℕ) (fs : List Field) → e - p ≤ k → reads_from k s e m p last ≡ Fields fs
    → fields_of (marks_from k s e p last) ≡ fs
marks-read zero s e m p last fs h r = go (ended-fields zero s e m p last fs r)
  where
    go : Stands zero s e p last fs → fields_of (marks_from zero s e p last) ≡ fs
    go (none x y) = sym y
    go (some f q gs x y z w) = absurd (omega arith)
marks-read (suc k) s e m p last fs h r = go (λ f q gs. marks-read k s e p q f.tag gs) (stands k s e m p last fs r)
  where
    go : ((f : Field) (q : ℕ) (gs : List Field) → e - q ≤ k → reads_from k s e p q f.tag ≡ Fields gs → fields_of (marks_from k s e q f.tag) ≡ gs)
        → Stands k s e p last fs → fields_of (marks_from (suc k) s e p last) ≡ fs
    go ih (none x y) = ap fields_of (marks-end s e p last (suc k) (omega arith)) ∙ sym y
    go ih (some f q gs x y z w) =
        let v = field-moves s e p last f q y in
        ap fields_of (marks-turn s e p last k f q x y) ∙ ap (λ (l : List Field). f ∷ l) (ih f q gs (omega (arith, v.0)) z) ∙ sym w

pub marks-fields : (s : List ℕ) (a e : ℕ) (fs : List Field) → read_message s a e ≡ Fields fs → fields_of (marks s a e) ≡ fs
unfolding read_message marks
marks-fields s a e fs r = marks-read (e - a) s e a a 0 fs (omega arith) r

pub marks-count : (s : List ℕ) (a e : ℕ) (fs : List Field) → read_message s a e ≡ Fields fs → length (marks s a e) ≡ length fs
marks-count s a e fs r = sym (fields-count (marks s a e)) ∙ ap length (marks-fields s a e fs r)

pub whole-read : (k : ℕ) (s : List ℕ) (e m p last : ℕ) (fs : List Field) → Bytes s → e - p ≤ k → reads_from k s e m p last ≡ Fields fs
    → Whole s e p last (marks_from k s e p last)
whole-read zero s e m p last fs b h r = go (ended-fields zero s e m p last fs r)
  where
    go : Stands zero s e p last fs → Whole s e p last (marks_from zero s e p last)
    go (none x y) = whole-none zero s e p last x
    go (some f q gs x y z w) = absurd (omega arith)
whole-read (suc k) s e m p last fs b h r = go (λ f q gs. whole-read k s e p q f.tag gs b) (stands k s e m p last fs r)
  where
    go : ((f : Field) (q : ℕ) (gs : List Field) → e - q ≤ k → reads_from k s e p q f.tag ≡ Fields gs → Whole s e q f.tag (marks_from k s e q f.tag))
        → Stands k s e p last fs → Whole s e p last (marks_from (suc k) s e p last)
    go ih (none x y) = whole-none (suc k) s e p last x
    go ih (some f q gs x y z w) =
        let v = field-moves s e p last f q y in
        let i = ih f q gs (omega (arith, v.0)) z in
        let n = next_place s e q f.tag (marks_from k s e q f.tag) i in
        rw (marks-turn s e p last k f q x y, n) (refl, x, y, (field-took s e p last f q b y).0, i)

pub marks-whole : (s : List ℕ) (a e : ℕ) (fs : List Field) → Bytes s → read_message s a e ≡ Fields fs → Whole s e a 0 (marks s a e)
unfolding read_message marks
marks-whole s a e fs b r = whole-read (e - a) s e a a 0 fs b (omega arith) r
