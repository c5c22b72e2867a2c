-- Laws of the fields of a message with their keys, up to its end or a refusal.
use Rattle.std.specs.Prelude.{ℕ, zero, suc, ◌^◌, ◌≤◌, ◌<◌, ◌≡◌, refl, Bool, true, false, List, [], ◌∷◌, ltb}
use Rattle.std.proofs.Common.{ltb-true, ltb-false}
use Rattle.wire.specs.Reading.{field_at}
use Rattle.wire.proofs.ReadingLaws.{field-moves}
use Rattle.wire.specs.Marks.{Mark, marks_from, marks-turn, marks-end}
use Rattle.wire.specs.declared.Field.{Field}
use Rattle.wire.specs.declared.FieldFound.{FieldFound}
use Rattle.wire.specs.declared.FieldFound.TheVariants as field_found
use Rattle.wire.specs.MarkLaws.{Marked, Rising, marked, none, some}

pub marks-rise : (k : ℕ) (s : List ℕ) (e p last : ℕ) → Rising e last (marks_from k s e p last)
marks-rise zero s e p last = tt
marks-rise (suc k) s e p last = go (marked k s e p last) (λ q t. marks-rise k s e q t)
  where
    go : Marked k s e p last → ((q t : ℕ) → Rising e t (marks_from k s e q t)) → Rising e last (marks_from (suc k) s e p last)
    go (none x) ih = rw x tt
    go (some f q a x y) ih = let v = field-moves s e p last f q x in rw y (v.2, v.3, a, ih q f.tag)
