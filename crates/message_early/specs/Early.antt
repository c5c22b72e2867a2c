-- One tag looked for from a message's front: where the search stops (rule P6), and what it answers (rules P7 and P8).
use Rattle.std.specs.Prelude.{ℕ, zero, suc, ◌+◌, Bool, false, List, [], ◌∷◌, ltb, eqb, length}
use Rattle.wire.specs.Choose.{choose}
use Rattle.wire.specs.Reading.{key_at, field_at}
use Rattle.wire.specs.declared.Refusal.{Refusal}
use Rattle.wire.specs.declared.Refusal.TheVariants.{Repeated}
use Rattle.wire.specs.declared.Field.{Field}
use Rattle.wire.specs.declared.KeyFound.{KeyFound}
use Rattle.wire.specs.declared.KeyFound.TheVariants as key_found
use Rattle.wire.specs.declared.FieldFound.{FieldFound}
use Rattle.wire.specs.declared.FieldFound.TheVariants as field_found
use Rattle.wire.specs.declared.Early.{Early}
use Rattle.wire.specs.declared.Early.TheVariants as early
use Rattle.message.specs.Tags.{of_tag}
use Rattle.message_early.specs.declared.Sight.{Sight}
use Rattle.message_early.specs.declared.Sight.TheVariants as sight

-- ---- one turn: a key above the tag t stops the search before its value is read (rule P6)

abbrev pub above : ℕ → KeyFound → Bool
above t (key_found.Got k q) = ltb t k.tag
above t (key_found.Refused r) = false

abbrev pub sight_of : FieldFound → Sight
sight_of (field_found.Got f q) = sight.Field f q
sight_of (field_found.Refused r) = sight.Refused r

unfoldable pub sight_at : ℕ → List ℕ → ℕ → ℕ → Sight
sight_at t s p last = choose (above t (key_at s (length s) p last)) sight.Above (sight_of (field_at s (length s) p last))

-- ---- where it stops: at the message's end, or at the place of the first key above the tag; in front of it the fields that were read

pub data Stop : Type 0 where
  Ends : List Field → Stop
  Above : List Field → ℕ → Stop
  Refused : Refusal → Stop

abbrev pub also : Field → Stop → Stop
also f (Ends fs) = Ends (f ∷ fs)
also f (Above fs p) = Above (f ∷ fs) p
also f (Refused r) = Refused r

abbrev pub onward : ℕ → Sight → (Field → ℕ → Stop) → Stop
onward p (sight.Field f q) go = also f (go f q)
onward p sight.Above go = Above [] p
onward p (sight.Refused r) go = Refused r

-- from place p, in at most k fields
abbrev pub stops_from : ℕ → ℕ → List ℕ → ℕ → ℕ → Stop
stops_from zero t s p last = Ends []
stops_from (suc k) t s p last = choose (ltb p (length s)) (onward p (sight_at t s p last) (λ f q. stops_from k t s q f.tag)) (Ends [])

unfoldable pub stop : ℕ → List ℕ → Stop
stop t s = stops_from (length s) t s 0 0

-- ---- what it answers

-- Rule P7: of the fields of the tag: the only one, or Absent, and the number of keys; Repeated where there are more
abbrev pub only : ℕ → List Field → Early
only n [] = early.Absent n
only n (f ∷ []) = early.Found f n
only n (f ∷ g ∷ fs) = early.Refused Repeated

-- Rule P8: a key for every field, and that of the one above
unfoldable pub early_of : ℕ → Stop → Early
early_of t (Ends fs) = only (length fs) (of_tag t fs)
early_of t (Above fs p) = only (length fs + 1) (of_tag t fs)
early_of t (Refused r) = early.Refused r

-- the same from the first field of the tag and how many there are
abbrev pub told_of : Field → ℕ → ℕ → Early
told_of f many n = choose (eqb many 0) (early.Absent n) (choose (eqb many 1) (early.Found f n) (early.Refused Repeated))
