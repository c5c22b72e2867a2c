-- A CAP IS AS GOOD AS A CUT: a message read from a start up to an end in a longer slice, beside the bytes between cut out and read whole.
use Rattle.std.specs.Prelude.{ℕ, zero, suc, ◌+◌, ◌-◌, ◌≤◌, ◌<◌, ◌≡◌, refl, Bool, true, false, List, [], ◌∷◌, ltb, length, take, drop}
use Rattle.std.proofs.Common.{ap, ◌∙◌, subst, ltb-true, ltb-false}
use native.Mathlib.Omega.{arith}
use Rattle.wire.specs.Numbers.{number_of}
use Rattle.wire.specs.Places.{part, items}
use Rattle.wire.specs.Reading.{field_at, Message, Fields, Refused, in_front, reads_from, read_message}
use Rattle.wire.proofs.ReadingLaws.{field-moves}
use Rattle.wire.specs.Theorem.{turn-field, turn-refused, turn_end, turn-past}
use Rattle.wire.specs.Marks.{Mark, marks_from, marks, fields_of, marks-turn, marks-end}
use Rattle.wire.specs.declared.Refusal.{Refusal}
use Rattle.wire.specs.declared.Refusal.TheVariants.{Truncated}
use Rattle.wire.specs.declared.Field.{Field}
use Rattle.wire.specs.declared.FieldFound.TheVariants as field_found
use Rattle.relay.specs.Pairs.{moved_field, Pair, truncated, Founds, same, refuse, passes}

-- a field's key and its payload move by the start
abbrev pub moved_mark : ℕ → Mark → Mark
moved_mark a m = record { key = a + m.key; field = moved_field a m.field }

abbrev pub moved_marks : ℕ → List Mark → List Mark
moved_marks a [] = []
moved_marks a (m ∷ ms) = moved_mark a m ∷ moved_marks a ms

-- two messages and the marks of each: of a slice s under a cap, and of the bytes b cut out of it from place a on
pub data Alike (s b : List ℕ) (a : ℕ) (cap bare : Message) (caps bares : List Mark) : Type 0 where
  -- both accepted: the same fields, which show the same; each key, and each payload, stands where it stood, moved by the start
  accepts : (ms : List Mark) → cap ≡ Fields (fields_of (moved_marks a ms)) → bare ≡ Fields (fields_of ms) → caps ≡ moved_marks a ms → bares ≡ ms
      → items s (fields_of (moved_marks a ms)) ≡ items b (fields_of ms)
      → Alike s b a cap bare caps bares
  -- both refused, at the same field, with one of five pairs of names
  refuses : (r t : Refusal) (p : ℕ) → cap ≡ Refused r (a + p) → bare ≡ Refused t p → Pair (number_of r) (number_of t) → Alike s b a cap bare caps bares
