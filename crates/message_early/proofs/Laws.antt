-- The search from the front, next to the message read whole.
use Rattle.std.specs.Prelude.{ℕ, zero, suc, ◌-◌, ◌≤◌, ◌<◌, ◌≡◌, refl, Bool, true, false, List, [], ◌∷◌, ltb, eqb, length, take}
use Rattle.std.proofs.Common.{ap, ◌∙◌, sym, arith}
use borrow.Author.Tests.{lt-ltb, le-ltb, ltb-true, ltb-false, ne_eqb}
use Rattle.wire.specs.Reading.{key_at, value_at, tagged, field_of, field_at, Fields, in_front, reads_from, read_message}
use Rattle.wire.specs.Reading as reading
use Rattle.wire.proofs.ReadingLaws.{field-moves}
use Rattle.wire.specs.Theorem.{turn-field, turn-refused, turn_end, Stands, none, some, refused-fields, in-front-fields}
use Rattle.wire.proofs.Theorem.{stands}
use Rattle.message_early.specs.Cut.{field_cut}
use Rattle.wire.specs.declared.Refusal.{Refusal}
use Rattle.wire.specs.declared.Refusal.TheVariants.{Truncated}
use Rattle.wire.specs.declared.Field.{Field}
use Rattle.wire.specs.declared.Key.{Key}
use Rattle.wire.specs.declared.KeyFound.{KeyFound}
use Rattle.wire.specs.declared.KeyFound.TheVariants as key_found
use Rattle.wire.specs.declared.ValueFound.{ValueFound}
use Rattle.wire.specs.declared.ValueFound.TheVariants as value_found
use Rattle.wire.specs.declared.FieldFound.{FieldFound}
use Rattle.wire.specs.declared.FieldFound.TheVariants as field_found
use Rattle.message.specs.Tags.{of_tag}
use Rattle.message_early.specs.Early.{above, sight_of, sight_at, Ends, Above, Refused, stops_from, stop}
use Rattle.message_early.specs.declared.Sight.{Sight}
use Rattle.message_early.specs.declared.Sight.TheVariants as sight
use Rattle.message_early.specs.Laws.{Meets, Stopped, at-end, at_key, cut, meets, not-read, refused, whole}

pub stopped : (t : ℕ) (s : List ℕ) → Stopped t s
unfolding stop read_message
stopped t s = go (meets t s (length s) 0 0 0 (omega arith) (omega arith))
  where
    all : length s - 0 ≡ length s
    all = omega arith

    go : Meets (length s) t s 0 0 0 → Stopped t s
    go (whole fs a u b) = at-end fs a u (rw all b)
    go (cut fs h a u b c v d o) = at_key fs h a u c v (d (h - 0) 0 (omega arith)) (λ gs r. o gs (rw all at r))
    go (refused r i a b) = not-read r i a (rw all b)
