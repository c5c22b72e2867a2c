-- The refusals of the index's entries, each in its order (rules A3, A6, A7, A8 and A9).
use Rattle.std.specs.Prelude.{ℕ, zero, suc, ◌+◌, ◌-◌, ◌*◌, ◌^◌, not, List, [], ◌∷◌, ◌++◌, ltb, eqb, length}
use Rattle.wire.specs.Reading.{key_at, value_at, field_at}
use Rattle.wire.specs.Marks.{marks}
use Rattle.wire.specs.declared.Refusal.TheVariants.{NoRoom, Repeated, BadIndex}
use Rattle.wire.specs.declared.Key.{Key}
use Rattle.wire.specs.declared.KeyFound.{KeyFound}
use Rattle.wire.specs.declared.KeyFound.TheVariants as key_found
use Rattle.wire.specs.declared.ValueFound.{ValueFound}
use Rattle.wire.specs.declared.ValueFound.TheVariants as value_found
use Rattle.index.specs.Index.{Entry, room, entries_from, sound_index}
use Rattle.index_make.specs.Made.{index_of}
use Rattle.index_make.specs.Meaning.{Listed, unlisted, listed, entry_of}
use Rattle.index_line.specs.Line.{head_digits, width, accepted_either, entries_either}
use Rattle.demands_order.specs.Order.{Rule, when}
use Rattle.demands_order.specs.Rules.{order_r, key_rules, value_rules, field_rules, behind_field, message_rules}

-- Rule A3: the whole message's, then 5 if its tags are more than the index has room for
abbrev pub make_index_order : List ℕ → List ℕ → List Rule
make_index_order s t =
    order_r s 0 (length s) (message_rules s 0 (length s) ++ (when (ltb (room t) (length (index_of (marks s 0 (length s))))) NoRoom ∷ []))

-- Rule A7: each counted field behind the first: 12 at the end, then its key's, 12 for another tag, its value's
abbrev pub behind_value : ValueFound → (ℕ → List Rule) → List Rule
behind_value (value_found.Got v q) go = go q
behind_value (value_found.Refused r) go = []

abbrev pub behind_key_of : KeyFound → (Key → ℕ → List Rule) → List Rule
behind_key_of (key_found.Got k q) go = go k q
behind_key_of (key_found.Refused r) go = []

abbrev pub follow_rules : ℕ → List ℕ → ℕ → ℕ → List Rule
follow_rules zero s t p = []
follow_rules (suc n) s t p =
    when (not (ltb p (length s))) BadIndex
    ∷ (key_rules s (length s) p t
    ++ behind_key_of (key_at s (length s) p t) (λ k q.
    when (not (eqb k.tag t)) BadIndex
    ∷ (value_rules s (length s) q k.wire ++ behind_value (value_at s (length s) q k.wire) (λ i. follow_rules n s t i))))

-- Rules A6 and A7: of the entry of the tag: its first field's, then those of the further ones, then 11 if there are more than one
abbrev pub look_rules : List ℕ → Entry → List Rule
look_rules s e =
    field_rules s (length s) e.place 0
    ++ behind_field (field_at s (length s) e.place 0) (λ f q. follow_rules (e.count - 1) s f.tag q ++ (when (not (eqb e.count 1)) Repeated ∷ []))

abbrev pub listed_rules : List ℕ → Listed → List Rule
listed_rules s unlisted = []
listed_rules s (listed e) = look_rules s e

-- Rule A6: 12 for an index that may not be used, then 4, then those of the tag's entry
abbrev pub pick_indexed_order : List ℕ → List ℕ → ℕ → ℕ → List Rule
pick_indexed_order s u n tag =
    when (not (sound_index u n (length s) (2 ^ 64 - 1))) BadIndex ∷ order_r s 0 (length s) (listed_rules s (entry_of tag (entries_from n u 0)))

-- Rule A8: 12 for an index that may not be used, then 5
abbrev pub write_line_order : ℕ → List ℕ → ℕ → List ℕ → List Rule
write_line_order w u n b =
    when (not (sound_index u n (16 ^ w) (16 ^ w - 1))) BadIndex ∷ when (ltb (length b) (head_digits + width w * n)) NoRoom ∷ []

-- Rule A9: 12 for a line that is not accepted, then 5
abbrev pub read_line_order : ℕ → List ℕ → List ℕ → List Rule
read_line_order m l t = when (not (accepted_either m l)) BadIndex ∷ when (ltb (room t) (length (entries_either l))) NoRoom ∷ []
