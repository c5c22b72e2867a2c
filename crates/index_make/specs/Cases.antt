-- Cases of rules A1 to A4, computed.
use Rattle.std.specs.Prelude.{◌≡◌, refl, true, false, [], ◌∷◌}
use Rattle.wire.specs.declared.Refusal.TheVariants.{Truncated, NoRoom}
use Rattle.wire.specs.Reading.{read_message, field_at, varint_at}
use Rattle.wire.specs.Marks.{marks}
use Rattle.entry_answer.specs.Gate.{gated}
use Rattle.entry_answer.specs.declared.Indexed.TheVariants.{Tags, Refused}
use Rattle.index.specs.Index.{outcome}
use Rattle.index_make.specs.Made.{made, make_index, index_fits}

-- made: no bytes; two tags, the first with two fields; words behind the entries stay
pub made_none : make_index [] (9 ∷ []) ≡ outcome (Tags 0) (9 ∷ [])
unfolding make_index made read_message marks gated
made_none = refl

pub made-two : make_index (0 ∷ 0 ∷ 0 ∷ 0 ∷ 4 ∷ 0 ∷ []) (9 ∷ 9 ∷ 9 ∷ 9 ∷ 9 ∷ 9 ∷ 8 ∷ []) ≡ outcome (Tags 2) (0 ∷ 0 ∷ 2 ∷ 1 ∷ 4 ∷ 1 ∷ 8 ∷ [])
unfolding make_index made read_message marks gated field_at varint_at
made-two = refl

-- refused: the message's own before NoRoom; room for one tag has three words
pub made-short : make_index (0 ∷ 0 ∷ 5 ∷ []) [] ≡ outcome (Refused Truncated) []
unfolding make_index made read_message marks gated field_at varint_at
made-short = refl

pub made-no-room : make_index (0 ∷ 0 ∷ []) (9 ∷ 9 ∷ []) ≡ outcome (Refused NoRoom) (9 ∷ 9 ∷ [])
unfolding make_index made read_message marks gated field_at varint_at
made-no-room = refl

-- fits: the empty message has the index of no tags; a message that is refused has none
pub fits-none : index_fits [] [] 0 ≡ true
unfolding index_fits made read_message marks gated
fits-none = refl

pub fits_not : index_fits (0 ∷ []) [] 0 ≡ false
unfolding index_fits made read_message marks gated field_at varint_at
fits_not = refl
