-- Cases of rules A5 to A7, computed.
use Rattle.std.specs.Prelude.{ℕ, ◌≡◌, refl, List, [], ◌∷◌}
use Rattle.wire.specs.Reading.{field_at, varint_at}
use Rattle.wire.specs.declared.Refusal.TheVariants.{TagOverflowed, Repeated, BadIndex}
use Rattle.wire.specs.declared.Value.TheVariants.{LengthDelimited}
use Rattle.entry_answer.specs.Gate.{gated}
use Rattle.entry_answer.specs.declared.Picked.{Picked}
use Rattle.entry_answer.specs.declared.Picked.TheVariants.{Found, Absent, Refused}
use Rattle.index.specs.Index.{entry_at, sound_entry, sound_index}
use Rattle.index_pick.specs.Looked.{follow_from, look_at, lookup, pick_indexed}

pub record Case : Type 0 where
  pub message : List ℕ
  pub index : List ℕ
  pub tags : ℕ
  pub tag : ℕ
  pub answer : Picked

abbrev case : List ℕ → List ℕ → ℕ → ℕ → Picked → Case
case s u n t r = record { message = s; index = u; tags = n; tag = t; answer = r }

abbrev pub Answers : List Case → Type 0
Answers [] = Unit {0}
Answers (c ∷ cs) = (pick_indexed c.message c.index c.tags c.tag ≡ c.answer) × Answers cs

abbrev pub cases : List Case
cases =
    -- an entry that nobody asks for lies behind the message; more tags than room; a tag that stands twice
    case (0 ∷ 0 ∷ []) (0 ∷ 0 ∷ 1 ∷ 1 ∷ 9 ∷ 1 ∷ []) 2 0 (Refused BadIndex)
    ∷ case (0 ∷ 0 ∷ []) (0 ∷ 0 ∷ []) 1 0 (Refused BadIndex)
    ∷ case (0 ∷ 0 ∷ []) (0 ∷ 0 ∷ 1 ∷ 0 ∷ 0 ∷ 1 ∷ []) 2 0 (Refused BadIndex)
    -- no entry
    ∷ case (0 ∷ 0 ∷ []) [] 0 0 Absent
    -- the first key's type and value are what stands there; the tag is the one asked for
    ∷ case (5 ∷ 0 ∷ []) (7 ∷ 0 ∷ 1 ∷ []) 1 7 (Found (record { tag = 7; value = LengthDelimited 2 0 }))
    -- the first key overflows; a later one behind the first one's tag does; another tag
    ∷ case (0x80 ∷ 0xff ∷ 0xfe ∷ 0xfe ∷ 0x3e ∷ 0 ∷ []) (7 ∷ 0 ∷ 1 ∷ []) 1 7 (Refused TagOverflowed)
    ∷ case (0xfc ∷ 0xfe ∷ 0xfe ∷ 0xfe ∷ 0x3e ∷ 0 ∷ 4 ∷ 0 ∷ []) (7 ∷ 0 ∷ 2 ∷ []) 1 7 (Refused TagOverflowed)
    ∷ case (0 ∷ 0 ∷ 4 ∷ 0 ∷ []) (0 ∷ 0 ∷ 2 ∷ []) 1 0 (Refused BadIndex)
    -- a count that no message has; two fields, and the message is whole
    ∷ case (0 ∷ 0 ∷ []) (0 ∷ 0 ∷ 0xffff_ffff_ffff_ffff ∷ []) 1 0 (Refused BadIndex)
    ∷ case (0 ∷ 0 ∷ 0 ∷ 0 ∷ []) (0 ∷ 0 ∷ 2 ∷ []) 1 0 (Refused Repeated)
    ∷ []

pub answers : Answers cases
unfolding pick_indexed lookup look_at follow_from sound_index sound_entry entry_at gated field_at varint_at
answers = (refl, (refl, (refl, (refl, (refl, (refl, (refl, (refl, (refl, (refl, tt))))))))))
