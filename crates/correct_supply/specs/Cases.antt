-- Cases of rules G2 and G3, computed.
use Rattle.std.specs.Prelude.{ℕ, ◌≡◌, refl, List, [], ◌∷◌}
use Rattle.wire.specs.Reading.{read_message, field_at, varint_at}
use Rattle.wire.specs.Marks.{marks}
use Rattle.wire.specs.declared.Refusal.TheVariants.{Truncated, InvalidVarint, Repeated}
use Rattle.entry_answer.specs.Gate.{gated}
use Rattle.correct_supply.specs.declared.Supply.{Supply}
use Rattle.correct_supply.specs.declared.Supply.TheVariants.{Original, Correction, Absent, Refused}
use Rattle.correct_supply.specs.Supplying.{span, bare_at, held_in, held, judged, supply_of}

pub record Case : Type 0 where
  pub original : List ℕ
  pub correction : List ℕ
  pub tag : ℕ
  pub supply : Supply

abbrev case : List ℕ → List ℕ → ℕ → Supply → Case
case o c t r = record { original = o; correction = c; tag = t; supply = r }

abbrev pub Answers : List Case → Type 0
Answers [] = Unit {0}
Answers (c ∷ cs) = (supply_of c.original c.correction c.tag ≡ c.supply) × Answers cs

abbrev pub cases : List Case
cases =
    -- no bytes; an empty payload is no Absent
    case [] [] 0 Absent
    ∷ case (1 ∷ 0 ∷ []) [] 0 (Original (span 2 0))
    -- a varint of two bytes, a payload without its length, four bytes
    ∷ case [] (4 ∷ 0x80 ∷ 0 ∷ []) 1 (Correction (span 1 2))
    ∷ case (9 ∷ 2 ∷ 0xc0 ∷ 0xde ∷ []) [] 2 (Original (span 2 2))
    ∷ case (6 ∷ 1 ∷ 2 ∷ 0 ∷ 0 ∷ []) (0 ∷ 0 ∷ []) 1 (Original (span 1 4))
    -- twice in the original, once in the correction; the other way round; twice in the original alone
    ∷ case (0 ∷ 0 ∷ 0 ∷ 0 ∷ []) (0 ∷ 5 ∷ []) 0 (Correction (span 1 1))
    ∷ case (0 ∷ 5 ∷ []) (0 ∷ 0 ∷ 0 ∷ 0 ∷ []) 0 (Refused Repeated)
    ∷ case (0 ∷ 0 ∷ 0 ∷ 0 ∷ []) (4 ∷ 0 ∷ []) 0 (Refused Repeated)
    -- the original's refusal, then the correction's, then Repeated
    ∷ case (0 ∷ []) (0x80 ∷ 0xff ∷ 0xfe ∷ 0xfe ∷ 0xfe ∷ 0xfe ∷ 0xfe ∷ 0xfe ∷ 0xfe ∷ []) 0 (Refused Truncated)
    ∷ case (0x80 ∷ 0xff ∷ 0xfe ∷ 0xfe ∷ 0xfe ∷ 0xfe ∷ 0xfe ∷ 0xfe ∷ 0xfe ∷ []) (0 ∷ []) 0 (Refused InvalidVarint)
    ∷ case (0 ∷ 0 ∷ 0 ∷ 0 ∷ []) (0 ∷ []) 0 (Refused Truncated)
    ∷ []

pub answers : Answers cases
unfolding supply_of judged held held_in bare_at read_message marks gated field_at varint_at
answers = (refl, (refl, (refl, (refl, (refl, (refl, (refl, (refl, (refl, (refl, (refl, tt)))))))))))
