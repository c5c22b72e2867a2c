-- Cases of rules G1 and G5, computed.
use Rattle.std.specs.Prelude.{ℕ, ◌≡◌, refl, List, [], ◌∷◌}
use Rattle.wire.specs.Varint.{encode}
use Rattle.wire.specs.Reading.{read_message, field_at, varint_at}
use Rattle.wire.specs.declared.Refusal.TheVariants.{Truncated, InvalidVarint, NoRoom}
use Rattle.entry_answer.specs.Gate.{gated}
use Rattle.entry_answer.specs.Stores.{at_front}
use Rattle.entry_answer.specs.declared.Put.{Put}
use Rattle.entry_answer.specs.declared.Put.TheVariants.{Done, Refused}
use Rattle.correct_write.specs.Corrected.{taken, write_corrected}

pub record Case : Type 0 where
  pub original : List ℕ
  pub correction : List ℕ
  pub buf : List ℕ
  pub answer : Put
  pub leaves : List ℕ

abbrev case : List ℕ → List ℕ → List ℕ → Put → List ℕ → Case
case o c b r d = record { original = o; correction = c; buf = b; answer = r; leaves = d }

abbrev pub Answers : List Case → Type 0
Answers [] = Unit {0}
Answers (c ∷ cs) = (write_corrected c.original c.correction c.buf ≡ record { answer = c.answer; buf = c.leaves }) × Answers cs

abbrev pub cases : List Case
cases =
    -- no bytes; nothing corrected; nothing there to correct
    case [] [] (9 ∷ []) (Done 0) (9 ∷ [])
    ∷ case (0 ∷ 1 ∷ []) [] (9 ∷ 9 ∷ 9 ∷ []) (Done 2) (0 ∷ 1 ∷ 9 ∷ [])
    ∷ case [] (4 ∷ 1 ∷ []) (9 ∷ 9 ∷ []) (Done 2) (4 ∷ 1 ∷ [])
    -- both fields of the tag are replaced by one
    ∷ case (0 ∷ 0 ∷ 0 ∷ 0 ∷ []) (0 ∷ 5 ∷ []) (9 ∷ 9 ∷ 9 ∷ []) (Done 2) (0 ∷ 5 ∷ 9 ∷ [])
    -- one by two, between other tags
    ∷ case (0 ∷ 1 ∷ 4 ∷ 2 ∷ 4 ∷ 3 ∷ []) (4 ∷ 7 ∷ 0 ∷ 8 ∷ []) (9 ∷ 9 ∷ 9 ∷ 9 ∷ 9 ∷ 9 ∷ 9 ∷ 9 ∷ []) (Done 8) (0 ∷ 1 ∷ 4 ∷ 7 ∷ 0 ∷ 8 ∷ 4 ∷ 3 ∷ [])
    -- a new tag: the key behind it has another difference
    ∷ case (0 ∷ 1 ∷ 8 ∷ 2 ∷ []) (4 ∷ 5 ∷ []) (9 ∷ 9 ∷ 9 ∷ 9 ∷ 9 ∷ 9 ∷ []) (Done 6) (0 ∷ 1 ∷ 4 ∷ 5 ∷ 4 ∷ 2 ∷ [])
    ∷ case (0 ∷ 1 ∷ 8 ∷ 2 ∷ []) (4 ∷ 5 ∷ []) (9 ∷ 9 ∷ 9 ∷ 9 ∷ 9 ∷ []) (Refused NoRoom) (9 ∷ 9 ∷ 9 ∷ 9 ∷ 9 ∷ [])
    -- the original's refusal before the correction's
    ∷ case (0 ∷ []) (0x80 ∷ 0xff ∷ 0xfe ∷ 0xfe ∷ 0xfe ∷ 0xfe ∷ 0xfe ∷ 0xfe ∷ 0xfe ∷ []) [] (Refused Truncated) []
    ∷ case (0x80 ∷ 0xff ∷ 0xfe ∷ 0xfe ∷ 0xfe ∷ 0xfe ∷ 0xfe ∷ 0xfe ∷ 0xfe ∷ []) (0 ∷ []) [] (Refused InvalidVarint) []
    ∷ []

pub answers : Answers cases
unfolding write_corrected taken at_front read_message gated field_at varint_at encode
answers = (refl, (refl, (refl, (refl, (refl, (refl, (refl, (refl, (refl, tt)))))))))
