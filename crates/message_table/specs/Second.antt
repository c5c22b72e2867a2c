-- What the second pass may rely on, since the first one has read the message: nothing of it is missing, and the table has room.
use Rattle.std.specs.Prelude.{ℕ, ◌*◌, ◌≤◌, ◌≡◌, List, length}
use Rattle.wire.specs.Limits.{record_words}
use Rattle.wire.specs.Reading.{varint_at, value_at, wire_of, Fields, read_message}
use Rattle.wire.specs.Table.{value_word, length_word}
use Rattle.wire.specs.declared.Value.{Value}
use Rattle.wire.specs.declared.Field.{Field}
use Rattle.wire.specs.declared.VarintFound.TheVariants as varint_found
use Rattle.wire.specs.declared.ValueFound.TheVariants as value_found

-- the message is good, and the table has room for it
pub record Fits (s : List ℕ) (start e : ℕ) (t : List ℕ) : Type 0 where
  pub fields : List Field
  pub read : read_message s start e ≡ Fields fields
  pub room : record_words * length fields ≤ length t

-- a varint can be read
pub record Varinted (s : List ℕ) (at : ℕ) : Type 0 where
  pub value : ℕ
  pub next : ℕ
  pub read : varint_at s at ≡ varint_found.Got value next

-- a value of a wire type can be read
pub record Valued (s : List ℕ) (at kind : ℕ) : Type 0 where
  pub end : ℕ
  pub value : Value
  pub next : ℕ
  pub read : value_at s end at (wire_of kind) ≡ value_found.Got value next

-- the words of the value, whichever end it is read up to, and the place after it
abbrev pub Worded : List ℕ → ℕ → ℕ → ℕ → ℕ → ℕ → Type 0
Worded s at kind value size next =
    (e : ℕ) (v : Value) (q : ℕ) → value_at s e at (wire_of kind) ≡ value_found.Got v q → (value ≡ value_word v) × (size ≡ length_word v) × (next ≡ q)
