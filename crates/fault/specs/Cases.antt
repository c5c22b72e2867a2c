-- Cases of rules F1 to F5, computed: of messages and of steps, carried up and by the short way.
use Rattle.std.specs.Prelude.{ℕ, ◌≡◌, refl, List, [], ◌∷◌, replicate}
use Rattle.wire.specs.Faults.{looks}
use Rattle.wire.specs.Reading.{varint_at, field_at, step_at, Message, Refused, read_message}
use Rattle.wire.specs.declared.Fault.{Fault}
use Rattle.wire.specs.declared.Refusal.{Refusal}
use Rattle.wire.specs.declared.Refusal.TheVariants.{Truncated, InvalidVarint, TagOverflowed}
use Rattle.wire.specs.declared.Stepped.TheVariants as stepped
use Rattle.fault.specs.Fault.{key_fault, value_fault, field_fault, step_fault, message_fault}
use Rattle.fault.specs.Short.{up_to_nine, key_short, value_short, fault_at}

pub record Case : Type 0 where
  pub bytes : List ℕ
  pub start : ℕ
  pub end : ℕ
  pub why : Refusal
  pub place : ℕ
  pub fault : Fault

-- bytes, start and end; the refusal and its place; the failing place, and how many bytes
abbrev case : List ℕ → ℕ → ℕ → Refusal → ℕ → ℕ → ℕ → Case
case s a e r p f n = record { bytes = s; start = a; end = e; why = r; place = p; fault = record { place = f; bytes = n } }

-- what is read, and its fault: carried up, and by the short way
pub record Outcome : Type 0 where
  pub read : Message
  pub carried : Fault
  pub short : Fault

abbrev pub computed : List Case → List Outcome
computed [] = []
computed (c ∷ cs) =
    record {
      read = read_message c.bytes c.start c.end;
      carried = message_fault c.bytes c.start c.end;
      short = fault_at c.bytes c.end c.why c.place;
    }
    ∷ computed cs

abbrev pub expected : List Case → List Outcome
expected [] = []
expected (c ∷ cs) = record { read = Refused c.why c.place; carried = c.fault; short = c.fault } ∷ expected cs

abbrev pub cases : List Case
cases =
    -- a key cut by the slice; up to the slice's end and not to the cap; nine bytes; nine, renamed
    case (0x80 ∷ []) 0 1 Truncated 0 0 1
    ∷ case (0x80 ∷ 0x80 ∷ 0x80 ∷ []) 0 2 Truncated 0 0 3
    ∷ case (0x80 ∷ 0xff ∷ replicate 7 0xfe) 0 9 InvalidVarint 0 0 9
    ∷ case (0x80 ∷ 0xff ∷ replicate 7 0xfe) 0 8 Truncated 0 0 9
    -- a tag that is too large, of one key and of two
    ∷ case (0x80 ∷ 0xff ∷ 0xfe ∷ 0xfe ∷ 0x3e ∷ 0x00 ∷ []) 0 6 TagOverflowed 0 0 0
    ∷ case (0xfc ∷ 0xfe ∷ 0xfe ∷ 0xfe ∷ 0x3e ∷ 0x00 ∷ 0x04 ∷ 0x00 ∷ []) 0 8 TagOverflowed 6 6 0
    -- a varint's value: none of it there; cut by the slice; renamed
    ∷ case (0x00 ∷ []) 0 1 Truncated 0 1 0
    ∷ case (0x04 ∷ []) 0 1 Truncated 0 1 0
    ∷ case (0x00 ∷ 0x80 ∷ 0x80 ∷ []) 0 2 Truncated 0 1 2
    ∷ case (0x00 ∷ replicate 9 0xff) 0 9 Truncated 0 1 9
    -- the loop's top: behind a value, behind the last of two, behind a key that passed the end, at the start
    ∷ case (0x00 ∷ 0x00 ∷ []) 0 1 Truncated 0 2 0
    ∷ case (0x00 ∷ 0x00 ∷ 0x00 ∷ 0x00 ∷ []) 0 3 Truncated 2 4 0
    ∷ case (0x80 ∷ 0x00 ∷ 0x00 ∷ []) 0 1 Truncated 0 3 0
    ∷ case (0x00 ∷ 0x00 ∷ []) 2 1 Truncated 2 2 0
    ∷ case (0x00 ∷ 0x00 ∷ []) 1 0 Truncated 1 1 0
    -- a length: behind a key that passed the end; cut; too long
    ∷ case (0x81 ∷ 0x00 ∷ replicate 9 0xff) 0 1 InvalidVarint 0 2 9
    ∷ case (0x01 ∷ 0x80 ∷ []) 0 2 Truncated 0 1 1
    ∷ case (0x01 ∷ 0x01 ∷ []) 0 2 Truncated 0 1 0
    -- four bytes, eight bytes
    ∷ case (0x02 ∷ 0x00 ∷ 0x00 ∷ 0x00 ∷ []) 0 4 Truncated 0 1 0
    ∷ case (0x03 ∷ replicate 7 0xff) 0 8 Truncated 0 1 0
    ∷ []

pub right : computed cases ≡ expected cases
unfolding read_message field_at varint_at looks key_fault value_fault field_fault message_fault up_to_nine key_short value_short fault_at
right = refl

-- a step past its end, behind tag 7
pub step-past-end : (step_at (0x00 ∷ 0x00 ∷ []) 1 2 7 ≡ stepped.Refused Truncated) × (step_fault (0x00 ∷ 0x00 ∷ []) 1 2 7 ≡ record { place = 2; bytes = 0 })
unfolding step_at step_fault
step-past-end = (refl, refl)
