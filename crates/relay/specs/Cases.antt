-- The examples of docs/CAPS.md, computed; and that each pair of names occurs.
use Rattle.std.specs.Prelude.{ℕ, ◌-◌, ◌≤◌, ◌≡◌, refl, List, [], ◌∷◌, length, replicate}
use Rattle.std.proofs.Common.{sym, arith}
use Rattle.wire.specs.Limits.{message_limit}
use Rattle.wire.specs.Numbers.{number_of}
use Rattle.wire.specs.Cases.{All}
use Rattle.wire.specs.Faults.{looks}
use Rattle.wire.specs.Marks.{Mark, marks}
use Rattle.wire.specs.Places.{part}
use Rattle.wire.specs.Reading.{varint_at, field_at, Message, Fields, Refused, read_message}
use Rattle.wire.specs.declared.Refusal.TheVariants.{Truncated, InvalidVarint, TagOverflowed}
use Rattle.wire.specs.declared.Value.TheVariants as val
use Rattle.fault.specs.Fault.{value_fault, field_fault, message_fault}
use Rattle.relay.specs.Pairs.{Pair, truncated, invalid, overflowed, invalid-past, overflowed-past}

abbrev keys_of : List Mark → List ℕ
keys_of [] = []
keys_of (m ∷ ms) = m.key ∷ keys_of ms

-- bytes, a start and an end; the message under that cap, and that of the bytes between
pub record Case : Type 0 where
  pub bytes : List ℕ
  pub start : ℕ
  pub end : ℕ
  pub cap : Message
  pub bare : Message

abbrev pub Right : Case → Type 0
Right k =
    (read_message k.bytes k.start k.end ≡ k.cap)
    × (read_message (part k.bytes k.start k.end) 0 (k.end - k.start) ≡ k.bare)

-- ---- one for each pair

abbrev both-truncated : Case
both-truncated = record { bytes = 0x00 ∷ []; start = 0; end = 1; cap = Refused Truncated 0; bare = Refused Truncated 0 }

abbrev both-invalid : Case
both-invalid = record { bytes = 0x80 ∷ 0xff ∷ replicate 7 0xfe; start = 0; end = 9; cap = Refused InvalidVarint 0; bare = Refused InvalidVarint 0 }

abbrev both-overflowed : Case
both-overflowed =
    record {
      bytes = 0x80 ∷ 0xff ∷ 0xfe ∷ 0xfe ∷ 0x3e ∷ [];
      start = 0;
      end = 5;
      cap = Refused TagOverflowed 0;
      bare = Refused TagOverflowed 0;
    }

-- a length begins at the end, and is invalid past it
abbrev length-past : Case
length-past = record { bytes = 0x01 ∷ replicate 9 0xff; start = 0; end = 1; cap = Refused InvalidVarint 0; bare = Refused Truncated 0 }

-- a key begins before the end, and is too large past it
abbrev key-past : Case
key-past =
    record {
      bytes = 0x80 ∷ 0xff ∷ 0xfe ∷ 0xfe ∷ 0x3e ∷ [];
      start = 0;
      end = 1;
      cap = Refused TagOverflowed 0;
      bare = Refused Truncated 0;
    }

-- ---- and others

abbrev others : List Case
others =
    -- accepted: the payload of tag 0 stands at 3 and at 2
    record {
      bytes = 0xff ∷ 0x01 ∷ 0x02 ∷ 0x05 ∷ 0x06 ∷ 0x04 ∷ 0x07 ∷ 0x00 ∷ [];
      start = 1;
      end = 7;
      cap = Fields (record { tag = 0; value = val.LengthDelimited 3 2 } ∷ record { tag = 1; value = val.Varint 7 } ∷ []);
      bare = Fields (record { tag = 0; value = val.LengthDelimited 2 2 } ∷ record { tag = 1; value = val.Varint 7 } ∷ []);
    }
    -- the second field is refused: its place is 3, and 2
    ∷ record { bytes = 0xff ∷ 0x00 ∷ 0x05 ∷ 0x00 ∷ 0x07 ∷ []; start = 1; end = 4; cap = Refused Truncated 3; bare = Refused Truncated 2 }
    -- the pair of length-past a second way: the key itself passes the end, and the length behind it is invalid
    ∷ record { bytes = 0x81 ∷ 0x00 ∷ replicate 9 0xff; start = 0; end = 1; cap = Refused InvalidVarint 0; bare = Refused Truncated 0 }
    -- a number, and a key, whose nine bytes pass the end are renamed
    ∷ record { bytes = 0x00 ∷ replicate 9 0xff; start = 0; end = 9; cap = Refused Truncated 0; bare = Refused Truncated 0 }
    ∷ record { bytes = replicate 9 0xff; start = 0; end = 8; cap = Refused Truncated 0; bare = Refused Truncated 0 }
    -- a start past the end is no cap of anything: nothing is cut out, and nothing is a message
    ∷ record { bytes = 0x00 ∷ 0x00 ∷ []; start = 2; end = 1; cap = Refused Truncated 2; bare = Fields [] }
    ∷ []

pub pairs-right : All Right (both-truncated ∷ both-invalid ∷ both-overflowed ∷ length-past ∷ key-past ∷ [])
unfolding varint_at field_at read_message
pairs-right = ((refl, refl), ((refl, refl), ((refl, refl), ((refl, refl), ((refl, refl), tt)))))

pub others-right : All Right others
unfolding varint_at field_at read_message
others-right = ((refl, refl), ((refl, refl), ((refl, refl), ((refl, refl), ((refl, refl), ((refl, refl), tt))))))

-- the keys of the accepted one stand at 1 and 5, and at 0 and 4
pub keys-moved :
    (keys_of (marks (0xff ∷ 0x01 ∷ 0x02 ∷ 0x05 ∷ 0x06 ∷ 0x04 ∷ 0x07 ∷ 0x00 ∷ []) 1 7) ≡ 1 ∷ 5 ∷ [])
    × (keys_of (marks (0x01 ∷ 0x02 ∷ 0x05 ∷ 0x06 ∷ 0x04 ∷ 0x07 ∷ []) 0 6) ≡ 0 ∷ 4 ∷ [])
unfolding varint_at field_at marks
keys-moved = (refl, refl)

-- where the read failed (rule F5) is not the same: the cap looks further
pub failing-differs :
    (message_fault (0x00 ∷ 0x00 ∷ []) 0 1 ≡ record { place = 2; bytes = 0 }) × (message_fault (0x00 ∷ []) 0 1 ≡ record { place = 1; bytes = 0 })
unfolding varint_at field_at looks value_fault field_fault message_fault
failing-differs = (refl, refl)

-- ---- EACH PAIR OCCURS

-- the number of a message's refusal, or 0
abbrev pub numbered : Message → ℕ
numbered (Fields fs) = 0
numbered (Refused r p) = number_of r

-- a case within the limit, its start not past its end, that is refused with these numbers
abbrev pub Occurs : ℕ → ℕ → Type 0
Occurs x y =
    (k : Case) × Right k × (length k.bytes ≤ message_limit) × (k.start ≤ k.end) × (k.end ≤ length k.bytes) × (numbered k.cap ≡ x)
    × (numbered k.bare ≡ y)

pub each-occurs : (x y : ℕ) → Pair x y → Occurs x y
each-occurs x y (truncated i j) = (both-truncated, pairs-right.0, omega arith, omega arith, omega arith, sym i, sym j)
each-occurs x y (invalid i j) = (both-invalid, pairs-right.1.0, omega arith, omega arith, omega arith, sym i, sym j)
each-occurs x y (overflowed i j) = (both-overflowed, pairs-right.1.1.0, omega arith, omega arith, omega arith, sym i, sym j)
each-occurs x y (invalid-past i j) = (length-past, pairs-right.1.1.1.0, omega arith, omega arith, omega arith, sym i, sym j)
each-occurs x y (overflowed-past i j) = (key-past, pairs-right.1.1.1.1.0, omega arith, omega arith, omega arith, sym i, sym j)
