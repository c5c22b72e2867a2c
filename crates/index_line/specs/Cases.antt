-- Lines, computed: edition 02 is written, with six digits for a place and for a count; both editions are read.
use Rattle.std.specs.Prelude.{ℕ, ◌≡◌, refl, List, [], ◌∷◌}
use Rattle.wire.specs.declared.Refusal.TheVariants.{NoRoom, BadIndex}
use Rattle.text_digits.specs.Digits.{digit_of, glyph, digits, reads_on}
use Rattle.entry_answer.specs.Stores.{at_front}
use Rattle.entry_answer.specs.declared.Put.{Put}
use Rattle.entry_answer.specs.declared.Put.TheVariants as put
use Rattle.entry_answer.specs.declared.Indexed.{Indexed}
use Rattle.entry_answer.specs.declared.Indexed.TheVariants as indexed_as
use Rattle.index.specs.Index.{entry_at, sound_entry, sound_index, outcome}
use Rattle.index_line.specs.Line.{spelled, write_line, spelled_at, spelled_well, accepted, accepted_either, entries_either, read_either}

-- ---- written

pub record Written : Type 0 where
  pub index : List ℕ
  pub tags : ℕ
  pub line : List ℕ
  pub answer : Put
  pub left : List ℕ

abbrev pub Writes : List Written → Type 0
Writes [] = Unit {0}
Writes (c ∷ cs) = (write_line 2 6 c.index c.tags c.line ≡ record { answer = c.answer; buf = c.left }) × Writes cs

-- no entries: the edition alone
abbrev pub written1 : Written
written1 =
    record {
      index = [];
      tags = 0;
      line = 9 ∷ 9 ∷ 9 ∷ [];
      answer = put.Done 2;
      left = 48 ∷ 50 ∷ 9 ∷ [];
    }

-- tag 7, place 1A2B, 3 fields
abbrev pub written2 : Written
written2 =
    record {
      index = 7 ∷ 6699 ∷ 3 ∷ [];
      tags = 1;
      line = 0 ∷ 0 ∷ 0 ∷ 0 ∷ 0 ∷ 0 ∷ 0 ∷ 0 ∷ 0 ∷ 0 ∷ 0 ∷ 0 ∷ 0 ∷ 0 ∷ 0 ∷ 0 ∷ 0 ∷ 0 ∷ 0 ∷ 0 ∷ 0 ∷ 0 ∷ [];
      answer = put.Done 22;
      left = 48 ∷ 50 ∷ 48 ∷ 48 ∷ 48 ∷ 48 ∷ 48 ∷ 48 ∷ 48 ∷ 55 ∷ 48 ∷ 48 ∷ 49 ∷ 65 ∷ 50 ∷ 66 ∷ 48 ∷ 48 ∷ 48 ∷ 48 ∷ 48 ∷ 51 ∷ [];
    }

-- the largest tag, place and count
abbrev pub written3 : Written
written3 =
    record {
      index = 0 ∷ 0 ∷ 1 ∷ 4294967295 ∷ 16777215 ∷ 16777215 ∷ [];
      tags = 2;
      line =
          0 ∷ 0 ∷ 0 ∷ 0 ∷ 0 ∷ 0 ∷ 0 ∷ 0 ∷ 0 ∷ 0 ∷ 0 ∷ 0 ∷ 0 ∷ 0 ∷ 0 ∷ 0 ∷ 0 ∷ 0 ∷ 0 ∷ 0 ∷ 0 ∷ 0 ∷ 0 ∷ 0 ∷ 0 ∷ 0 ∷ 0 ∷ 0 ∷
          0 ∷ 0 ∷ 0 ∷ 0 ∷ 0 ∷ 0 ∷ 0 ∷ 0 ∷ 0 ∷ 0 ∷ 0 ∷ 0 ∷ 0 ∷ 0 ∷ [];
      answer = put.Done 42;
      left =
          48 ∷ 50 ∷ 48 ∷ 48 ∷ 48 ∷ 48 ∷ 48 ∷ 48 ∷ 48 ∷ 48 ∷ 48 ∷ 48 ∷ 48 ∷ 48 ∷ 48 ∷ 48 ∷ 48 ∷ 48 ∷ 48 ∷ 48 ∷ 48 ∷ 49 ∷ 70 ∷ 70 ∷ 70 ∷ 70 ∷ 70 ∷ 70 ∷
          70 ∷ 70 ∷ 70 ∷ 70 ∷ 70 ∷ 70 ∷ 70 ∷ 70 ∷ 70 ∷ 70 ∷ 70 ∷ 70 ∷ 70 ∷ 70 ∷ [];
    }

-- a place of seven digits
abbrev pub written4 : Written
written4 =
    record {
      index = 7 ∷ 16777216 ∷ 3 ∷ [];
      tags = 1;
      line = 0 ∷ 0 ∷ 0 ∷ 0 ∷ 0 ∷ 0 ∷ 0 ∷ 0 ∷ 0 ∷ 0 ∷ 0 ∷ 0 ∷ 0 ∷ 0 ∷ 0 ∷ 0 ∷ 0 ∷ 0 ∷ 0 ∷ 0 ∷ 0 ∷ 0 ∷ [];
      answer = put.Refused BadIndex;
      left = 0 ∷ 0 ∷ 0 ∷ 0 ∷ 0 ∷ 0 ∷ 0 ∷ 0 ∷ 0 ∷ 0 ∷ 0 ∷ 0 ∷ 0 ∷ 0 ∷ 0 ∷ 0 ∷ 0 ∷ 0 ∷ 0 ∷ 0 ∷ 0 ∷ 0 ∷ [];
    }

-- a count of 0 comes before a line without room
abbrev pub written5 : Written
written5 =
    record {
      index = 7 ∷ 1 ∷ 0 ∷ [];
      tags = 1;
      line = [];
      answer = put.Refused BadIndex;
      left = [];
    }

-- more tags than the index has room for
abbrev pub written6 : Written
written6 =
    record {
      index = 7 ∷ 1 ∷ 3 ∷ [];
      tags = 2;
      line = 0 ∷ [];
      answer = put.Refused BadIndex;
      left = 0 ∷ [];
    }

-- a character too few
abbrev pub written7 : Written
written7 =
    record {
      index = 7 ∷ 1 ∷ 3 ∷ [];
      tags = 1;
      line = 0 ∷ 0 ∷ 0 ∷ 0 ∷ 0 ∷ 0 ∷ 0 ∷ 0 ∷ 0 ∷ 0 ∷ 0 ∷ 0 ∷ 0 ∷ 0 ∷ 0 ∷ 0 ∷ 0 ∷ 0 ∷ 0 ∷ 0 ∷ 0 ∷ [];
      answer = put.Refused NoRoom;
      left = 0 ∷ 0 ∷ 0 ∷ 0 ∷ 0 ∷ 0 ∷ 0 ∷ 0 ∷ 0 ∷ 0 ∷ 0 ∷ 0 ∷ 0 ∷ 0 ∷ 0 ∷ 0 ∷ 0 ∷ 0 ∷ 0 ∷ 0 ∷ 0 ∷ [];
    }

-- no room for the edition
abbrev pub written8 : Written
written8 =
    record {
      index = [];
      tags = 0;
      line = 5 ∷ [];
      answer = put.Refused NoRoom;
      left = 5 ∷ [];
    }

pub writes : Writes (written1 ∷ written2 ∷ written3 ∷ written4 ∷ written5 ∷ written6 ∷ written7 ∷ written8 ∷ [])
unfolding write_line at_front spelled digits glyph sound_index sound_entry entry_at
writes = (refl, (refl, (refl, (refl, (refl, (refl, (refl, (refl, tt))))))))

-- ---- read

pub record Taken : Type 0 where
  pub line : List ℕ
  pub message : ℕ
  pub index : List ℕ
  pub answer : Indexed
  pub left : List ℕ

abbrev pub Reads : List Taken → Type 0
Reads [] = Unit {0}
Reads (c ∷ cs) = (read_either c.message c.line c.index ≡ outcome c.answer c.left) × Reads cs

-- no entries, no room
abbrev pub read1 : Taken
read1 =
    record {
      line = 48 ∷ 50 ∷ [];
      message = 0;
      index = [];
      answer = indexed_as.Tags 0;
      left = [];
    }

-- tag 7, place 1A2B, 3 fields; words behind them stay
abbrev pub read2 : Taken
read2 =
    record {
      line = 48 ∷ 50 ∷ 48 ∷ 48 ∷ 48 ∷ 48 ∷ 48 ∷ 48 ∷ 48 ∷ 55 ∷ 48 ∷ 48 ∷ 49 ∷ 65 ∷ 50 ∷ 66 ∷ 48 ∷ 48 ∷ 48 ∷ 48 ∷ 48 ∷ 51 ∷ [];
      message = 9;
      index = 1 ∷ 2 ∷ 4 ∷ 5 ∷ [];
      answer = indexed_as.Tags 1;
      left = 7 ∷ 6699 ∷ 3 ∷ 5 ∷ [];
    }

-- the same in edition 01
abbrev pub read3 : Taken
read3 =
    record {
      line = 48 ∷ 49 ∷ 48 ∷ 48 ∷ 48 ∷ 48 ∷ 48 ∷ 48 ∷ 48 ∷ 55 ∷ 49 ∷ 65 ∷ 50 ∷ 66 ∷ 48 ∷ 48 ∷ 48 ∷ 51 ∷ [];
      message = 65535;
      index = 1 ∷ 2 ∷ 4 ∷ 5 ∷ [];
      answer = indexed_as.Tags 1;
      left = 7 ∷ 6699 ∷ 3 ∷ 5 ∷ [];
    }

-- edition 01 beside a longer message
abbrev pub read4 : Taken
read4 =
    record {
      line = 48 ∷ 49 ∷ 48 ∷ 48 ∷ 48 ∷ 48 ∷ 48 ∷ 48 ∷ 48 ∷ 55 ∷ 49 ∷ 65 ∷ 50 ∷ 66 ∷ 48 ∷ 48 ∷ 48 ∷ 51 ∷ [];
      message = 65536;
      index = 1 ∷ 2 ∷ 4 ∷ 5 ∷ [];
      answer = indexed_as.Refused BadIndex;
      left = 1 ∷ 2 ∷ 4 ∷ 5 ∷ [];
    }

-- edition 02 beside it
abbrev pub read5 : Taken
read5 =
    record {
      line = 48 ∷ 50 ∷ [];
      message = 65536;
      index = 8 ∷ [];
      answer = indexed_as.Tags 0;
      left = 8 ∷ [];
    }

-- the largest tag, place and count
abbrev pub read6 : Taken
read6 =
    record {
      line =
          48 ∷ 50 ∷ 48 ∷ 48 ∷ 48 ∷ 48 ∷ 48 ∷ 48 ∷ 48 ∷ 48 ∷ 48 ∷ 48 ∷ 48 ∷ 48 ∷ 48 ∷ 48 ∷ 48 ∷ 48 ∷ 48 ∷ 48 ∷ 48 ∷ 49 ∷ 70 ∷ 70 ∷ 70 ∷ 70 ∷ 70 ∷ 70 ∷
          70 ∷ 70 ∷ 70 ∷ 70 ∷ 70 ∷ 70 ∷ 70 ∷ 70 ∷ 70 ∷ 70 ∷ 70 ∷ 70 ∷ 70 ∷ 70 ∷ [];
      message = 1048575;
      index = 0 ∷ 0 ∷ 0 ∷ 0 ∷ 0 ∷ 0 ∷ [];
      answer = indexed_as.Tags 2;
      left = 0 ∷ 0 ∷ 1 ∷ 4294967295 ∷ 16777215 ∷ 16777215 ∷ [];
    }

-- a place behind the message's end
abbrev pub read7 : Taken
read7 =
    record {
      line = 48 ∷ 50 ∷ 48 ∷ 48 ∷ 48 ∷ 48 ∷ 48 ∷ 48 ∷ 48 ∷ 48 ∷ 48 ∷ 48 ∷ 48 ∷ 48 ∷ 48 ∷ 48 ∷ 48 ∷ 48 ∷ 48 ∷ 48 ∷ 48 ∷ 49 ∷ [];
      message = 0;
      index = 8 ∷ 8 ∷ 8 ∷ [];
      answer = indexed_as.Tags 1;
      left = 0 ∷ 0 ∷ 1 ∷ [];
    }

-- nothing
abbrev pub read8 : Taken
read8 =
    record {
      line = [];
      message = 0;
      index = 8 ∷ [];
      answer = indexed_as.Refused BadIndex;
      left = 8 ∷ [];
    }

-- an edition that is none
abbrev pub read9 : Taken
read9 =
    record {
      line = 48 ∷ 51 ∷ [];
      message = 0;
      index = 8 ∷ [];
      answer = indexed_as.Refused BadIndex;
      left = 8 ∷ [];
    }

-- the first character is 0
abbrev pub read10 : Taken
read10 =
    record {
      line = 49 ∷ 50 ∷ [];
      message = 0;
      index = 8 ∷ [];
      answer = indexed_as.Refused BadIndex;
      left = 8 ∷ [];
    }

-- entries of the other edition
abbrev pub read11 : Taken
read11 =
    record {
      line = 48 ∷ 50 ∷ 48 ∷ 48 ∷ 48 ∷ 48 ∷ 48 ∷ 48 ∷ 48 ∷ 55 ∷ 49 ∷ 65 ∷ 50 ∷ 66 ∷ 48 ∷ 48 ∷ 48 ∷ 51 ∷ [];
      message = 0;
      index = 8 ∷ 8 ∷ 8 ∷ [];
      answer = indexed_as.Refused BadIndex;
      left = 8 ∷ 8 ∷ 8 ∷ [];
    }

-- and the other way round
abbrev pub read12 : Taken
read12 =
    record {
      line = 48 ∷ 49 ∷ 48 ∷ 48 ∷ 48 ∷ 48 ∷ 48 ∷ 48 ∷ 48 ∷ 55 ∷ 48 ∷ 48 ∷ 49 ∷ 65 ∷ 50 ∷ 66 ∷ 48 ∷ 48 ∷ 48 ∷ 48 ∷ 48 ∷ 51 ∷ [];
      message = 0;
      index = 8 ∷ 8 ∷ 8 ∷ [];
      answer = indexed_as.Refused BadIndex;
      left = 8 ∷ 8 ∷ 8 ∷ [];
    }

-- a small letter
abbrev pub read13 : Taken
read13 =
    record {
      line = 48 ∷ 50 ∷ 48 ∷ 48 ∷ 48 ∷ 48 ∷ 48 ∷ 48 ∷ 48 ∷ 55 ∷ 48 ∷ 48 ∷ 49 ∷ 97 ∷ 50 ∷ 66 ∷ 48 ∷ 48 ∷ 48 ∷ 48 ∷ 48 ∷ 51 ∷ [];
      message = 0;
      index = 8 ∷ 8 ∷ 8 ∷ [];
      answer = indexed_as.Refused BadIndex;
      left = 8 ∷ 8 ∷ 8 ∷ [];
    }

-- a character too many
abbrev pub read14 : Taken
read14 =
    record {
      line = 48 ∷ 50 ∷ 48 ∷ 48 ∷ 48 ∷ 48 ∷ 48 ∷ 48 ∷ 48 ∷ 55 ∷ 48 ∷ 48 ∷ 49 ∷ 65 ∷ 50 ∷ 66 ∷ 48 ∷ 48 ∷ 48 ∷ 48 ∷ 48 ∷ 51 ∷ 48 ∷ [];
      message = 0;
      index = 8 ∷ 8 ∷ 8 ∷ [];
      answer = indexed_as.Refused BadIndex;
      left = 8 ∷ 8 ∷ 8 ∷ [];
    }

-- LF behind the line
abbrev pub read15 : Taken
read15 =
    record {
      line = 48 ∷ 50 ∷ 10 ∷ [];
      message = 0;
      index = 8 ∷ 8 ∷ 8 ∷ [];
      answer = indexed_as.Refused BadIndex;
      left = 8 ∷ 8 ∷ 8 ∷ [];
    }

-- a count of 0, and no room either
abbrev pub read16 : Taken
read16 =
    record {
      line = 48 ∷ 50 ∷ 48 ∷ 48 ∷ 48 ∷ 48 ∷ 48 ∷ 48 ∷ 48 ∷ 55 ∷ 48 ∷ 48 ∷ 49 ∷ 65 ∷ 50 ∷ 66 ∷ 48 ∷ 48 ∷ 48 ∷ 48 ∷ 48 ∷ 48 ∷ [];
      message = 0;
      index = 8 ∷ [];
      answer = indexed_as.Refused BadIndex;
      left = 8 ∷ [];
    }

-- equal tags
abbrev pub read17 : Taken
read17 =
    record {
      line =
          48 ∷ 50 ∷ 48 ∷ 48 ∷ 48 ∷ 48 ∷ 48 ∷ 48 ∷ 48 ∷ 55 ∷ 48 ∷ 48 ∷ 49 ∷ 65 ∷ 50 ∷ 66 ∷ 48 ∷ 48 ∷ 48 ∷ 48 ∷ 48 ∷ 51 ∷ 48 ∷ 48 ∷ 48 ∷ 48 ∷ 48 ∷ 48 ∷
          48 ∷ 55 ∷ 48 ∷ 48 ∷ 49 ∷ 65 ∷ 50 ∷ 66 ∷ 48 ∷ 48 ∷ 48 ∷ 48 ∷ 48 ∷ 51 ∷ [];
      message = 0;
      index = 0 ∷ 0 ∷ 0 ∷ 0 ∷ 0 ∷ 0 ∷ [];
      answer = indexed_as.Refused BadIndex;
      left = 0 ∷ 0 ∷ 0 ∷ 0 ∷ 0 ∷ 0 ∷ [];
    }

-- no room for a third word
abbrev pub read18 : Taken
read18 =
    record {
      line = 48 ∷ 50 ∷ 48 ∷ 48 ∷ 48 ∷ 48 ∷ 48 ∷ 48 ∷ 48 ∷ 55 ∷ 48 ∷ 48 ∷ 49 ∷ 65 ∷ 50 ∷ 66 ∷ 48 ∷ 48 ∷ 48 ∷ 48 ∷ 48 ∷ 51 ∷ [];
      message = 0;
      index = 8 ∷ 8 ∷ [];
      answer = indexed_as.Refused NoRoom;
      left = 8 ∷ 8 ∷ [];
    }

pub reads : Reads (read1 ∷ read2 ∷ read3 ∷ read4 ∷ read5 ∷ read6 ∷ read7 ∷ read8 ∷ read9 ∷
    read10 ∷ read11 ∷ read12 ∷ read13 ∷ read14 ∷ read15 ∷ read16 ∷ read17 ∷ read18 ∷ [])
unfolding read_either accepted_either entries_either accepted spelled_well spelled_at spelled digits glyph reads_on digit_of sound_entry
reads = (refl, (refl, (refl, (refl, (refl, (refl, (refl, (refl, (refl, (refl, (refl, (refl, (refl, (refl, (refl, (refl, (refl, (refl, tt))))))))))))))))))
