-- The number (rule R1) and the values of each case of each answer; what a refusal carries (rules R4, R5, R7, R8 and F6). What is accepted has no fault.
use Rattle.std.specs.Prelude.{ℕ}
use Rattle.wire.specs.Numbers.{number_of, kind_of}
use Rattle.wire.specs.Table.{kind_word, value_word, length_word}
use Rattle.wire.specs.declared.Read.{Read}
use Rattle.wire.specs.declared.Read.TheVariants as read
use Rattle.wire.specs.declared.Early as early_of
use Rattle.wire.specs.declared.Early.TheVariants as early
use Rattle.wire.specs.declared.Written.{Written}
use Rattle.wire.specs.declared.Written.TheVariants as written
use Rattle.wire.specs.declared.Inserted.{Inserted}
use Rattle.wire.specs.declared.Inserted.TheVariants as inserted
use Rattle.entry_answer.specs.declared.Put.{Put}
use Rattle.entry_answer.specs.declared.Put.TheVariants as put
use Rattle.entry_answer.specs.declared.VarintRead.{VarintRead}
use Rattle.entry_answer.specs.declared.VarintRead.TheVariants as varint_read
use Rattle.entry_answer.specs.declared.KeyRead.{KeyRead}
use Rattle.entry_answer.specs.declared.KeyRead.TheVariants as key_read
use Rattle.entry_answer.specs.declared.ValueRead.{ValueRead}
use Rattle.entry_answer.specs.declared.ValueRead.TheVariants as value_read
use Rattle.entry_answer.specs.declared.Skipped.{Skipped}
use Rattle.entry_answer.specs.declared.Skipped.TheVariants as skipped
use Rattle.entry_answer.specs.declared.Step.{Step}
use Rattle.entry_answer.specs.declared.Step.TheVariants as step
use Rattle.entry_answer.specs.declared.More.{More}
use Rattle.entry_answer.specs.declared.More.TheVariants as more
use Rattle.entry_answer.specs.declared.KeyLength.{KeyLength}
use Rattle.entry_answer.specs.declared.KeyLength.TheVariants as measured
use Rattle.entry_answer.specs.declared.Picked.{Picked}
use Rattle.entry_answer.specs.declared.Picked.TheVariants as picked
use Rattle.entry_answer.specs.declared.Indexed.{Indexed}
use Rattle.entry_answer.specs.declared.Indexed.TheVariants as indexed
use Rattle.entry_answer.specs.declared.Several as several
use Rattle.entry_answer.specs.declared.Several.TheVariants as several_as
use Rattle.entry_answer.specs.declared.Supplier.{Supplier}
use Rattle.entry_answer.specs.declared.Supplier.TheVariants as supplier
use Rattle.entry_answer.specs.declared.RunCount.{RunCount}
use Rattle.entry_answer.specs.declared.RunCount.TheVariants as run_count
use Rattle.entry_answer.specs.declared.RunValue.{RunValue}
use Rattle.entry_answer.specs.declared.RunValue.TheVariants as run_value

-- Rule R8: a length or a count
pub record Number : Type 0 where
  pub number : ℕ
  pub value : ℕ

abbrev pub put_told : Put → Number
put_told (put.Done n) = record { number = 0; value = n }
put_told (put.Refused r) = record { number = number_of r; value = 0 }

-- Rules R5 and F1: a varint: refused, how many bytes it looked at
pub record Varint : Type 0 where
  pub number : ℕ
  pub value : ℕ
  pub place : ℕ
  pub bytes : ℕ

abbrev pub varint_told : VarintRead → Varint
varint_told (varint_read.Got v q) = record { number = 0; value = v; place = q; bytes = 0 }
varint_told (varint_read.Refused r p n) = record { number = number_of r; value = 0; place = p; bytes = n }

abbrev pub key_len_told : KeyLength → Number
key_len_told (measured.Length n) = record { number = 0; value = n }
key_len_told (measured.Refused r) = record { number = number_of r; value = 0 }

-- Rule R5: a key: refused, the last tag given
pub record Key : Type 0 where
  pub number : ℕ
  pub tag : ℕ
  pub kind : ℕ
  pub place : ℕ
  pub failing : ℕ
  pub bytes : ℕ

abbrev pub key_told : KeyRead → Key
key_told (key_read.Got k q) = record { number = 0; tag = k.tag; kind = kind_of k.wire; place = q; failing = 0; bytes = 0 }
key_told (key_read.Refused r p last f) = record { number = number_of r; tag = last; kind = 0; place = p; failing = f.place; bytes = f.bytes }

-- Rules R5 and T1: a value's two words are a record's
pub record Value : Type 0 where
  pub number : ℕ
  pub value : ℕ
  pub length : ℕ
  pub place : ℕ
  pub failing : ℕ
  pub bytes : ℕ

abbrev pub value_told : ValueRead → Value
value_told (value_read.Got v q) = record { number = 0; value = value_word v; length = length_word v; place = q; failing = 0; bytes = 0 }
value_told (value_read.Refused r p f) = record { number = number_of r; value = 0; length = 0; place = p; failing = f.place; bytes = f.bytes }

-- Rule R5: a place reached
pub record Place : Type 0 where
  pub number : ℕ
  pub place : ℕ
  pub failing : ℕ
  pub bytes : ℕ

abbrev pub skipped_told : Skipped → Place
skipped_told (skipped.To q) = record { number = 0; place = q; failing = 0; bytes = 0 }
skipped_told (skipped.Refused r p f) = record { number = number_of r; place = p; failing = f.place; bytes = f.bytes }

-- Rules R5 and R9: a step from a place after a last tag: at the end both are as they were given
pub record Field : Type 0 where
  pub number : ℕ
  pub found : ℕ
  pub tag : ℕ
  pub kind : ℕ
  pub value : ℕ
  pub length : ℕ
  pub place : ℕ
  pub failing : ℕ
  pub bytes : ℕ

abbrev pub step_told : ℕ → ℕ → Step → Field
step_told at last (step.Field f q) =
    record {
      number = 0;
      found = 1;
      tag = f.tag;
      kind = kind_word f.value;
      value = value_word f.value;
      length = length_word f.value;
      place = q;
      failing = 0;
      bytes = 0;
    }
step_told at last step.End = record { number = 0; found = 0; tag = last; kind = 0; value = 0; length = 0; place = at; failing = 0; bytes = 0 }
step_told at last (step.Refused r p t f) =
    record { number = number_of r; found = 0; tag = t; kind = 0; value = 0; length = 0; place = p; failing = f.place; bytes = f.bytes }

-- Rule M9: whether there is more: 1 before the end, 0 at it
abbrev pub more_told : More → Number
more_told more.Yes = record { number = 0; value = 1 }
more_told more.No = record { number = 0; value = 0 }
more_told (more.Refused r) = record { number = number_of r; value = 0 }

-- Rule R4: a message: the place and the count
pub record Message : Type 0 where
  pub number : ℕ
  pub place : ℕ
  pub count : ℕ
  pub failing : ℕ
  pub bytes : ℕ

abbrev pub read_told : Read → Message
read_told (read.Accepted p n) = record { number = 0; place = p; count = n; failing = 0; bytes = 0 }
read_told (read.Refused r p n f) = record { number = number_of r; place = p; count = n; failing = f.place; bytes = f.bytes }

-- Rules R8 and R9: a field that was looked for: whether it was found, its type, and its value as a record has it
pub record Pick : Type 0 where
  pub number : ℕ
  pub found : ℕ
  pub kind : ℕ
  pub value : ℕ
  pub length : ℕ

abbrev pub picked_told : Picked → Pick
picked_told (picked.Found f) = record { number = 0; found = 1; kind = kind_word f.value; value = value_word f.value; length = length_word f.value }
picked_told picked.Absent = record { number = 0; found = 0; kind = 0; value = 0; length = 0 }
picked_told (picked.Refused r) = record { number = number_of r; found = 0; kind = 0; value = 0; length = 0 }

-- Rule P5: how many there are of a tag, then the same of the one at a number
pub record Several : Type 0 where
  pub number : ℕ
  pub count : ℕ
  pub found : ℕ
  pub kind : ℕ
  pub value : ℕ
  pub length : ℕ

abbrev pub several_told : several.Several → Several
several_told (several_as.Found n f) =
    record { number = 0; count = n; found = 1; kind = kind_word f.value; value = value_word f.value; length = length_word f.value }
several_told (several_as.Absent n) = record { number = 0; count = n; found = 0; kind = 0; value = 0; length = 0 }
several_told (several_as.Refused r) = record { number = number_of r; count = 0; found = 0; kind = 0; value = 0; length = 0 }

-- Rule P8: the number of keys read, then the same of the only one
pub record Early : Type 0 where
  pub number : ℕ
  pub keys : ℕ
  pub found : ℕ
  pub kind : ℕ
  pub value : ℕ
  pub length : ℕ

abbrev pub early_told : early_of.Early → Early
early_told (early.Found f n) =
    record { number = 0; keys = n; found = 1; kind = kind_word f.value; value = value_word f.value; length = length_word f.value }
early_told (early.Absent n) = record { number = 0; keys = n; found = 0; kind = 0; value = 0; length = 0 }
early_told (early.Refused r) = record { number = number_of r; keys = 0; found = 0; kind = 0; value = 0; length = 0 }

-- Rules A3 and A9: the number of tags of an index
abbrev pub indexed_told : Indexed → Number
indexed_told (indexed.Tags n) = record { number = 0; value = n }
indexed_told (indexed.Refused r) = record { number = number_of r; value = 0 }

-- Rules E2, E3, E4 and R7: a message that was written: its start and its length
pub record Wrote : Type 0 where
  pub number : ℕ
  pub start : ℕ
  pub length : ℕ

abbrev pub written_told : Written → Wrote
written_told (written.At p n) = record { number = 0; start = p; length = n }
written_told (written.Refused r p n) = record { number = number_of r; start = p; length = n }

-- Rules I3 and R7: insertion: the new count, or what the refusal carries
abbrev pub inserted_told : Inserted → Number
inserted_told (inserted.Count n) = record { number = 0; value = n }
inserted_told (inserted.Refused r n) = record { number = number_of r; value = n }

-- Rule G4: which message supplies a tag: 1 the original, 2 the correction, 0 none
pub record Supplied : Type 0 where
  pub number : ℕ
  pub supplier : ℕ

abbrev pub supplier_told : Supplier → Supplied
supplier_told supplier.Original = record { number = 0; supplier = 1 }
supplier_told supplier.Correction = record { number = 0; supplier = 2 }
supplier_told supplier.Absent = record { number = 0; supplier = 0 }
supplier_told (supplier.Refused r) = record { number = number_of r; supplier = 0 }

-- Rules U3 and U4: the number of values of a run
abbrev pub run_count_told : RunCount → Number
run_count_told (run_count.Values n) = record { number = 0; value = n }
run_count_told (run_count.Refused r) = record { number = number_of r; value = 0 }

-- Rule U3: the value at a number of a run, as a field that was looked for
abbrev pub run_value_told : RunValue → Pick
run_value_told (run_value.Found v) = record { number = 0; found = 1; kind = kind_word v; value = value_word v; length = length_word v }
run_value_told run_value.Absent = record { number = 0; found = 0; kind = 0; value = 0; length = 0 }
run_value_told (run_value.Refused r) = record { number = number_of r; found = 0; kind = 0; value = 0; length = 0 }
