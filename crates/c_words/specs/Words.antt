-- The words that C is handed: each struct of the interface as the answer that the face tells.
use Rattle.std.specs.Prelude.{ℕ, zero, suc, ◌≤◌, ◌≡◌, refl, Bool, true, false, List}
use Rattle.std.proofs.Common.{arith}
use Rattle.entry_answer.specs.Told as told
use Rattle.entry_answer.specs.Told.{put_told, read_told, written_told, inserted_told, indexed_told, run_count_told}
use Rattle.write_message.specs.Writing.{Writing}
use Rattle.write_insertion.specs.Insertion.{Insertion}
use Rattle.edit.specs.Edits.{Edit}
use Rattle.entry_answer.specs.Stores.{Stored}
use Rattle.wire.specs.Numbers.{number_of}
use Rattle.wire.specs.Table.{kind_word, value_word, length_word}
use Rattle.wire.specs.declared.Field.{Field}
use Rattle.wire.specs.declared.Refusal.TheVariants.{BadRecord}
use Rattle.wire.specs.declared.WireType.{WireType}
use Rattle.wire.specs.declared.WireType.TheVariants as wire_type
use Rattle.message_table.specs.Into.{Outcome}
use Rattle.index.specs.Index as index
use Rattle.correct_supply.specs.Supplying.{nowhere}
use Rattle.correct_supply.specs.declared.Supply.{Supply}
use Rattle.correct_supply.specs.declared.Supply.TheVariants as supply
use Rattle.run_read.specs.Runs as run
use Rattle.message_payload.specs.declared.Span.{Span}
use Rattle.sounding.specs.Told as soundings
use Rattle.sounding.specs.Told.{sounding_told}
use Rattle.sounding.specs.Words as levels
use Rattle.c_words.specs.declared.Number.{Number}
use Rattle.c_words.specs.declared.Varint.{Varint}
use Rattle.c_words.specs.declared.ReadWords.{ReadWords}
use Rattle.c_words.specs.declared.PickWords.{PickWords}
use Rattle.c_words.specs.declared.LookupWords.{LookupWords}
use Rattle.c_words.specs.declared.Part.{Part}
use Rattle.c_words.specs.declared.SoundingWords.{SoundingWords}
use Rattle.c_words.specs.declared.SupplierWords.{SupplierWords}
use Rattle.c_words.specs.declared.KeyWords.{KeyWords}
use Rattle.c_words.specs.declared.ValueWords.{ValueWords}
use Rattle.c_words.specs.declared.PlaceWords.{PlaceWords}
use Rattle.c_words.specs.declared.StepWords.{StepWords}
use Rattle.c_words.specs.declared.WrittenWords.{WrittenWords}
use Rattle.c_words.specs.declared.Typed.{Typed}
use Rattle.c_words.specs.declared.Typed.TheVariants.{Is, Unknown}

abbrev pub as_number : Number → told.Number
as_number r = record { number = r.number; value = r.value }

abbrev pub as_varint : Varint → told.Varint
as_varint r = record { number = r.number; value = r.value; place = r.place; bytes = r.bytes }

abbrev pub as_read : ReadWords → told.Message
as_read r = record { number = r.number; place = r.place; count = r.count; failing = r.failing; bytes = r.bytes }

abbrev pub as_picked : PickWords → told.Pick
as_picked r = record { number = r.number; found = r.found; kind = r.kind; value = r.value; length = r.length }

abbrev pub as_several : LookupWords → told.Several
as_several r = record { number = r.number; count = r.many; found = r.found; kind = r.kind; value = r.value; length = r.length }

abbrev pub as_early : LookupWords → told.Early
as_early r = record { number = r.number; keys = r.many; found = r.found; kind = r.kind; value = r.value; length = r.length }

-- a lookup's words where a field was found, and where none was
abbrev pub found_words : ℕ → Field → LookupWords
found_words n f = record { number = 0; many = n; found = 1; kind = kind_word f.value; value = value_word f.value; length = length_word f.value }

abbrev pub none_words : ℕ → ℕ → LookupWords
none_words k n = record { number = k; many = n; found = 0; kind = 0; value = 0; length = 0 }

abbrev pub uncounted_of : LookupWords → PickWords
uncounted_of w = record { number = w.number; found = w.found; kind = w.kind; value = w.value; length = w.length }

abbrev pub as_key : KeyWords → told.Key
as_key r = record { number = r.number; tag = r.tag; kind = r.kind; place = r.place; failing = r.failing; bytes = r.bytes }

abbrev pub as_value : ValueWords → told.Value
as_value r = record { number = r.number; value = r.value; length = r.length; place = r.place; failing = r.failing; bytes = r.bytes }

abbrev pub as_place : PlaceWords → told.Place
as_place r = record { number = r.number; place = r.place; failing = r.failing; bytes = r.bytes }

abbrev pub as_step : StepWords → told.Field
as_step r =
    record {
      number = r.number;
      found = r.found;
      tag = r.tag;
      kind = r.kind;
      value = r.value;
      length = r.length;
      place = r.place;
      failing = r.failing;
      bytes = r.bytes;
    }

abbrev pub as_written : WrittenWords → told.Wrote
as_written r = record { number = r.number; start = r.start; length = r.length }

abbrev pub as_part : Part → Span
as_part p = record { start = p.start; length = p.length }

abbrev pub as_sounding : SoundingWords → soundings.Heading
as_sounding r = record { number = r.number; station = r.station; launch = r.launch; levels = r.levels }

-- what is told, and what the lent memory holds
pub record Lent (A : Type 0) : Type 0 where
  pub told : A
  pub lent : List ℕ

abbrev pub stored_told : Stored → Lent told.Number
stored_told o = record { told = put_told o.answer; lent = o.buf }

abbrev pub outcome_told : Outcome → Lent told.Message
outcome_told o = record { told = read_told o.answer; lent = o.table }

abbrev pub writing_told : Writing → Lent told.Wrote
writing_told o = record { told = written_told o.answer; lent = o.buf }

abbrev pub insertion_told : Insertion → Lent told.Number
insertion_told o = record { told = inserted_told o.answer; lent = o.table }

abbrev pub index_told : index.Outcome → Lent told.Number
index_told o = record { told = indexed_told o.answer; lent = o.index }

abbrev pub levels_told : levels.Outcome → Lent soundings.Heading
levels_told o = record { told = sounding_told o.answer; lent = o.levels }

-- yes or no as a number
abbrev pub bit_of : Bool → ℕ
bit_of true = 1
bit_of false = 0

-- what is told of an edit, and what the room and the table hold
pub record Copied : Type 0 where
  pub told : told.Number
  pub room : List ℕ
  pub table : List ℕ

abbrev pub edit_told : Edit → Copied
edit_told o = record { told = inserted_told o.answer; room = o.room; table = o.table }

pub copied : {t u : told.Number} {l m : List ℕ} {o : Copied} → t ≡ u → ◌≡◌ {A = Copied} (record { told = u; room = l; table = m }) o
    → ◌≡◌ {A = Copied} (record { told = t; room = l; table = m }) o
copied e f = rw e f

-- a told answer in words, with what is lent beside it
pub handed : {A : Type 0} {t u : A} {l : List ℕ} {o : Lent A} → t ≡ u → ◌≡◌ {A = Lent A} (record { told = u; lent = l }) o
    → ◌≡◌ {A = Lent A} (record { told = t; lent = l }) o
handed e f = rw e f

-- ---- a wire type passed as a number (rule R10): one above 3 is BadRecord, before all else, with the place given; no read failed (rule F6)

unfoldable pub typed_of : ℕ → Typed
typed_of zero = Is wire_type.Varint
typed_of (suc zero) = Is wire_type.LengthDelimited
typed_of (suc (suc zero)) = Is wire_type.ThirtyTwoBit
typed_of (suc (suc (suc zero))) = Is wire_type.SixtyFourBit
typed_of (suc (suc (suc (suc n)))) = Unknown

unfoldable pub key_stored : List ℕ → Typed → (WireType → Stored) → Lent told.Number
key_stored b (Is w) f = stored_told (f w)
key_stored b Unknown f = record { told = record { number = number_of BadRecord; value = 0 }; lent = b }

unfoldable pub value_typed : ℕ → Typed → (WireType → told.Value) → told.Value
value_typed at (Is w) f = f w
value_typed at Unknown f = record { number = number_of BadRecord; value = 0; length = 0; place = at; failing = 0; bytes = 0 }

unfoldable pub place_typed : ℕ → Typed → (WireType → told.Place) → told.Place
place_typed at (Is w) f = f w
place_typed at Unknown f = record { number = number_of BadRecord; place = at; failing = 0; bytes = 0 }

-- their cases
pub typed-above : (n : ℕ) → 4 ≤ n → typed_of n ≡ Unknown
unfolding typed_of
typed-above zero h = absurd (omega arith)
typed-above (suc zero) h = absurd (omega arith)
typed-above (suc (suc zero)) h = absurd (omega arith)
typed-above (suc (suc (suc zero))) h = absurd (omega arith)
typed-above (suc (suc (suc (suc n)))) h = refl

pub key-unknown : (b : List ℕ) (t : Typed) (f : WireType → Stored) → t ≡ Unknown
    → key_stored b t f ≡ record { told = record { number = number_of BadRecord; value = 0 }; lent = b }
unfolding key_stored
key-unknown b t f e = rw e

pub key-known : (b : List ℕ) (t : Typed) (f : WireType → Stored) (w : WireType) → t ≡ Is w → key_stored b t f ≡ stored_told (f w)
unfolding key_stored
key-known b t f w e = rw e

pub value-unknown : (at : ℕ) (t : Typed) (f : WireType → told.Value) → t ≡ Unknown
    → value_typed at t f ≡ record { number = number_of BadRecord; value = 0; length = 0; place = at; failing = 0; bytes = 0 }
unfolding value_typed
value-unknown at t f e = rw e

pub value-known : (at : ℕ) (t : Typed) (f : WireType → told.Value) (w : WireType) → t ≡ Is w → value_typed at t f ≡ f w
unfolding value_typed
value-known at t f w e = rw e

pub place-unknown : (at : ℕ) (t : Typed) (f : WireType → told.Place) → t ≡ Unknown
    → place_typed at t f ≡ record { number = number_of BadRecord; place = at; failing = 0; bytes = 0 }
unfolding place_typed
place-unknown at t f e = rw e

pub place-known : (at : ℕ) (t : Typed) (f : WireType → told.Place) (w : WireType) → t ≡ Is w → place_typed at t f ≡ f w
unfolding place_typed
place-known at t f w e = rw e

-- ---- runs

abbrev pub run_told : run.Outcome → Lent told.Number
run_told o = record { told = run_count_told o.answer; lent = o.table }

-- what is told of a wire type, or, where the number is none, what is told instead
unfoldable pub typed_as : {A : Type 0} → A → Typed → (WireType → A) → A
typed_as u (Is w) f = f w
typed_as u Unknown f = u

-- told instead: BadRecord, and all other words 0
abbrev pub bad_number : told.Number
bad_number = record { number = number_of BadRecord; value = 0 }

abbrev pub bad_pick : told.Pick
bad_pick = record { number = number_of BadRecord; found = 0; kind = 0; value = 0; length = 0 }

abbrev pub bad_wrote : told.Wrote
bad_wrote = record { number = number_of BadRecord; start = 0; length = 0 }

pub as-unknown : {A : Type 0} (u : A) (t : Typed) (f : WireType → A) → t ≡ Unknown → typed_as u t f ≡ u
unfolding typed_as
as-unknown u t f e = rw e

pub as-known : {A : Type 0} (u : A) (t : Typed) (f : WireType → A) (w : WireType) → t ≡ Is w → typed_as u t f ≡ f w
unfolding typed_as
as-known u t f w e = rw e

-- ---- corrections

abbrev pub as_supplied : SupplierWords → told.Supplied
as_supplied r = record { number = r.number; supplier = r.supplier }

-- Rule G4: where the value of a tag stands in the message that supplies it; nowhere if none does
abbrev pub place_of : Supply → Span
place_of (supply.Original p) = p
place_of (supply.Correction p) = p
place_of supply.Absent = nowhere
place_of (supply.Refused r) = nowhere
