-- Tables: fields and the places of their keys as records of five words, room, and which records are good (rules T1 to T4).
use Rattle.std.specs.Prelude.{ℕ, zero, suc, ◌+◌, ◌*◌, ◌/◌, ◌^◌, ◌≤◌, ◌<◌, ◌≡◌, Bool, List, [], ◌∷◌, ◌++◌, ltb, leb, eqb, length, drop, get_or}
use Rattle.std.proofs.Math.Path.{refl}
use Rattle.std.proofs.Common.{ap, ◌∙◌, arith}
use Rattle.std.proofs.Math.Bool.{true, false}
use borrow.Author.Tests.{leb-true, lt-ltb, le-ltb, eq-eqb, ne_eqb}
use Rattle.wire.specs.Choose.{choose}
use Rattle.wire.specs.Limits.{record_words, no_key}
use Rattle.wire.specs.Marks.{Mark, fields_of}
use Rattle.wire.specs.declared.Value.{Value}
use Rattle.wire.specs.declared.Value.TheVariants.{Varint, LengthDelimited, ThirtyTwoBit, SixtyFourBit}
use Rattle.wire.specs.declared.Field.{Field}
use Rattle.wire.specs.declared.Record.{Record}
use Rattle.wire.specs.declared.NewRecord.{NewRecord}

-- ---- a field as a record (rule T1)

abbrev pub kind_word : Value → ℕ
kind_word (Varint v) = 0
kind_word (LengthDelimited p n) = 1
kind_word (ThirtyTwoBit v) = 2
kind_word (SixtyFourBit v) = 3

abbrev pub value_word : Value → ℕ
value_word (Varint v) = v
value_word (LengthDelimited p n) = p
value_word (ThirtyTwoBit v) = v
value_word (SixtyFourBit v) = v

abbrev pub length_word : Value → ℕ
length_word (Varint v) = 0
length_word (LengthDelimited p n) = n
length_word (ThirtyTwoBit v) = 4
length_word (SixtyFourBit v) = 8

abbrev pub record_of : Mark → Record
record_of m =
    record {
      tag = m.field.tag;
      kind = kind_word m.field.value;
      value = value_word m.field.value;
      length = length_word m.field.value;
      key = m.key;
    }

-- a record that was read from no key
abbrev pub stamped : NewRecord → Record
stamped r = record { tag = r.tag; kind = r.kind; value = r.value; length = r.length; key = no_key }

-- Rule T1: a record's words
abbrev pub words : Record → List ℕ
words r = r.tag ∷ r.kind ∷ r.value ∷ r.length ∷ r.key ∷ []

-- the words of a list of fields with their keys
abbrev pub records : List Mark → List ℕ
records [] = []
records (m ∷ ms) = words (record_of m) ++ records ms

-- ---- a table

-- Rule T2: how many records a table has room for
abbrev pub room : List ℕ → ℕ
room t = length t / record_words

-- Rule T4: a table with the records of the fields, and the words after them as they were
abbrev pub filled : List ℕ → List Mark → List ℕ
filled t ms = records ms ++ drop (record_words * length ms) t

-- record i
unfoldable pub record_at : List ℕ → ℕ → Record
record_at t i =
    record {
      tag = get_or t (record_words * i) 0;
      kind = get_or t (record_words * i + 1) 0;
      value = get_or t (record_words * i + 2) 0;
      length = get_or t (record_words * i + 3) 0;
      key = get_or t (record_words * i + 4) 0;
    }

-- Rule T1: the value of a record's words
abbrev pub value_of : ℕ → ℕ → ℕ → Value
value_of zero v n = Varint v
value_of (suc zero) v n = LengthDelimited v n
value_of (suc (suc zero)) v n = ThirtyTwoBit v
value_of (suc (suc (suc k))) v n = SixtyFourBit v

-- the field of a record
abbrev pub field_in : Record → Field
field_in r = record { tag = r.tag; value = value_of r.kind r.value r.length }

-- the fields of k records from record i on
abbrev pub fields_from : ℕ → List ℕ → ℕ → List Field
fields_from zero t i = []
fields_from (suc k) t i = field_in (record_at t i) ∷ fields_from k t (suc i)

-- ---- a good record (rule T3), over a source of n bytes: the value and length words of each kind; the tag and the key; then all

unfoldable pub good_value : ℕ → ℕ → ℕ → ℕ → Bool
good_value n zero v l = eqb l 0
good_value n (suc zero) v l = leb (v + l) n
good_value n (suc (suc zero)) v l = choose (eqb l 4) (ltb v (2 ^ 32)) false
good_value n (suc (suc (suc zero))) v l = eqb l 8
good_value n (suc (suc (suc (suc k)))) v l = false

-- a good payload lies inside the source, and no sum wraps
pub payload-inside : (n v l : ℕ) → good_value n 1 v l ≡ true → v + l ≤ n
unfolding good_value
payload-inside n v l e = leb-true (v + l) n e

-- a key's place is inside the source, or it is said that there is none
unfoldable pub good_key : ℕ → ℕ → Bool
good_key n k = choose (ltb k n) true (eqb k no_key)

unfoldable pub good_head : ℕ → ℕ → ℕ → Bool
good_head n tag key = choose (ltb tag (2 ^ 32)) (good_key n key) false

unfoldable pub good : ℕ → Record → Bool
good n r = choose (good_head n r.tag r.key) (good_value n r.kind r.value r.length) false

module _ (n k : ℕ) where
  pub key-inside : k < n → good_key n k ≡ true
  unfolding good_key
  key-inside h = rw (lt-ltb k n h)

  pub key-none : k ≡ no_key → good_key n k ≡ true
  unfolding good_key
  key-none e = go (ltb k n)
    where
      go : (b : Bool) → choose b true (eqb k no_key) ≡ true
      go true = refl
      go false = eq-eqb k no_key e

  pub key-outside : n ≤ k → (k ≡ no_key → ⊥) → good_key n k ≡ false
  unfolding good_key
  key-outside h e = rw (le-ltb k n h, ne_eqb k no_key e)

module _ (n tag key : ℕ) where
  pub head-above : 2 ^ 32 ≤ tag → good_head n tag key ≡ false
  unfolding good_head
  head-above h = rw (le-ltb tag (2 ^ 32) h)

  pub head-key : tag < 2 ^ 32 → good_head n tag key ≡ good_key n key
  unfolding good_head
  head-key h = rw (lt-ltb tag (2 ^ 32) h)

-- ---- THE RECORDS THAT WERE WRITTEN ARE THE FIELDS THAT THEY WERE

pub value-words : (v : Value) → value_of (kind_word v) (value_word v) (length_word v) ≡ v
value-words (Varint v) = refl
value-words (LengthDelimited p n) = refl
value-words (ThirtyTwoBit v) = refl
value-words (SixtyFourBit v) = refl

pub length-records : (ms : List Mark) → length (records ms) ≡ record_words * length ms
length-records [] = refl
length-records (m ∷ ms) = omega (arith, length-records ms)

-- the record behind a first one
word-behind : (r : Record) (t : List ℕ) (i k : ℕ) → get_or (words r ++ t) (record_words * suc i + k) 0 ≡ get_or t (record_words * i + k) 0
word-behind r t i k =
    let e : record_words * suc i + k ≡ suc (suc (suc (suc (suc (record_words * i + k))))) = omega arith in
    rw e

pub record-behind : (r : Record) (t : List ℕ) (i : ℕ) → record_at (words r ++ t) (suc i) ≡ record_at t i
unfolding record_at
record-behind r t i =
    let e : record_words * suc i ≡ suc (suc (suc (suc (suc (record_words * i))))) = omega arith in
    let a : get_or (words r ++ t) (record_words * suc i) 0 ≡ get_or t (record_words * i) 0 = rw e in
    rw (a, word-behind r t i 1, word-behind r t i 2, word-behind r t i 3, word-behind r t i 4)

fields-behind : (k : ℕ) (r : Record) (t : List ℕ) (i : ℕ) → fields_from k (words r ++ t) (suc i) ≡ fields_from k t i
fields-behind zero r t i = refl
fields-behind (suc k) r t i = rw (record-behind r t i, fields-behind k r t (suc i))

pub record-first : (r : Record) (t : List ℕ) → record_at (words r ++ t) 0 ≡ r
unfolding record_at
record-first r t = refl

pub fields-records : (ms : List Mark) (t : List ℕ) → fields_from (length ms) (records ms ++ t) 0 ≡ fields_of ms
fields-records [] t = refl
fields-records (m ∷ ms) t =
    ap (λ (r : Record). field_in r ∷ fields_from (length ms) (words (record_of m) ++ (records ms ++ t)) 1) (record-first (record_of m) (records ms ++ t))
    ∙ rw (value-words m.field.value, fields-behind (length ms) (record_of m) (records ms ++ t) 0, fields-records ms t)
