-- A message that was read is in the table as records that are good and in order, and they are written as its bytes.
use Rattle.std.specs.Prelude.{ℕ, zero, suc, ◌+◌, ◌-◌, ◌*◌, ◌^◌, ◌≤◌, ◌<◌, ◌≡◌, refl, true, List, [], ◌∷◌, ◌++◌, length, drop}
use Rattle.std.proofs.Common.{ap, ◌∙◌, sym, arith, lt-ltb, le-leb, length-append, length-drop}
use Rattle.wire.specs.Limits.{record_words}
use Rattle.wire.specs.Marks.{Mark, marks_from, marks, marks-turn, marks-end}
use Rattle.wire.proofs.Marks.{marks-fields, marks-count}
use Rattle.wire.specs.VarintLaws.{Bytes}
use Rattle.wire.specs.Written.{written}
use Rattle.wire.specs.Places.{items}
use Rattle.wire.specs.Reading.{capped_at, varint_at, value_at, field_at, Fields, reads_from, read_message}
use Rattle.wire.specs.ReadingLaws.{number-got, payload-got, within-got}
use Rattle.wire.proofs.ReadingLaws.{value-took, field_found_lem, field-moves}
use Rattle.wire.specs.Theorem.{Stands, none, some}
use Rattle.wire.proofs.Theorem.{stands}
use Rattle.wire.specs.Table.{kind_word, value_word, length_word, record_of, words, records, room, filled, record_at, fields_from, good_value, good}
use Rattle.wire.specs.Table.{key-inside, head-key, length-records, record-behind, record-first, fields-records}
use Rattle.write_record.specs.Records.{tag_before, judge, Fine, AllFine, tested, checked, message}
use Rattle.write_record.specs.RecordLaws.{judge-good}
use Rattle.write_message.specs.Writing.{Writes, plan}
use Rattle.write_message.specs.WritingLaws.{checked-tests, plan-fine}
use Rattle.wire.specs.declared.WireType.{WireType}
use Rattle.wire.specs.declared.WireType.TheVariants as wire_type
use Rattle.wire.specs.declared.Value.{Value}
use Rattle.wire.specs.declared.Field.{Field}
use Rattle.wire.specs.declared.Record.{Record}
use Rattle.wire.specs.declared.FieldFound.TheVariants as field_found
use Rattle.wire.specs.declared.ValueFound.TheVariants as value_found

-- ---- a value that was read is one that a good record has

abbrev pub Fits : ℕ → Value → Type 0
Fits n v = good_value n (kind_word v) (value_word v) (length_word v) ≡ true

pub value-fits : (s : List ℕ) → Bytes s → (e p : ℕ) (w : WireType) (v : Value) (q : ℕ) → value_at s e p w ≡ value_found.Got v q → Fits (length s) v
unfolding good_value
value-fits s b e p wire_type.Varint v q h = rw (number-got (capped_at s e p) v q h).2 refl
value-fits s b e p wire_type.LengthDelimited v q h =
    let x = payload-got s e (varint_at s p) v q h in
    rw x.3 (le-leb (x.1 + x.0) (length s) (omega (arith, x.4, x.5)))
value-fits s b e p wire_type.ThirtyTwoBit v q h =
    let x = within-got s e (p + 4) _ v q h in
    let y = (value-took s b e p wire_type.ThirtyTwoBit v q h).1 in
    rw x.0 (lt-ltb _ (2 ^ 32) (rw x.0 at y))
value-fits s b e p wire_type.SixtyFourBit v q h = rw (within-got s e (p + 8) _ v q h).0 refl

-- ---- so the fields of a message, with their keys, have good records, in the order of their tags

abbrev KeptFrom : ℕ → ℕ → List Mark → Type 0
KeptFrom n last [] = Unit {0}
KeptFrom n last (m ∷ ms) = (last ≤ m.field.tag) × (good n (record_of m) ≡ true) × KeptFrom n m.field.tag ms

field-kept : (s : List ℕ) → Bytes s → (e p last : ℕ) (f : Field) (q : ℕ) → p < length s → field_at s e p last ≡ field_found.Got f q
    → (last ≤ f.tag) × (good (length s) (record_of (record { key = p; field = f })) ≡ true)
unfolding good
field-kept s b e p last f q i h =
    let x = field_found_lem s e p last f q h in
    let m = field-moves s e p last f q h in
    (m.2, rw (head-key (length s) f.tag p m.3, key-inside (length s) p i) (value-fits s b e x.middle x.wire f.value q x.value))

message-kept : (k : ℕ) (s : List ℕ) (e m p last : ℕ) (fs : List Field) → Bytes s → e ≤ length s → e - p ≤ k → reads_from k s e m p last ≡ Fields fs
    → KeptFrom (length s) last (marks_from k s e p last)
message-kept zero s e m p last fs b i g r = tt
message-kept (suc k) s e m p last fs b i g r = go (λ f q gs. message-kept k s e p q f.tag gs b i) (stands k s e m p last fs r)
  where
    go : ((f : Field) (q : ℕ) (gs : List Field) → e - q ≤ k → reads_from k s e p q f.tag ≡ Fields gs
        → KeptFrom (length s) f.tag (marks_from k s e q f.tag))
        → Stands k s e p last fs → KeptFrom (length s) last (marks_from (suc k) s e p last)
    go ih (none x y) = rw (marks-end s e p last (suc k) (omega arith)) tt
    go ih (some f q gs x y z w) =
        let a = field-kept s b e p last f q (omega arith) y in
        let v = field-moves s e p last f q y in
        rw (marks-turn s e p last k f q x y) (a.0, a.1, ih f q gs (omega (arith, v.0)) z)

-- ---- and the table that they stand in passes every test

-- the tag before record i, where last stands before the first
abbrev pub before : ℕ → List ℕ → ℕ → ℕ
before last u zero = last
before last u (suc i) = (record_at u i).tag

pub before-next : (last : ℕ) (r : Record) (u : List ℕ) (i : ℕ) → before last (words r ++ u) (suc i) ≡ before r.tag u i
before-next last r u zero = ap (λ (x : Record). x.tag) (record-first r u)
before-next last r u (suc i) = ap (λ (x : Record). x.tag) (record-behind r u i)

kept_fine : (n last : ℕ) (ms : List Mark) (v : List ℕ) → KeptFrom n last ms → (i : ℕ) → i < length ms
    → judge n (before last (records ms ++ v) i) (record_at (records ms ++ v) i) ≡ Fine
kept_fine n last [] v k i h = absurd (omega arith)
kept_fine n last (m ∷ ms) v k zero h =
    ap (judge n last) (record-first (record_of m) (records ms ++ v)) ∙ judge-good n last (record_of m) k.1 k.0
kept_fine n last (m ∷ ms) v k (suc i) h =
    let u = records ms ++ v in
    ap (λ (t : ℕ). judge n t (record_at (words (record_of m) ++ u) (suc i))) (before-next last (record_of m) u i)
    ∙ ap (judge n (before m.field.tag u i)) (record-behind (record_of m) u i)
    ∙ kept_fine n m.field.tag ms v k.2 i (omega arith)

pub same-before : (u : List ℕ) (i : ℕ) → before 0 u i ≡ tag_before u i
same-before u zero = refl
same-before u (suc i) = refl

all-fine : (c n : ℕ) (u : List ℕ) → ((i : ℕ) → i < c → judge n (before 0 u i) (record_at u i) ≡ Fine) → tested c n u ≡ AllFine
all-fine zero n u h = refl
all-fine (suc c) n u h =
    let e : judge n (tag_before u c) (record_at u c) ≡ Fine = ap (λ (t : ℕ). judge n t (record_at u c)) (sym (same-before u c)) ∙ h c (omega arith) in
    rw (all-fine c n u (λ i g. h i (omega arith)), e)

-- ---- THE TABLE OF A MESSAGE THAT WAS READ IS WRITTEN AS THE MESSAGE

module _ (m t : List ℕ) (fs : List Field) (b : Bytes m) (h : read_message m 0 (length m) ≡ Fields fs) (fits : length fs ≤ room t) where
  abbrev ms : List Mark
  ms = marks m 0 (length m)

  count : length ms ≡ length fs
  count = marks-count m 0 (length m) fs h

  unfilled : length (filled t ms) ≡ length t
  unfilled =
      length-append (records ms) (drop (record_words * length ms) t) ∙ omega (arith, count, length-records ms, length-drop (record_words * length ms) t)

  kept : KeptFrom (length m) 0 ms
  unfolding read_message marks
  kept = message-kept (length m - 0) m (length m) 0 0 0 fs b (omega arith) (omega arith) h

  pub table-fine : (most : ℕ) → length m ≤ most → checked most m (filled t ms) (length fs) ≡ AllFine
  table-fine most g =
      checked-tests most m (filled t ms) (length fs) g (omega (arith, unfilled))
      ∙ all-fine (length fs) (length m) (filled t ms) (λ i q. kept_fine (length m) 0 ms (drop (record_words * length ms) t) kept i (omega (arith, count)))

  pub table-message : written (items m fs) ≡ m → message m (filled t ms) (length fs) ≡ m
  table-message e =
      ap (λ (c : ℕ). written (items m (fields_from c (filled t ms) 0))) (sym count)
      ∙ ap (λ (gs : List Field). written (items m gs)) (fields-records ms (drop (record_words * length ms) t) ∙ marks-fields m 0 (length m) fs h)
      ∙ e

  pub table-plan : (most : ℕ) → length m ≤ most → written (items m fs) ≡ m → plan most m (filled t ms) (length fs) ≡ Writes m
  table-plan most g e =
      let x = table-message e in
      plan-fine most m (filled t ms) (length fs) (table-fine most g) (rw x g) ∙ ap Writes x
