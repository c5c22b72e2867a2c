-- A working copy (rules H1 to H3): what its tests say of each record, and the list that it stands for.
use Rattle.std.specs.Prelude.{ℕ, zero, suc, ◌+◌, ◌-◌, ◌≤◌, ◌<◌, ◌≡◌, refl, Bool, true, false, List, [], ◌∷◌, ◌++◌, leb, length, take, drop}
use Rattle.std.proofs.Common.{ap, ◌∙◌, sym, arith, leb-true, le-leb, take_at, drop_at}
use Rattle.wire.specs.Limits.{message_limit, no_key}
use Rattle.wire.specs.Written.{Item}
use Rattle.wire.specs.Places.{item_of, items}
use Rattle.wire.specs.Table.{room, record_at, field_in, fields_from, good}
use Rattle.write_record.specs.Records.{tag_before, Verdict, AllFine, First, tested, checked}
use Rattle.write_record.specs.RecordLaws.{judge-good, judge-fine, fine-at}
use Rattle.write_record.specs.Taken.{record-there}
use Rattle.write_message.specs.WritingLaws.{checked-tests, checked-fine, no-fine}
use Rattle.edit_live.specs.Spans.{span_of, span_in, meets_any, first_overlap, keyed_at, first_keyed}
use Rattle.edit_live.specs.SpanLaws.{Apart, span-there, over-apart, apart-over, first-most, keyed-none, none-keyed}
use Rattle.edit.specs.Edits.{vetted}
use Rattle.wire.specs.declared.Refusal.TheVariants.{BadRecord}
use Rattle.wire.specs.declared.Record.{Record}
use Rattle.wire.specs.declared.Field.{Field}

-- ---- A COPY: no test of every edit refuses

pub record Copy (s t : List ℕ) (c : ℕ) : Type 0 where
  pub fine : checked message_limit s t c ≡ AllFine
  pub over : first_overlap c (span_in (length s) t c) ≡ c
  pub keyed : first_keyed c t ≡ c

pub copy-vetted : {s t : List ℕ} {c : ℕ} → Copy s t c → vetted s t c ≡ AllFine
unfolding vetted
copy-vetted {s} {t} {c} w = rw (w.fine, w.over, w.keyed, le-leb c c (omega arith))

pub vetted-copy : (s t : List ℕ) (c : ℕ) → vetted s t c ≡ AllFine → Copy s t c
unfolding vetted
vetted-copy s t c e =
    go (checked message_limit s t c) refl (leb c (first_overlap c (span_in (length s) t c))) refl (leb c (first_keyed c t)) refl
  where
    go : (v : Verdict) → checked message_limit s t c ≡ v → (a : Bool) → leb c (first_overlap c (span_in (length s) t c)) ≡ a
        → (b : Bool) → leb c (first_keyed c t) ≡ b → Copy s t c
    go (First why i) v a p b q = let z : vetted s t c ≡ First why i = rw v in no-fine (sym z ∙ e)
    go AllFine v false p b q =
        let z : vetted s t c ≡ First BadRecord (first_overlap c (span_in (length s) t c)) = rw (v, p) in
        no-fine (sym z ∙ e)
    go AllFine v true p false q = let z : vetted s t c ≡ First BadRecord (first_keyed c t) = rw (v, p, q) in no-fine (sym z ∙ e)
    go AllFine v true p true q =
        record {
          fine = v;
          over = omega
              (arith, leb-true c (first_overlap c (span_in (length s) t c)) p, first-most (λ j. meets_any j (span_in (length s) t c) (span_in (length s) t c j)) c);
          keyed = omega (arith, leb-true c (first_keyed c t) q, first-most (keyed_at t) c);
        }

-- ---- RECORD BY RECORD

pub record Rows (n c : ℕ) (r : ℕ → Record) : Type 0 where
  pub fine : (i : ℕ) → i < c → good n (r i) ≡ true
  pub order : (i : ℕ) → suc i < c → (r i).tag ≤ (r (suc i)).tag
  pub apart : (i j : ℕ) → i < j → j < c → Apart (span_of n (r i)) (span_of n (r j))
  pub keys : (i : ℕ) → i < c → (r i).key ≡ no_key

-- a record of the first c, and its span, none left out
pub span-row : (n : ℕ) (t : List ℕ) (c k i : ℕ) → c ≤ room t → i < c → (i ≡ k → ⊥) → span_in n t k i ≡ span_of n (record_at t i)
span-row n t c k i h g o = span-there n t k i o ∙ ap (span_of n) (record-there t i (omega arith))

module _ {s t : List ℕ} {c : ℕ} (w : Copy s t c) where
  pub short : length s ≤ message_limit
  short = (checked-fine message_limit s t c w.fine).0

  pub rows-there : c ≤ room t
  rows-there = (checked-fine message_limit s t c w.fine).1.count

  judged : (i : ℕ) → i < c → (good (length s) (record_at t i) ≡ true) × (tag_before t i ≤ (record_at t i).tag)
  judged i h =
      judge-fine (length s) (tag_before t i) (record_at t i) (fine-at (length s) t c i h (checked-fine message_limit s t c w.fine).1.fine)

  pub copy-rows : Rows (length s) c (record_at t)
  copy-rows =
      record {
        fine = λ i h. (judged i h).0;
        order = λ i h. (judged (suc i) h).1;
        apart = λ i j h g. apart i j h g (over-apart c (span_in (length s) t c) w.over i j h g);
        keys = λ i h. ap (λ (r : Record). r.key) (sym (record-there t i (omega (arith, rows-there)))) ∙ keyed-none c t w.keyed i h;
      }
    where
      apart : (i j : ℕ) → i < j → j < c → Apart (span_in (length s) t c i) (span_in (length s) t c j)
          → Apart (span_of (length s) (record_at t i)) (span_of (length s) (record_at t j))
      apart i j h g a =
          let x = span-row (length s) t c c i rows-there (omega arith) (λ e. omega arith) in
          let y = span-row (length s) t c c j rows-there g (λ e. omega arith) in
          rw (x, y) at a

pub rows-copy : (s t : List ℕ) (c : ℕ) → length s ≤ message_limit → c ≤ room t → Rows (length s) c (record_at t) → Copy s t c
rows-copy s t c h g w =
    record {
      fine = checked-tests message_limit s t c h g ∙ all c (omega arith);
      over = apart-over c (span_in (length s) t c) apart;
      keyed = none-keyed c t (λ i l. ap (λ (r : Record). r.key) (record-there t i (omega arith)) ∙ w.keys i l);
    }
  where
    before : (i : ℕ) → i < c → tag_before t i ≤ (record_at t i).tag
    before zero l = omega arith
    before (suc i) l = w.order i l

    all : (k : ℕ) → k ≤ c → tested k (length s) t ≡ AllFine
    all zero l = refl
    all (suc k) l = rw (all k (omega arith), judge-good (length s) (tag_before t k) (record_at t k) (w.fine k (omega arith)) (before k (omega arith)))

    apart : (i j : ℕ) → i < j → j < c → Apart (span_in (length s) t c i) (span_in (length s) t c j)
    apart i j l m =
        let x = span-row (length s) t c c i g (omega arith) (λ e. omega arith) in
        let y = span-row (length s) t c c j g m (λ e. omega arith) in
        rw (x, y) (w.apart i j l m)

-- ---- THE LIST

-- the item of record i
abbrev pub item_at : List ℕ → List ℕ → ℕ → Item
item_at s t i = item_of s (field_in (record_at t i))

-- the list that a copy stands for
abbrev pub listed : List ℕ → List ℕ → ℕ → List Item
listed s t c = items s (fields_from c t 0)

pub items-same : (s u t v : List ℕ) (k i j : ℕ) → ((x : ℕ) → x < k → item_at s t (i + x) ≡ item_at u v (j + x))
    → items s (fields_from k t i) ≡ items u (fields_from k v j)
items-same s u t v zero i j h = refl
items-same s u t v (suc k) i j h =
    let a : i + 0 ≡ i = omega arith in
    let b : j + 0 ≡ j = omega arith in
    let e : item_at s t i ≡ item_at u v j = ap (item_at s t) (sym a) ∙ h 0 (omega arith) ∙ ap (item_at u v) b in
    let ih = items-same s u t v k (suc i) (suc j)
    (λ x g.
    let m : suc i + x ≡ i + suc x = omega arith in
    let n : j + suc x ≡ suc j + x = omega arith in
    ap (item_at s t) m ∙ h (suc x) (omega arith) ∙ ap (item_at u v) n) in
    ap (λ (y : Item). y ∷ items s (fields_from k t (suc i))) e ∙ ap (λ (y : List Item). item_at u v j ∷ y) ih

pub items-split : (s t : List ℕ) (k m i : ℕ) → items s (fields_from (k + m) t i) ≡ items s (fields_from k t i) ++ items s (fields_from m t (k + i))
items-split s t zero m i =
    let e : 0 + m ≡ m = omega arith in
    let f : 0 + i ≡ i = omega arith in
    rw (e, f)
items-split s t (suc k) m i =
    let a : suc k + m ≡ suc (k + m) = omega arith in
    let e : k + suc i ≡ suc k + i = omega arith in
    rw (a, items-split s t k m (suc i), e)

pub items-join : (s : List ℕ) (fs gs : List Field) → items s (fs ++ gs) ≡ items s fs ++ items s gs
items-join s [] gs = refl
items-join s (f ∷ fs) gs = ap (λ (l : List Item). item_of s f ∷ l) (items-join s fs gs)

pub items-length : (s t : List ℕ) (k i : ℕ) → length (items s (fields_from k t i)) ≡ k
items-length s t zero i = refl
items-length s t (suc k) i = ap suc (items-length s t k (suc i))

module _ (s t : List ℕ) (c i : ℕ) (h : i ≤ c) where
  split_at : listed s t c ≡ items s (fields_from i t 0) ++ items s (fields_from (c - i) t i)
  split_at =
      let n : i + (c - i) ≡ c = omega arith in
      let z : i + 0 ≡ i = omega arith in
      ap (λ (x : ℕ). items s (fields_from x t 0)) (sym n) ∙ items-split s t i (c - i) 0
      ∙ ap (λ (x : ℕ). items s (fields_from i t 0) ++ items s (fields_from (c - i) t x)) z

  pub items-take : take i (listed s t c) ≡ items s (fields_from i t 0)
  items-take = ap (take i) split_at ∙ take_at (items s (fields_from i t 0)) (items s (fields_from (c - i) t i)) i (items-length s t i 0)

  pub items-drop : drop i (listed s t c) ≡ items s (fields_from (c - i) t i)
  items-drop = ap (drop i) split_at ∙ drop_at (items s (fields_from i t 0)) (items s (fields_from (c - i) t i)) i (items-length s t i 0)
