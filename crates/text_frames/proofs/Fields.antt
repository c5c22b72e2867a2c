-- A field's text from the words of its record, and the records of a table one after another.
use Prim.Native.Nat.{ℕ, zero, suc, ◌+◌, ◌*◌, ◌≤◌, ◌<◌}
use mathlib.Core.Path.{◌≡◌, refl, ap, ◌∙◌, sym, subst}
use mathlib.Core.List.{List, [], ◌∷◌, ◌++◌}
use native.Mathlib.Omega.{arith}
use native.Mathlib.Numerals.{add-one}
use lib.ListN.{length, take, drop, get_or, length-append, drop_of_length-le}
use lib.Seq.{drop-cons, get_or-drop}
use Rattle.wire.specs.Limits.{record_words}
use Rattle.wire.specs.Marks.{Mark, fields_of}
use Rattle.wire.specs.Fixed.{fixed}
use Rattle.wire.specs.Written.{Item, content_kind}
use Rattle.wire.specs.Places.{shown, item_of, items}
use Rattle.write_record.specs.Taken.{record_in, record-there}
use Rattle.wire.specs.Table.{room, kind_word, value_of, record_of, records, record_at, field_in, fields_from, key-inside, head-key}
use Rattle.wire.specs.Table.{value-words, length-records, fields-records}
use Rattle.wire.specs.declared.Value.{Value}
use Rattle.wire.specs.declared.Value.TheVariants as val
use Rattle.wire.specs.declared.Record.{Record}
use Rattle.place.specs.Place.{Placed, put_at, Putting, put-start, put-done}
use Rattle.message_payload.specs.Payload.{payload, span-inside}
use Rattle.text_digits.specs.Digits.{digits, hexed}
use Rattle.text_frames.specs.Text.{spaced, bytes_text, value_text, field_text, fields_text}
use Rattle.text_frames.specs.Room.{Held}
use Rattle.text_frames.specs.Print.{mark_in, Kept, AllKept, Lined, Recorded, Listed}
use Rattle.text_frames.proofs.Puts.{has_room, put_next}

-- ---- bytes

pub bytes-none : (bs : List ℕ) → length bs < 1 → bytes_text bs ≡ 45 ∷ []
unfolding bytes_text
bytes-none [] h = refl
bytes-none (b ∷ bs) h = absurd (omega arith)

pub bytes-some : (bs : List ℕ) → 1 ≤ length bs → bytes_text bs ≡ hexed bs
unfolding bytes_text
bytes-some [] h = absurd (omega arith)
bytes-some (b ∷ bs) h = refl

-- ---- a value, by the kind of its record

module _ (s : List ℕ) where
  pub text-number : (k v l : ℕ) → k < 1 → value_text (shown s (value_of k v l)) ≡ digits 16 16 v
  unfolding value_text
  text-number zero v l h = refl
  text-number (suc k) v l h = absurd (omega arith)

  pub text-payload : (k v l : ℕ) → 1 ≤ k → k < 2 → value_text (shown s (value_of k v l)) ≡ bytes_text (take l (drop v s))
  unfolding value_text
  text-payload zero v l g h = absurd (omega arith)
  text-payload (suc zero) v l g h = refl
  text-payload (suc (suc k)) v l g h = absurd (omega arith)

  pub text-four : (k v l : ℕ) → 2 ≤ k → k < 3 → value_text (shown s (value_of k v l)) ≡ hexed (fixed 4 v)
  unfolding value_text
  text-four zero v l g h = absurd (omega arith)
  text-four (suc zero) v l g h = absurd (omega arith)
  text-four (suc (suc zero)) v l g h = refl
  text-four (suc (suc (suc k))) v l g h = absurd (omega arith)

  pub text-eight : (k v l : ℕ) → 3 ≤ k → value_text (shown s (value_of k v l)) ≡ hexed (fixed 8 v)
  unfolding value_text
  text-eight zero v l g = absurd (omega arith)
  text-eight (suc zero) v l g = absurd (omega arith)
  text-eight (suc (suc zero)) v l g = absurd (omega arith)
  text-eight (suc (suc (suc k))) v l g = refl

  held-payload : (k v l : ℕ) → k ≡ 1 → Held s (value_of k v l) → v + l ≤ length s
  held-payload k v l e h = rw e at h

  -- the payload is the bytes that the record says
  pub payload-inside : (r : Record) → Kept s (mark_in r) → 1 ≤ r.kind → r.kind < 2 → payload s r ≡ take r.length (drop r.value s)
  payload-inside r i g h =
      let k : r.kind ≡ 1 = omega arith in
      let t = head-key (length s) r.tag r.key i.0.0 ∙ key-inside (length s) r.key i.1 in
      rw (span-inside (length s) r k t (held-payload r.kind r.value r.length k i.0.1))

-- ---- a line: the pieces in their order

abbrev pub after_kind : List ℕ → Record → List ℕ
after_kind s r = 32 ∷ value_text (shown s (field_in r).value) ++ 10 ∷ []

pub line-start : {out : List ℕ} {at : ℕ} {head s : List ℕ} {r : Record} → Lined out at head s r
    → Putting out at (field_text head (item_of s (field_in r))) out at (head ++ spaced (r.tag ∷ r.kind ∷ []) (after_kind s r))
unfolding field_text
line-start {out} {at} {head} {s} {r} l =
    subst (λ (k : ℕ). Putting out at (field_text head (item_of s (field_in r))) out at (head ++ spaced (r.tag ∷ k ∷ []) (after_kind s r)))
    (sym l.kind)
    (put-start out at (field_text head (item_of s (field_in r))) l.room)

-- ---- the records of fields, in a table

kind-content : (s : List ℕ) (v : Value) → kind_word v ≡ content_kind (shown s v)
kind-content s (val.Varint v) = refl
kind-content s (val.LengthDelimited p n) = refl
kind-content s (val.ThirtyTwoBit v) = refl
kind-content s (val.SixtyFourBit v) = refl

records-drop : (ms : List Mark) (t : List ℕ) (i : ℕ) → i ≤ length ms → drop (record_words * i) (records ms ++ t) ≡ records (drop i ms) ++ t
records-drop ms t zero h = refl
records-drop [] t (suc i) h = absurd (omega arith)
records-drop (m ∷ ms) t (suc i) h =
    let e : record_words * suc i ≡ suc (suc (suc (suc (suc (record_words * i))))) = omega arith in
    rw e (records-drop ms t i (omega arith))

-- record i of the table is that of field i
pub record_is : (ms : List Mark) (t : List ℕ) (i : ℕ) (m : Mark) (ns : List Mark) → i < length ms → drop i ms ≡ m ∷ ns
    → record_at (records ms ++ t) i ≡ record_of m
unfolding record_at
record_is ms t i m ns h e =
    let u = records ms ++ t in
    let d : drop (record_words * i) u ≡ records (m ∷ ns) ++ t = records-drop ms t i (omega arith) ∙ ap (λ (l : List Mark). records l ++ t) e in
    let w : (k : ℕ) → get_or u (record_words * i + k) 0 ≡ get_or (records (m ∷ ns) ++ t) k 0 =
    λ k. sym (get_or-drop (record_words * i) u k 0) ∙ ap (λ (l : List ℕ). get_or l k 0) d in
    let z : record_words * i + 0 ≡ record_words * i = omega arith in
    let a : get_or u (record_words * i) 0 ≡ m.field.tag = rw z at (w 0) in
    rw (a, w 1, w 2, w 3, w 4)

-- the field of record i, and those behind it
pub record Next (ms : List Mark) (i : ℕ) (r : Record) : Type 0 where
  pub mark : Mark
  pub rest : List Mark
  pub here : drop i ms ≡ mark ∷ rest
  pub behind : drop (i + 1) ms ≡ rest
  pub is : mark_in r ≡ mark
  pub kind : r.kind ≡ kind_word mark.field.value

next_of : (ms : List Mark) (t : List ℕ) (i : ℕ) (r : Record) → i < length ms → r ≡ record_at (records ms ++ t) i → Next ms i r
next_of ms t i r h e =
    let m = get_or ms i (mark_in r) in
    let d = drop-cons ms i (mark_in r) h in
    let k : r ≡ record_of m = e ∙ record_is ms t i m (drop (suc i) ms) h d in
    record {
      mark = m;
      rest = drop (suc i) ms;
      here = d;
      behind = rw (add-one i);
      is = ap mark_in k ∙ ap (λ (v : Value). record { key = m.key; field = record { tag = m.field.tag; value = v } }) (value-words m.field.value);
      kind = ap (λ (x : Record). x.kind) k;
    }

-- ---- one field after another: those that are still to be put

pub record Listing (out : List ℕ) (at : ℕ) (head s table : List ℕ) (count : ℕ) (buf : List ℕ) (p i : ℕ) : Type 0 where
  pub has : Recorded s table count
  pub reach : i ≤ count
  pub left : AllKept s (drop i has.marks)
  pub put : Putting out at (fields_text head (items s (fields_of has.marks))) buf p (fields_text head (items s (fields_of (drop i has.marks))))

pub fields-are : {s table : List ℕ} {count : ℕ} (h : Recorded s table count) → fields_from count table 0 ≡ fields_of h.marks
fields-are h = rw (h.listed, h.many) (fields-records h.marks h.rest)

pub list-start : {out : List ℕ} {at : ℕ} {head s table : List ℕ} {count : ℕ} → Listed out at head s table count → Listing out at head s table count out at 0
list-start {out} {at} {head} {s} l =
    let h = l.has in
    record {
      has = h;
      reach = omega arith;
      left = h.inside;
      put = put-start out at (fields_text head (items s (fields_of h.marks))) (rw (fields-are h) at l.room);
    }

module _ {out : List ℕ} {at : ℕ} {head s table : List ℕ} {count : ℕ} {buf : List ℕ} {p i : ℕ} (w : Listing out at head s table count buf p i) where
  list-words : i < count → i < room table
  list-words h =
      omega (arith, w.has.many, ap length w.has.listed, length-append (records w.has.marks) w.has.rest, length-records w.has.marks)

  module _ (h : i < count) {r : Record} (e : r ≡ record_in table i) where
    next : Next w.has.marks i r
    next =
        next_of w.has.marks w.has.rest i r (omega (arith, w.has.many))
        (e ∙ record-there table i (list-words h) ∙ ap (λ (t : List ℕ). record_at t i) w.has.listed)

    next-put : Putting out at (fields_text head (items s (fields_of w.has.marks))) buf p
        (field_text head (item_of s (field_in r)) ++ fields_text head (items s (fields_of next.rest)))
    next-put =
        subst
        (λ (x : Item). Putting out at (fields_text head (items s (fields_of w.has.marks))) buf p
        (field_text head x ++ fields_text head (items s (fields_of next.rest))))
        (ap (λ (m : Mark). item_of s m.field) (sym next.is))
        (rw next.here at w.put)

    next-inside : Kept s next.mark × AllKept s next.rest
    next-inside = rw next.here at w.left

    pub list-one : Lined buf p head s r
    list-one =
        record {
          room = has_room (field_text head (item_of s (field_in r))) (fields_text head (items s (fields_of next.rest))) next-put;
          inside = subst (Kept s) (sym next.is) next-inside.0;
          kind = next.kind ∙ kind-content s next.mark.field.value ∙ ap (λ (m : Mark). content_kind (shown s m.field.value)) (sym next.is);
        }

    pub list-more : {n : ℕ} {c : List ℕ} → ◌≡◌ {A = Placed} (record { next = n; buf = c }) (put_at buf p (field_text head (item_of s (field_in r))))
        → Listing out at head s table count c n (i + 1)
    list-more q =
        record {
          has = w.has;
          reach = omega arith;
          left = rw next.behind next-inside.1;
          put = rw next.behind (put_next _ (fields_text head (items s (fields_of next.rest))) next-put q);
        }

  pub list_done : count ≤ i → record { next = p; buf = buf } ≡ put_at out at (fields_text head (items s (fields_from count table 0)))
  list_done h =
      let d : Putting out at (fields_text head (items s (fields_of w.has.marks))) buf p [] =
      rw (drop_of_length-le w.has.marks {i = i} (omega (arith, w.has.many))) at w.put in
      rw (fields-are w.has) (put-done d)
