-- The loops over records: where each stands, and what a turn does.
use Prim.Native.Nat.{ℕ, zero, suc, ◌+◌, ◌-◌, ◌*◌, ◌≤◌, ◌<◌}
use mathlib.Core.Path.{◌≡◌, refl, ap, ◌∙◌, sym}
use mathlib.Core.List.{List}
use native.Mathlib.Omega.{arith}
use native.Mathlib.Numerals.{add-one}
use lib.ListN.{length, get_or, length-append}
use Rattle.wire.specs.Limits.{record_words}
use Rattle.wire.specs.Table.{room, record_at}
use Rattle.write_record.specs.Records.{tag_before, Judged, Fine, Bad, judge, AllFine, First, tested, checked, record_bytes, record_size, weigh, run, message}
use Rattle.write_record.specs.RecordLaws.{Sound, good-sound, judge-fine, weighed-bad, weighed-bytes, first-stays, record-size, run-first}
use Rattle.write_record.specs.RecordLaws.{message-last, message-cut}
use Rattle.write_record.specs.Taken.{record_in, record-there}
use Rattle.write_message.specs.Writing.{spent}
use Rattle.write_message.specs.WritingLaws.{checked-long, checked-count, checked-tests, Ready, ready_at}
use Rattle.wire.specs.declared.Record.{Record}
use Rattle.wire.specs.declared.Refusal.{Refusal}
use Rattle.wire.specs.declared.Refusal.TheVariants.{TooLong, BadRecord}
use Rattle.wire.specs.declared.Weight.{Weight}
use Rattle.wire.specs.declared.Weight.TheVariants as weight
use Rattle.wire.specs.declared.Weighed.TheVariants as weighed
use Rattle.place.specs.Spans.{Spans, spans-none, spans-behind, spans-before, spans-length}

-- ---- testing and counting: i records are fine, and left is what their bytes leave of the budget

pub record Weighing (most : ℕ) (s t : List ℕ) (c left prev i : ℕ) : Type 0 where
  pub short : length s ≤ most
  pub count : c ≤ room t
  pub index : i ≤ c
  pub before : prev ≡ tag_before t i
  pub fine : tested i (length s) t ≡ AllFine
  pub held : left ≡ most + 1 - length (message s t i)

-- the tests before the first record
module _ (most : ℕ) (s t : List ℕ) (c : ℕ) where
  pub source-long : most < length s → weighed.First TooLong 0 ≡ spent (most + 1) (length (message s t c)) (checked most s t c)
  source-long h = sym (ap (spent (most + 1) (length (message s t c))) (checked-long most s t c h))

  pub count-above : length s ≤ most → room t < c → weighed.First BadRecord (room t) ≡ spent (most + 1) (length (message s t c)) (checked most s t c)
  count-above g h = sym (ap (spent (most + 1) (length (message s t c))) (checked-count most s t c g h))

pub weigh-start : (most : ℕ) (s t : List ℕ) (c : ℕ) → length s ≤ most → c ≤ room t → Weighing most s t c (most + 1) 0 0
weigh-start most s t c g h = record { short = g; count = h; index = omega arith; before = refl; fine = refl; held = omega arith }

module _ {most : ℕ} {s t : List ℕ} {c left prev i : ℕ} (w : Weighing most s t c left prev i) where
  -- as the calls of a turn say it: the record r, and what is said of it, x
  module _ {r : Record} {x : Weight} (h : i < c) (q : r ≡ record_in t i) (e : x ≡ weigh (length s) prev r) where
    is : r ≡ record_at t i
    is = q ∙ record-there t i (omega (arith, w.count))

    judged : (j : Judged) → judge (length s) prev r ≡ j → judge (length s) (tag_before t i) (record_at t i) ≡ j
    judged j f = rw (← is, ← w.before) f

    pub turn-bad : (why : Refusal) → x ≡ weight.Bad why → weighed.First why i ≡ spent (most + 1) (length (message s t c)) (checked most s t c)
    turn-bad why b =
        let j = judged (Bad why) (weighed-bad (length s) prev r why e b) in
        let f : tested (suc i) (length s) t ≡ First why i = rw (w.fine, j) in
        let z : c - suc i + suc i ≡ c = omega arith in
        let g : tested c (length s) t ≡ First why i = rw z at (first-stays (length s) t (suc i) (c - suc i) why i f) in
        sym (ap (spent (most + 1) (length (message s t c))) (checked-tests most s t c w.short w.count ∙ g))

    pub turn_more : (k : ℕ) → x ≡ weight.Bytes k → {left' : ℕ} → left' ≡ left - k → Weighing most s t c left' r.tag (i + 1)
    turn_more k b {left'} l =
        let f = weighed-bytes (length s) prev r k e b in
        let j = judged Fine f.0 in
        let n = record_bytes s (tag_before t i) (record_at t i) in
        let g = good-sound (length s) r (judge-fine (length s) prev r f.0).0 in
        let m : length n ≡ record_size prev r = rw (← is, ← w.before) (record-size s prev r g) in
        record {
          short = w.short;
          count = w.count;
          index = omega arith;
          before = rw (add-one i, is);
          fine = rw (add-one i, w.fine, j);
          held = rw (add-one i) (omega (arith, w.held, ap length (message-last s t i), length-append (message s t i) n, m, f.1));
        }

  pub weigh-done : c ≤ i → weighed.Left left ≡ spent (most + 1) (length (message s t c)) (checked most s t c)
  weigh-done h =
      let z : i ≡ c = omega (arith, w.index) in
      let g : tested c (length s) t ≡ AllFine = rw z at w.fine in
      let l : left ≡ most + 1 - length (message s t c) = rw z at w.held in
      sym (ap (spent (most + 1) (length (message s t c))) (checked-tests most s t c w.short w.count ∙ g) ∙ rw l)

-- ---- putting records, where all are fine and the buffer has room for their message

-- forwards: the first i records stand at the front, up to place at
pub record Forward (b s t : List ℕ) (c : ℕ) (buf : List ℕ) (at prev i : ℕ) : Type 0 where
  pub index : i ≤ c
  pub before : prev ≡ tag_before t i
  pub put : Spans b 0 at (message s t i) buf

pub forward-start : (b s t : List ℕ) (c : ℕ) → Forward b s t c b 0 0 0
forward-start b s t c = record { index = omega arith; before = refl; put = spans-none b 0 }

module _ {b s t : List ℕ} {c : ℕ} (y : Ready s t c) (z : length (message s t c) ≤ length b)
    {buf : List ℕ} {at prev i : ℕ} (w : Forward b s t c buf at prev i) {r : Record} (h : i < c) (q : r ≡ record_at t i) where
  pub forward-one : Sound (length s) r × (prev ≤ r.tag) × (at + length (record_bytes s prev r) ≤ length buf)
  forward-one =
      rw (q, w.before) (
        (ready_at y i h).0,
        (ready_at y i h).1,
        omega (arith, message-cut s t c i h, w.put.reach, spans-length w.put),
      )

  pub forward-more : {n : ℕ} {d : List ℕ} → Spans buf at n (record_bytes s prev r) d → Forward b s t c d n r.tag (i + 1)
  forward-more {n} {d} e =
      let x : Spans buf at n (record_bytes s (tag_before t i) (record_at t i)) d = rw (← q, ← w.before) e in
      record {
        index = omega arith;
        before = rw (add-one i, q);
        put = rw (add-one i, message-last s t i) (spans-behind w.put x);
      }

pub forward-done : {b s t : List ℕ} {c : ℕ} {buf : List ℕ} {at prev i : ℕ} → Forward b s t c buf at prev i → c ≤ i → Spans b 0 at (message s t c) buf
forward-done {b} {s} {t} {c} {buf} {at} {prev} {i} w h = let z : i ≡ c = omega (arith, w.index) in rw z at w.put

-- from the end: the records from record i on stand at the end, from place start on
pub record Backward (b s t : List ℕ) (c : ℕ) (buf : List ℕ) (start i : ℕ) : Type 0 where
  pub index : i ≤ c
  pub put : Spans b start (length b) (run s t i (c - i)) buf

pub backward-start : (b s t : List ℕ) (c : ℕ) → Backward b s t c b (length b) c
backward-start b s t c = let z : c - c ≡ 0 = omega arith in record { index = omega arith; put = rw z (spans-none b (length b)) }

module _ {b s t : List ℕ} {c : ℕ} (y : Ready s t c) (z : length (message s t c) ≤ length b)
    {buf : List ℕ} {start i : ℕ} (w : Backward b s t c buf start i) {r : Record} {prev : ℕ} (h : 0 < i) (q : r ≡ record_at t (i - 1))
    (p : prev ≡ tag_before t (i - 1)) where
  one : suc (i - 1) ≡ i
  one = omega arith

  pub backward-one : Sound (length s) r × (prev ≤ r.tag) × (length (record_bytes s prev r) ≤ start) × (start ≤ length buf)
  backward-one =
      let g : i - 1 < c = omega (arith, w.index) in
      let m = rw one at (message-cut s t c (i - 1) g) in
      rw (q, p) (
        (ready_at y (i - 1) g).0,
        (ready_at y (i - 1) g).1,
        omega (arith, m, w.put.reach),
        omega (arith, w.put.reach, spans-length w.put),
      )

  pub backward-more : {n : ℕ} {d : List ℕ} → Spans buf n start (record_bytes s prev r) d → Backward b s t c d n (i - 1)
  backward-more {n} {d} e =
      let x : Spans buf n start (record_bytes s (tag_before t (i - 1)) (record_at t (i - 1))) d = rw (← q, ← p) e in
      let k : c - (i - 1) ≡ suc (c - i) = omega (arith, w.index) in
      let v : Spans b start (length b) (run s t (suc (i - 1)) (c - i)) buf = rw one w.put in
      record {
        index = omega (arith, w.index);
        put = rw (k, run-first s t (i - 1) (c - i)) (spans-before v x);
      }

pub backward-done : {b s t : List ℕ} {c : ℕ} {buf : List ℕ} {start i : ℕ} → Backward b s t c buf start i → i ≤ 0 → Spans b start (length b) (message s t c) buf
backward-done {b} {s} {t} {c} {buf} {start} {i} w h =
    let z : i ≡ 0 = omega arith in
    let k : c - 0 ≡ c = omega arith in
    rw (z, k) at w.put

-- the word that holds the tag before record i
pub before_at : (t : List ℕ) (i : ℕ) → (i ≡ 0 → ⊥) → get_or t (record_words * (i - 1)) 0 ≡ tag_before t i
unfolding record_at
before_at t zero h = absurd (h refl)
before_at t (suc i) h = let e : suc i - 1 ≡ i = omega arith in rw e
