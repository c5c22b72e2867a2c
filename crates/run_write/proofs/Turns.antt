-- One record weighed, and the loops over records: where each stands, and what a turn does.
use Prim.Native.Nat.{ℕ, zero, suc, ◌+◌, ◌-◌, ◌*◌, ◌/◌, ◌≤◌, ◌<◌}
use mathlib.Core.Path.{◌≡◌, refl, ap, ◌∙◌, sym}
use mathlib.Core.Bool.{Bool, true, false}
use mathlib.Core.List.{List, ◌++◌}
use native.Mathlib.Omega.{arith}
use native.Mathlib.Numerals.{add-one}
use lib.ListN.{length, length-append}
use lib.Seq.{sets}
use Rattle.wire.specs.Fixed.{fixed}
use Rattle.wire.specs.Limits.{message_limit, record_words}
use Rattle.wire.specs.Numbers.{kind_of}
use Rattle.wire.specs.Varint.{encode}
use Rattle.wire.specs.VarintLength.{length-four}
use Rattle.wire.specs.Table.{room, record_at, good}
use Rattle.wire.specs.declared.Record.{Record}
use Rattle.wire.specs.declared.Refusal.{Refusal}
use Rattle.wire.specs.declared.Refusal.TheVariants.{TooLong, BadRecord}
use Rattle.wire.specs.declared.Weight.{Weight}
use Rattle.wire.specs.declared.Weight.TheVariants as weight
use Rattle.wire.specs.declared.Weighed.TheVariants as weighed
use Rattle.write_record.specs.Records.{Judged, Fine, Bad, AllFine, First, value_bytes, value_size, record_size}
use Rattle.write_record.specs.RecordLaws.{Sound, good-sound, record-size}
use Rattle.write_record.specs.Taken.{record_in, record-there}
use Rattle.write_message.specs.Writing.{spent}
use Rattle.write_message.proofs.Puts.{whole-size}
use Rattle.place.specs.Spans.{Spans, spans-as, spans-none, spans-behind, spans-length}
use Rattle.run_read.specs.Widths.{width, wide_type}
use Rattle.run_write.specs.RunPlan.{run_judge, run_weigh, run_tested, run_checked, run_bytes}
use Rattle.run_write.specs.RunLaws.{fine-run, weigh-run, weigh-not, weighed-bad, weighed-bytes, first-stays, checked-long, checked-count, checked-tests}
use Rattle.run_write.specs.RunLaws.{Ready, ready_at, bytes-last, bytes_cut}
use Rattle.run_write.specs.Exact.{words_at, words-there, Plain}

-- ---- one record

-- the size of a value, by its kind
pub size-one : (k v l : ℕ) → (k ≡ 0 → ⊥) → k < 2 → length (encode l) + l ≡ value_size k v l
size-one zero v l e h = absurd (e refl)
size-one (suc zero) v l e h = refl
size-one (suc (suc k)) v l e h = absurd (omega (arith, h))

pub size-eight : (k v l : ℕ) → 2 ≤ k → (k ≡ 2 → ⊥) → 8 ≡ value_size k v l
size-eight zero v l h e = absurd (omega (arith, h))
size-eight (suc zero) v l h e = absurd (omega (arith, h))
size-eight (suc (suc zero)) v l h e = absurd (e refl)
size-eight (suc (suc (suc k))) v l h e = refl

-- how many bytes the value of a good record is
pub value-size : (s : List ℕ) (r : Record) → Sound (length s) r → length (value_bytes s r) ≡ value_size r.kind r.value r.length
unfolding record_size
value-size s r g = omega (arith, record-size s 0 r g, whole-size s 0 r g, length-four (r.tag - 0) r.kind g.kind)

-- ---- testing and counting: i records are fine, and left is what their values leave of the budget

pub record Weighing (most : ℕ) (s t : List ℕ) (c k left i : ℕ) : Type 0 where
  pub short : length s ≤ most
  pub count : c ≤ room t
  pub index : i ≤ c
  pub fine : run_tested i (length s) k t ≡ AllFine
  pub held : left ≡ most + 1 - length (run_bytes s t i)

-- the tests before the first record
module _ (most : ℕ) (s t : List ℕ) (c k : ℕ) where
  pub source-long : most < length s → weighed.First TooLong 0 ≡ spent (most + 1) (length (run_bytes s t c)) (run_checked most s t c k)
  source-long h = sym (ap (spent (most + 1) (length (run_bytes s t c))) (checked-long most s t c k h))

  pub count-above : length s ≤ most → room t < c → weighed.First BadRecord (room t) ≡ spent (most + 1) (length (run_bytes s t c)) (run_checked most s t c k)
  count-above g h = sym (ap (spent (most + 1) (length (run_bytes s t c))) (checked-count most s t c k g h))

  pub weigh-start : length s ≤ most → c ≤ room t → Weighing most s t c k (most + 1) 0
  weigh-start g h = record { short = g; count = h; index = omega arith; fine = refl; held = omega arith }

module _ {most : ℕ} {s t : List ℕ} {c k left i : ℕ} (w : Weighing most s t c k left i) where
  -- as the calls of a turn say it: the record r, and what is said of it, x
  module _ {r : Record} {x : Weight} (h : i < c) (q : r ≡ record_in t i) (e : x ≡ run_weigh (length s) k r) where
    is : r ≡ record_at t i
    is = q ∙ record-there t i (omega (arith, w.count))

    judged : (j : Judged) → run_judge (length s) k r ≡ j → run_judge (length s) k (record_at t i) ≡ j
    judged j f = rw (← is) f

    pub turn-bad : (why : Refusal) → x ≡ weight.Bad why → weighed.First why i ≡ spent (most + 1) (length (run_bytes s t c)) (run_checked most s t c k)
    turn-bad why b =
        let j = judged (Bad why) (weighed-bad (length s) k r why e b) in
        let f : run_tested (suc i) (length s) k t ≡ First why i = rw (w.fine, j) in
        let z : c - suc i + suc i ≡ c = omega arith in
        let g : run_tested c (length s) k t ≡ First why i = rw z at (first-stays (length s) k t (suc i) (c - suc i) why i f) in
        sym (ap (spent (most + 1) (length (run_bytes s t c))) (checked-tests most s t c k w.short w.count ∙ g))

    pub turn_more : (m : ℕ) → x ≡ weight.Bytes m → {left' : ℕ} → left' ≡ left - m → Weighing most s t c k left' (i + 1)
    turn_more m b {left'} l =
        let f = weighed-bytes (length s) k r m e b in
        let j = judged Fine f.0 in
        let g = good-sound (length s) r (fine-run (length s) k r f.0).0 in
        let n : length (value_bytes s (record_at t i)) ≡ value_size r.kind r.value r.length = rw (← is) (value-size s r g) in
        record {
          short = w.short;
          count = w.count;
          index = omega arith;
          fine = rw (add-one i, w.fine, j);
          held =
              rw (add-one i)
              (omega (arith, w.held, ap length (bytes-last s t i), length-append (run_bytes s t i) (value_bytes s (record_at t i)), n, f.1));
        }

  pub weigh-done : c ≤ i → weighed.Left left ≡ spent (most + 1) (length (run_bytes s t c)) (run_checked most s t c k)
  weigh-done h =
      let z : i ≡ c = omega (arith, w.index) in
      let g : run_tested c (length s) k t ≡ AllFine = rw z at w.fine in
      let l : left ≡ most + 1 - length (run_bytes s t c) = rw z at w.held in
      sym (ap (spent (most + 1) (length (run_bytes s t c))) (checked-tests most s t c k w.short w.count ∙ g) ∙ rw l)

-- ---- putting values, where all records are fine and the buffer has room for the run: those of the first i stand at the front, up to place at

pub record Forward (b s t : List ℕ) (c : ℕ) (buf : List ℕ) (at i : ℕ) : Type 0 where
  pub index : i ≤ c
  pub put : Spans b 0 at (run_bytes s t i) buf

pub forward-start : (b s t : List ℕ) (c : ℕ) → Forward b s t c b 0 0
forward-start b s t c = record { index = omega arith; put = spans-none b 0 }

module _ {b s t : List ℕ} {c k : ℕ} (y : Ready s t c k) (z : length (run_bytes s t c) ≤ length b)
    {buf : List ℕ} {at i : ℕ} (w : Forward b s t c buf at i) {r : Record} (h : i < c) (q : r ≡ record_at t i) where
  pub forward-one : Sound (length s) r × (r.kind ≡ k) × (at + length (value_bytes s r) ≤ length buf)
  forward-one =
      rw q (
        (ready_at y i h).0,
        (ready_at y i h).1,
        omega (arith, bytes_cut s t c i h, w.put.reach, spans-length w.put),
      )

  pub forward-more : {n : ℕ} {d : List ℕ} → Spans buf at n (value_bytes s r) d → Forward b s t c d n (i + 1)
  forward-more {n} {d} e =
      let x : Spans buf at n (value_bytes s (record_at t i)) d = rw (← q) e in
      record {
        index = omega arith;
        put = rw (add-one i, bytes-last s t i) (spans-behind w.put x);
      }

pub forward-done : {b s t : List ℕ} {c : ℕ} {buf : List ℕ} {at i : ℕ} → Forward b s t c buf at i → c ≤ i → Spans b 0 at (run_bytes s t c) buf
forward-done {b} {s} {t} {c} {buf} {at} {i} w h = let z : i ≡ c = omega (arith, w.index) in rw z at w.put

-- ---- fixed values: i records are fine, and the next one's words stand from word at on

pub record Testing (s t : List ℕ) (c : ℕ) (b : Bool) (at : ℕ) : Type 0 where
  pub i : ℕ
  pub place : at ≡ record_words * i
  pub weighing : Weighing message_limit s t c (kind_of (wide_type b)) (message_limit + 1 - width b * i) i

test-start : (b : Bool) (s t : List ℕ) (c : ℕ) → length s ≤ message_limit → c ≤ room t → Testing s t c b 0
test-start b s t c g h =
    record {
      i = 0;
      place = omega arith;
      weighing = record { short = g; count = h; index = omega arith; fine = refl; held = none b };
    }
  where
    none : (d : Bool) → message_limit + 1 - width d * 0 ≡ message_limit + 1 - 0
    none true = omega arith
    none false = omega arith

-- what a value takes, and leaves
size-wide : (b : Bool) (k v l : ℕ) → k ≡ kind_of (wide_type b) → value_size k v l ≡ width b
size-wide true k v l e = rw e
size-wide false k v l e = rw e

less : (b : Bool) (i : ℕ) → message_limit + 1 - width b * (i + 1) ≡ message_limit + 1 - width b * i - width b
less true i = omega arith
less false i = omega arith

module _ {s t : List ℕ} {c : ℕ} {b : Bool} {at : ℕ} (f : Testing s t c b at) where
  module _ (h : at < record_words * c) where
    before : f.i < c
    before = omega (arith, f.place)

    pub test-inside : at + record_words ≤ length t
    test-inside = omega (arith, f.place, before, f.weighing.count)

    -- the record r there
    there : {r : Record} → r ≡ words_at t at → r ≡ record_in t f.i
    there q = q ∙ words-there t at f.i f.place ∙ sym (record-there t f.i (omega (arith, before, f.weighing.count)))

    -- one that is none of the run
    pub test-bad : {r : Record} → r ≡ words_at t at → (good (length s) r ≡ true → r.kind ≡ kind_of (wide_type b) → r.tag ≡ 0 → ⊥)
        → weighed.First BadRecord (at / record_words)
        ≡ spent (message_limit + 1) (length (run_bytes s t c)) (run_checked message_limit s t c (kind_of (wide_type b)))
    test-bad {r} q n =
        let k = kind_of (wide_type b) in
        let e : at / record_words ≡ f.i = omega (arith, f.place) in
        ap (weighed.First BadRecord) e
        ∙ turn-bad f.weighing {r = r} {x = run_weigh (length s) k r} before (there q) refl BadRecord (weigh-not (length s) k r n)

    -- one more
    pub test-more : {r : Record} → r ≡ words_at t at → good (length s) r ≡ true → r.kind ≡ kind_of (wide_type b) → r.tag ≡ 0
        → Testing s t c b (at + record_words)
    test-more {r} q g d z =
        let k = kind_of (wide_type b) in
        let m = size-wide b r.kind r.value r.length d in
        let w = weigh-run (length s) k r g d z ∙ ap weight.Bytes m in
        record {
          i = f.i + 1;
          place = omega (arith, f.place);
          weighing = turn_more f.weighing {r = r} {x = run_weigh (length s) k r} before (there q) refl (width b) w (less b f.i);
        }

  pub test-done : record_words * c ≤ at → {left : ℕ} → left ≡ message_limit + 1 - width b * c
      → weighed.Left left ≡ spent (message_limit + 1) (length (run_bytes s t c)) (run_checked message_limit s t c (kind_of (wide_type b)))
  test-done h e =
      let n : f.i ≡ c = omega (arith, f.place, f.weighing.index) in
      ap weighed.Left (e ∙ ap (λ (j : ℕ). message_limit + 1 - width b * j) (sym n)) ∙ weigh-done f.weighing (omega (arith, n))

-- where the first i are fine, the next one is looked at
testing-from : (s t : List ℕ) (c : ℕ) (b : Bool) → length s ≤ message_limit → c ≤ room t → (i : ℕ) → i ≤ c
    → ((j : ℕ) → j < i → run_judge (length s) (kind_of (wide_type b)) (record_at t j) ≡ Fine) → Testing s t c b (record_words * i)
testing-from s t c b g h zero l e = test-start b s t c g h
testing-from s t c b g h (suc i) l e =
    let f = testing-from s t c b g h i (omega (arith, l)) (λ j m. e j (omega (arith, m))) in
    let q = fine-run (length s) (kind_of (wide_type b)) (record_at t i) (e i (omega arith)) in
    let z : record_words * i + record_words ≡ record_words * suc i = omega arith in
    rw z at (test-more f (omega (arith, l)) {r = record_at t i} (sym (words-there t (record_words * i) i refl)) q.0 q.1 q.2)

pub plain-testing : {s t : List ℕ} {c : ℕ} {b : Bool} {at : ℕ} → length s ≤ message_limit → c ≤ room t → Plain t c b at → Testing s t c b at
plain-testing {s} {t} {c} {b} {at} g h p =
    let z : record_words * (2 * p.m) ≡ at = omega (arith, p.place) in
    rw z at (testing-from s t c b g h (2 * p.m) p.index (λ j. p.fine (length s) j))

-- the budget, by the count
module _ (c : ℕ) {n : ℕ} where
  pub all-spent : (b : Bool) → n ≡ width b → message_limit / n < c → 0 ≡ message_limit + 1 - width b * c
  all-spent true e h = let g : message_limit / 8 < c = rw e at h in omega (arith, g)
  all-spent false e h = let g : message_limit / 4 < c = rw e at h in omega (arith, g)

  pub not-spent : (b : Bool) → n ≡ width b → c ≤ message_limit / n → n * c ≤ message_limit
  not-spent true e h = let g : c ≤ message_limit / 8 = rw e at h in rw e (omega (arith, g))
  not-spent false e h = let g : c ≤ message_limit / 4 = rw e at h in rw e (omega (arith, g))

-- ---- a fixed value's bytes, four at a time

size-four : (k v l : ℕ) → 2 ≤ k → 4 ≤ value_size k v l
size-four zero v l h = absurd (omega (arith, h))
size-four (suc zero) v l h = absurd (omega (arith, h))
size-four (suc (suc zero)) v l h = omega arith
size-four (suc (suc (suc k))) v l h = omega arith

pub four-inside : (s : List ℕ) (r : Record) → Sound (length s) r → 2 ≤ r.kind → 4 ≤ length (value_bytes s r)
four-inside s r g h = omega (arith, value-size s r g, size-four r.kind r.value r.length h)

halves : (v : ℕ) → fixed 8 v ≡ fixed 4 v ++ fixed 4 (v / 0x1_0000_0000)
halves v = let e : v / 0x1_0000_0000 ≡ v / 256 / 256 / 256 / 256 = omega arith in rw e

pub spans-four : {b c : List ℕ} {p : ℕ} (v : ℕ) → c ≡ sets b p (fixed 4 v) → Spans b p (p + 4) (fixed 4 v) c
spans-four v e = record { reach = refl; is = e }

pub spans-eight : {b c d : List ℕ} {p : ℕ} (v : ℕ) → c ≡ sets b p (fixed 4 v) → d ≡ sets c (p + 4) (fixed 4 (v / 0x1_0000_0000))
    → Spans b p (p + 8) (fixed 8 v) d
spans-eight {b} {c} {d} {p} v e f =
    let z : p + 4 + 4 ≡ p + 8 = omega arith in
    let w : Spans b p (p + 4 + 4) (fixed 4 v ++ fixed 4 (v / 0x1_0000_0000)) d = spans-behind (spans-four v e) (spans-four (v / 0x1_0000_0000) f) in
    spans-as (halves v) (rw z at w)
