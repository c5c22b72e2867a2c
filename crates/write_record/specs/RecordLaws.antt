-- What a good record says, the cases of its tests, its bytes and their number; and the laws of records behind one another.
use Rattle.std.specs.Prelude.{◌≡◌, ℕ, zero, suc, ◌+◌, ◌-◌, ◌*◌, ◌^◌, ◌<◌, ◌≤◌, Bool, true, false, List, ◌++◌, length, take, drop, ◌==◌, ◌≢◌, nat_le, nat_lt}
use Rattle.std.proofs.Math.Path.{refl, sym}
use Rattle.std.proofs.Common.{ap, ◌∙◌, arith, zero-add, suc-add, length-append, length-drop, length-take-le}
use mathlib.Core.List.{append_assoc, append-nil}
use borrow.Author.Tests.{lt-ltb, le-leb, lt-leb, ltb-true, leb-true, leb-false, eq-eqb, ne_eqb, eqb-true, eqb-false}
use Rattle.wire.specs.Choose.{choose, both}
use Rattle.wire.specs.Numbers.{number_of}
use Rattle.wire.specs.Varint.{encode}
use Rattle.wire.specs.VarintLaws.{length-le}
use Rattle.wire.specs.VarintLength.{length-four}
use Rattle.wire.specs.Fixed.{fixed}
use Rattle.wire.specs.Written.{content_kind, written_content, written_item}
use Rattle.wire.specs.Places.{shown, item_of}
use Rattle.wire.specs.Table.{record_at, value_of, field_in, good_value, good_key, good_head, good}
use Rattle.write_record.specs.Records.{tag_before, Judged, Fine, Bad, judge, Verdict, AllFine, First, and_then, tested, value_bytes, record_bytes}
use Rattle.write_record.specs.Records.{value_size, record_size, weigh_value, weigh, run, message}
use Rattle.wire.specs.declared.Record.{Record}
use Rattle.wire.specs.declared.Refusal.{Refusal}
use Rattle.wire.specs.declared.Refusal.TheVariants.{NoRoom, BadRecord, OutOfOrder}
use Rattle.wire.specs.declared.Weight.{Weight}
use Rattle.wire.specs.declared.Weight.TheVariants as weight

-- ---- a good record

pub record Sound (n : ℕ) (r : Record) : Type 0 where
  pub tag : r.tag < 2 ^ 32
  pub kind : r.kind < 4
  pub payload : r.kind ≡ 1 → r.value + r.length ≤ n
  pub four : r.kind ≡ 2 → r.value < 2 ^ 32

value-sound : (n k v l : ℕ) → good_value n k v l ≡ true → (k < 4) × (k ≡ 1 → v + l ≤ n) × (k ≡ 2 → v < 2 ^ 32)
unfolding good_value
value-sound n zero v l e = (omega arith, λ z. omega arith, λ z. omega arith)
value-sound n (suc zero) v l e = (omega arith, λ z. leb-true (v + l) n e, λ z. omega arith)
value-sound n (suc (suc zero)) v l e = (omega arith, λ z. omega arith, λ z. ltb-true v (2 ^ 32) (both (l == 4) (nat_lt v (2 ^ 32)) e).1)
value-sound n (suc (suc (suc zero))) v l e = (omega arith, λ z. omega arith, λ z. omega arith)
value-sound n (suc (suc (suc (suc k)))) v l e = let z : ◌≡◌ {A = ℕ} 0 1 = cc in absurd (omega arith)

pub head_small : (n tag key : ℕ) → good_head n tag key ≡ true → tag < 2 ^ 32
unfolding good_head
head_small n tag key e = ltb-true tag (2 ^ 32) (both (nat_lt tag (2 ^ 32)) (good_key n key) e).0

pub good-sound : (n : ℕ) (r : Record) → good n r ≡ true → Sound n r
unfolding good
good-sound n r e =
    let b = both (good_head n r.tag r.key) (good_value n r.kind r.value r.length) e in
    let v = value-sound n r.kind r.value r.length b.1 in
    record { tag = head_small n r.tag r.key b.0; kind = v.0; payload = v.1; four = v.2 }

module _ (n : ℕ) (r : Record) where
  pub bad-head : good_head n r.tag r.key ≡ false → good n r ≡ false
  unfolding good
  bad-head e = simp e

  pub good-head : good_head n r.tag r.key ≡ true → good n r ≡ good_value n r.kind r.value r.length
  unfolding good
  good-head e = simp e

  -- the other way about
  pub good-value : good_value n r.kind r.value r.length ≡ true → good n r ≡ good_head n r.tag r.key
  unfolding good
  good-value e = go (good_head n r.tag r.key)
    where
      go : (b : Bool) → choose b (good_value n r.kind r.value r.length) false ≡ b
      go true = e
      go false = refl

  pub bad-value : good_value n r.kind r.value r.length ≡ false → good n r ≡ false
  unfolding good
  bad-value e = go (good_head n r.tag r.key)
    where
      go : (b : Bool) → choose b (good_value n r.kind r.value r.length) false ≡ false
      go true = e
      go false = refl

-- ---- what is said of a value, by its kind

module _ (n k v l : ℕ) where
  pub value-number : k ≡ 0 → l ≡ 0 → weigh_value n k v l ≡ weight.Bytes (length (encode v))
  unfolding weigh_value good_value
  value-number e f = rw (e, eq-eqb l 0 f)

  pub no_number : k ≡ 0 → (l ≢ 0) → weigh_value n k v l ≡ weight.Bad BadRecord
  unfolding weigh_value good_value
  no_number e f = rw (e, ne_eqb l 0 f)

  pub value-payload : k ≡ 1 → v + l ≤ n → weigh_value n k v l ≡ weight.Bytes (length (encode l) + l)
  unfolding weigh_value good_value
  value-payload e h = rw (e, le-leb (v + l) n h)

  pub no_payload : k ≡ 1 → n < v + l → weigh_value n k v l ≡ weight.Bad BadRecord
  unfolding weigh_value good_value
  no_payload e h = rw (e, lt-leb (v + l) n h)

  pub value-four : k ≡ 2 → l ≡ 4 → v < 2 ^ 32 → weigh_value n k v l ≡ weight.Bytes 4
  unfolding weigh_value good_value
  value-four e f h = rw (e, eq-eqb l 4 f, lt-ltb v (2 ^ 32) h)

  pub no-four : k ≡ 2 → (l ≡ 4 → v < 2 ^ 32 → ⊥) → weigh_value n k v l ≡ weight.Bad BadRecord
  unfolding weigh_value good_value
  no-four e f = go (l == 4) refl (nat_lt v (2 ^ 32)) refl
    where
      go : (a : Bool) → (l == 4) ≡ a → (b : Bool) → nat_lt v (2 ^ 32) ≡ b → weigh_value n k v l ≡ weight.Bad BadRecord
      go true a true b = absurd (f (eqb-true l 4 a) (ltb-true v (2 ^ 32) b))
      go true a false b = rw (e, a, b)
      go false a b q = rw (e, a)

  pub value-eight : k ≡ 3 → l ≡ 8 → weigh_value n k v l ≡ weight.Bytes 8
  unfolding weigh_value good_value
  value-eight e f = rw (e, eq-eqb l 8 f)

  pub no-eight : k ≡ 3 → (l ≢ 8) → weigh_value n k v l ≡ weight.Bad BadRecord
  unfolding weigh_value good_value
  no-eight e f = rw (e, ne_eqb l 8 f)

  pub no_kind : 3 < k → weigh_value n k v l ≡ weight.Bad BadRecord
  unfolding weigh_value good_value
  no_kind h = rw (none k h)
    where
      none : (j : ℕ) → 3 < j → good_value n j v l ≡ false
      none zero g = absurd (omega arith)
      none (suc zero) g = absurd (omega arith)
      none (suc (suc zero)) g = absurd (omega arith)
      none (suc (suc (suc zero))) g = absurd (omega arith)
      none (suc (suc (suc (suc j)))) g = refl

  -- what was said of it tells whether it is good
  pub value-good : {w : Weight} (m : ℕ) → w ≡ weigh_value n k v l → w ≡ weight.Bytes m → (good_value n k v l ≡ true) × (m ≡ value_size k v l)
  unfolding weigh_value
  value-good {w} m e f = go (good_value n k v l) refl
    where
      go : (b : Bool) → good_value n k v l ≡ b → (good_value n k v l ≡ true) × (m ≡ value_size k v l)
      go true q = let h : weight.Bytes m ≡ weight.Bytes (value_size k v l) = simp q at (sym f ∙ e) in (q, cc)
      go false q = let h : weight.Bytes m ≡ weight.Bad BadRecord = simp q at (sym f ∙ e) in let z : ◌≡◌ {A = ℕ} 0 1 = cc in absurd (omega arith)

  pub value-bad : {w : Weight} (why : Refusal) → w ≡ weigh_value n k v l → w ≡ weight.Bad why → (good_value n k v l ≡ false) × (why ≡ BadRecord)
  unfolding weigh_value
  value-bad {w} why e f = go (good_value n k v l) refl
    where
      go : (b : Bool) → good_value n k v l ≡ b → (good_value n k v l ≡ false) × (why ≡ BadRecord)
      go true q = let h : weight.Bad why ≡ weight.Bytes (value_size k v l) = simp q at (sym f ∙ e) in let z : ◌≡◌ {A = ℕ} 0 1 = cc in absurd (omega arith)
      go false q = let h : weight.Bad why ≡ weight.Bad BadRecord = simp q at (sym f ∙ e) in (q, cc)

-- a good value is not much longer than the source
pub value-short : (n k v l : ℕ) → good_value n k v l ≡ true → value_size k v l ≤ n + 9
value-short n zero v l e = omega (arith, length-le v)
value-short n (suc zero) v l e = omega (arith, length-le l, (value-sound n 1 v l e).1 refl)
value-short n (suc (suc zero)) v l e = omega arith
value-short n (suc (suc (suc k))) v l e = omega arith

-- ---- one record behind a tag

module _ (n prev : ℕ) (r : Record) where
  pub judge-bad : good n r ≡ false → judge n prev r ≡ Bad BadRecord
  unfolding judge
  judge-bad e = simp e

  pub judge-falls : good n r ≡ true → r.tag < prev → judge n prev r ≡ Bad OutOfOrder
  unfolding judge
  judge-falls e h = simp (e, lt-leb prev r.tag h)

  pub judge-good : good n r ≡ true → prev ≤ r.tag → judge n prev r ≡ Fine
  unfolding judge
  judge-good e h = simp (e, le-leb prev r.tag h)

  -- a record that is fine: good, and not below the tag
  pub judge-fine : judge n prev r ≡ Fine → (good n r ≡ true) × (prev ≤ r.tag)
  judge-fine e = go (good n r) refl (nat_le prev r.tag) refl
    where
      no : {x : Refusal} → Bad x ≢ Fine
      no e = let z : ◌≡◌ {A = ℕ} 0 1 = cc in omega arith

      go : (g : Bool) → good n r ≡ g → (o : Bool) → nat_le prev r.tag ≡ o → (good n r ≡ true) × (prev ≤ r.tag)
      go true g true o = (g, leb-true prev r.tag o)
      go true g false o = absurd (no (sym (judge-falls g (leb-false prev r.tag o)) ∙ e))
      go false g o q = absurd (no (sym (judge-bad g) ∙ e))

  -- a record is refused as not good or as out of order, and not for want of room
  pub judge-why : (why : Refusal) → judge n prev r ≡ Bad why → number_of why ≢ number_of NoRoom
  judge-why why e z = go (good n r) refl (nat_le prev r.tag) refl
    where
      go : (g : Bool) → good n r ≡ g → (o : Bool) → nat_le prev r.tag ≢ o
      go true g true o = let h = sym (judge-good g (leb-true prev r.tag o)) ∙ e in let y : ◌≡◌ {A = ℕ} 0 1 = cc in omega arith
      go true g false o =
          let h = sym (judge-falls g (leb-false prev r.tag o)) ∙ e in
          let k : OutOfOrder ≡ why = cc in
          omega (arith, ap number_of k, z)
      go false g o q =
          let h = sym (judge-bad g) ∙ e in
          let k : BadRecord ≡ why = cc in
          omega (arith, ap number_of k, z)

-- ---- all records, from the first

fine-both : (v : Verdict) (j : Judged) (i : ℕ) → and_then v j i ≡ AllFine → (v ≡ AllFine) × (j ≡ Fine)
fine-both AllFine Fine i e = (refl, refl)
fine-both AllFine (Bad r) i e = let z : ◌≡◌ {A = ℕ} 0 1 = cc in absurd (omega arith)
fine-both (First r k) j i e = let z : ◌≡◌ {A = ℕ} 0 1 = cc in absurd (omega arith)

module _ (n : ℕ) (t : List ℕ) where
  -- where all are fine, so is each
  pub fine-at : (c i : ℕ) → i < c → tested c n t ≡ AllFine → judge n (tag_before t i) (record_at t i) ≡ Fine
  fine-at zero i h e = absurd (omega arith)
  fine-at (suc c) i h e = go (fine-at c i) (fine-both (tested c n t) (judge n (tag_before t c) (record_at t c)) c e) (i == c) refl
    where
      go : (i < c → tested c n t ≡ AllFine → judge n (tag_before t i) (record_at t i) ≡ Fine)
          → (tested c n t ≡ AllFine) × (judge n (tag_before t c) (record_at t c) ≡ Fine)
          → (b : Bool) → (i == c) ≡ b → judge n (tag_before t i) (record_at t i) ≡ Fine
      go ih last true q = rw (eqb-true i c q) last.1
      go ih last false q = ih (omega (arith, eqb-false i c q)) last.0

  -- the first refusal stays, however many records follow
  pub first-stays : (c k : ℕ) (why : Refusal) (i : ℕ) → tested c n t ≡ First why i → tested (k + c) n t ≡ First why i
  first-stays c zero why i e = rw (zero-add c) e
  first-stays c (suc k) why i e = rw (suc-add k c, first-stays c k why i e)

  -- no refusal of the records is for want of room
  pub tested-why : (c : ℕ) (why : Refusal) (i : ℕ) → tested c n t ≡ First why i → number_of why ≢ number_of NoRoom
  tested-why zero why i e z = let y : ◌≡◌ {A = ℕ} 0 1 = cc in omega arith
  tested-why (suc c) why i e z = go (tested-why c why i) (tested c n t) refl (judge n (tag_before t c) (record_at t c)) refl e
    where
      go : (tested c n t ≡ First why i → number_of why ≢ number_of NoRoom)
          → (v : Verdict) → tested c n t ≡ v → (j : Judged) → judge n (tag_before t c) (record_at t c) ≡ j → and_then v j c ≢ First why i
      go ih (First x k) p j q f = ih (p ∙ f) z
      go ih AllFine p Fine q f = let y : ◌≡◌ {A = ℕ} 0 1 = cc in omega arith
      go ih AllFine p (Bad x) q f = let k : x ≡ why = cc in judge-why n (tag_before t c) (record_at t c) x q (ap number_of k ∙ z)

-- ---- the bytes of one record

kind-shown : (s : List ℕ) (k v l : ℕ) → k < 4 → content_kind (shown s (value_of k v l)) ≡ k
kind-shown s zero v l h = refl
kind-shown s (suc zero) v l h = refl
kind-shown s (suc (suc zero)) v l h = refl
kind-shown s (suc (suc (suc zero))) v l h = refl
kind-shown s (suc (suc (suc (suc k)))) v l h = absurd (omega arith)

-- the bytes of a part that is inside are as many as it says
pub length-inside : (s : List ℕ) (from n : ℕ) → from + n ≤ length s → length (take n (drop from s)) ≡ n
length-inside s from n h = length-take-le n (drop from s) (omega (arith, length-drop from s))

module _ (s : List ℕ) (r : Record) where
  pub record-bytes : (prev : ℕ) → r.kind < 4 → record_bytes s prev r ≡ encode (4 * (r.tag - prev) + r.kind) ++ value_bytes s r
  unfolding record_bytes value_bytes
  record-bytes prev h = rw (kind-shown s r.kind r.value r.length h)

  -- the value's bytes, by the kind
  pub bytes-varint : r.kind ≡ 0 → value_bytes s r ≡ encode r.value
  unfolding value_bytes
  bytes-varint e = rw e

  pub bytes-payload : r.kind ≡ 1 → r.value + r.length ≤ length s → value_bytes s r ≡ encode r.length ++ take r.length (drop r.value s)
  unfolding value_bytes
  bytes-payload e h = rw (e, length-inside s r.value r.length h)

  pub bytes-four : r.kind ≡ 2 → value_bytes s r ≡ fixed 4 r.value
  unfolding value_bytes
  bytes-four e = rw e

  pub bytes-eight : r.kind ≡ 3 → value_bytes s r ≡ fixed 8 r.value
  unfolding value_bytes
  bytes-eight e = rw e

-- ---- how many they are

value-size : (s : List ℕ) (k v l : ℕ) → (k ≡ 1 → v + l ≤ length s) → length (written_content (shown s (value_of k v l))) ≡ value_size k v l
value-size s zero v l h = refl
value-size s (suc zero) v l h =
    let e = length-inside s v l (h refl) in
    rw e (length-append (encode l) (take l (drop v s)) ∙ ap (λ (n : ℕ). length (encode l) + n) e)
value-size s (suc (suc zero)) v l h = refl
value-size s (suc (suc (suc k))) v l h = refl

pub record-size : (s : List ℕ) (prev : ℕ) (r : Record) → Sound (length s) r → length (record_bytes s prev r) ≡ record_size prev r
unfolding record_size value_bytes
record-size s prev r g =
    let key = encode (4 * (r.tag - prev) + r.kind) in
    ap length (record-bytes s r prev g.kind)
    ∙ length-append key (value_bytes s r)
    ∙ rw (length-four (r.tag - prev) r.kind g.kind, value-size s r.kind r.value r.length g.payload)

-- ---- what is said of one record

module _ (n prev : ℕ) (r : Record) where
  pub weigh-bad : (why : Refusal) → judge n prev r ≡ Bad why → weigh n prev r ≡ weight.Bad why
  unfolding weigh
  weigh-bad why e = rw e

  pub weigh-fine : judge n prev r ≡ Fine → weigh n prev r ≡ weight.Bytes (record_size prev r)
  unfolding weigh
  weigh-fine e = rw e

  pub weighed-bad : {w : Weight} (why : Refusal) → w ≡ weigh n prev r → w ≡ weight.Bad why → judge n prev r ≡ Bad why
  unfolding weigh
  weighed-bad {w} why e f = go (judge n prev r) refl
    where
      go : (j : Judged) → judge n prev r ≡ j → judge n prev r ≡ Bad why
      go Fine q = let h = sym f ∙ e ∙ weigh-fine q in let z : ◌≡◌ {A = ℕ} 0 1 = cc in absurd (omega arith)
      go (Bad x) q = let h = sym f ∙ e ∙ weigh-bad x q in cc

  pub weighed-bytes : {w : Weight} (k : ℕ) → w ≡ weigh n prev r → w ≡ weight.Bytes k → (judge n prev r ≡ Fine) × (k ≡ record_size prev r)
  unfolding weigh
  weighed-bytes {w} k e f = go (judge n prev r) refl
    where
      go : (j : Judged) → judge n prev r ≡ j → (judge n prev r ≡ Fine) × (k ≡ record_size prev r)
      go Fine q = let h = sym f ∙ e ∙ weigh-fine q in (q, cc)
      go (Bad x) q = let h = sym f ∙ e ∙ weigh-bad x q in let z : ◌≡◌ {A = ℕ} 0 1 = cc in absurd (omega arith)

-- ---- records behind one another

module _ (s t : List ℕ) where
  pub run-one : (i : ℕ) → run s t i 1 ≡ record_bytes s (tag_before t i) (record_at t i)
  unfolding record_bytes
  run-one i = append-nil (record_bytes s (tag_before t i) (record_at t i))

  -- THE LAW OF RUNS: a run of records is a run and the run behind it
  pub run-split : (k m i : ℕ) → run s t i (k + m) ≡ run s t i k ++ run s t (k + i) m
  run-split zero m i = rw (zero-add m, zero-add i)
  run-split (suc k) m i =
      let e : k + suc i ≡ suc k + i = omega arith in
      rw (suc-add k m, run-split k m (suc i), e)
      (sym (append_assoc (written_item (tag_before t i) (item_of s (field_in (record_at t i)))) (run s t (suc i) k) (run s t (suc k + i) m)))

  pub run-first : (i k : ℕ) → run s t i (suc k) ≡ record_bytes s (tag_before t i) (record_at t i) ++ run s t (suc i) k
  unfolding record_bytes
  run-first i k = refl

  pub message-last : (i : ℕ) → message s t (suc i) ≡ message s t i ++ record_bytes s (tag_before t i) (record_at t i)
  message-last i =
      let a : i + 1 ≡ suc i = omega arith in
      let b : i + 0 ≡ i = omega arith in
      rw (a, b) at (run-split i 1 0) ∙ ap (λ (l : List ℕ). message s t i ++ l) (run-one i)

  -- how long the message is, cut before and behind record i
  pub message-cut : (c i : ℕ) → i < c
      → length (message s t c) ≡ length (message s t i) + (length (record_bytes s (tag_before t i) (record_at t i)) + length (run s t (suc i) (c - suc i)))
  message-cut c i h =
      let a : i + suc (c - suc i) ≡ c = omega arith in
      let b : i + 0 ≡ i = omega arith in
      let e : message s t c ≡ message s t i ++ run s t i (suc (c - suc i)) = rw (a, b) at (run-split i (suc (c - suc i)) 0) in
      ap length (e ∙ ap (λ (l : List ℕ). message s t i ++ l) (run-first i (c - suc i)))
      ∙ length-append (message s t i) (record_bytes s (tag_before t i) (record_at t i) ++ run s t (suc i) (c - suc i))
      ∙ ap (λ (n : ℕ). length (message s t i) + n) (length-append (record_bytes s (tag_before t i) (record_at t i)) (run s t (suc i) (c - suc i)))
