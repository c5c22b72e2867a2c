-- The cases of the tests of a run's records, of their plan, and the laws of their bytes.
use Prim.Native.Nat.{ℕ, zero, suc, ◌+◌, ◌-◌, ◌≤◌, ◌<◌}
use Rattle.std.proofs.Math.Path.{◌≡◌, refl, ap}
use Rattle.std.proofs.Common.{◌∙◌, sym, suc-add, length-append}
use Rattle.std.specs.Prelude.{Bool, leb, length}
use Rattle.std.proofs.Math.Bool.{true, false}
use mathlib.Core.List.{List, ◌++◌, append_assoc, append-nil}
use native.Mathlib.Omega.{arith}
use Rattle.std.proofs.Math.Nat.{zero-add}
use borrow.Author.Tests.{le-leb, lt-leb, leb-true, leb-false, eq-eqb, eqb-true, eqb-false}
use Rattle.std.proofs.Math.Dec.{eqb}
use Rattle.wire.specs.Table.{room, record_at, good}
use Rattle.wire.specs.declared.Record.{Record}
use Rattle.wire.specs.declared.Refusal.{Refusal}
use Rattle.wire.specs.declared.Refusal.TheVariants.{TooLong, BadRecord}
use Rattle.wire.specs.declared.Weight.{Weight}
use Rattle.wire.specs.declared.Weight.TheVariants as weight
use Rattle.wire.specs.declared.Weighed.{Weighed}
use Rattle.wire.specs.declared.Weighed.TheVariants as weighed
use Rattle.write_record.specs.Records.{Judged, Fine, Bad, Verdict, AllFine, First, and_then, value_bytes, value_size}
use Rattle.write_record.specs.RecordLaws.{Sound, good-sound}
use Rattle.write_message.specs.Writing.{Writes, Refuses, spent}
use Rattle.write_message.specs.WritingLaws.{no-fine, passed-writes}
use Rattle.run_write.specs.RunPlan.{run_judge, run_weigh, run_tested, run_checked, stretch, run_bytes, run_plan}

-- ---- one record

module _ (n k : ℕ) (r : Record) where
  pub judge-run : good n r ≡ true → r.kind ≡ k → r.tag ≡ 0 → run_judge n k r ≡ Fine
  unfolding run_judge
  judge-run g e f = rw (g, eq-eqb r.kind k e, eq-eqb r.tag 0 f)

  -- all that is wrong with a record is BadRecord
  pub judge-not : (good n r ≡ true → r.kind ≡ k → r.tag ≡ 0 → ⊥) → run_judge n k r ≡ Bad BadRecord
  unfolding run_judge
  judge-not h = go (good n r) refl (eqb r.kind k) refl (eqb r.tag 0) refl
    where
      go : (a : Bool) → good n r ≡ a → (b : Bool) → eqb r.kind k ≡ b → (c : Bool) → eqb r.tag 0 ≡ c → run_judge n k r ≡ Bad BadRecord
      go true a true b true c = absurd (h a (eqb-true r.kind k b) (eqb-true r.tag 0 c))
      go true a true b false c = rw (a, b, c)
      go true a false b c x = rw (a, b)
      go false a b x c y = rw a

  pub fine-run : run_judge n k r ≡ Fine → (good n r ≡ true) × (r.kind ≡ k) × (r.tag ≡ 0)
  unfolding run_judge
  fine-run e = go (good n r) refl (eqb r.kind k) refl (eqb r.tag 0) refl
    where
      no : {A : Type 0} → Bad BadRecord ≡ Fine → A
      no q = let z : ◌≡◌ {A = ℕ} 0 1 = cc in absurd (omega arith)

      go : (a : Bool) → good n r ≡ a → (b : Bool) → eqb r.kind k ≡ b → (c : Bool) → eqb r.tag 0 ≡ c → (good n r ≡ true) × (r.kind ≡ k) × (r.tag ≡ 0)
      go true a true b true c = (a, eqb-true r.kind k b, eqb-true r.tag 0 c)
      go true a true b false c = no (simp (a, b, c) at e)
      go true a false b c x = no (simp (a, b) at e)
      go false a b x c y = no (simp a at e)

  -- what is said of it
  pub weigh-run : good n r ≡ true → r.kind ≡ k → r.tag ≡ 0 → run_weigh n k r ≡ weight.Bytes (value_size r.kind r.value r.length)
  unfolding run_weigh
  weigh-run g e f = rw (judge-run g e f)

  pub weigh-not : (good n r ≡ true → r.kind ≡ k → r.tag ≡ 0 → ⊥) → run_weigh n k r ≡ weight.Bad BadRecord
  unfolding run_weigh
  weigh-not h = rw (judge-not h)

  pub weighed-bad : {x : Weight} (why : Refusal) → x ≡ run_weigh n k r → x ≡ weight.Bad why → run_judge n k r ≡ Bad why
  unfolding run_weigh
  weighed-bad {x} why e f = go (run_judge n k r) refl
    where
      go : (j : Judged) → run_judge n k r ≡ j → run_judge n k r ≡ Bad why
      go Fine q =
          let h : weight.Bad why ≡ weight.Bytes (value_size r.kind r.value r.length) = simp q at (sym f ∙ e) in
          let z : ◌≡◌ {A = ℕ} 0 1 = cc in absurd (omega arith)
      go (Bad y) q = let h : weight.Bad why ≡ weight.Bad y = simp q at (sym f ∙ e) in let a : y ≡ why = cc in q ∙ ap Bad a

  pub weighed-bytes : {x : Weight} (m : ℕ) → x ≡ run_weigh n k r → x ≡ weight.Bytes m
      → (run_judge n k r ≡ Fine) × (m ≡ value_size r.kind r.value r.length)
  unfolding run_weigh
  weighed-bytes {x} m e f = go (run_judge n k r) refl
    where
      go : (j : Judged) → run_judge n k r ≡ j → (run_judge n k r ≡ Fine) × (m ≡ value_size r.kind r.value r.length)
      go Fine q = let h : weight.Bytes m ≡ weight.Bytes (value_size r.kind r.value r.length) = simp q at (sym f ∙ e) in (q, cc)
      go (Bad y) q = let h : weight.Bytes m ≡ weight.Bad y = simp q at (sym f ∙ e) in let z : ◌≡◌ {A = ℕ} 0 1 = cc in absurd (omega arith)

-- ---- all records, from the first

fine-both : (v : Verdict) (j : Judged) (i : ℕ) → and_then v j i ≡ AllFine → (v ≡ AllFine) × (j ≡ Fine)
fine-both AllFine Fine i e = (refl, refl)
fine-both AllFine (Bad r) i e = no-fine e
fine-both (First r m) j i e = no-fine e

module _ (n k : ℕ) (t : List ℕ) where
  -- where all are fine, so is each, and back
  pub fine-at : (c i : ℕ) → i < c → run_tested c n k t ≡ AllFine → run_judge n k (record_at t i) ≡ Fine
  fine-at zero i h e = absurd (omega arith)
  fine-at (suc c) i h e = go (fine-at c i) (fine-both (run_tested c n k t) (run_judge n k (record_at t c)) c e) (eqb i c) refl
    where
      go : (i < c → run_tested c n k t ≡ AllFine → run_judge n k (record_at t i) ≡ Fine)
          → (run_tested c n k t ≡ AllFine) × (run_judge n k (record_at t c) ≡ Fine)
          → (b : Bool) → eqb i c ≡ b → run_judge n k (record_at t i) ≡ Fine
      go ih last true q = rw (eqb-true i c q) last.1
      go ih last false q = ih (omega (arith, eqb-false i c q)) last.0

  pub all-fine : (c : ℕ) → ((i : ℕ) → i < c → run_judge n k (record_at t i) ≡ Fine) → run_tested c n k t ≡ AllFine
  all-fine zero h = refl
  all-fine (suc c) h = rw (all-fine c (λ i g. h i (omega arith)), h c (omega arith))

  -- the first refusal stays, however many records follow
  pub first-stays : (c j : ℕ) (why : Refusal) (i : ℕ) → run_tested c n k t ≡ First why i → run_tested (j + c) n k t ≡ First why i
  first-stays c zero why i e = rw (zero-add c) e
  first-stays c (suc j) why i e = rw (suc-add j c, first-stays c j why i e)

-- ---- the tests, in their order

module _ (most : ℕ) (s t : List ℕ) (c k : ℕ) where
  pub checked-long : most < length s → run_checked most s t c k ≡ First TooLong 0
  unfolding run_checked
  checked-long h = rw (lt-leb (length s) most h)

  pub checked-count : length s ≤ most → room t < c → run_checked most s t c k ≡ First BadRecord (room t)
  unfolding run_checked
  checked-count g h = rw (le-leb (length s) most g, lt-leb c (room t) h)

  pub checked-tests : length s ≤ most → c ≤ room t → run_checked most s t c k ≡ run_tested c (length s) k t
  unfolding run_checked
  checked-tests g h = rw (le-leb (length s) most g, le-leb c (room t) h)

-- what is known where no test refused
pub record Ready (s t : List ℕ) (c k : ℕ) : Type 0 where
  pub count : c ≤ room t
  pub fine : run_tested c (length s) k t ≡ AllFine

-- then each record is good and of the kind
pub ready_at : {s t : List ℕ} {c k : ℕ} → Ready s t c k → (i : ℕ) → i < c → Sound (length s) (record_at t i) × ((record_at t i).kind ≡ k)
ready_at {s} {t} {c} {k} y i h =
    let f = fine-run (length s) k (record_at t i) (fine-at (length s) k t c i h y.fine) in
    (good-sound (length s) (record_at t i) f.0, f.1)

pub checked-fine : (most : ℕ) (s t : List ℕ) (c k : ℕ) → run_checked most s t c k ≡ AllFine → (length s ≤ most) × Ready s t c k
checked-fine most s t c k e = go (leb (length s) most) refl (leb c (room t)) refl
  where
    go : (a : Bool) → leb (length s) most ≡ a → (b : Bool) → leb c (room t) ≡ b → (length s ≤ most) × Ready s t c k
    go true a true b =
        let g = leb-true (length s) most a in
        let h = leb-true c (room t) b in
        (g, record { count = h; fine = sym (checked-tests most s t c k g h) ∙ e })
    go true a false b = no-fine (sym (checked-count most s t c k (leb-true (length s) most a) (leb-false c (room t) b)) ∙ e)
    go false a b q = no-fine (sym (checked-long most s t c k (leb-false (length s) most a)) ∙ e)

-- ---- the plan

module _ (most : ℕ) (s t : List ℕ) (c k : ℕ) where
  pub plan-first : (why : Refusal) (i : ℕ) → run_checked most s t c k ≡ First why i → run_plan most s t c k ≡ Refuses why i
  unfolding run_plan
  plan-first why i e = rw e

  pub plan-over : run_checked most s t c k ≡ AllFine → most < length (run_bytes s t c) → run_plan most s t c k ≡ Refuses TooLong 0
  unfolding run_plan
  plan-over e h = rw (e, lt-leb (length (run_bytes s t c)) most h)

  pub plan-fine : run_checked most s t c k ≡ AllFine → length (run_bytes s t c) ≤ most → run_plan most s t c k ≡ Writes (run_bytes s t c)
  unfolding run_plan
  plan-fine e h = rw (e, le-leb (length (run_bytes s t c)) most h)

  pub plan-writes : (bs : List ℕ) → run_plan most s t c k ≡ Writes bs → Ready s t c k × (bs ≡ run_bytes s t c)
  unfolding run_plan
  plan-writes bs e =
      let p = passed-writes most (run_bytes s t c) (run_checked most s t c k) bs e in
      ((checked-fine most s t c k p.0).1, p.1)

-- ---- what the count of the bytes tells of the plan: left is what they leave of the budget

module _ (most : ℕ) (s t : List ℕ) (c k : ℕ) {x : Weighed} (e : x ≡ spent (most + 1) (length (run_bytes s t c)) (run_checked most s t c k)) where
  told : (v : Verdict) → run_checked most s t c k ≡ v → x ≡ spent (most + 1) (length (run_bytes s t c)) v
  told v q = e ∙ ap (spent (most + 1) (length (run_bytes s t c))) q

  pub spent-first : (why : Refusal) (i : ℕ) → x ≡ weighed.First why i → run_plan most s t c k ≡ Refuses why i
  spent-first why i f = go (run_checked most s t c k) refl
    where
      go : (v : Verdict) → run_checked most s t c k ≡ v → run_plan most s t c k ≡ Refuses why i
      go AllFine q = let h = sym f ∙ told AllFine q in let z : ◌≡◌ {A = ℕ} 0 1 = cc in absurd (omega arith)
      go (First r j) q =
          let h = sym f ∙ told (First r j) q in
          let a : r ≡ why = cc in
          let b : j ≡ i = cc in
          plan-first most s t c k r j q ∙ rw (a, b)

  pub spent-left : (left : ℕ) → x ≡ weighed.Left left → (run_checked most s t c k ≡ AllFine) × (left ≡ most + 1 - length (run_bytes s t c))
  spent-left left f = go (run_checked most s t c k) refl
    where
      go : (v : Verdict) → run_checked most s t c k ≡ v → (run_checked most s t c k ≡ AllFine) × (left ≡ most + 1 - length (run_bytes s t c))
      go AllFine q = let h = sym f ∙ told AllFine q in (q, cc)
      go (First r j) q = let h = sym f ∙ told (First r j) q in let z : ◌≡◌ {A = ℕ} 0 1 = cc in absurd (omega arith)

  pub spent-over : (left : ℕ) → x ≡ weighed.Left left → left ≡ 0 → run_plan most s t c k ≡ Refuses TooLong 0
  spent-over left f z = let p = spent-left left f in plan-over most s t c k p.0 (omega (arith, p.1))

  pub spent-fine : (left : ℕ) → x ≡ weighed.Left left → (left ≡ 0 → ⊥)
      → (run_plan most s t c k ≡ Writes (run_bytes s t c)) × (most + 1 - left ≡ length (run_bytes s t c))
  spent-fine left f z =
      let p = spent-left left f in
      let h : length (run_bytes s t c) ≤ most = omega (arith, p.1, z) in
      (plan-fine most s t c k p.0 h, omega (arith, p.1))

-- ---- the bytes of records behind one another

module _ (s t : List ℕ) where
  one_value : (i : ℕ) → stretch s t i 1 ≡ value_bytes s (record_at t i)
  unfolding value_bytes
  one_value i = append-nil (value_bytes s (record_at t i))

  -- THE LAW OF STRETCHES: a stretch of records is a stretch and the one behind it
  stretch-split : (k m i : ℕ) → stretch s t i (k + m) ≡ stretch s t i k ++ stretch s t (k + i) m
  unfolding value_bytes
  stretch-split zero m i = rw (zero-add m, zero-add i)
  stretch-split (suc k) m i =
      let e : k + suc i ≡ suc k + i = omega arith in
      rw (suc-add k m, stretch-split k m (suc i), e)
      (sym (append_assoc (value_bytes s (record_at t i)) (stretch s t (suc i) k) (stretch s t (suc k + i) m)))

  first-value : (i k : ℕ) → stretch s t i (suc k) ≡ value_bytes s (record_at t i) ++ stretch s t (suc i) k
  unfolding value_bytes
  first-value i k = refl

  pub bytes-last : (i : ℕ) → run_bytes s t (suc i) ≡ run_bytes s t i ++ value_bytes s (record_at t i)
  bytes-last i =
      let a : i + 1 ≡ suc i = omega arith in
      let b : i + 0 ≡ i = omega arith in
      rw (a, b) at (stretch-split i 1 0) ∙ ap (λ (l : List ℕ). run_bytes s t i ++ l) (one_value i)

  -- how long the run is, cut before and behind record i
  pub bytes_cut : (c i : ℕ) → i < c
      → length (run_bytes s t c) ≡ length (run_bytes s t i) + (length (value_bytes s (record_at t i)) + length (stretch s t (suc i) (c - suc i)))
  bytes_cut c i h =
      let a : i + suc (c - suc i) ≡ c = omega arith in
      let b : i + 0 ≡ i = omega arith in
      let e : run_bytes s t c ≡ run_bytes s t i ++ stretch s t i (suc (c - suc i)) = rw (a, b) at (stretch-split i (suc (c - suc i)) 0) in
      ap length (e ∙ ap (λ (l : List ℕ). run_bytes s t i ++ l) (first-value i (c - suc i)))
      ∙ length-append (run_bytes s t i) (value_bytes s (record_at t i) ++ stretch s t (suc i) (c - suc i))
      ∙ ap (λ (n : ℕ). length (run_bytes s t i) + n) (length-append (value_bytes s (record_at t i)) (stretch s t (suc i) (c - suc i)))
