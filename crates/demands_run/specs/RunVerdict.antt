-- The first demand for runs, over every outcome: which number is told, exactly, and that a refusal leaves table and buffer as they were.
use Rattle.std.specs.Prelude.{ℕ, zero, suc, ◌*◌, ◌≡◌, Bool, List, [], ◌∷◌, ◌++◌, ltb, eqb, length}
use Rattle.std.proofs.Math.Path.{refl, sym}
use Rattle.std.proofs.Common.{ap, ◌∙◌, subst, arith, leb-true}
use Rattle.std.proofs.Math.Bool.{true, false}
use Rattle.std.proofs.Math.Dec.{leb}
use Rattle.wire.specs.Limits.{message_limit, record_words}
use Rattle.wire.specs.Numbers.{number_of, kind_of}
use Rattle.wire.specs.Reading.{value_at}
use Rattle.wire.specs.Table.{room, record_at, good}
use Rattle.wire.specs.declared.Refusal.TheVariants.{NoRoom}
use Rattle.wire.specs.declared.WireType.{WireType}
use Rattle.wire.specs.declared.Value.{Value}
use Rattle.wire.specs.declared.ValueFound.{ValueFound}
use Rattle.wire.specs.declared.ValueFound.TheVariants as value_found
use Rattle.entry_answer.specs.Gate.{gated, through}
use Rattle.entry_answer.specs.declared.Gated.{Gated}
use Rattle.entry_answer.specs.declared.Gated.TheVariants.{Open, Shut}
use Rattle.entry_answer.specs.Told as told
use Rattle.entry_answer.specs.Told.{run_count_told, run_value_told, written_told}
use Rattle.entry_answer.specs.declared.RunCount.TheVariants as count
use Rattle.entry_answer.specs.declared.RunValue.TheVariants as value
use Rattle.write_record.specs.Records.{Verdict, AllFine, First, and_then, Judged, Fine, Bad}
use Rattle.write_message.specs.Writing.{passed, Writing, into, front}
use Rattle.run_read.specs.Packed.{Packed, Values, Refused, leading, followed, packed_from, packed, run_records, length-run-records}
use Rattle.run_read.specs.Runs.{count_of, run_count, numbered, numbered_of, run_value, Outcome, outcome, landed, read_run}
use Rattle.run_write.specs.RunPlan.{run_judge, run_tested, run_checked, run_bytes, run_plan, write_run}
use Rattle.c_words.specs.declared.Typed.{Typed}
use Rattle.c_words.specs.declared.Typed.TheVariants.{Is, Unknown}
use Rattle.c_words.specs.Words.{Lent, as_number, as_written, run_told, writing_told, typed_of, typed_as, bad_number, bad_pick, bad_wrote}
use Rattle.demands_order.specs.Calls.{Every}
use Rattle.demands_order.specs.Order.{when, first_of, or_else, refused-first, Numbered}
use Rattle.demands_order.specs.Rules.{value_rules, typed_order}
use Rattle.demands_order.specs.RulesLaws.{above, behind, value_number, verdict_number, value-told}
use Rattle.demands_order.specs.Entries.{order-r}
use Rattle.demands_order.specs.Verdicts.{by_order}
use Rattle.demands_order.specs.Entries.{typed-told}
use Rattle.demands_order.specs.Refusals.{Framed, InBuffer, kept, put_front, front-buffer}
use Rattle.demands_index.specs.IndexRules.{behind_value}
use Rattle.demands_run.specs.RunRules.{run_rules, whole_rules, run_count_order, values_of, run_table, read_run_order, of_record, of_records, out_rules, write_run_order}
use Rattle.run_read.proofs.run_count.Kinds as run-count
use Rattle.run_read.proofs.run_count.Reads as run-count-reads
use Rattle.run_read.proofs.run_value.Kinds as run-value
use Rattle.run_read.proofs.run_value.Reads as run-value-reads
use Rattle.run_read.proofs.read_run.Kinds as read-run
use Rattle.run_read.proofs.read_run.Reads as read-run-reads
use Rattle.run_write.proofs.write_run.Kinds as write-run
use Rattle.run_write.proofs.write_run.Reads as write-run-reads
use Rattle.capgauze_c.proofs.capgauze_run_count.Kinds as c-run-count
use Rattle.capgauze_c.proofs.capgauze_run_count.Reads as c-run-count-reads
use Rattle.capgauze_c.proofs.capgauze_run_value.Kinds as c-run-value
use Rattle.capgauze_c.proofs.capgauze_run_value.Reads as c-run-value-reads
use Rattle.capgauze_c.proofs.capgauze_read_run.Kinds as c-read-run
use Rattle.capgauze_c.proofs.capgauze_read_run.Reads as c-read-run-reads
use Rattle.capgauze_c.proofs.capgauze_write_run.Kinds as c-write-run
use Rattle.capgauze_c.proofs.capgauze_write_run.Reads as c-write-run-reads

-- ---- a run

abbrev pub packed_number : Packed → ℕ
packed_number (Values vs) = 0
packed_number (Refused r) = number_of r

number-leading : (v : Value) (x : Packed) → packed_number (leading v x) ≡ packed_number x
number-leading v (Values vs) = refl
number-leading v (Refused r) = refl

run-told : (k : ℕ) (s : List ℕ) (w : WireType) (p : ℕ) → packed_number (packed_from k s w p) ≡ first_of (run_rules k s w p)
unfolding packed_from
run-told zero s w p = refl
run-told (suc k) s w p = go (ltb p (length s)) refl (λ q. run-told k s w q)
  where
    value_of : (x : ValueFound) → ((q : ℕ) → packed_number (packed_from k s w q) ≡ first_of (run_rules k s w q))
        → packed_number (followed x (λ q. packed_from k s w q)) ≡ or_else (value_number x) (first_of (behind_value x (λ q. run_rules k s w q)))
    value_of (value_found.Got v q) ih = number-leading v (packed_from k s w q) ∙ ih q
    value_of (value_found.Refused r) ih = sym (refused-first r _)

    go : (b : Bool) → ltb p (length s) ≡ b → ((q : ℕ) → packed_number (packed_from k s w q) ≡ first_of (run_rules k s w q))
        → packed_number (packed_from (suc k) s w p) ≡ first_of (run_rules (suc k) s w p)
    go false b ih = rw b
    go true b ih =
        let x = value_at s (length s) p w in
        rw b
        (value_of x ih
        ∙ behind (value_rules s (length s) p w) (behind_value x (λ q. run_rules k s w q)) (value-told s (length s) p w) refl)

pub packed-told : (s : List ℕ) (w : WireType) → packed_number (packed s w) ≡ first_of (whole_rules s w)
unfolding packed
packed-told s w = run-told (length s) s w 0

-- ---- counted, and the value at a number

count-number : (x : Packed) → (run_count_told (count_of x)).number ≡ packed_number x
count-number (Values vs) = refl
count-number (Refused r) = refl

pub run-count-order : (s : List ℕ) (w : WireType) → (run_count_told (run_count s w)).number ≡ first_of (run_count_order s w)
unfolding run_count
run-count-order s w =
    order-r (λ y. (run_count_told y).number) count.Refused (λ r. refl) s 0 (length s) (count_of (packed s w)) (whole_rules s w)
    (count-number (packed s w) ∙ packed-told s w)

found_number : (vs : List Value) (n : ℕ) → (run_value_told (numbered vs n)).number ≡ 0
found_number [] n = refl
found_number (v ∷ vs) zero = refl
found_number (v ∷ vs) (suc n) = found_number vs n

value-number : (x : Packed) (n : ℕ) → (run_value_told (numbered_of x n)).number ≡ packed_number x
value-number (Values vs) n = found_number vs n
value-number (Refused r) n = refl

pub run-value-order : (s : List ℕ) (w : WireType) (n : ℕ) → (run_value_told (run_value s w n)).number ≡ first_of (run_count_order s w)
unfolding run_value
run-value-order s w n =
    order-r (λ y. (run_value_told y).number) value.Refused (λ r. refl) s 0 (length s) (numbered_of (packed s w) n) (whole_rules s w)
    (value-number (packed s w) n ∙ packed-told s w)

-- ---- read into a table

abbrev outcome_number : Outcome → ℕ
outcome_number o = (run_count_told o.answer).number

landed-told : (s : List ℕ) (w : WireType) (t : List ℕ) → outcome_number (landed t (packed s w)) ≡ first_of (whole_rules s w ++ run_table s w t)
landed-told s w t = go (packed s w) ∙ behind (whole_rules s w) (run_table s w t) (packed-told s w) refl
  where
    go : (x : Packed) → outcome_number (landed t x) ≡ or_else (packed_number x) (first_of (when (ltb (room t) (length (values_of x))) NoRoom ∷ []))
    go (Refused r) = sym (refused-first r _)
    go (Values vs) = fits (leb (length vs) (room t)) refl
      where
        fits : (b : Bool) → leb (length vs) (room t) ≡ b
            → outcome_number (landed t (Values vs)) ≡ first_of (when (ltb (room t) (length vs)) NoRoom ∷ [])
        fits true b = rw (above (length vs) (room t), b)
        fits false b = rw (above (length vs) (room t), b)

pub read-run-order : (s : List ℕ) (w : WireType) (t : List ℕ) → outcome_number (read_run s w t) ≡ first_of (read_run_order s w t)
unfolding read_run
read-run-order s w t =
    order-r outcome_number (λ r. outcome (count.Refused r) t) (λ r. refl) s 0 (length s) (landed t (packed s w)) (whole_rules s w ++ run_table s w t)
    (landed-told s w t)

-- ---- written

judge-told : (n k : ℕ) (t : List ℕ) (i : ℕ) → verdict_number (and_then AllFine (run_judge n k (record_at t i)) i) ≡ first_of (of_record n k t i)
unfolding run_judge
judge-told n k t i = go (good n (record_at t i)) refl (eqb (record_at t i).kind k) refl (eqb (record_at t i).tag 0) refl
  where
    go : (a : Bool) → good n (record_at t i) ≡ a → (b : Bool) → eqb (record_at t i).kind k ≡ b → (c : Bool) → eqb (record_at t i).tag 0 ≡ c
        → verdict_number (and_then AllFine (run_judge n k (record_at t i)) i) ≡ first_of (of_record n k t i)
    go true a true b true c = rw (a, b, c)
    go true a true b false c = rw (a, b, c)
    go true a false b c x = rw (a, b)
    go false a b x c y = rw a

then-number : (v : Verdict) (j : Judged) (i : ℕ) → verdict_number (and_then v j i) ≡ or_else (verdict_number v) (verdict_number (and_then AllFine j i))
then-number AllFine j i = refl
then-number (First r m) Fine i = sym (refused-first r _)
then-number (First r m) (Bad q) i = sym (refused-first r _)

records-told : (c n k : ℕ) (t : List ℕ) → verdict_number (run_tested c n k t) ≡ first_of (of_records c n k t)
records-told zero n k t = refl
records-told (suc i) n k t = then-number (run_tested i n k t) _ i ∙ behind (of_records i n k t) (of_record n k t i) (records-told i n k t) (judge-told n k t i)

-- the tests, and what comes behind them
tests-told : (s t : List ℕ) (c k : ℕ) (b : List ℕ)
    → or_else (verdict_number (run_checked message_limit s t c k)) (first_of (out_rules s t c b)) ≡ first_of (write_run_order s t c k b)
unfolding run_checked
tests-told s t c k b = go (leb (length s) message_limit) refl (leb c (room t)) refl
  where
    go : (x : Bool) → leb (length s) message_limit ≡ x → (y : Bool) → leb c (room t) ≡ y
        → or_else (verdict_number (run_checked message_limit s t c k)) (first_of (out_rules s t c b)) ≡ first_of (write_run_order s t c k b)
    go true x true y =
        rw (above (length s) message_limit, above c (room t), x, y)
        (behind (of_records c (length s) k t) (out_rules s t c b) (records-told c (length s) k t) refl)
    go true x false y = rw (above (length s) message_limit, above c (room t), x, y)
    go false x y z = rw (above (length s) message_limit, x)

module _ (s t : List ℕ) (c k : ℕ) (b : List ℕ) (done : List ℕ → Writing) (sure : (bs : List ℕ) → (written_told (done bs).answer).number ≡ 0) where
  -- what is to be written
  abbrev bytes : List ℕ
  bytes = run_bytes s t c

  written-told : (written_told (into b (run_plan message_limit s t c k) done).answer).number ≡ first_of (write_run_order s t c k b)
  unfolding run_plan
  written-told = go (run_checked message_limit s t c k) ∙ tests-told s t c k b
    where
      go : (v : Verdict) → (written_told (into b (passed message_limit bytes v) done).answer).number ≡ or_else (verdict_number v) (first_of (out_rules s t c b))
      go (First r i) = sym (refused-first r _)
      go AllFine = short (leb (length bytes) message_limit) refl (leb (length bytes) (length b)) refl
        where
          short : (x : Bool) → leb (length bytes) message_limit ≡ x → (y : Bool) → leb (length bytes) (length b) ≡ y
              → (written_told (into b (passed message_limit bytes AllFine) done).answer).number ≡ first_of (out_rules s t c b)
          short true x true y = rw (above (length bytes) message_limit, above (length bytes) (length b), x, y) (sure bytes)
          short true x false y = rw (above (length bytes) message_limit, above (length bytes) (length b), x, y)
          short false x y h = rw (above (length bytes) message_limit, x)

pub write-run-order : (s t : List ℕ) (c : ℕ) (w : WireType) (b : List ℕ)
    → (written_told (write_run s t c w b).answer).number ≡ first_of (write_run_order s t c (kind_of w) b)
unfolding write_run front
write-run-order s t c w b = written-told s t c (kind_of w) b _ (λ bs. refl)

-- ---- WHICH NUMBER IS TOLD

pub run-count-number : Numbered 1 run-count.ps run-count.r run-count-reads.Post (λ κs x. (run_count_told x).number)
    (λ κs a. run_count_order a.0.now a.1.0)
run-count-number κs a x s p = by_order (λ y. (run_count_told y).number) p (run-count-order a.0.now a.1.0)

pub run-value-number : Numbered 1 run-value.ps run-value.r run-value-reads.Post (λ κs x. (run_value_told x).number)
    (λ κs a. run_count_order a.0.now a.1.0)
run-value-number κs a x s p = by_order (λ y. (run_value_told y).number) p (run-value-order a.0.now a.1.0 a.1.1.0)

pub read-run-number : Numbered 2 read-run.ps read-run.r read-run-reads.Post (λ κs x. (run_count_told x).number)
    (λ κs a. read_run_order a.0.now a.1.0 a.1.1.0.now)
read-run-number κs a x s p = by_order outcome_number p (read-run-order a.0.now a.1.0 a.1.1.0.now)

pub write-run-number : Numbered 3 write-run.ps write-run.r write-run-reads.Post (λ κs x. (written_told x).number)
    (λ κs a. write_run_order a.0.now a.1.0.now a.1.1.0 (kind_of a.1.1.1.0) a.1.1.1.1.0.now)
write-run-number κs a x s p =
    by_order (λ (o : Writing). (written_told o.answer).number) p
    (write-run-order a.0.now a.1.0.now a.1.1.0 a.1.1.1.0 a.1.1.1.1.0.now)

pub c-run-count-number : Numbered 1 c-run-count.ps c-run-count.r c-run-count-reads.Post (λ κs x. x.number)
    (λ κs a. typed_order a.1.0 (run_count_order a.0.now))
unfolding typed_as
c-run-count-number κs a x s p =
    let m = a.0.now in
    by_order (λ w. w.number) p
    (typed-told (λ (y : told.Number). y.number) (λ t. typed_as bad_number t (λ w. run_count_told (run_count m w))) (run_count_order m) refl (run-count-order m)
    a.1.0)

pub c-run-value-number : Numbered 1 c-run-value.ps c-run-value.r c-run-value-reads.Post (λ κs x. x.number)
    (λ κs a. typed_order a.1.0 (run_count_order a.0.now))
unfolding typed_as
c-run-value-number κs a x s p =
    let m = a.0.now in
    let n = a.1.1.0 in
    by_order (λ w. w.number) p
    (typed-told (λ (y : told.Pick). y.number) (λ t. typed_as bad_pick t (λ w. run_value_told (run_value m w n))) (run_count_order m) refl
    (λ w. run-value-order m w n) a.1.0)

pub c-read-run-number : Numbered 2 c-read-run.ps c-read-run.r c-read-run-reads.Post (λ κs x. x.number)
    (λ κs a. typed_order a.1.0 (λ w. read_run_order a.0.now w a.1.1.0.now))
unfolding typed_as
c-read-run-number κs a x s p =
    let m = a.0.now in
    let t = a.1.1.0.now in
    by_order (λ (o : Lent told.Number). o.told.number) p
    (typed-told (λ (o : Lent told.Number). o.told.number) (λ k. typed_as (record { told = bad_number; lent = t }) k (λ w. run_told (read_run m w t)))
    (λ w. read_run_order m w t) refl (λ w. read-run-order m w t) a.1.0)

pub c-write-run-number : Numbered 3 c-write-run.ps c-write-run.r c-write-run-reads.Post (λ κs x. x.number)
    (λ κs a. typed_order a.1.1.1.0 (λ w. write_run_order a.0.now a.1.0.now a.1.1.0 (kind_of w) a.1.1.1.1.0.now))
unfolding typed_as
c-write-run-number κs a x s p =
    let m = a.0.now in
    let t = a.1.0.now in
    let c = a.1.1.0 in
    let b = a.1.1.1.1.0.now in
    by_order (λ (o : Lent told.Wrote). o.told.number) p
    (typed-told (λ (o : Lent told.Wrote). o.told.number) (λ k. typed_as (record { told = bad_wrote; lent = b }) k (λ w. writing_told (write_run m t c w b)))
    (λ w. write_run_order m t c (kind_of w) b) refl (λ w. write-run-order m t c w b) a.1.1.1.0)

-- ---- A REFUSAL LEAVES TABLE AND BUFFER; what is accepted leaves all behind the records, or behind the run

abbrev pub InRun : List ℕ → Lent told.Number → Type 0
InRun t o = Framed o.told.number 0 (record_words * o.told.value) t o.lent

landed-in : (t : List ℕ) (x : Packed) → InRun t (run_told (landed t x))
landed-in t (Refused r) = kept _ _ _ t
landed-in t (Values vs) = go (leb (length vs) (room t)) refl
  where
    go : (b : Bool) → leb (length vs) (room t) ≡ b → InRun t (run_told (landed t (Values vs)))
    go true b =
        let h = leb-true (length vs) (room t) b in
        rw b (put_front t (run_records vs) (record_words * length vs) (length-run-records vs) (omega (arith, h)))
    go false b = rw b (kept _ _ _ t)

read-in : (s : List ℕ) (w : WireType) (t : List ℕ) → InRun t (run_told (read_run s w t))
unfolding read_run
read-in s w t = go (gated (length s) 0 (length s))
  where
    go : (g : Gated) → InRun t (run_told (through g (λ r. outcome (count.Refused r) t) (landed t (packed s w))))
    go Open = landed-in t (packed s w)
    go (Shut r) = kept _ _ _ t

written_in : (s t : List ℕ) (c : ℕ) (w : WireType) (b : List ℕ) → InBuffer b (writing_told (write_run s t c w b))
unfolding write_run
written_in s t c w b = front-buffer b (run_plan message_limit s t c (kind_of w))

pub read-run-frame : Every 2 read-run.ps read-run.r read-run-reads.Post
    (λ κs a x s. InRun a.1.1.0.now (record { told = run_count_told x; lent = s.1.1.0.now }))
read-run-frame κs a x s p = subst (InRun a.1.1.0.now) (sym (ap run_told p)) (read-in a.0.now a.1.0 a.1.1.0.now)

pub write-run-frame : Every 3 write-run.ps write-run.r write-run-reads.Post
    (λ κs a x s. InBuffer a.1.1.1.1.0.now (record { told = written_told x; lent = s.1.1.1.1.0.now }))
write-run-frame κs a x s p =
    subst (InBuffer a.1.1.1.1.0.now) (sym (ap writing_told p))
    (written_in a.0.now a.1.0.now a.1.1.0 a.1.1.1.0 a.1.1.1.1.0.now)

-- a wire type as a number
typed-in : (t : List ℕ) (f : WireType → Lent told.Number) → ((w : WireType) → InRun t (f w)) → (k : Typed)
    → InRun t (typed_as (record { told = bad_number; lent = t }) k f)
unfolding typed_as
typed-in t f h (Is w) = h w
typed-in t f h Unknown = kept _ _ _ t

typed-buffer : (b : List ℕ) (f : WireType → Lent told.Wrote) → ((w : WireType) → InBuffer b (f w)) → (k : Typed)
    → InBuffer b (typed_as (record { told = bad_wrote; lent = b }) k f)
unfolding typed_as
typed-buffer b f h (Is w) = h w
typed-buffer b f h Unknown = kept _ _ _ b

pub c-read-run-frame : Every 2 c-read-run.ps c-read-run.r c-read-run-reads.Post
    (λ κs a x s. InRun a.1.1.0.now (record { told = as_number x; lent = s.1.1.0.now }))
c-read-run-frame κs a x s p =
    let t = a.1.1.0.now in
    subst (InRun t) (sym p) (typed-in t (λ w. run_told (read_run a.0.now w t)) (λ w. read-in a.0.now w t) (typed_of a.1.0))

pub c-write-run-frame : Every 3 c-write-run.ps c-write-run.r c-write-run-reads.Post
    (λ κs a x s. InBuffer a.1.1.1.1.0.now (record { told = as_written x; lent = s.1.1.1.1.0.now }))
c-write-run-frame κs a x s p =
    let m = a.0.now in
    let t = a.1.0.now in
    let b = a.1.1.1.1.0.now in
    subst (InBuffer b) (sym p)
    (typed-buffer b (λ w. writing_told (write_run m t a.1.1.0 w b)) (λ w. written_in m t a.1.1.0 w b) (typed_of a.1.1.1.0))
