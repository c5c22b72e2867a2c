-- A run that was read is in the table as records that are good, of its type and of tag 0, and they are written as its bytes.
use Rattle.std.specs.Prelude.{ℕ, zero, suc, ◌*◌, ◌≤◌, ◌<◌, ◌≡◌, refl, List, [], ◌∷◌, ◌++◌, length, drop}
use Rattle.std.proofs.Common.{ap, ◌∙◌, sym, arith, length-append, length-drop}
use Rattle.wire.specs.Limits.{record_words, no_key}
use Rattle.wire.specs.Numbers.{kind_of}
use Rattle.wire.specs.VarintLaws.{Bytes}
use Rattle.wire.specs.Written.{content_kind}
use Rattle.wire.specs.Places.{shown}
use Rattle.wire.specs.Reading.{value_at}
use Rattle.wire.proofs.ReadingLaws.{value-took}
use Rattle.wire.specs.Table.{kind_word, room, record_at, key-none, head-key, record-behind, record-first}
use Rattle.wire.specs.declared.WireType.{WireType}
use Rattle.wire.specs.declared.Value.{Value}
use Rattle.wire.specs.declared.Value.TheVariants as val
use Rattle.wire.specs.declared.ValueFound.TheVariants as value_found
use Rattle.write_record.specs.Records.{Fine, AllFine}
use Rattle.write_record.specs.RecordLaws.{good-head}
use Rattle.write_message.specs.Writing.{Writes}
use Rattle.write_message.specs.ReadBack.{value-fits}
use Rattle.run_read.specs.Packed.{Values, packed_from, packed, Stands, none, some, stands, run_written, contents, run_record, run_records, run_filled}
use Rattle.run_read.specs.Packed.{length-run-records, values-records}
use Rattle.run_read.specs.Theorem.{accepted}
use Rattle.run_write.specs.RunPlan.{run_judge, run_checked, run_bytes, run_plan}
use Rattle.run_write.specs.RunLaws.{judge-run, all-fine, checked-tests, plan-fine}

-- ---- the record of a value that was read

kind-shown : (s : List ℕ) (v : Value) → content_kind (shown s v) ≡ kind_word v
kind-shown s (val.Varint n) = refl
kind-shown s (val.LengthDelimited p n) = refl
kind-shown s (val.ThirtyTwoBit n) = refl
kind-shown s (val.SixtyFourBit n) = refl

value-kept : (s : List ℕ) → Bytes s → (p : ℕ) (w : WireType) (v : Value) (q : ℕ) → value_at s (length s) p w ≡ value_found.Got v q
    → run_judge (length s) (kind_of w) (run_record v) ≡ Fine
value-kept s b p w v q h =
    judge-run (length s) (kind_of w) (run_record v)
    (good-head (length s) (run_record v) (head-key (length s) 0 no_key (omega arith) ∙ key-none (length s) no_key refl) ∙ value-fits s b (length s) p w v q h)
    (sym (kind-shown s v) ∙ (value-took s b (length s) p w v q h).2)
    refl

-- ---- so are those of a run

abbrev Kept : ℕ → ℕ → List Value → Type 0
Kept n k [] = Unit {0}
Kept n k (v ∷ vs) = (run_judge n k (run_record v) ≡ Fine) × Kept n k vs

run-kept : (k : ℕ) (s : List ℕ) (w : WireType) (p : ℕ) (vs : List Value) → Bytes s → packed_from k s w p ≡ Values vs → Kept (length s) (kind_of w) vs
unfolding packed_from
run-kept zero s w p vs b r = let e : vs ≡ [] = (let z : Values [] ≡ Values vs = r in cc) in rw e tt
run-kept (suc k) s w p vs b r = go (λ q us. run-kept k s w q us b) (stands k s w p vs r)
  where
    go : ((q : ℕ) (us : List Value) → packed_from k s w q ≡ Values us → Kept (length s) (kind_of w) us) → Stands k s w p vs → Kept (length s) (kind_of w) vs
    go ih (none x y) = rw y tt
    go ih (some v q us x y z e) = rw e (value-kept s b p w v q y, ih q us z)

kept_fine : (n k : ℕ) (vs : List Value) (u : List ℕ) → Kept n k vs → (i : ℕ) → i < length vs → run_judge n k (record_at (run_records vs ++ u) i) ≡ Fine
kept_fine n k [] u h i g = absurd (omega arith)
kept_fine n k (v ∷ vs) u h zero g = ap (run_judge n k) (record-first (run_record v) (run_records vs ++ u)) ∙ h.0
kept_fine n k (v ∷ vs) u h (suc i) g =
    ap (run_judge n k) (record-behind (run_record v) (run_records vs ++ u) i) ∙ kept_fine n k vs u h.1 i (omega arith)

-- ---- THE TABLE OF A RUN THAT WAS READ IS WRITTEN AS THE RUN

module _ (m t : List ℕ) (w : WireType) (vs : List Value) (b : Bytes m) (h : packed m w ≡ Values vs) (fits : length vs ≤ room t) where
  unfilled : length (run_filled t vs) ≡ length t
  unfilled =
      length-append (run_records vs) (drop (record_words * length vs) t)
      ∙ omega (arith, length-run-records vs, length-drop (record_words * length vs) t)

  kept : Kept (length m) (kind_of w) vs
  unfolding packed
  kept = run-kept (length m) m w 0 vs b h

  pub run-table-fine : (most : ℕ) → length m ≤ most → run_checked most m (run_filled t vs) (length vs) (kind_of w) ≡ AllFine
  run-table-fine most g =
      checked-tests most m (run_filled t vs) (length vs) (kind_of w) g (omega (arith, unfilled))
      ∙ all-fine (length m) (kind_of w) (run_filled t vs) (length vs) (kept_fine (length m) (kind_of w) vs (drop (record_words * length vs) t) kept)

  pub run-table-bytes : run_bytes m (run_filled t vs) (length vs) ≡ m
  run-table-bytes =
      ap (λ (us : List Value). run_written (contents m us)) (values-records vs (drop (record_words * length vs) t)) ∙ (accepted w m b vs h).0.bytes

  pub run-table-plan : (most : ℕ) → length m ≤ most → run_plan most m (run_filled t vs) (length vs) (kind_of w) ≡ Writes m
  run-table-plan most g =
      let x = run-table-bytes in
      plan-fine most m (run_filled t vs) (length vs) (kind_of w) (run-table-fine most g) (rw x g) ∙ ap Writes x
