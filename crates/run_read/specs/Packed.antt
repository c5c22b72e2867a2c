-- A packed run: values of one wire type behind one another, without keys, as a whole slice has them (rules U1 and U2).
use Prim.Native.Nat.{ℕ, zero, suc, ◌*◌, ◌≤◌, ◌<◌}
use Rattle.std.specs.Prelude.{◌≡◌, Bool, true, false, List, [], ◌∷◌, ◌++◌, ltb, length, drop}
use Rattle.std.proofs.Math.Path.{refl}
use Rattle.std.proofs.Common.{ap, ◌∙◌, sym, arith, lt-ltb, le-ltb, ltb-true, ltb-false}
use Rattle.wire.specs.Choose.{choose}
use Rattle.wire.specs.Limits.{record_words, no_key}
use Rattle.wire.specs.Numbers.{kind_of}
use Rattle.wire.specs.Written.{Content, content_kind, written_content, GoodContent}
use Rattle.wire.specs.Places.{shown}
use Rattle.wire.specs.Reading.{value_at}
use Rattle.wire.specs.Table.{kind_word, value_word, length_word, words, record_at, value_of, value-words, record-behind, record-first}
use Rattle.wire.specs.declared.Refusal.{Refusal}
use Rattle.wire.specs.declared.WireType.{WireType}
use Rattle.wire.specs.declared.Value.{Value}
use Rattle.wire.specs.declared.Record.{Record}
use Rattle.wire.specs.declared.ValueFound.{ValueFound}
use Rattle.wire.specs.declared.ValueFound.TheVariants as value_found

-- ---- read

pub data Packed : Type 0 where
  Values : List Value → Packed
  Refused : Refusal → Packed

abbrev pub leading : Value → Packed → Packed
leading v (Values vs) = Values (v ∷ vs)
leading v (Refused r) = Refused r

-- Rule U2: what refuses a value refuses the run
abbrev pub followed : ValueFound → (ℕ → Packed) → Packed
followed (value_found.Got v q) go = leading v (go q)
followed (value_found.Refused r) go = Refused r

-- from place p on, in at most k values
unfoldable pub packed_from : ℕ → List ℕ → WireType → ℕ → Packed
packed_from zero s w p = Values []
packed_from (suc k) s w p = choose (ltb p (length s)) (followed (value_at s (length s) p w) (λ q. packed_from k s w q)) (Values [])

-- Rule U1: the run of a slice; every value takes a byte at least
unfoldable pub packed : List ℕ → WireType → Packed
packed s w = packed_from (length s) s w 0

-- ---- its cases

module _ (s : List ℕ) (w : WireType) (p : ℕ) where
  pub packed-end : (k : ℕ) → length s ≤ p → packed_from k s w p ≡ Values []
  unfolding packed_from
  packed-end zero h = refl
  packed-end (suc k) h = rw (le-ltb p (length s) h)

  pub packed-value : (k : ℕ) (v : Value) (q : ℕ) → p < length s → value_at s (length s) p w ≡ value_found.Got v q
      → packed_from (suc k) s w p ≡ leading v (packed_from k s w q)
  unfolding packed_from
  packed-value k v q h g = rw (lt-ltb p (length s) h, g)

  pub packed-refused : (k : ℕ) (r : Refusal) → p < length s → value_at s (length s) p w ≡ value_found.Refused r → packed_from (suc k) s w p ≡ Refused r
  unfolding packed_from
  packed-refused k r h g = rw (lt-ltb p (length s) h, g)

pub refused-values : {A : Type 0} {r : Refusal} {vs : List Value} → Refused r ≡ Values vs → A
refused-values e = let z : ◌≡◌ {A = ℕ} 0 1 = cc in absurd (omega arith)

pub leading-values : (v : Value) (x : Packed) (vs : List Value) → leading v x ≡ Values vs → (us : List Value) × (x ≡ Values us) × (vs ≡ v ∷ us)
leading-values v (Values us) vs e = (us, refl, cc)
leading-values v (Refused r) vs e = refused-values e

-- what stands from place p on, where a run is accepted: nothing at the end, or a value and a run behind it
pub data Stands (k : ℕ) (s : List ℕ) (w : WireType) (p : ℕ) (vs : List Value) : Type 0 where
  none : length s ≤ p → vs ≡ [] → Stands k s w p vs
  some : (v : Value) (q : ℕ) (us : List Value) → p < length s → value_at s (length s) p w ≡ value_found.Got v q → packed_from k s w q ≡ Values us → vs ≡ v ∷ us
      → Stands k s w p vs

pub stands : (k : ℕ) (s : List ℕ) (w : WireType) (p : ℕ) (vs : List Value) → packed_from (suc k) s w p ≡ Values vs → Stands k s w p vs
stands k s w p vs h = go (ltb p (length s)) refl (value_at s (length s) p w) refl
  where
    go : (b : Bool) → ltb p (length s) ≡ b → (o : ValueFound) → value_at s (length s) p w ≡ o → Stands k s w p vs
    go true b (value_found.Got v q) o =
        let x = leading-values v (packed_from k s w q) vs (sym (packed-value s w p k v q (ltb-true p (length s) b) o) ∙ h) in
        some v q x.0 (ltb-true p (length s) b) o x.1 x.2
    go true b (value_found.Refused r) o = refused-values (sym (packed-refused s w p k r (ltb-true p (length s) b) o) ∙ h)
    go false b o q =
        let l = ltb-false p (length s) b in
        let e : Values [] ≡ Values vs = sym (packed-end s w p (suc k) l) ∙ h in
        none l cc

-- ---- written

-- Rule U1: one behind the other
abbrev pub run_written : List Content → List ℕ
run_written [] = []
run_written (c ∷ cs) = written_content c ++ run_written cs

-- values in their ranges, all of one wire type
abbrev pub GoodRun : WireType → List Content → Type 0
GoodRun w [] = Unit {0}
GoodRun w (c ∷ cs) = (GoodContent c × (content_kind c ≡ kind_of w)) × GoodRun w cs

-- what the values of a slice hold
abbrev pub contents : List ℕ → List Value → List Content
contents s [] = []
contents s (v ∷ vs) = shown s v ∷ contents s vs

pub length-contents : (s : List ℕ) (vs : List Value) → length (contents s vs) ≡ length vs
length-contents s [] = refl
length-contents s (v ∷ vs) = ap suc (length-contents s vs)

-- ---- in a table (rule U4): the records of a run have tag 0 and no key

abbrev pub run_record : Value → Record
run_record v = record { tag = 0; kind = kind_word v; value = value_word v; length = length_word v; key = no_key }

abbrev pub run_records : List Value → List ℕ
run_records [] = []
run_records (v ∷ vs) = words (run_record v) ++ run_records vs

-- the records first, and the words after them as they were
abbrev pub run_filled : List ℕ → List Value → List ℕ
run_filled t vs = run_records vs ++ drop (record_words * length vs) t

pub length-run-records : (vs : List Value) → length (run_records vs) ≡ record_words * length vs
length-run-records [] = refl
length-run-records (v ∷ vs) = omega (arith, length-run-records vs)

-- the value of a record, and those of k records from record i on
abbrev pub value_in : Record → Value
value_in r = value_of r.kind r.value r.length

abbrev pub values_from : ℕ → List ℕ → ℕ → List Value
values_from zero t i = []
values_from (suc k) t i = value_in (record_at t i) ∷ values_from k t (suc i)

values-behind : (k : ℕ) (r : Record) (t : List ℕ) (i : ℕ) → values_from k (words r ++ t) (suc i) ≡ values_from k t i
values-behind zero r t i = refl
values-behind (suc k) r t i = rw (record-behind r t i, values-behind k r t (suc i))

-- THE RECORDS OF A RUN ARE THE VALUES THAT THEY WERE
pub values-records : (vs : List Value) (t : List ℕ) → values_from (length vs) (run_records vs ++ t) 0 ≡ vs
values-records [] t = refl
values-records (v ∷ vs) t =
    ap (λ (r : Record). value_in r ∷ values_from (length vs) (words (run_record v) ++ (run_records vs ++ t)) 1) (record-first (run_record v) (run_records vs ++ t))
    ∙ rw (value-words v, values-behind (length vs) (run_record v) (run_records vs ++ t) 0, values-records vs t)
