-- Value by value: what is left to do, for each of the three loops over a run.
use Prim.Native.Nat.{ℕ, zero, suc, ◌+◌, ◌-◌, ◌*◌, ◌≤◌, ◌<◌}
use mathlib.Core.Path.{◌≡◌, refl, ap, ◌∙◌, sym}
use mathlib.Core.Bool.{Bool, true, false}
use mathlib.Core.Logic.{◌⊎◌, inl, inr}
use mathlib.Core.List.{List, [], ◌∷◌, ◌++◌}
use native.Mathlib.Omega.{arith}
use borrow.Author.Tests.{lt-ltb, le-ltb, ltb-true, ltb-false}
use lib.Dec.{ltb}
use lib.ListN.{length, drop}
use lib.Seq.{sets, sets-eq, length-sets}
use Rattle.wire.specs.Choose.{choose}
use Rattle.wire.specs.Limits.{record_words}
use Rattle.wire.specs.Reading.{value_at}
use Rattle.wire.proofs.ReadingLaws.{value-moves}
use Rattle.wire.specs.Table.{words}
use Rattle.wire.specs.declared.Refusal.{Refusal}
use Rattle.wire.specs.declared.Refusal.TheVariants.{Truncated}
use Rattle.wire.specs.declared.WireType.{WireType}
use Rattle.wire.specs.declared.Value.{Value}
use Rattle.wire.specs.declared.Record.{Record}
use Rattle.wire.specs.declared.ValueFound.TheVariants as value_found
use Rattle.entry_answer.specs.declared.RunCount.{RunCount}
use Rattle.entry_answer.specs.declared.RunCount.TheVariants as count
use Rattle.entry_answer.specs.declared.RunValue.{RunValue}
use Rattle.entry_answer.specs.declared.RunValue.TheVariants as value
use Rattle.run_read.specs.Packed.{Packed, Values, Refused, leading, packed_from, packed, packed-end, packed-value, packed-refused, leading-values}
use Rattle.run_read.specs.Packed.{run_record, run_records, length-run-records}
use Rattle.run_read.specs.Runs.{count_of, numbered, numbered_of, into_table, Ready}
use Rattle.run_read.specs.Short.{Reads}
use Rattle.run_read.specs.Widths.{width, wide_type, wide_value, wide-got, wide_short}

-- ---- the run from a place on

pub record Rest (s : List ℕ) (w : WireType) (p : ℕ) (x : Packed) : Type 0 where
  pub k : ℕ
  pub inside : p ≤ length s
  pub fuel : length s - p ≤ k
  pub same : x ≡ packed_from k s w p

pub rest-start : (s : List ℕ) (w : WireType) → Rest s w 0 (packed s w)
unfolding packed
rest-start s w = record { k = length s; inside = omega arith; fuel = omega arith; same = refl }

module _ {s : List ℕ} {w : WireType} {p : ℕ} {x : Packed} (r : Rest s w p x) where
  pub rest_end : length s ≤ p → x ≡ Values []
  rest_end h = r.same ∙ packed-end s w p r.k h

  unwound : p < length s → x ≡ packed_from (suc (r.k - 1)) s w p
  unwound h = let e : r.k ≡ suc (r.k - 1) = omega (arith, r.fuel) in r.same ∙ ap (λ (j : ℕ). packed_from j s w p) e

  pub rest-refused : (q : Refusal) → p < length s → value_at s (length s) p w ≡ value_found.Refused q → x ≡ Refused q
  rest-refused q h g = unwound h ∙ packed-refused s w p (r.k - 1) q h g

  pub rest-on : (v : Value) (q : ℕ) → p < length s → value_at s (length s) p w ≡ value_found.Got v q → (y : Packed) × (x ≡ leading v y) × Rest s w q y
  rest-on v q h g =
      let m = value-moves s (length s) p w v q g in (
        packed_from (r.k - 1) s w q,
        unwound h ∙ packed-value s w p (r.k - 1) v q h g,
        record { k = r.k - 1; inside = m.1; fuel = omega (arith, r.fuel, m.0); same = refl },
      )

-- ---- counting

abbrev count_from : ℕ → Packed → RunCount
count_from n (Values vs) = count.Values (n + length vs)
count_from n (Refused r) = count.Refused r

count-more : (n : ℕ) (v : Value) (y : Packed) → count_from n (leading v y) ≡ count_from (n + 1) y
count-more n v (Values vs) = let z : n + suc (length vs) ≡ n + 1 + length vs = omega arith in ap count.Values z
count-more n v (Refused r) = refl

count_none : (x : Packed) → count_of x ≡ count_from 0 x
count_none (Values vs) = let z : length vs ≡ 0 + length vs = omega arith in ap count.Values z
count_none (Refused r) = refl

pub record Counting (s : List ℕ) (w : WireType) (p n : ℕ) : Type 0 where
  pub x : Packed
  pub rest : Rest s w p x
  pub few : n ≤ p
  pub same : count_of (packed s w) ≡ count_from n x

pub count-start : (s : List ℕ) (w : WireType) → Counting s w 0 0
count-start s w = record { x = packed s w; rest = rest-start s w; few = omega arith; same = count_none (packed s w) }

module _ {s : List ℕ} {w : WireType} {p n : ℕ} (c : Counting s w p n) where
  pub count-end : length s ≤ p → count.Values n ≡ count_of (packed s w)
  count-end h = let z : n + 0 ≡ n = omega arith in sym (c.same ∙ ap (count_from n) (rest_end c.rest h) ∙ ap count.Values z)

  pub count-stops : (r : Refusal) → p < length s → value_at s (length s) p w ≡ value_found.Refused r → count.Refused r ≡ count_of (packed s w)
  count-stops r h g = sym (c.same ∙ ap (count_from n) (rest-refused c.rest r h g))

  pub count-on : (v : Value) (q : ℕ) → p < length s → value_at s (length s) p w ≡ value_found.Got v q → Counting s w q (n + 1)
  count-on v q h g =
      let y = rest-on c.rest v q h g in
      let m = value-moves s (length s) p w v q g in
      record {
        x = y.0;
        rest = y.2;
        few = omega (arith, c.few, m.0);
        same = c.same ∙ ap (count_from n) y.1 ∙ count-more n v y.0;
      }

-- values that were passed
pub count-many : {s : List ℕ} {w : WireType} {p n : ℕ} → Counting s w p n → (m q : ℕ) → Reads s w p m q → Counting s w q (n + m)
count-many {n = n} c zero q h = let z : n + 0 ≡ n = omega arith in rw (h, z) c
count-many {n = n} c (suc m) r h =
    let z : n + suc m ≡ n + m + 1 = omega arith in
    rw z (count-on (count-many c m h.0 h.2) h.1 r h.3 h.4)

-- ---- looking for a number: found is the value there, if it was passed

abbrev look_from : ℕ → ℕ → Value → Packed → RunValue
look_from number n found (Values vs) = choose (ltb number n) (value.Found found) (numbered vs (number - n))
look_from number n found (Refused r) = value.Refused r

look_none : (number : ℕ) (found : Value) (x : Packed) → numbered_of x number ≡ look_from number 0 found x
look_none number found (Values vs) = let z : number - 0 ≡ number = omega arith in rw (le-ltb number 0 (omega arith), z)
look_none number found (Refused r) = refl

-- the value there, or one that is not there
abbrev Noted : ℕ → ℕ → Value → Value → Value → Type 0
Noted number n v old new = ((n ≡ number) × (new ≡ v)) ⊎ ((n ≡ number → ⊥) × (new ≡ old))

look-more : (number n : ℕ) (v old new : Value) (y : Packed) → Noted number n v old new → look_from number n old (leading v y) ≡ look_from number (n + 1) new y
look-more number n v old new (Refused r) h = refl
look-more number n v old new (Values vs) (inl h) =
    let z : number - n ≡ 0 = omega (arith, h.0) in
    rw (le-ltb number n (omega (arith, h.0)), z, lt-ltb number (n + 1) (omega (arith, h.0)), h.1)
look-more number n v old new (Values vs) (inr h) = go (ltb number n) refl
  where
    go : (b : Bool) → ltb number n ≡ b → look_from number n old (leading v (Values vs)) ≡ look_from number (n + 1) new (Values vs)
    go true b = rw (b, lt-ltb number (n + 1) (omega (arith, ltb-true number n b)), h.1)
    go false b =
        let l = ltb-false number n b in
        let z : number - n ≡ suc (number - (n + 1)) = omega (arith, l, h.0) in
        rw (b, z, le-ltb number (n + 1) (omega (arith, l, h.0)))

pub record Looking (s : List ℕ) (w : WireType) (number p n : ℕ) (found : Value) : Type 0 where
  pub x : Packed
  pub rest : Rest s w p x
  pub few : n ≤ p
  pub same : numbered_of (packed s w) number ≡ look_from number n found x

pub look-start : (s : List ℕ) (w : WireType) (number : ℕ) (found : Value) → Looking s w number 0 0 found
look-start s w number found = record { x = packed s w; rest = rest-start s w; few = omega arith; same = look_none number found (packed s w) }

module _ {s : List ℕ} {w : WireType} {number p n : ℕ} {found : Value} (c : Looking s w number p n found) where
  pub look-found : length s ≤ p → number < n → value.Found found ≡ numbered_of (packed s w) number
  look-found h g = sym (c.same ∙ ap (look_from number n found) (rest_end c.rest h) ∙ rw (lt-ltb number n g))

  pub look-absent : length s ≤ p → n ≤ number → value.Absent ≡ numbered_of (packed s w) number
  look-absent h g = sym (c.same ∙ ap (look_from number n found) (rest_end c.rest h) ∙ rw (le-ltb number n g))

  pub look-stops : (r : Refusal) → p < length s → value_at s (length s) p w ≡ value_found.Refused r → value.Refused r ≡ numbered_of (packed s w) number
  look-stops r h g = sym (c.same ∙ ap (look_from number n found) (rest-refused c.rest r h g))

  pub look-on : (v : Value) (q : ℕ) (new : Value) → p < length s → value_at s (length s) p w ≡ value_found.Got v q → Noted number n v found new
      → Looking s w number q (n + 1) new
  look-on v q new h g o =
      let y = rest-on c.rest v q h g in
      let m = value-moves s (length s) p w v q g in
      record {
        x = y.0;
        rest = y.2;
        few = omega (arith, c.few, m.0);
        same = c.same ∙ ap (look_from number n found) y.1 ∙ look-more number n v found new y.0 o;
      }

-- ---- filling: what is still to be written, on top of what is there, is the goal

pub record Filling (s : List ℕ) (w : WireType) (goal : List ℕ) (p i : ℕ) (t : List ℕ) : Type 0 where
  pub values : List Value
  pub rest : Rest s w p (Values values)
  pub room : i + record_words * length values ≤ length t
  pub same : sets t i (run_records values) ≡ goal

pub fill_start : (s : List ℕ) (w : WireType) (t : List ℕ) → Ready s w t → Filling s w (into_table t (packed s w)) 0 0 t
fill_start s w t f =
    let vs = f.values in
    let n = length-run-records vs in
    let z : 0 + length (run_records vs) ≡ record_words * length vs = omega (arith, n) in
    record {
      values = vs;
      rest = rw f.read at (rest-start s w);
      room = omega (arith, f.room);
      same =
          sets-eq (run_records vs) t 0 (omega (arith, f.room, n)) ∙ ap (λ (j : ℕ). run_records vs ++ drop j t) z
          ∙ sym (ap (into_table t) f.read);
    }

module _ {s : List ℕ} {w : WireType} {goal : List ℕ} {p i : ℕ} {t : List ℕ} (f : Filling s w goal p i t) where
  pub fill_end : length s ≤ p → t ≡ goal
  fill_end h = let z : f.values ≡ [] = (let y = rest_end f.rest h in cc) in rw z at f.same

  pub fill-refused : {A : Type 0} (r : Refusal) → p < length s → value_at s (length s) p w ≡ value_found.Refused r → A
  fill-refused r h g = let y = rest-refused f.rest r h g in let z : ◌≡◌ {A = ℕ} 0 1 = cc in absurd (omega arith)

  module _ (v : Value) (q : ℕ) (h : p < length s) (g : value_at s (length s) p w ≡ value_found.Got v q) where
    ahead : (us : List Value) × Rest s w q (Values us) × (f.values ≡ v ∷ us)
    ahead =
        let y = rest-on f.rest v q h g in
        let l = leading-values v y.0 f.values (sym y.1) in
        (l.0, rw l.1 at y.2, l.2)

    pub fill-room : i + record_words ≤ length t
    fill-room = omega (arith, f.room, ap length ahead.2)

    pub fill_on : (r : Record) (u : List ℕ) → r ≡ run_record v → u ≡ sets t i (words r) → Filling s w goal q (i + record_words) u × (length u ≡ length t)
    fill_on r u a b =
        let e : u ≡ sets t i (words (run_record v)) = b ∙ ap (λ (o : Record). sets t i (words o)) a in
        let n = ap length e ∙ length-sets t i (words (run_record v)) in
        let d : i + record_words ≡ suc (suc (suc (suc (suc i)))) = omega arith in (
          record {
            values = ahead.0;
            rest = ahead.1;
            room = omega (arith, f.room, ap length ahead.2, n);
            same = rw (e, d) (ap (λ (l : List Value). sets t i (run_records l)) (sym ahead.2) ∙ f.same);
          },
          n,
        )

-- fixed values, none of which is cut short
module _ {s : List ℕ} (b : Bool) {goal : List ℕ} {p i : ℕ} {t : List ℕ} (f : Filling s (wide_type b) goal p i t) (h : p < length s) where
  pub wide-inside : p + width b ≤ length s
  wide-inside = go (ltb (length s) (p + width b)) refl
    where
      go : (c : Bool) → ltb (length s) (p + width b) ≡ c → p + width b ≤ length s
      go true c = fill-refused f Truncated h (wide_short b s p (ltb-true (length s) (p + width b) c))
      go false c = ltb-false (length s) (p + width b) c

  pub wide_room : i + record_words ≤ length t
  wide_room = fill-room f (wide_value b s p) (p + width b) h (wide-got b s p wide-inside)

  pub wide-on : (r : Record) (u : List ℕ) → r ≡ run_record (wide_value b s p) → u ≡ sets t i (words r)
      → Filling s (wide_type b) goal (p + width b) (i + record_words) u × (length u ≡ length t)
  wide-on = fill_on f (wide_value b s p) (p + width b) h (wide-got b s p wide-inside)
