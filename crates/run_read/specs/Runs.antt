-- What is answered of a run, and left in a table (rules U3 and U4).
use Rattle.std.specs.Prelude.{ℕ, zero, suc, ◌*◌, ◌≤◌, ◌<◌, ◌≡◌, refl, List, [], ◌∷◌, leb, length}
use Rattle.std.proofs.Math.Path.{ap}
use Rattle.std.proofs.Common.{◌∙◌, arith, le-leb}
use Rattle.std.proofs.lemmas.Bool.{lt-leb}
use Rattle.wire.specs.Choose.{choose}
use Rattle.wire.specs.Limits.{record_words}
use Rattle.wire.specs.Table.{room}
use Rattle.wire.specs.declared.Refusal.{Refusal}
use Rattle.wire.specs.declared.Refusal.TheVariants.{NoRoom}
use Rattle.wire.specs.declared.WireType.{WireType}
use Rattle.wire.specs.declared.Value.{Value}
use Rattle.entry_answer.specs.Gate.{gated, through, through-open, through-shut}
use Rattle.entry_answer.specs.declared.Gated.TheVariants.{Open, Shut}
use Rattle.entry_answer.specs.declared.RunCount.{RunCount}
use Rattle.entry_answer.specs.declared.RunCount.TheVariants as count
use Rattle.entry_answer.specs.declared.RunValue.{RunValue}
use Rattle.entry_answer.specs.declared.RunValue.TheVariants as value
use Rattle.run_read.specs.Packed.{Packed, Values, Refused, packed, run_filled}

-- ---- the number of values

abbrev pub count_of : Packed → RunCount
count_of (Values vs) = count.Values (length vs)
count_of (Refused r) = count.Refused r

-- Rule U3: a slice above the limit comes first
unfoldable pub run_count : List ℕ → WireType → RunCount
run_count s w = through (gated (length s) 0 (length s)) count.Refused (count_of (packed s w))

-- what the number says of the run
pub count-values : (x : Packed) (n : ℕ) → count_of x ≡ count.Values n → (vs : List Value) × (x ≡ Values vs) × (length vs ≡ n)
count-values (Values vs) n e = (vs, refl, cc)
count-values (Refused r) n e = let z : ◌≡◌ {A = ℕ} 0 1 = cc in absurd (omega arith)

pub count-refused : (x : Packed) (r : Refusal) → count_of x ≡ count.Refused r → x ≡ Refused r
count-refused (Values vs) r e = let z : ◌≡◌ {A = ℕ} 0 1 = cc in absurd (omega arith)
count-refused (Refused q) r e = cc

-- ---- the value at a number, counted from 0

abbrev pub numbered : List Value → ℕ → RunValue
numbered [] n = value.Absent
numbered (v ∷ vs) zero = value.Found v
numbered (v ∷ vs) (suc n) = numbered vs n

-- Rule U3: the whole run is read
abbrev pub numbered_of : Packed → ℕ → RunValue
numbered_of (Values vs) n = numbered vs n
numbered_of (Refused r) n = value.Refused r

unfoldable pub run_value : List ℕ → WireType → ℕ → RunValue
run_value s w n = through (gated (length s) 0 (length s)) value.Refused (numbered_of (packed s w) n)

-- ---- all of them, in a table

pub record Outcome : Type 0 where
  pub answer : RunCount
  pub table : List ℕ

abbrev pub outcome : RunCount → List ℕ → Outcome
outcome r t = record { answer = r; table = t }

-- Rule U4: with room the records stand first; without it NoRoom, and the table as it was; a refusal of the run leaves it too
abbrev pub landed : List ℕ → Packed → Outcome
landed t (Values vs) = choose (leb (length vs) (room t)) (outcome (count.Values (length vs)) (run_filled t vs)) (outcome (count.Refused NoRoom) t)
landed t (Refused r) = outcome (count.Refused r) t

unfoldable pub read_run : List ℕ → WireType → List ℕ → Outcome
read_run s w t = through (gated (length s) 0 (length s)) (λ r. outcome (count.Refused r) t) (landed t (packed s w))

abbrev pub into_table : List ℕ → Packed → List ℕ
into_table t (Values vs) = run_filled t vs
into_table t (Refused r) = t

-- the run is good, and the table has room for it
pub record Ready (s : List ℕ) (w : WireType) (t : List ℕ) : Type 0 where
  pub values : List Value
  pub read : packed s w ≡ Values values
  pub room : record_words * length values ≤ length t

-- ---- their cases

module _ (s : List ℕ) (w : WireType) where
  pub count-shut : (r : Refusal) → gated (length s) 0 (length s) ≡ Shut r → run_count s w ≡ count.Refused r
  unfolding run_count
  count-shut r h = through-shut _ _ h

  pub count-open : gated (length s) 0 (length s) ≡ Open → run_count s w ≡ count_of (packed s w)
  unfolding run_count
  count-open h = through-open _ _ h

  pub value-shut : (n : ℕ) (r : Refusal) → gated (length s) 0 (length s) ≡ Shut r → run_value s w n ≡ value.Refused r
  unfolding run_value
  value-shut n r h = through-shut _ _ h

  pub value-open : (n : ℕ) → gated (length s) 0 (length s) ≡ Open → run_value s w n ≡ numbered_of (packed s w) n
  unfolding run_value
  value-open n h = through-open _ _ h

  module _ (t : List ℕ) where
    pub read-shut : (r : Refusal) → gated (length s) 0 (length s) ≡ Shut r → read_run s w t ≡ outcome (count.Refused r) t
    unfolding read_run
    read-shut r h = through-shut _ _ h

    module _ (h : gated (length s) 0 (length s) ≡ Open) where
      pub read-refused : (r : Refusal) → packed s w ≡ Refused r → read_run s w t ≡ outcome (count.Refused r) t
      unfolding read_run
      read-refused r e = through-open _ _ h ∙ ap (landed t) e

      module _ (vs : List Value) (e : packed s w ≡ Values vs) where
        pub read-no-room : room t < length vs → read_run s w t ≡ outcome (count.Refused NoRoom) t
        unfolding read_run
        read-no-room g = through-open _ _ h ∙ ap (landed t) e ∙ rw (lt-leb (length vs) (room t) g)

        pub read_fits : length vs ≤ room t → read_run s w t ≡ outcome (count.Values (length vs)) (run_filled t vs)
        unfolding read_run
        read_fits g = through-open _ _ h ∙ ap (landed t) e ∙ rw (le-leb (length vs) (room t) g)
