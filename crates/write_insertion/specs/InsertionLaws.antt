-- The cases of insertion.
use Rattle.std.specs.Prelude.{ℕ, zero, suc, ◌+◌, ◌-◌, ◌≤◌, ◌<◌, ◌≡◌, refl, Bool, true, false, List, leb, length}
use Rattle.std.proofs.Common.{arith}
use borrow.Author.Tests.{le-leb, lt-leb, eq-eqb, ne_eqb}
use Rattle.wire.specs.Table.{room, record_at, good}
use Rattle.write_record.specs.Records.{AllFine, First, checked}
use Rattle.write_insertion.specs.Insertion.{spot, Aim, Puts, Refuses, aim, inserted, inserts}
use Rattle.wire.specs.declared.Record.{Record}
use Rattle.wire.specs.declared.Refusal.{Refusal}
use Rattle.wire.specs.declared.Refusal.TheVariants.{NoRoom, BadRecord}
use Rattle.wire.specs.declared.Inserted.TheVariants.{Count, Refused}

-- ---- the spot

pub spot-behind : (i : ℕ) (t : List ℕ) (tag : ℕ) → 0 < i → (record_at t (i - 1)).tag ≤ tag → spot i t tag ≡ i
spot-behind zero t tag g h = absurd (omega arith)
spot-behind (suc i) t tag g h =
    let e : suc i - 1 ≡ i = omega arith in
    rw (le-leb (record_at t i).tag tag (rw e at h))

pub spot-before : (i : ℕ) (t : List ℕ) (tag : ℕ) → 0 < i → tag < (record_at t (i - 1)).tag → spot i t tag ≡ spot (i - 1) t tag
spot-before zero t tag g h = absurd (omega arith)
spot-before (suc i) t tag g h =
    let e : suc i - 1 ≡ i = omega arith in
    rw (e, lt-leb (record_at t i).tag tag (rw e at h))

pub spot-inside : (c : ℕ) (t : List ℕ) (tag : ℕ) → spot c t tag ≤ c
spot-inside zero t tag = omega arith
spot-inside (suc c) t tag = go (spot-inside c t tag) (leb (record_at t c).tag tag) refl
  where
    go : spot c t tag ≤ c → (b : Bool) → leb (record_at t c).tag tag ≡ b → spot (suc c) t tag ≤ suc c
    go ih true e = rw e (omega arith)
    go ih false e = rw e (omega arith)

-- ---- the order of the tests

module _ (most : ℕ) (s t : List ℕ) (c : ℕ) (r : Record) where
  pub aim-first : (why : Refusal) (i : ℕ) → checked most s t c ≡ First why i → aim most s t c r ≡ Refuses why i
  unfolding aim
  aim-first why i e = rw e

  pub aim-bad : checked most s t c ≡ AllFine → good (length s) r ≡ false → aim most s t c r ≡ Refuses BadRecord c
  unfolding aim
  aim-bad e g = rw (e, g)

  pub aim-full : checked most s t c ≡ AllFine → good (length s) r ≡ true → c ≡ room t → aim most s t c r ≡ Refuses NoRoom 0
  unfolding aim
  aim-full e g q = rw (e, g, eq-eqb c (room t) q)

  pub aim-puts : checked most s t c ≡ AllFine → good (length s) r ≡ true → (c ≡ room t → ⊥) → aim most s t c r ≡ Puts (spot c t r.tag)
  unfolding aim
  aim-puts e g q = rw (e, g, ne_eqb c (room t) q)

-- ---- what is left

module _ (t : List ℕ) (c : ℕ) (r : Record) {a : Aim} where
  pub inserts-refuses : (why : Refusal) (i : ℕ) → a ≡ Refuses why i → record { answer = Refused why i; table = t } ≡ inserts t c r a
  unfolding inserts
  inserts-refuses why i e = rw e

  pub inserts-puts : (p : ℕ) {u : List ℕ} → a ≡ Puts p → u ≡ inserted t c r p → record { answer = Count (c + 1); table = u } ≡ inserts t c r a
  unfolding inserts
  inserts-puts p e d = rw (e, d)
