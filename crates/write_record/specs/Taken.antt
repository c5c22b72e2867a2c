-- A record taken from a table.
use Rattle.std.specs.Prelude.{◌≡◌, ℕ, ◌+◌, ◌*◌, ◌<◌, ◌≤◌, List, length, take, nat_lt, slice_index, slice_index_or}
use Rattle.std.proofs.Common.{◌∙◌, arith, lt-ltb, le-ltb, length-take-le, get_or-take}
use Rattle.wire.specs.Choose.{choose}
use Rattle.wire.specs.Limits.{record_words}
use Rattle.wire.specs.Table.{room, record_at}
use Rattle.wire.specs.declared.Record.{Record}

-- all words 0
abbrev pub no_record : Record
no_record = record { tag = 0; kind = 0; value = 0; length = 0; key = 0 }

-- Rules T1 and T2: record i, where the table has room for it
unfoldable pub record_in : List ℕ → ℕ → Record
record_in t i = choose (nat_lt i (room t)) (record_at t i) no_record

module _ (t : List ℕ) (i : ℕ) where
  pub record-there : i < room t → record_in t i ≡ record_at t i
  unfolding record_in
  record-there h = rw (lt-ltb i (room t) h)

  pub record-none : room t ≤ i → record_in t i ≡ no_record
  unfolding record_in
  record-none h = rw (le-ltb i (room t) h)

-- the front of a table, of k words, has the n records that the table has there
pub record-front : (t : List ℕ) (k n i : ℕ) → k ≡ record_words * n → i < n → n ≤ room t → record_in (take k t) i ≡ record_at t i
unfolding record_at
record-front t k n i e h g =
    let l : length (take k t) ≡ k = length-take-le k t (omega arith) in
    let same : (j : ℕ) → j < k → slice_index (take k t) j ≡ slice_index_or t j 0 = λ j b. get_or-take k t j 0 b in
    record-there (take k t) i (omega (arith, l))
    ∙ rw (
      same (record_words * i) (omega arith),
      same (record_words * i + 1) (omega arith),
      same (record_words * i + 2) (omega arith),
      same (record_words * i + 3) (omega arith),
      same (record_words * i + 4) (omega arith),
    )
