-- A message tag by tag: the fields of each follow one another.
use Rattle.std.specs.Prelude.{ℕ, zero, suc, ◌+◌, ◌≡◌, List, [], ◌∷◌, eqb, length}
use borrow.Author.Tests.{eq-eqb, ne_eqb}
use Rattle.wire.specs.Choose.{choose}
use Rattle.wire.specs.Reading.{step_at}
use Rattle.wire.specs.declared.Refusal.{Refusal}
use Rattle.wire.specs.declared.Field.{Field}
use Rattle.wire.specs.declared.Stepped.{Stepped}
use Rattle.wire.specs.declared.Stepped.TheVariants as stepped
use Rattle.index_make.specs.declared.Run.{Run}
use Rattle.index_make.specs.declared.Group.{Group}
use Rattle.index_make.specs.declared.Group.TheVariants as group
use Rattle.index.specs.Index.{Entry, entry}
use Rattle.index_make.specs.Made.{Made, Entries, Refused}

-- every step takes a byte at least
abbrev pub steps_in : List ℕ → ℕ
steps_in s = suc (length s)

-- one more field of the tag, or the run is over
abbrev pub run_on : Stepped → ℕ → Run → (ℕ → Run) → Run
run_on (stepped.Field f q) t over go = choose (eqb f.tag t) (go q) over
run_on stepped.End t over go = over
run_on (stepped.Refused r) t over go = over

-- behind c fields of a tag, in at most k steps
unfoldable pub run_from : ℕ → List ℕ → ℕ → ℕ → ℕ → Run
run_from zero s t c p = record { count = c; next = p }
run_from (suc k) s t c p = run_on (step_at s (length s) p t) t (record { count = c; next = p }) (λ q. run_from k s t (c + 1) q)

abbrev pub grouped : ℕ → Run → Group
grouped t r = group.Of t r.count r.next

abbrev pub group_of : List ℕ → Stepped → Group
group_of s (stepped.Field f q) = grouped f.tag (run_from (steps_in s) s f.tag 1 q)
group_of s stepped.End = group.End
group_of s (stepped.Refused r) = group.Refused r

unfoldable pub group_at : List ℕ → ℕ → ℕ → Group
group_at s p last = group_of s (step_at s (length s) p last)

-- ---- the whole message by groups

abbrev pub before : Entry → Made → Made
before e (Entries es) = Entries (e ∷ es)
before e (Refused r) = Refused r

abbrev pub made_on : ℕ → Group → (ℕ → ℕ → Made) → Made
made_on p (group.Of t c q) go = before (entry t p c) (go q t)
made_on p group.End go = Entries []
made_on p (group.Refused r) go = Refused r

unfoldable pub made_from : ℕ → List ℕ → ℕ → ℕ → Made
made_from zero s p last = Entries []
made_from (suc k) s p last = made_on p (group_at s p last) (λ q t. made_from k s q t)

-- ---- case by case

module _ (s : List ℕ) (t c p : ℕ) (k : ℕ) where
  pub run_end : step_at s (length s) p t ≡ stepped.End → run_from (suc k) s t c p ≡ record { count = c; next = p }
  unfolding run_from
  run_end h = rw h

  pub run-refused : (r : Refusal) → step_at s (length s) p t ≡ stepped.Refused r → run_from (suc k) s t c p ≡ record { count = c; next = p }
  unfolding run_from
  run-refused r h = rw h

  module _ (f : Field) (q : ℕ) (h : step_at s (length s) p t ≡ stepped.Field f q) where
    pub run-other : (f.tag ≡ t → ⊥) → run_from (suc k) s t c p ≡ record { count = c; next = p }
    unfolding run_from
    run-other n = rw (h, ne_eqb f.tag t n)

    pub run-same : f.tag ≡ t → run_from (suc k) s t c p ≡ run_from k s t (c + 1) q
    unfolding run_from
    run-same n = rw (h, eq-eqb f.tag t n)

module _ (s : List ℕ) (p last : ℕ) where
  pub group-end : step_at s (length s) p last ≡ stepped.End → group_at s p last ≡ group.End
  unfolding group_at
  group-end h = rw h

  pub group-refused : (r : Refusal) → step_at s (length s) p last ≡ stepped.Refused r → group_at s p last ≡ group.Refused r
  unfolding group_at
  group-refused r h = rw h

  pub group-field : (f : Field) (q : ℕ) → step_at s (length s) p last ≡ stepped.Field f q
      → group_at s p last ≡ grouped f.tag (run_from (steps_in s) s f.tag 1 q)
  unfolding group_at
  group-field f q h = rw h

module _ (k : ℕ) (s : List ℕ) (p last : ℕ) where
  pub made-end : group_at s p last ≡ group.End → made_from (suc k) s p last ≡ Entries []
  unfolding made_from
  made-end h = rw h

  pub made-refused : (r : Refusal) → group_at s p last ≡ group.Refused r → made_from (suc k) s p last ≡ Refused r
  unfolding made_from
  made-refused r h = rw h

  pub made-of : (t c q : ℕ) → group_at s p last ≡ group.Of t c q → made_from (suc k) s p last ≡ before (entry t p c) (made_from k s q t)
  unfolding made_from
  made-of t c q h = rw h
