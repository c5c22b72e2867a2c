-- Bytes up to a place that must stand in the slice and before the end (rules C5 and C6): the test as code makes it, and what it says of a value.
use Rattle.std.specs.Prelude.{ℕ, ◌≤◌, ◌<◌, ◌≡◌, refl, Bool, true, false, List, leb, length}
use Rattle.std.proofs.Common.{arith, le-leb, leb-true}
use Rattle.std.proofs.lemmas.Bool.{lt-leb}
use Rattle.wire.specs.Choose.{choose}
use Rattle.wire.specs.Reading.{within}
use Rattle.wire.specs.declared.Refusal.TheVariants.{Truncated}
use Rattle.wire.specs.declared.Value.{Value}
use Rattle.wire.specs.declared.ValueFound.TheVariants.{Got, Refused}

-- a slice of n bytes has those up to place q, and the end is not before it
unfoldable pub inside : ℕ → ℕ → ℕ → Bool
inside n e q = choose (leb q n) (leb q e) false

-- ---- its cases

pub outside : (n e q : ℕ) → n < q → inside n e q ≡ false
unfolding inside
outside n e q h = rw (lt-leb q n h)

pub to_end : (n e q : ℕ) → q ≤ n → inside n e q ≡ leb q e
unfolding inside
to_end n e q h = rw (le-leb q n h)

-- ---- what it says of a value whose bytes go up to q

pub inside-true : (n e q : ℕ) → inside n e q ≡ true → (q ≤ n) × (q ≤ e)
unfolding inside
inside-true n e q h = go (leb q n) refl
  where
    go : (b : Bool) → leb q n ≡ b → (q ≤ n) × (q ≤ e)
    go true b = let x : leb q e ≡ true = simp b at h in (leb-true q n b, leb-true q e x)
    go false b = let x : false ≡ true = simp b at h in let z : ◌≡◌ {A = ℕ} 0 1 = cc in absurd (omega arith)

pub within-inside : (s : List ℕ) (e q : ℕ) (v : Value) → inside (length s) e q ≡ true → within s e q v ≡ Got v q
within-inside s e q v h =
    let x = inside-true (length s) e q h in
    rw (le-leb q (length s) x.0, le-leb q e x.1)

pub within-outside : (s : List ℕ) (e q : ℕ) (v : Value) → inside (length s) e q ≡ false → within s e q v ≡ Refused Truncated
unfolding inside
within-outside s e q v h = go (leb q (length s)) refl
  where
    go : (b : Bool) → leb q (length s) ≡ b → within s e q v ≡ Refused Truncated
    go true b = let x : leb q e ≡ false = simp b at h in rw (b, x)
    go false b = rw b
