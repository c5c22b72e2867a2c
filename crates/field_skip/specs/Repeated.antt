-- The next key of the same tag (rule S4): a byte below 4 that stands before the end.
use Rattle.std.specs.Prelude.{ℕ, zero, suc, ◌≤◌, ◌<◌, ◌≡◌, refl, Bool, true, false, List, [], ◌∷◌, ltb, length, get_or}
use Rattle.std.proofs.Common.{arith, lt-ltb, le-ltb, ltb-true, ltb-false}
use Rattle.std.proofs.Math.ListN.{get_or-eq_default}
use Rattle.wire.specs.Choose.{choose}
use Rattle.wire.specs.Skipping.{repeats}

-- the byte at place q if it stands before the end; else 4
unfoldable pub next_key : List ℕ → ℕ → ℕ → ℕ
next_key s e q = choose (ltb q e) (get_or s q 4) 4

-- ---- its cases

pub past_end : (s : List ℕ) (e q : ℕ) → e ≤ q → next_key s e q ≡ 4
unfolding next_key
past_end s e q h = rw (le-ltb q e h)

same : (s : List ℕ) (q c d : ℕ) → q < length s → get_or s q c ≡ get_or s q d
same [] q c d h = absurd (omega arith)
same (b ∷ s) zero c d h = refl
same (b ∷ s) (suc q) c d h = same s q c d (omega arith)

pub past-slice : (s : List ℕ) (e q : ℕ) → length s ≤ q → next_key s e q ≡ 4
unfolding next_key
past-slice s e q h = go (ltb q e) refl
  where
    go : (b : Bool) → ltb q e ≡ b → next_key s e q ≡ 4
    go true b = rw b (get_or-eq_default s 4 h)
    go false b = rw b

pub before-end : (s : List ℕ) (e q : ℕ) → q < e → q < length s → next_key s e q ≡ get_or s q 0
unfolding next_key
before-end s e q h g = rw (lt-ltb q e h) (same s q 4 0 g)

-- ---- what it says of skipping

pub differs : (s : List ℕ) (e q : ℕ) → 4 ≤ next_key s e q → repeats s e q ≡ false
unfolding next_key
differs s e q h = go (ltb q e) refl
  where
    go : (b : Bool) → ltb q e ≡ b → repeats s e q ≡ false
    go true b = let x : 4 ≤ get_or s q 4 = simp b at h in rw (b, le-ltb (get_or s q 4) 4 x)
    go false b = rw b

pub again : (s : List ℕ) (e q : ℕ) → next_key s e q < 4 → (repeats s e q ≡ true) × (get_or s q 0 ≡ next_key s e q)
unfolding next_key
again s e q h = go (ltb q e) refl (ltb q (length s)) refl
  where
    go : (b : Bool) → ltb q e ≡ b → (c : Bool) → ltb q (length s) ≡ c → (repeats s e q ≡ true) × (get_or s q 0 ≡ next_key s e q)
    go true b true c =
        let x : get_or s q 4 < 4 = simp b at h in
        (rw (b, lt-ltb (get_or s q 4) 4 x), rw b (same s q 0 4 (ltb-true q (length s) c)))
    go true b false c =
        let x : get_or s q 4 < 4 = simp b at h in
        absurd (omega (arith, get_or-eq_default s 4 (ltb-false q (length s) c)))
    go false b c f = let x : 4 < 4 = simp b at h in absurd (omega arith)
