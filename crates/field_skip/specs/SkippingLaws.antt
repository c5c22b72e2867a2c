-- Skipping, case by case: how far one value goes, and what a turn of the loop over repeated fields does.
use Rattle.std.specs.Prelude.{ℕ, zero, suc, ◌+◌, ◌≤◌, ◌<◌, ◌≡◌, refl, Bool, true, false, List, leb, length, get_or}
use Rattle.std.proofs.Common.{ap, ◌∙◌, arith, le-leb, leb-true}
use Rattle.std.proofs.lemmas.Bool.{lt-leb}
use Rattle.wire.specs.Choose.{choose}
use Rattle.wire.specs.Faults.{plain_fault}
use Rattle.wire.specs.Reading.{varint_at, capped_at, wire_of}
use Rattle.wire.specs.ReadingLaws.{renamed-got}
use Rattle.wire.proofs.ReadingLaws.{varint-moves}
use Rattle.wire.specs.Skipping.{in_slice, past_number, past_payload, past_at, repeats, beyond, skip_from}
use Rattle.wire.specs.declared.Fault.{Fault}
use Rattle.wire.specs.declared.Refusal.{Refusal}
use Rattle.wire.specs.declared.Refusal.TheVariants.{Truncated}
use Rattle.wire.specs.declared.WireType.{WireType}
use Rattle.wire.specs.declared.WireType.TheVariants.{Varint, LengthDelimited, ThirtyTwoBit, SixtyFourBit}
use Rattle.wire.specs.declared.VarintFound.{VarintFound}
use Rattle.wire.specs.declared.VarintFound.TheVariants as varint_found
use Rattle.wire.specs.declared.Reached.{Reached}
use Rattle.wire.specs.declared.Reached.TheVariants.{To, Refused}

-- ---- one value

-- bytes up to place q, of a slice of n, of a value at place p: in_slice by the slice's length
abbrev pub up_to : ℕ → ℕ → ℕ → Reached
up_to n p q = choose (leb q n) (To q) (Refused Truncated (plain_fault p))

pub slice-has : (n p q : ℕ) → q ≤ n → up_to n p q ≡ To q
slice-has n p q h = rw (le-leb q n h)

pub slice-lacks : (n p q : ℕ) → n < q → up_to n p q ≡ Refused Truncated (plain_fault p)
slice-lacks n p q h = rw (lt-leb q n h)

slice-to : (s : List ℕ) (p q r : ℕ) → in_slice s p q ≡ To r → (r ≡ q) × (q ≤ length s)
slice-to s p q r h = go (leb q (length s)) refl
  where
    go : (b : Bool) → leb q (length s) ≡ b → (r ≡ q) × (q ≤ length s)
    go true b = let z : To q ≡ To r = simp b at h in (cc, leb-true q (length s) b)
    go false b =
        let x : Refused Truncated (plain_fault p) ≡ To r = simp b at h in
        let z : ◌≡◌ {A = ℕ} 0 1 = cc in absurd (omega arith)

-- a value that is passed takes a byte at least and stays in the slice
abbrev Passes : List ℕ → ℕ → ℕ → Type 0
Passes s p q = (p < q) × (q ≤ length s)

number-passes : (s : List ℕ) (p q : ℕ) (r : VarintFound) → ((v n : ℕ) → r ≡ varint_found.Got v n → Passes s p n) → past_number s p r ≡ To q → Passes s p q
number-passes s p q (varint_found.Got v n) f h = let e : n ≡ q = cc in rw e at (f v n refl)
number-passes s p q (varint_found.Refused r) f h = let z : ◌≡◌ {A = ℕ} 0 1 = cc in absurd (omega arith)

payload-passes : (s : List ℕ) (p q : ℕ) (r : VarintFound) → ((v n : ℕ) → r ≡ varint_found.Got v n → Passes s p n) → past_payload s p r ≡ To q → Passes s p q
payload-passes s p q (varint_found.Got v n) f h =
    let t = slice-to s p (n + v) q h in
    (omega (arith, t.0, (f v n refl).0), omega (arith, t.0, t.1))
payload-passes s p q (varint_found.Refused r) f h = let z : ◌≡◌ {A = ℕ} 0 1 = cc in absurd (omega arith)

fixed-passes : (s : List ℕ) (p k q : ℕ) → 0 < k → in_slice s p (p + k) ≡ To q → Passes s p q
fixed-passes s p k q g h = let t = slice-to s p (p + k) q h in (omega (arith, t.0), omega (arith, t.0, t.1))

capped-passes : (s : List ℕ) (e p v n : ℕ) → capped_at s e p ≡ varint_found.Got v n → Passes s p n
capped-passes s e p v n h = let m = varint-moves s p v n (renamed-got e p (varint_at s p) v n h) in (m.0, m.1)

pub past-moves : (s : List ℕ) (e p : ℕ) (w : WireType) (q : ℕ) → past_at s e p w ≡ To q → (p < q) × (q ≤ length s)
unfolding past_at
past-moves s e p Varint q h = number-passes s p q (capped_at s e p) (capped-passes s e p) h
past-moves s e p LengthDelimited q h = payload-passes s p q (capped_at s e p) (capped-passes s e p) h
past-moves s e p ThirtyTwoBit q h = fixed-passes s p 4 q (omega arith) h
past-moves s e p SixtyFourBit q h = fixed-passes s p 8 q (omega arith) h

-- ---- a turn, by the value at its place, with at most k more behind it

module _ (s : List ℕ) (e p : ℕ) (w : WireType) where
  pub skip-refused : (k : ℕ) (r : Refusal) (f : Fault) → past_at s e p w ≡ Refused r f → skip_from k s e p w ≡ Refused r f
  skip-refused zero r f h = h
  skip-refused (suc k) r f h = ap (λ (x : Reached). beyond s e x (skip_from k s e)) h

  pub skip-ends : (k q : ℕ) → past_at s e p w ≡ To q → repeats s e q ≡ false → skip_from k s e p w ≡ To q
  skip-ends zero q h g = h
  skip-ends (suc k) q h g = ap (λ (x : Reached). beyond s e x (skip_from k s e)) h ∙ simp g

  pub skip_goes_on : (k q : ℕ) → past_at s e p w ≡ To q → repeats s e q ≡ true → skip_from (suc k) s e p w ≡ skip_from k s e (suc q) (wire_of (get_or s q 0))
  skip_goes_on k q h g = ap (λ (x : Reached). beyond s e x (skip_from k s e)) h ∙ simp g
