-- Skipping: one value by its kind; where the loop stands, and what a turn does.
use Prim.Native.Nat.{ℕ, zero, suc, ◌+◌, ◌-◌, ◌≤◌, ◌<◌}
use mathlib.Core.Path.{◌≡◌, refl, ap, ◌∙◌, sym}
use mathlib.Core.Bool.{Bool, true, false}
use mathlib.Core.List.{List}
use native.Mathlib.Omega.{arith}
use native.Mathlib.Numerals.{add-one}
use borrow.Author.Tests.{eqb-true, eqb-false}
use lib.Dec.{eqb}
use lib.ListN.{length}
use Rattle.wire.specs.Faults.{varint_fault}
use Rattle.wire.specs.VarintLaws.{Bytes}
use Rattle.wire.specs.Reading.{wire_of, capped_at}
use Rattle.wire.specs.ReadingLaws.{wire-eight}
use Rattle.wire.specs.Skipping.{in_slice, past_number, past_payload, past_at, skip_from, skip_at}
use Rattle.field_skip.specs.SkippingLaws.{past-moves, skip-refused, skip-ends, skip_goes_on}
use Rattle.wire.specs.declared.Fault.{Fault}
use Rattle.wire.specs.declared.Refusal.{Refusal}
use Rattle.wire.specs.declared.VarintFound.TheVariants as varint_found
use Rattle.wire.specs.declared.Reached.TheVariants.{To, Refused}
use Rattle.fault.specs.Short.{up_to_nine, looks-min, refused-capped}
use Rattle.field_skip.specs.Repeated.{next_key, differs, again}

-- ---- one value, by its kind

module _ (s : List ℕ) (e p kind : ℕ) where
  by : {k : ℕ} → kind ≡ k → past_at s e p (wire_of kind) ≡ past_at s e p (wire_of k)
  by h = ap (λ (k : ℕ). past_at s e p (wire_of k)) h

  pub past-four : kind ≡ 2 → past_at s e p (wire_of kind) ≡ in_slice s p (p + 4)
  unfolding past_at
  past-four h = by h

  pub past-eight : 2 < kind → past_at s e p (wire_of kind) ≡ in_slice s p (p + 8)
  unfolding past_at
  past-eight h = ap (past_at s e p) (wire-eight kind (omega arith))

  pub past-number : {n q : ℕ} → kind ≡ 0 → capped_at s e p ≡ varint_found.Got n q → past_at s e p (wire_of kind) ≡ To q
  unfolding past_at
  past-number h g = by h ∙ ap (past_number s p) g

  pub past-payload : {n q : ℕ} → kind ≡ 1 → capped_at s e p ≡ varint_found.Got n q → past_at s e p (wire_of kind) ≡ in_slice s p (q + n)
  unfolding past_at
  past-payload h g = by h ∙ ap (past_payload s p) g

  past-varint : {r : Refusal} → kind < 2 → capped_at s e p ≡ varint_found.Refused r → past_at s e p (wire_of kind) ≡ Refused r (varint_fault s p)
  unfolding past_at
  past-varint {r} h g = go (eqb kind 0) refl
    where
      go : (b : Bool) → eqb kind 0 ≡ b → past_at s e p (wire_of kind) ≡ Refused r (varint_fault s p)
      go true b = by (eqb-true kind 0 b) ∙ ap (past_number s p) g
      go false b = let f = eqb-false kind 0 b in let i : kind ≡ 1 = omega arith in by i ∙ ap (past_payload s p) g

  -- a refused varint looked at n bytes
  pub past-none : {r : Refusal} {n : ℕ} → Bytes s → n ≡ up_to_nine (length s) p → kind < 2 → capped_at s e p ≡ varint_found.Refused r
      → Refused r (record { place = p; bytes = n }) ≡ past_at s e p (wire_of kind)
  past-none {r} {n} b i h g =
      let x = refused-capped s p e r g in
      ap (λ (m : ℕ). Refused r (record { place = p; bytes = m })) (i ∙ sym (looks-min s p x.0 b x.1)) ∙ sym (past-varint h g)

-- ---- the loop

-- the values still to be passed, from place p with a kind, are those of the whole
pub record Passing (s : List ℕ) (e at kind₀ p kind : ℕ) : Type 0 where
  pub left : ℕ
  pub enough : length s - p ≤ left
  pub same : skip_from left s e p (wire_of kind) ≡ skip_at s e at (wire_of kind₀)

pub pass-start : (s : List ℕ) (e at kind : ℕ) → Passing s e at kind at kind
unfolding skip_at
pass-start s e at kind = record { left = length s - at; enough = omega arith; same = refl }

module _ {s : List ℕ} {e at kind₀ p kind : ℕ} (w : Passing s e at kind₀ p kind) where
  pub pass-refused : {r : Refusal} {f : Fault} → past_at s e p (wire_of kind) ≡ Refused r f → Refused r f ≡ skip_at s e at (wire_of kind₀)
  pass-refused {r} {f} h = sym (skip-refused s e p (wire_of kind) w.left r f h) ∙ w.same

  pub pass-ends : {q n : ℕ} → past_at s e p (wire_of kind) ≡ To q → n ≡ next_key s e q → 3 < n → To q ≡ skip_at s e at (wire_of kind₀)
  pass-ends {q} h i g = sym (skip-ends s e p (wire_of kind) w.left q h (differs s e q (omega (arith, i)))) ∙ w.same

  pub pass-more : {q n : ℕ} → past_at s e p (wire_of kind) ≡ To q → n ≡ next_key s e q → n ≤ 3 → Passing s e at kind₀ (q + 1) n
  pass-more {q} {n} h j g = rw j (go w.left w.enough w.same)
    where
      go : (k : ℕ) → length s - p ≤ k → skip_from k s e p (wire_of kind) ≡ skip_at s e at (wire_of kind₀) → Passing s e at kind₀ (q + 1) (next_key s e q)
      go zero f i = let m = past-moves s e p (wire_of kind) q h in absurd (omega (arith, m.0, m.1))
      go (suc k) f i =
          let m = past-moves s e p (wire_of kind) q h in
          let a = again s e q (omega (arith, j)) in
          record {
            left = k;
            enough = omega (arith, m.0, m.1);
            same = rw (add-one q, ← a.1) (sym (skip_goes_on s e p (wire_of kind) k q h a.0) ∙ i);
          }
