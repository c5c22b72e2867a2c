-- The value of a wire type, found by its kind: two tests, no table of jumps. And a step by its key and its value.
use Prim.Native.Nat.{ℕ, zero, suc, ◌+◌, ◌≤◌, ◌<◌}
use mathlib.Core.Path.{◌≡◌, ap, ◌∙◌, sym}
use mathlib.Core.List.{List}
use native.Mathlib.Omega.{arith}
use lib.ListN.{length, drop_of_length-le}
use Rattle.wire.specs.Numbers.{kind_of}
use Rattle.wire.specs.Reading.{wire_of, varint_at, key_at, value_at, tagged, step_of, step_at}
use Rattle.wire.specs.ReadingLaws.{wire-eight, within-slice}
use Rattle.wire.specs.StepLaws.{field-keyed, field-keyless, step-before}
use Rattle.wire.specs.Types.{wire-kind}
use Rattle.wire.specs.declared.WireType.{WireType}
use Rattle.wire.specs.declared.WireType.TheVariants as wire_type
use Rattle.wire.specs.declared.ValueFound.{ValueFound}
use Rattle.wire.specs.declared.ValueFound.TheVariants as value_found
use Rattle.wire.specs.declared.Key.{Key}
use Rattle.wire.specs.declared.KeyFound.TheVariants as key_found
use Rattle.wire.specs.declared.Refusal.{Refusal}
use Rattle.wire.specs.declared.Refusal.TheVariants.{Truncated}
use Rattle.wire.specs.declared.Stepped.TheVariants as stepped

-- the four ways to r
pub data ByKind (s : List ℕ) (e q kind : ℕ) (r : ValueFound) : Type 0 where
  number : kind ≡ 0 → r ≡ value_at s e q wire_type.Varint → ByKind s e q kind r
  payload : kind < 2 → (kind ≡ 0 → ⊥) → r ≡ value_at s e q wire_type.LengthDelimited → ByKind s e q kind r
  four : kind ≡ 2 → r ≡ value_at s e q wire_type.ThirtyTwoBit → ByKind s e q kind r
  eight : 2 ≤ kind → (kind ≡ 2 → ⊥) → r ≡ value_at s e q wire_type.SixtyFourBit → ByKind s e q kind r

of-kind : (s : List ℕ) (e q kind : ℕ) (r : ValueFound) → ByKind s e q kind r → r ≡ value_at s e q (wire_of kind)
of-kind s e q kind r (number a h) = h ∙ ap (λ (k : ℕ). value_at s e q (wire_of k)) {x = 0} {y = kind} (omega arith)
of-kind s e q kind r (payload a b h) = h ∙ ap (λ (k : ℕ). value_at s e q (wire_of k)) {x = 1} {y = kind} (omega (arith, b))
of-kind s e q kind r (four a h) = h ∙ ap (λ (k : ℕ). value_at s e q (wire_of k)) {x = 2} {y = kind} (omega arith)
of-kind s e q kind r (eight a b h) = h ∙ ap (value_at s e q) (sym (wire-eight kind (omega (arith, b))))

-- what is no number has a byte
pub none-there : (s : List ℕ) (e q kind : ℕ) → length s ≤ q → 1 ≤ kind → value_at s e q (wire_of kind) ≡ value_found.Refused Truncated
unfolding varint_at
none-there s e q zero h g = absurd (omega arith)
none-there s e q (suc zero) h g = simp (drop_of_length-le s h)
none-there s e q (suc (suc zero)) h g = within-slice s e (q + 4) _ (omega arith)
none-there s e q (suc (suc (suc k))) h g = within-slice s e (q + 8) _ (omega arith)

-- a kind leads to the value of its wire type
pub by-wire : (s : List ℕ) (e q kind : ℕ) (w : WireType) (r : ValueFound) → kind ≡ kind_of w → r ≡ value_at s e q (wire_of kind) → r ≡ value_at s e q w
by-wire s e q kind w r h d = d ∙ ap (value_at s e q) (ap wire_of h ∙ wire-kind w)

pub of-wire : (s : List ℕ) (e q kind : ℕ) (w : WireType) (r : ValueFound) → kind ≡ kind_of w → ByKind s e q kind r → r ≡ value_at s e q w
of-wire s e q kind w r h d = by-wire s e q kind w r h (of-kind s e q kind r d)

-- a step before the end, by its key: there is none, or what is read behind it
module _ (s : List ℕ) (e p last : ℕ) (b : p < e) where
  pub step-keyless : {r : Refusal} → key_at s e p last ≡ key_found.Refused r → step_at s e p last ≡ stepped.Refused r
  step-keyless h = step-before s e p last b ∙ ap step_of (field-keyless s e p last h)

  pub step-keyed : {k : Key} {q : ℕ} {r v : ValueFound} → key_at s e p last ≡ key_found.Got k q → r ≡ value_at s e q k.wire → r ≡ v
      → step_at s e p last ≡ step_of (tagged k.tag v)
  step-keyed {k} h f g =
      step-before s e p last b ∙ ap step_of (field-keyed s e p last h) ∙ ap (λ (x : ValueFound). step_of (tagged k.tag x)) (sym f ∙ g)
