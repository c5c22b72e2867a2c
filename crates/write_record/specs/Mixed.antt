-- A value weighed with no branch on its type: for each type the highest value, the least length, by how much it may be more, and the number in
-- front of it.
use Rattle.std.specs.Prelude.{◌≡◌, ℕ, zero, suc, ◌+◌, ◌-◌, ◌*◌, ◌%◌, ◌^◌, ◌<◌, ◌≤◌, Bool, true, false, [], ◌∷◌, length, ◌≢◌, nat_lt, slice_index, refl}
use Rattle.std.proofs.Common.{ap, ◌∙◌, sym, arith, ltb-true, ltb-false}
use Rattle.wire.specs.Limits.{no_key}
use Rattle.wire.specs.Varint.{encode}
use Rattle.wire.specs.Table.{good_key, key-inside, key-none, key-outside}
use Rattle.write_record.specs.Records.{weigh_value}
use Rattle.write_record.specs.RecordLaws.{value-number, no_number, value-payload, no_payload, value-four, no-four, value-eight, no-eight}
use Rattle.wire.specs.declared.Refusal.TheVariants.{BadRecord}
use Rattle.wire.specs.declared.Weight.TheVariants as weight

abbrev pub most_of : ℕ → ℕ → ℕ
most_of n zero = 0xffff_ffff_ffff_ffff
most_of n (suc zero) = n
most_of n (suc (suc zero)) = 0xffff_ffff
most_of n (suc (suc (suc k))) = 0xffff_ffff_ffff_ffff

abbrev pub least_len : ℕ → ℕ
least_len zero = 0
least_len (suc zero) = 0
least_len (suc (suc k)) = 4 * k + 4

abbrev pub spare_len : ℕ → ℕ → ℕ → ℕ
spare_len n zero v = 0
spare_len n (suc zero) v = n - v
spare_len n (suc (suc k)) v = 0

abbrev pub number_in : ℕ → ℕ → ℕ → ℕ
number_in zero v l = v
number_in (suc k) v l = l

abbrev pub if_number : ℕ → ℕ → ℕ
if_number zero n = n
if_number (suc zero) n = n
if_number (suc (suc k)) n = 0

-- ---- as the code says them

pub most-at : (n k : ℕ) → k < 4 → slice_index (0xffff_ffff_ffff_ffff ∷ n ∷ 0xffff_ffff ∷ 0xffff_ffff_ffff_ffff ∷ []) k ≡ most_of n k
most-at n zero h = refl
most-at n (suc zero) h = refl
most-at n (suc (suc zero)) h = refl
most-at n (suc (suc (suc zero))) h = refl
most-at n (suc (suc (suc (suc k)))) h = absurd (omega arith)

pub least-none : (k : ℕ) → k < 2 → least_len k ≡ 0
least-none zero h = refl
least-none (suc zero) h = refl
least-none (suc (suc k)) h = absurd (omega arith)

pub least-some : (k : ℕ) → 2 ≤ k → least_len k ≡ 4 * k - 4
least-some zero h = absurd (omega arith)
least-some (suc zero) h = absurd (omega arith)
least-some (suc (suc k)) h = omega arith

pub spare-none : (n k v : ℕ) → (k ≢ 1) → spare_len n k v ≡ 0
spare-none n zero v h = refl
spare-none n (suc zero) v h = absurd (h refl)
spare-none n (suc (suc k)) v h = refl

pub number-length : (k v l : ℕ) → (k ≢ 0) → number_in k v l ≡ l
number-length zero v l h = absurd (h refl)
number-length (suc k) v l h = refl

pub number-there : (k n : ℕ) → k < 2 → if_number k n ≡ n
number-there zero n h = refl
number-there (suc zero) n h = refl
number-there (suc (suc k)) n h = absurd (omega arith)

pub number-not : (k n : ℕ) → 2 ≤ k → if_number k n ≡ 0
number-not zero n h = absurd (omega arith)
number-not (suc zero) n h = absurd (omega arith)
number-not (suc (suc k)) n h = refl

pub number-below : (k n : ℕ) → if_number k n ≤ n
number-below zero n = omega arith
number-below (suc zero) n = omega arith
number-below (suc (suc k)) n = omega arith

-- ---- the three tests, and the size where each is passed

pub high : (n k v l : ℕ) → k < 4 → v < 2 ^ 64 → most_of n k < v → weigh_value n k v l ≡ weight.Bad BadRecord
high n zero v l h f g = absurd (omega arith)
high n (suc zero) v l h f g = no_payload n 1 v l refl (omega arith)
high n (suc (suc zero)) v l h f g = no-four n 2 v l refl (λ e m. omega arith)
high n (suc (suc (suc zero))) v l h f g = absurd (omega arith)
high n (suc (suc (suc (suc k)))) v l h f g = absurd (omega arith)

pub short : (n k v l : ℕ) → k < 4 → l < least_len k → weigh_value n k v l ≡ weight.Bad BadRecord
short n zero v l h g = absurd (omega arith)
short n (suc zero) v l h g = absurd (omega arith)
short n (suc (suc zero)) v l h g = no-four n 2 v l refl (λ e m. omega arith)
short n (suc (suc (suc zero))) v l h g = no-eight n 3 v l refl (λ e. omega arith)
short n (suc (suc (suc (suc k)))) v l h g = absurd (omega arith)

pub long : (n k v l : ℕ) → k < 4 → v ≤ most_of n k → least_len k ≤ l → spare_len n k v < l - least_len k → weigh_value n k v l ≡ weight.Bad BadRecord
long n zero v l h f m g = no_number n 0 v l refl (λ e. omega arith)
long n (suc zero) v l h f m g = no_payload n 1 v l refl (omega arith)
long n (suc (suc zero)) v l h f m g = no-four n 2 v l refl (λ e q. omega arith)
long n (suc (suc (suc zero))) v l h f m g = no-eight n 3 v l refl (λ e. omega arith)
long n (suc (suc (suc (suc k)))) v l h f m g = absurd (omega arith)

pub fits : (n k v l : ℕ) → k < 4 → v ≤ most_of n k → least_len k ≤ l → l - least_len k ≤ spare_len n k v
    → weigh_value n k v l ≡ weight.Bytes (if_number k (length (encode (number_in k v l))) + l)
fits n zero v l h f m g = value-number n 0 v l refl (omega arith) ∙ ap weight.Bytes (omega arith)
fits n (suc zero) v l h f m g = value-payload n 1 v l refl (omega arith)
fits n (suc (suc zero)) v l h f m g = value-four n 2 v l refl (omega arith) (omega arith) ∙ ap weight.Bytes (omega arith)
fits n (suc (suc (suc zero))) v l h f m g = value-eight n 3 v l refl (omega arith) ∙ ap weight.Bytes (omega arith)
fits n (suc (suc (suc (suc k)))) v l h f m g = absurd (omega arith)

-- how much that is at most
pub size_below : (n k v l : ℕ) → k < 4 → v ≤ most_of n k → least_len k ≤ l → l - least_len k ≤ spare_len n k v → l ≤ n + 8
size_below n zero v l h f m g = omega arith
size_below n (suc zero) v l h f m g = omega arith
size_below n (suc (suc zero)) v l h f m g = omega arith
size_below n (suc (suc (suc zero))) v l h f m g = omega arith
size_below n (suc (suc (suc (suc k)))) v l h f m g = absurd (omega arith)

-- ---- a key's place by one test: no key is all ones, and one more wraps to 0

module _ (n k : ℕ) (f : k < 2 ^ 64) where
  pub key-told : (k + 1) % 2 ^ 64 ≤ n → good_key n k ≡ true
  key-told h = go (nat_lt k n) refl
    where
      go : (b : Bool) → nat_lt k n ≡ b → good_key n k ≡ true
      go true e = key-inside n k (ltb-true k n e)
      go false e = key-none n k (omega (arith, ltb-false k n e))

  pub key-past : n < (k + 1) % 2 ^ 64 → good_key n k ≡ false
  key-past h = key-outside n k (omega arith) (λ e. omega arith)
