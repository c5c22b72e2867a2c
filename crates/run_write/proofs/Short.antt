-- Numbers of two and of three bytes: what they are written as, and what putting these bytes leaves.
use Prim.Native.Nat.{ℕ, suc, ◌+◌, ◌-◌, ◌/◌, ◌%◌, ◌≤◌, ◌<◌}
use mathlib.Core.Path.{◌≡◌, refl, ap, ◌∙◌}
use mathlib.Core.List.{List, [], ◌∷◌}
use mathlib.Core.Logic.{inl}
use native.Mathlib.Omega.{arith}
use lib.ListN.{length, set}
use lib.Seq.{sets}
use Rattle.wire.specs.Varint.{enc, encode}
use Rattle.wire.specs.VarintLaws.{enc-ends, enc-further}
use Rattle.place.specs.Spans.{Spans, spans-as}

-- a number that goes on with x
further : (k v x : ℕ) → 0 < k → 128 ≤ v → x ≡ v / 128 - 1 → enc k v ≡ (128 + v % 128) ∷ enc (k - 1) x
further k v x z h e = rw e (enc-further k v z h)

module _ (v x : ℕ) (h : 128 ≤ v) (e : x ≡ v / 128 - 1) where
  module _ (g : x < 128) where
    two : encode v ≡ (128 + v % 128) ∷ x ∷ []
    unfolding encode
    two = further 8 v x (omega arith) h e ∙ ap (λ (l : List ℕ). (128 + v % 128) ∷ l) (enc-ends 7 x (inl g))

    pub two-long : length (encode v) ≡ 2
    two-long = ap length two

    pub spans-two : (b : List ℕ) (at : ℕ) {c : List ℕ} → c ≡ sets b at ((128 + v % 128) ∷ x ∷ []) → Spans b at (at + 2) (encode v) c
    spans-two b at f = spans-as two (record { reach = refl; is = f })

  module _ (y : ℕ) (k : 128 ≤ x) (f : y ≡ x / 128 - 1) (g : y < 128) where
    three : encode v ≡ (128 + v % 128) ∷ (128 + x % 128) ∷ y ∷ []
    unfolding encode
    three =
        further 8 v x (omega arith) h e
        ∙ ap (λ (l : List ℕ). (128 + v % 128) ∷ l) (further 7 x y (omega arith) k f)
        ∙ ap (λ (l : List ℕ). (128 + v % 128) ∷ (128 + x % 128) ∷ l) (enc-ends 6 y (inl g))

    pub three-long : length (encode v) ≡ 3
    three-long = ap length three

    pub spans-three : (b : List ℕ) (at : ℕ) {c : List ℕ} → c ≡ sets b at ((128 + v % 128) ∷ (128 + x % 128) ∷ [])
        → Spans b at (at + 3) (encode v) (set c (at + 2) y)
    spans-three b at d =
        let n : at + 2 ≡ suc (suc at) = omega arith in
        spans-as three (record { reach = refl; is = rw (d, n) refl })
