-- The result is no longer than the two messages together: every tag of both stands in it, so that differences of tags only shrink.
use Rattle.std.specs.Prelude.{ℕ, zero, suc, ◌+◌, ◌-◌, ◌*◌, ◌/◌, ◌≤◌, ◌≡◌, refl, Bool, true, false, List, [], ◌∷◌, ltb, length}
use Rattle.std.proofs.Common.{ap, subst, arith, le-ltb, ltb-true, ltb-false, length-append}
use Rattle.wire.specs.Varint.{enc, encode}
use Rattle.wire.specs.Written.{Item, content_kind, written_content, written_item, written_from, GoodFrom}
use Rattle.correct_write.specs.Corrected.{above, corrected}
use Rattle.correct_write.specs.TagByTag.{Over, good-ordered, over-wider, ordered-over, below-over, above-over, good-above}

-- ---- a smaller number is not longer, nor is an item behind a higher tag

enc-shorter : (k u v : ℕ) → u ≤ v → length (enc k u) ≤ length (enc k v)
enc-shorter zero u v h = omega arith
enc-shorter (suc k) u v h = go (ltb u 128) refl (ltb v 128) refl (enc-shorter k (u / 128 - 1) (v / 128 - 1) (omega arith))
  where
    go : (a : Bool) → ltb u 128 ≡ a → (b : Bool) → ltb v 128 ≡ b → length (enc k (u / 128 - 1)) ≤ length (enc k (v / 128 - 1))
        → length (enc (suc k) u) ≤ length (enc (suc k) v)
    go true a true b ih = rw (a, b) (omega arith)
    go true a false b ih = rw (a, b) (omega arith)
    go false a true b ih = absurd (omega (arith, h, ltb-false u 128 a, ltb-true v 128 b))
    go false a false b ih = rw (a, b) (omega (arith, ih))

encode-shorter : (u v : ℕ) → u ≤ v → length (encode u) ≤ length (encode v)
unfolding encode
encode-shorter u v h = enc-shorter 8 u v h

item-shorter : (a b : ℕ) (i : Item) → a ≤ b → length (written_item b i) ≤ length (written_item a i)
item-shorter a b i h =
    let k = content_kind i.content in
    let e = encode-shorter (4 * (i.tag - b) + k) (4 * (i.tag - a) + k) (omega arith) in
    let x = length-append (encode (4 * (i.tag - a) + k)) (written_content i.content) in
    let y = length-append (encode (4 * (i.tag - b) + k)) (written_content i.content) in
    omega (arith, e, x, y)

length-first : (last : ℕ) (i : Item) (is : List Item)
    → length (written_from last (i ∷ is)) ≡ length (written_item last i) + length (written_from i.tag is)
length-first last i is = length-append (written_item last i) (written_from i.tag is)

from-shorter : (a b : ℕ) (is : List Item) → a ≤ b → length (written_from b is) ≤ length (written_from a is)
from-shorter a b [] h = omega arith
from-shorter a b (i ∷ is) h = omega (arith, item-shorter a b i h, length-first a i is, length-first b i is)

-- ---- those of one tag left out, behind a field of that tag

above-shorter : (t : ℕ) (os : List Item) → GoodFrom t os → length (written_from t (above t os)) ≤ length (written_from t os)
above-shorter t [] g = omega arith
above-shorter t (o ∷ os) g = go (ltb t o.tag) refl (above-shorter t os)
  where
    go : (b : Bool) → ltb t o.tag ≡ b → (GoodFrom t os → length (written_from t (above t os)) ≤ length (written_from t os))
        → length (written_from t (above t (o ∷ os))) ≤ length (written_from t (o ∷ os))
    go true b ih =
        let l = ltb-true t o.tag b in
        let over = over-wider o.tag (suc t) os (omega (arith, l)) (ordered-over o.tag os (good-ordered o.tag os g.1)) in
        rw (above-over t (o ∷ os) (omega (arith, l), over)) (omega arith)
    go false b ih =
        let e : o.tag ≡ t = omega (arith, g.0.order, ltb-false t o.tag b) in
        let x = ih (subst (λ (n : ℕ). GoodFrom n os) e g.1) in
        rw b (omega (arith, x, length-first t o os, ap (λ (n : ℕ). length (written_from n os)) e))

-- ---- one item of the correction over the original

abbrev Enough : ℕ → List Item → List Item → Type 0
Enough last cs os = length (written_from last (corrected cs os)) ≤ length (written_from last cs) + length (written_from last os)

module _ (c : Item) (cs : List Item) (ih : (last : ℕ) (os : List Item) → GoodFrom last cs → GoodFrom last os → Enough last cs os) where
  -- where the original has no lower tag
  meets : (last : ℕ) (os : List Item) → GoodFrom last (c ∷ cs) → GoodFrom last os → Over c.tag os → GoodFrom c.tag os → Enough last (c ∷ cs) os
  meets last os g h o k =
      let t = c.tag in
      let kept = above t os in
      let x = ih t kept g.1 (good-above t t os k) in
      let y = above-shorter t os k in
      let z = from-shorter last t os g.0.order in
      rw (below-over t os o) (omega (arith, x, y, z, length-first last c (corrected cs kept), length-first last c cs))

  lower : (last : ℕ) (os : List Item) → GoodFrom last (c ∷ cs) → GoodFrom last os → Enough last (c ∷ cs) os
  lower last [] g h = meets last [] g h tt tt
  lower last (o ∷ os) g h = go (ltb o.tag c.tag) refl (lower o.tag os)
    where
      go : (b : Bool) → ltb o.tag c.tag ≡ b → (GoodFrom o.tag (c ∷ cs) → GoodFrom o.tag os → Enough o.tag (c ∷ cs) os)
          → Enough last (c ∷ cs) (o ∷ os)
      go false b low =
          let l = ltb-false o.tag c.tag b in
          let over = over-wider o.tag c.tag os l (ordered-over o.tag os (good-ordered o.tag os h.1)) in
          meets last (o ∷ os) g h (l, over) (record { order = l; small = h.0.small; content = h.0.content }, h.1)
      go true b low =
          let l = ltb-true o.tag c.tag b in
          let x = low (record { order = omega (arith, l); small = g.0.small; content = g.0.content }, g.1) h.1 in
          let y = from-shorter last o.tag (c ∷ cs) h.0.order in
          rw (b, le-ltb c.tag o.tag (omega (arith, l)))
          (omega (arith, x, y, length-first last o (corrected (c ∷ cs) os), length-first last o os))

-- ROOM OF BOTH LENGTHS IS ENOUGH
pub both-enough : (last : ℕ) (cs os : List Item) → GoodFrom last cs → GoodFrom last os
    → length (written_from last (corrected cs os)) ≤ length (written_from last cs) + length (written_from last os)
both-enough last [] os g h = omega arith
both-enough last (c ∷ cs) os g h = lower c cs (λ l xs. both-enough l cs xs) last os g h
