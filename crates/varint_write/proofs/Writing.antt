-- The loop that puts a varint, those of one byte and of two, and what is put up to a place.
use Prim.Native.Nat.{ℕ, zero, suc, ◌+◌, ◌-◌, ◌*◌, ◌/◌, ◌%◌, ◌^◌, ◌≤◌, ◌<◌}
use mathlib.Core.Path.{◌≡◌, ap, ◌∙◌, sym}
use mathlib.Core.List.{List, [], ◌∷◌}
use mathlib.Core.Logic.{◌⊎◌, inl}
use native.Mathlib.Omega.{arith}
use native.Mathlib.Nat.{pow-suc, not-suc-le-zero}
use native.Mathlib.Numerals.{add-one}
use lib.ListN.{length, set}
use lib.Seq.{sets}
use Rattle.wire.specs.Varint.{enc, encode}
use Rattle.wire.specs.VarintLaws.{enc-further, enc-ends}
use Rattle.place.specs.Place.{Placed, put_at, prepend_at, put-roomy, put-none, prepend-roomy, Putting, put-start, put-more, put-inside, put-done}

pub record Encoding (b : List ℕ) (at v : ℕ) (buf : List ℕ) (x p k : ℕ) : Type 0 where
  pub small : x < 256 * 128 ^ k
  pub put : Putting b at (encode v) buf p (enc k x)

pub encode-start : (b : List ℕ) (at v : ℕ) → v < 2 ^ 64 → at + length (encode v) ≤ length b → Encoding b at v b v at 8
unfolding encode
encode-start b at v f h = record { small = f; put = put-start b at (encode v) h }

smaller : (k x : ℕ) → 0 < k → 128 ≤ x → x < 256 * 128 ^ k → x / 128 - 1 < 256 * 128 ^ (k - 1)
smaller zero x h g s = absurd (not-suc-le-zero h)
smaller (suc k) x h g s = let e : suc k - 1 ≡ k = omega arith in rw e (omega (arith, pow-suc 128 k))

module _ {b : List ℕ} {at v : ℕ} {buf : List ℕ} {x p k : ℕ} (w : Encoding b at v buf x p k) where
  on : 0 < k → 128 ≤ x → Putting b at (encode v) buf p ((128 + x % 128) ∷ enc (k - 1) (x / 128 - 1))
  on h g = rw (enc-further k x h g) at w.put

  pub encode-writes : 0 < k → 128 ≤ x → p < length buf
  encode-writes h g = put-inside (on h g)

  pub encode-more : 0 < k → 128 ≤ x → Encoding b at v (set buf p (128 + x % 128)) (x / 128 - 1) (p + 1) (k - 1)
  encode-more h g = record { small = smaller k x h g w.small; put = put-more (on h g) }

  -- the last byte
  last : (x < 128) ⊎ (k ≡ 0) → Putting b at (encode v) buf p (x ∷ [])
  last h = rw (enc-ends k x h) at w.put

  pub last-writes : (x < 128) ⊎ (k ≡ 0) → p < length buf
  last-writes h = put-inside (last h)

  pub last-small : k ≤ 0 → x < 256
  last-small h = let z : k ≡ 0 = omega arith in let s : x < 256 * 128 ^ 0 = rw z at w.small in omega arith

  pub last_done : (x < 128) ⊎ (k ≡ 0) → record { next = p + 1; buf = set buf p x } ≡ put_at b at (encode v)
  last_done h = put-done (put-more (last h))

-- ---- one byte

short : (v : ℕ) → v < 128 → encode v ≡ v ∷ []
unfolding encode
short v h = enc-ends 8 v (inl h)

pub short-done : (b : List ℕ) (at v : ℕ) → v < 128 → at < length b → record { next = at + 1; buf = set b at v } ≡ put_at b at (encode v)
short-done b at v h g = rw (short v h) (put-done (put-more (put-start b at (v ∷ []) (omega arith))))

pub short_none : (b : List ℕ) (at v : ℕ) → v < 128 → length b ≤ at → record { next = at; buf = b } ≡ put_at b at (encode v)
short_none b at v h g = rw (short v h) (sym (put-none b at (v ∷ []) (omega arith)))

-- ---- two bytes

module _ (v : ℕ) (h : 128 ≤ v) (g : v < 0x4080) where
  two : encode v ≡ (128 + v % 128) ∷ (v / 128 - 1) ∷ []
  unfolding encode
  two = enc-further 8 v (omega arith) h ∙ ap (λ (l : List ℕ). (128 + v % 128) ∷ l) (enc-ends 7 (v / 128 - 1) (inl (omega arith)))

  pub two-long : length (encode v) ≡ 2
  two-long = ap length two

  pub two-put : (b : List ℕ) (at : ℕ) → set (set b at (128 + v % 128)) (at + 1) (v / 128 - 1) ≡ sets b at (encode v)
  two-put b at = rw (two, add-one at)

  pub two-done : (b : List ℕ) (at : ℕ) {c : List ℕ} → at + 2 ≤ length b → c ≡ sets b at (encode v) → record { next = at + 2; buf = c } ≡ put_at b at (encode v)
  two-done b at r e = sym (put-roomy b at (encode v) (omega (arith, two-long)) ∙ rw (e, two-long))

-- ---- up to a place

pub prepended : (b : List ℕ) (end v n : ℕ) {c : List ℕ} → n ≡ length (encode v) → end ≤ length b → n ≤ end → c ≡ sets b (end - n) (encode v)
    → record { next = end - n; buf = c } ≡ prepend_at b end (encode v)
prepended b end v n l g h e = sym (prepend-roomy b end (encode v) g (omega arith) ∙ rw (← l, e))

pub short-prepended : (b : List ℕ) (end v : ℕ) → v < 128 → end ≤ length b → 1 ≤ end
    → record { next = end - 1; buf = set b (end - 1) v } ≡ prepend_at b end (encode v)
short-prepended b end v h g i = prepended b end v 1 (sym (ap length (short v h))) g i (rw (short v h))

pub long-prepended : (b : List ℕ) (end v n : ℕ) {m : ℕ} {c : List ℕ} → n ≡ length (encode v) → end ≤ length b → n ≤ end
    → record { next = m; buf = c } ≡ put_at b (end - n) (encode v) → record { next = end - n; buf = c } ≡ prepend_at b end (encode v)
long-prepended b end v n l g h e = prepended b end v n l g h (ap (λ (o : Placed). o.buf) (e ∙ put-roomy b (end - n) (encode v) (omega arith)))
