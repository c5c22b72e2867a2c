-- One number, one value, one record put, in either direction: what the calls say, joined.
use Prim.Native.Nat.{ℕ, ◌+◌, ◌-◌, ◌*◌, ◌≤◌, ◌<◌}
use mathlib.Core.Path.{◌≡◌, refl, ap, ◌∙◌, sym}
use mathlib.Core.Bool.{Bool, true, false}
use mathlib.Core.List.{List, [], ◌∷◌, ◌++◌}
use mathlib.Core.Logic.{◌⊎◌, inl, inr}
use native.Mathlib.Omega.{arith}
use borrow.Author.Tests.{eqb-true, eqb-false}
use lib.Dec.{eqb}
use lib.ListN.{length, take, drop, set, length-append}
use lib.Seq.{sets}
use Rattle.wire.specs.Fixed.{fixed, length-fixed}
use Rattle.wire.specs.Varint.{encode}
use Rattle.wire.specs.VarintLaws.{enc-ends}
use Rattle.write_record.specs.Records.{value_bytes, record_bytes}
use Rattle.write_record.specs.RecordLaws.{Sound, length-inside, record-bytes, bytes-payload, bytes-four, bytes-eight}
use Rattle.wire.specs.declared.Record.{Record}
use Rattle.place.specs.Place.{Placed, put_part}
use Rattle.place.specs.Spans.{Spans, spans-length, spans-as, spans-part, spans-behind, spans-before}

-- ---- a number of one byte

pub one_byte : (v : ℕ) → v < 128 → encode v ≡ v ∷ []
unfolding encode
one_byte v h = enc-ends 8 v (inl h)

pub byte_fits : (v : ℕ) → v < 128 → length (encode v) ≡ 1
byte_fits v h = ap length (one_byte v h)

pub spans-byte : (b : List ℕ) (p q v : ℕ) → v < 128 → q ≡ p + 1 → Spans b p q (encode v) (set b p v)
spans-byte b p q v h e = spans-as (one_byte v h) (record { reach = e; is = refl })

-- ---- a fixed value, asked for by another name

pub fixed-put : (b : List ℕ) (at size v : ℕ) {end : ℕ} {zs c : List ℕ} → zs ≡ fixed size v → end ≡ at + size → c ≡ sets b at (fixed size v)
    → Spans b at end zs c
fixed-put b at size v z q e = spans-as z (record { reach = omega (arith, length-fixed size v); is = e })

-- ---- a value

module _ (b s : List ℕ) (r : Record) (g : Sound (length s) r) where
  pub payload-bytes : r.kind ≡ 1 → value_bytes s r ≡ encode r.length ++ take r.length (drop r.value s)
  payload-bytes k = bytes-payload s r k (g.payload k)

  pub payload-size : r.kind ≡ 1 → length (value_bytes s r) ≡ length (encode r.length) + r.length
  payload-size k =
      ap length (payload-bytes k)
      ∙ length-append (encode r.length) (take r.length (drop r.value s))
      ∙ ap (λ (n : ℕ). length (encode r.length) + n) (length-inside s r.value r.length (g.payload k))

  -- as place says it, and as put_inside does
  pub put_payload : {p q m : ℕ} {c d : List ℕ} → r.kind ≡ 1 → p + length (value_bytes s r) ≤ length b → Spans b p q (encode r.length) c
      → ◌≡◌ {A = Placed} (record { next = m; buf = d }) (put_part c q s r.value r.length) → Spans b p m (value_bytes s r) d
  put_payload {p} {q} {m} {c} {d} k h v e =
      spans-as (payload-bytes k)
      (spans-behind v (spans-part c q s r.value r.length (g.payload k) (omega (arith, v.reach, spans-length v, payload-size k)) e))

  pub payload-behind : {p q : ℕ} {c d : List ℕ} → r.kind ≡ 1 → Spans b p q (encode r.length) c
      → d ≡ sets c q (take r.length (drop r.value s)) → Spans b p (q + r.length) (value_bytes s r) d
  payload-behind {p} {q} {c} {d} k v e =
      let l = length-inside s r.value r.length (g.payload k) in
      spans-as (payload-bytes k) (spans-behind v (record { reach = omega (arith, l); is = e }))

  pub payload-before : {p end n : ℕ} {c d : List ℕ} → r.kind ≡ 1 → length (value_bytes s r) ≤ end → p ≡ end - r.length
      → c ≡ sets b p (take r.length (drop r.value s)) → Spans c n p (encode r.length) d → Spans b n end (value_bytes s r) d
  payload-before {p} {end} {n} {c} {d} k h q e w =
      let l = length-inside s r.value r.length (g.payload k) in
      let u : Spans b p end (take r.length (drop r.value s)) c = record { reach = omega (arith, payload-size k, l); is = e } in
      spans-as (payload-bytes k) (spans-before u w)

  -- a fixed value by its type
  pub sizes : (r.kind ≡ 0 → ⊥) → (r.kind ≡ 1 → ⊥) → (r.kind ≡ 2) ⊎ (r.kind ≡ 3)
  sizes x y = go (eqb r.kind 2) refl
    where
      go : (t : Bool) → eqb r.kind 2 ≡ t → (r.kind ≡ 2) ⊎ (r.kind ≡ 3)
      go true t = inl (eqb-true r.kind 2 t)
      go false t = inr (omega (arith, g.kind, x, y, eqb-false r.kind 2 t))

  pub size-known : (r.kind ≡ 2) ⊎ (r.kind ≡ 3) → (4 * r.kind - 4 ≡ 4) ⊎ (4 * r.kind - 4 ≡ 8)
  size-known (inl k) = inl (omega arith)
  size-known (inr k) = inr (omega arith)

  pub fixed-bytes : (r.kind ≡ 2) ⊎ (r.kind ≡ 3) → value_bytes s r ≡ fixed (4 * r.kind - 4) r.value
  fixed-bytes (inl k) = let z : 4 * r.kind - 4 ≡ 4 = omega arith in bytes-four s r k ∙ ap (λ (n : ℕ). fixed n r.value) (sym z)
  fixed-bytes (inr k) = let z : 4 * r.kind - 4 ≡ 8 = omega arith in bytes-eight s r k ∙ ap (λ (n : ℕ). fixed n r.value) (sym z)

  pub fixed-size : (r.kind ≡ 2) ⊎ (r.kind ≡ 3) → length (value_bytes s r) ≡ 4 * r.kind - 4
  fixed-size k = ap length (fixed-bytes k) ∙ length-fixed (4 * r.kind - 4) r.value

-- ---- a record: its key, then its value

module _ (s : List ℕ) (prev : ℕ) (r : Record) (g : Sound (length s) r) where
  pub whole : record_bytes s prev r ≡ encode (4 * (r.tag - prev) + r.kind) ++ value_bytes s r
  whole = record-bytes s r prev g.kind

  pub whole-size : length (record_bytes s prev r) ≡ length (encode (4 * (r.tag - prev) + r.kind)) + length (value_bytes s r)
  whole-size = ap length whole ∙ length-append (encode (4 * (r.tag - prev) + r.kind)) (value_bytes s r)
