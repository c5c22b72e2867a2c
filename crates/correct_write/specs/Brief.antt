-- A payload's field whose key and length are one byte each, as most fields of a sounding are.
use Rattle.std.specs.Prelude.{ℕ, ◌+◌, ◌/◌, ◌%◌, ◌^◌, ◌<◌, ◌≡◌, refl, Bool, true, false, List, ltb, length, get_or}
use Rattle.std.proofs.Common.{ap, ◌∙◌, sym, arith, lt-ltb, ltb-true}
use Rattle.wire.specs.Reading.{varint_at, renamed, key_of, key_at, value_at}
use Rattle.wire.specs.ReadingLaws.{payload-got}
use Rattle.wire.specs.declared.Refusal.TheVariants.{TagOverflowed}
use Rattle.wire.specs.declared.WireType.TheVariants as wire_type
use Rattle.wire.specs.declared.Value.{Value}
use Rattle.wire.specs.declared.VarintFound.{VarintFound}
use Rattle.wire.specs.declared.VarintFound.TheVariants as varint_found
use Rattle.wire.specs.declared.KeyFound.TheVariants as key_found
use Rattle.wire.specs.declared.ValueFound.TheVariants as value_found
use Rattle.varint_read.proofs.Reading.{one_byte}
use Rattle.correct_write.specs.Rests.{Rest, rest-keyless, rest-value}

-- n bytes from place p on: the key of a payload, its length, and so many bytes
pub record Brief (s : List ℕ) (p n : ℕ) : Type 0 where
  pub behind : p + 1 < length s
  pub key : get_or s p 0 < 128
  pub kind : get_or s p 0 % 4 ≡ 1
  pub length-is : get_or s (p + 1) 0 < 128
  pub size : n ≡ get_or s (p + 1) 0 + 2

module _ {s : List ℕ} {p n last : ℕ} (b : Brief s p n) (w : Rest s p last) where
  number : key_at s (length s) p last ≡ key_of last (varint_found.Got (get_or s p 0) (p + 1))
  number = ap (λ (r : VarintFound). key_of last (renamed (length s) p r)) (one_byte s p (omega (arith, b.behind)) b.key)

  pub brief-tag : last + get_or s p 0 / 4 < 2 ^ 32
  brief-tag = go (ltb (last + get_or s p 0 / 4) (2 ^ 32)) refl
    where
      go : (t : Bool) → ltb (last + get_or s p 0 / 4) (2 ^ 32) ≡ t → last + get_or s p 0 / 4 < 2 ^ 32
      go true t = ltb-true (last + get_or s p 0 / 4) (2 ^ 32) t
      go false t = rest-keyless w (omega (arith, b.behind)) TagOverflowed (number ∙ rw t)

  pub brief-key : key_at s (length s) p last ≡ key_found.Got (record { tag = last + get_or s p 0 / 4; wire = wire_type.LengthDelimited }) (p + 1)
  brief-key = number ∙ rw (lt-ltb (last + get_or s p 0 / 4) (2 ^ 32) brief-tag, b.kind)

  pub brief-value : (v : Value) × (value_at s (length s) (p + 1) wire_type.LengthDelimited ≡ value_found.Got v (p + n))
  brief-value =
      let x = rest-value w (omega (arith, b.behind)) (record { tag = last + get_or s p 0 / 4; wire = wire_type.LengthDelimited }) (p + 1) brief-key in
      let y = payload-got s (length s) (varint_at s (p + 1)) x.0 x.1 x.2 in
      let e : varint_found.Got (get_or s (p + 1) 0) (p + 1 + 1) ≡ varint_found.Got y.0 y.1 = sym (one_byte s (p + 1) b.behind b.length-is) ∙ y.2 in
      let i : get_or s (p + 1) 0 ≡ y.0 = cc in
      let j : p + 1 + 1 ≡ y.1 = cc in
      let k : x.1 ≡ p + n = omega (arith, y.4, b.size, i, j) in
      (x.0, x.2 ∙ ap (value_found.Got x.0) k)
