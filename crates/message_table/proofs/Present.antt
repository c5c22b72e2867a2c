-- What is known of a varint or a value that can be read: no byte of it is missing, and its words are those that the second pass makes.
use Prim.Native.Nat.{ℕ, zero, suc, ◌+◌, ◌/◌, ◌^◌, ◌≤◌, ◌<◌}
use mathlib.Core.Path.{◌≡◌, refl, ap, ◌∙◌, sym}
use mathlib.Core.Bool.{Bool, true, false}
use mathlib.Core.List.{List}
use native.Mathlib.Omega.{arith}
use borrow.Author.Tests.{ltb-true, ltb-false, leb-true, leb-false}
use lib.Dec.{ltb, leb}
use lib.ListN.{length, take, drop, get_or}
use Rattle.varint_read.proofs.Reading.{Passed, stands, stop, ninth-over, two_bytes}
use Rattle.wire.specs.Fixed.{number}
use Rattle.wire.specs.Numbers.{kind_of}
use Rattle.wire.specs.Reading.{varint_at, capped_at, value_at, wire_of}
use Rattle.wire.specs.ReadingLaws.{renamed-got, number-got, payload-got, within-got, wire-eight}
use Rattle.wire.proofs.ReadingLaws.{varint-moves}
use Rattle.wire.specs.Table.{kind_word, value_word, length_word}
use Rattle.wire.specs.declared.WireType.{WireType}
use Rattle.wire.specs.declared.WireType.TheVariants as wire_type
use Rattle.wire.specs.declared.Value.{Value}
use Rattle.wire.specs.declared.Value.TheVariants as val
use Rattle.wire.specs.declared.VarintFound.TheVariants.{Got}
use Rattle.wire.specs.declared.ValueFound.TheVariants as value_found
use Rattle.message_table.specs.Second.{Varinted, Valued, Worded}

-- ---- varints

-- a reader that ends well has a byte before it
pub alive : (s : List ℕ) (p w c k v q : ℕ) → stands s p w c k ≡ Got v q → p < length s
alive s p w c k v q e = go (ltb p (length s)) refl
  where
    go : (t : Bool) → ltb p (length s) ≡ t → p < length s
    go true t = ltb-true p (length s) t
    go false t =
        let x = sym (stop s p w c k (ltb-false p (length s) t)) ∙ e in
        let z : ◌≡◌ {A = ℕ} 0 1 = cc in absurd (omega arith)

-- and its ninth byte is not too large
pub ninth-fits : (s : List ℕ) (p w c k v q : ℕ) → Passed w c k → k ≡ 0 → stands s p w c k ≡ Got v q → w / 2 ^ 56 + get_or s p 0 ≤ 255
ninth-fits s p w c k v q i z e = go (leb (w / 2 ^ 56 + get_or s p 0) 255) refl
  where
    go : (t : Bool) → leb (w / 2 ^ 56 + get_or s p 0) 255 ≡ t → w / 2 ^ 56 + get_or s p 0 ≤ 255
    go true t = leb-true (w / 2 ^ 56 + get_or s p 0) 255 t
    go false t =
        let x = sym (ninth-over s p w c k i z (alive s p w c k v q e) (leb-false (w / 2 ^ 56 + get_or s p 0) 255 t)) ∙ e in
        let y : ◌≡◌ {A = ℕ} 0 1 = cc in absurd (omega arith)

module _ {s : List ℕ} {at : ℕ} (w : Varinted s at) where
  -- there is a first byte, and a second one behind a first of 128 or more
  pub first : at < length s
  first = let m = varint-moves s at w.value w.next w.read in omega (arith, m.0, m.1)

  pub second : 128 ≤ get_or s at 0 → at + 1 < length s
  second h = alive s (at + 1) (get_or s at 0) 128 7 w.value w.next (sym (two_bytes s at first h) ∙ w.read)

-- two readings of one varint agree
pub same-varint : (s : List ℕ) (at v q w r : ℕ) → varint_at s at ≡ Got v q → varint_at s at ≡ Got w r → (v ≡ w) × (q ≡ r)
same-varint s at v q w r a b = let x : Got v q ≡ Got w r = sym a ∙ b in (cc, cc)

-- ---- values

-- the type word of a value is its wire type's number
pub value-kind : (s : List ℕ) (e p : ℕ) (w : WireType) (v : Value) (q : ℕ) → value_at s e p w ≡ value_found.Got v q → kind_word v ≡ kind_of w
value-kind s e p wire_type.Varint v q h = ap kind_word (number-got (capped_at s e p) v q h).2
value-kind s e p wire_type.LengthDelimited v q h = ap kind_word (payload-got s e (varint_at s p) v q h).3
value-kind s e p wire_type.ThirtyTwoBit v q h = ap kind_word (within-got s e (p + 4) _ v q h).0
value-kind s e p wire_type.SixtyFourBit v q h = ap kind_word (within-got s e (p + 8) _ v q h).0

number_read : (s : List ℕ) (e at : ℕ) (v : Value) (q : ℕ) → value_at s e at wire_type.Varint ≡ value_found.Got v q
    → (n : ℕ) × (varint_at s at ≡ Got n q) × (v ≡ val.Varint n)
number_read s e at v q h =
    let x = number-got (capped_at s e at) v q h in
    (x.0, renamed-got e at (varint_at s at) x.0 q x.1, x.2)

-- a value that starts with a varint: the varint can be read
pub varinted-of : (s : List ℕ) (at kind : ℕ) → Valued s at kind → kind < 2 → Varinted s at
varinted-of s at zero w h = let x = number_read s w.end at w.value w.next w.read in record { value = x.0; next = w.next; read = x.1 }
varinted-of s at (suc zero) w h =
    let x = payload-got s w.end (varint_at s at) w.value w.next w.read in record { value = x.0; next = x.1; read = x.2 }
varinted-of s at (suc (suc k)) w h = absurd (omega arith)

-- the words of each kind, and how far the slice goes
module _ (s : List ℕ) (at kind : ℕ) where
  of-wire : (w : WireType) → wire_of kind ≡ w → (e : ℕ) (v : Value) (q : ℕ) → value_at s e at (wire_of kind) ≡ value_found.Got v q
      → value_at s e at w ≡ value_found.Got v q
  of-wire w k e v q h = ap (value_at s e at) (sym k) ∙ h

  pub number-words : kind ≡ 0 → (n r : ℕ) → varint_at s at ≡ Got n r → Worded s at kind n 0 r
  number-words k n r g e v q h =
      let x = number_read s e at v q (of-wire wire_type.Varint (ap wire_of k) e v q h) in
      let y = same-varint s at n r x.0 q g x.1 in
      rw x.2 (y.0, refl, y.1)

  module _ (k : kind ≡ 1) (n r : ℕ) (g : varint_at s at ≡ Got n r) where
    payload-at : (e : ℕ) (v : Value) (q : ℕ) → value_at s e at (wire_of kind) ≡ value_found.Got v q
        → ((r ≡ value_word v) × (n ≡ length_word v) × (r + n ≡ q)) × (r + n ≤ length s)
    payload-at e v q h =
        let x = payload-got s e (varint_at s at) v q (of-wire wire_type.LengthDelimited (ap wire_of k) e v q h) in
        let y = same-varint s at n r x.0 x.1 g x.2 in
        let a = y.0 in
        let b = y.1 in
        rw x.3 ((b, a, omega (arith, x.4)), omega (arith, x.4, x.5))

    pub payload-words : Worded s at kind r n (r + n)
    payload-words e v q h = (payload-at e v q h).0

    pub payload-inside : Valued s at kind → r + n ≤ length s
    payload-inside w = (payload-at w.end w.value w.next w.read).1

  pub four-words : kind ≡ 2 → (n : ℕ) → n ≡ number (take 4 (drop at s)) → Worded s at kind n 4 (at + 4)
  four-words k n g e v q h =
      let x = within-got s e (at + 4) _ v q (of-wire wire_type.ThirtyTwoBit (ap wire_of k) e v q h) in
      rw x.0 (g, refl, sym x.1)

  pub four-inside : kind ≡ 2 → Valued s at kind → at + 4 ≤ length s
  four-inside k w =
      (within-got s w.end (at + 4) _ w.value w.next (of-wire wire_type.ThirtyTwoBit (ap wire_of k) w.end w.value w.next w.read)).2

  pub eight-words : 3 ≤ kind → (n : ℕ) → n ≡ number (take 8 (drop at s)) → Worded s at kind n 8 (at + 8)
  eight-words k n g e v q h =
      let x = within-got s e (at + 8) _ v q (of-wire wire_type.SixtyFourBit (wire-eight kind k) e v q h) in
      rw x.0 (g, refl, sym x.1)

  pub eight-inside : 3 ≤ kind → Valued s at kind → at + 8 ≤ length s
  eight-inside k w =
      (within-got s w.end (at + 8) _ w.value w.next (of-wire wire_type.SixtyFourBit (wire-eight kind k) w.end w.value w.next w.read)).2
