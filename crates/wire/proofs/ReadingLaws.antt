-- One varint, one key, one value, one field: what is read is what would be written, and what is written is read back.
use Rattle.std.specs.Prelude.{ℕ, zero, suc, ◌+◌, ◌-◌, ◌*◌, ◌/◌, ◌%◌, ◌^◌, ◌≤◌, ◌<◌, ◌≡◌, refl, Bool, true, false, List, [], ◌∷◌, ◌++◌, ltb, leb, length, take, drop}
use Rattle.std.proofs.Common.{ap, ◌∙◌, sym, append_assoc, arith, lt-ltb, le-leb, ltb-true, leb-true, length-append, length-drop, take_at, get_or-drop, length-take-le}
use Rattle.std.proofs.lemmas.Bool.{lt-leb}
use Rattle.std.proofs.Math.Seq.{take-append_seam}
use Rattle.wire.specs.Varint.{encode, Sum, Adds, Stops, sum}
use Rattle.wire.specs.VarintLaws.{Bytes, sum-enc, length-pos}
use Rattle.wire.proofs.VarintLaws.{enc-sum, sum-takes}
use Rattle.wire.specs.Numbers.{kind_of}
use Rattle.wire.specs.Fixed.{fixed, number, length-fixed, number-fixed, fixed_number, number_small}
use Rattle.wire.specs.Written.{Content, Number, Payload, Four, Eight, Item, content_kind, written_content, written_item, GoodContent, GoodItem}
use Rattle.wire.specs.Places.{part, shown, item_of, join, behind, reach}
use Rattle.wire.specs.Reading.{judged, varint_at, renamed, capped_at, wire_of, key_of, key_at, within, number_from, payload_from, value_at, tagged}
use Rattle.wire.specs.Reading.{field_of, field_at}
use Rattle.wire.specs.declared.Refusal.TheVariants.{Truncated, InvalidVarint, TagOverflowed}
use Rattle.wire.specs.declared.WireType.{WireType}
use Rattle.wire.specs.declared.WireType.TheVariants as wire_type
use Rattle.wire.specs.declared.Value.{Value}
use Rattle.wire.specs.declared.Value.TheVariants as val
use Rattle.wire.specs.declared.Field.{Field}
use Rattle.wire.specs.declared.Key.{Key}
use Rattle.wire.specs.declared.VarintFound.{VarintFound}
use Rattle.wire.specs.declared.VarintFound.TheVariants as varint_found
use Rattle.wire.specs.declared.KeyFound.{KeyFound}
use Rattle.wire.specs.declared.KeyFound.TheVariants as key_found
use Rattle.wire.specs.declared.ValueFound.{ValueFound}
use Rattle.wire.specs.declared.ValueFound.TheVariants as value_found
use Rattle.wire.specs.declared.FieldFound.TheVariants as field_found
use Rattle.wire.specs.ReadingLaws.{Back, Found, Took, bytes_drop, bytes_take, content-kind-below, found, judged-got, key-took, kind-wire, number-got, payload-got, renamed-got, within-back, within-got}

-- a varint that is read moves on, stays in the slice, and is below 2^64
pub varint-moves : (s : List ℕ) (p v q : ℕ) → varint_at s p ≡ varint_found.Got v q → (p < q) × (q ≤ length s) × (v < 2 ^ 64)
unfolding varint_at
varint-moves s p v q e =
    let j = judged-got p (sum 8 (drop p s)) v q e in
    let a = sum-takes 8 (drop p s) v j.0 j.1 in
    let c = j.2 in
    (omega (arith, a.0), omega (arith, a.1, length-drop p s), j.3)

pub varint-took : (s : List ℕ) (p v q : ℕ) → Bytes s → varint_at s p ≡ varint_found.Got v q → part s p q ≡ encode v
unfolding varint_at encode
varint-took s p v q h e =
    let j = judged-got p (sum 8 (drop p s)) v q e in
    let d : q - p ≡ j.0 = omega (arith, j.2) in
    rw d (sym (enc-sum 8 (drop p s) v j.0 (bytes_drop p s h) j.1))

pub varint-back : (s : List ℕ) (p v : ℕ) (t : List ℕ) → drop p s ≡ encode v ++ t → v < 2 ^ 64 → varint_at s p ≡ varint_found.Got v (p + length (encode v))
unfolding varint_at encode
varint-back s p v t e h = rw (e, sum-enc 8 v t, lt-ltb v (2 ^ 64) h)

pub capped-back : (s : List ℕ) (e p v : ℕ) (t : List ℕ) → drop p s ≡ encode v ++ t → v < 2 ^ 64 → capped_at s e p ≡ varint_found.Got v (p + length (encode v))
capped-back s e p v t h g = rw (varint-back s p v t h g)

pub key_back : (s : List ℕ) (e p last d y : ℕ) (t : List ℕ) → last + d < 2 ^ 32 → y < 4 → drop p s ≡ encode (4 * d + y) ++ t
    → key_at s e p last ≡ key_found.Got (record { tag = last + d; wire = wire_of y }) (p + length (encode (4 * d + y)))
key_back s e p last d y t h g i =
    let a : (4 * d + y) / 4 ≡ d = omega arith in
    let b : (4 * d + y) % 4 ≡ y = omega arith in
    rw (capped-back s e p (4 * d + y) t i (omega arith), a, b, lt-ltb (last + d) (2 ^ 32) h)

-- a value that is read moves on and stays in the slice
pub value-moves : (s : List ℕ) (e p : ℕ) (w : WireType) (v : Value) (q : ℕ) → value_at s e p w ≡ value_found.Got v q → (p < q) × (q ≤ length s)
value-moves s e p wire_type.Varint v q h =
    let x = number-got (capped_at s e p) v q h in
    let m = varint-moves s p x.0 q (renamed-got e p (varint_at s p) x.0 q x.1) in
    (m.0, m.1)
value-moves s e p wire_type.LengthDelimited v q h =
    let x = payload-got s e (varint_at s p) v q h in
    let m = varint-moves s p x.0 x.1 x.2 in
    (omega (arith, m.0, x.4), x.5)
value-moves s e p wire_type.ThirtyTwoBit v q h =
    let x = within-got s e (p + 4) _ v q h in
    let z = x.1 in
    (omega arith, omega (arith, x.2))
value-moves s e p wire_type.SixtyFourBit v q h =
    let x = within-got s e (p + 8) _ v q h in
    let z = x.1 in
    (omega arith, omega (arith, x.2))

module _ (s : List ℕ) (h : Bytes s) where
  took-fixed : (k p : ℕ) → p + k ≤ length s
      → (take k (drop p s) ≡ fixed k (number (take k (drop p s)))) × (number (take k (drop p s)) < 256 ^ k)
  took-fixed k p g =
      let b = bytes_take k (drop p s) (bytes_drop p s h) in
      let e = length-take-le k (drop p s) (omega (arith, length-drop p s)) in
      (sym (rw e at (fixed_number (take k (drop p s)) b)), rw e at (number_small (take k (drop p s)) b))

  pub value-took : (e p : ℕ) (w : WireType) (v : Value) (q : ℕ) → value_at s e p w ≡ value_found.Got v q → Took s p q w (shown s v)
  value-took e p wire_type.Varint v q g =
      let x = number-got (capped_at s e p) v q g in
      let r = renamed-got e p (varint_at s p) x.0 q x.1 in
      rw x.2 (varint-took s p x.0 q h r, (varint-moves s p x.0 q r).2, refl)
  value-took e p wire_type.LengthDelimited v q g =
      let x = payload-got s e (varint_at s p) v q g in
      let n = x.0 in
      let i = x.1 in
      let m = varint-moves s p n i x.2 in
      let b = varint-took s p n i h x.2 in
      let d : q - i ≡ n = omega (arith, x.4) in
      let len : length (take n (drop i s)) ≡ n = length-take-le n (drop i s) (omega (arith, length-drop i s, x.4, x.5)) in
      let j = join s p i q (omega (arith, m.0)) (omega (arith, x.4)) in
      rw (x.3, len) (sym j ∙ rw (b, d), m.2, refl)
  value-took e p wire_type.ThirtyTwoBit v q g =
      let x = within-got s e (p + 4) _ v q g in
      let r = took-fixed 4 p x.2 in
      let d : q - p ≡ 4 = omega (arith, x.1) in
      rw (x.0, d) (r.0, r.1, refl)
  value-took e p wire_type.SixtyFourBit v q g =
      let x = within-got s e (p + 8) _ v q g in
      let r = took-fixed 8 p x.2 in
      let d : q - p ≡ 8 = omega (arith, x.1) in
      rw (x.0, d) (r.0, r.1, refl)

pub content-pos : (c : Content) → 1 ≤ length (written_content c)
content-pos (Number v) = length-pos v
content-pos (Payload p) = omega (arith, length-append (encode (length p)) p, length-pos (length p))
content-pos (Four n) = omega arith
content-pos (Eight n) = omega arith

pub value-back : (s : List ℕ) (e p : ℕ) (c : Content) (t : List ℕ) → drop p s ≡ written_content c ++ t → GoodContent c
    → p + length (written_content c) ≤ e → Back s e p c
value-back s e p (Number v) t h g b = (val.Varint v, rw (capped-back s e p v t h g), refl)
value-back s e p (Payload x) t h g b =
    let k = encode (length x) in
    let len = length-append k x in
    let a : drop p s ≡ k ++ (x ++ t) = h ∙ append_assoc k x t in
    let r = reach s p (k ++ x) t h (content-pos (Payload x)) in
    let q : p + length (k ++ x) ≡ (p + length k) + length x = omega (arith, len) in (
      val.LengthDelimited (p + length k) (length x),
      rw (varint-back s p (length x) (x ++ t) a g, q) (within-back s e (p + length k + length x) _ (omega (arith, len)) (omega (arith, len))),
      ap Payload (ap (take (length x)) (behind s p k (x ++ t) a) ∙ take-append_seam x t),
    )
value-back s e p (Four n) t h g b =
    let r = reach s p (fixed 4 n) t h (omega arith) in
    let z : number (take 4 (drop p s)) ≡ n = ap number (ap (take 4) h ∙ take_at (fixed 4 n) t 4 (length-fixed 4 n)) ∙ number-fixed 4 n g in
    (val.ThirtyTwoBit n, rw z (within-back s e (p + 4) _ r b), refl)
value-back s e p (Eight n) t h g b =
    let r = reach s p (fixed 8 n) t h (omega arith) in
    let z : number (take 8 (drop p s)) ≡ n = ap number (ap (take 8) h ∙ take_at (fixed 8 n) t 8 (length-fixed 8 n)) ∙ number-fixed 8 n g in
    (val.SixtyFourBit n, rw z (within-back s e (p + 8) _ r b), refl)

pub field_found_lem : (s : List ℕ) (e p last : ℕ) (f : Field) (q : ℕ) → field_at s e p last ≡ field_found.Got f q → Found s e p last f q
unfolding field_at
field_found_lem s e p last f q h = found s e p last (key_at s e p last) f q (λ k i. key-took s e p last k i) h

-- a field that is read takes two bytes at least, stays in the slice, and its tag is no lower than the last
pub field-moves : (s : List ℕ) (e p last : ℕ) (f : Field) (q : ℕ) → field_at s e p last ≡ field_found.Got f q
    → (p + 2 ≤ q) × (q ≤ length s) × (last ≤ f.tag) × (f.tag < 2 ^ 32)
field-moves s e p last f q h =
    let x = field_found_lem s e p last f q h in
    let k = x.key in
    let a = varint-moves s p k.key x.middle k.read in
    let b = value-moves s e x.middle x.wire f.value q x.value in
    (omega (arith, a.0, b.0), b.1, omega (arith, k.tag), k.small)

pub field-took : (s : List ℕ) (e p last : ℕ) (f : Field) (q : ℕ) → Bytes s → field_at s e p last ≡ field_found.Got f q
    → (part s p q ≡ written_item last (item_of s f)) × GoodItem last (item_of s f)
field-took s e p last f q g h =
    let x = field_found_lem s e p last f q h in
    let k = x.key in
    let i = x.middle in
    let a = varint-moves s p k.key i k.read in
    let b = value-moves s e i x.wire f.value q x.value in
    let m = field-moves s e p last f q h in
    let c = value-took s g e i x.wire f.value q x.value in
    let y : content_kind (shown s f.value) ≡ k.key % 4 = c.2 ∙ ap kind_of k.wire ∙ kind-wire (k.key % 4) (omega arith) in
    let v : 4 * (f.tag - last) + content_kind (shown s f.value) ≡ k.key = omega (arith, k.tag, y) in (
      sym (join s p i q (omega (arith, a.0)) (omega (arith, b.0))) ∙ rw (v, varint-took s p k.key i g k.read, c.0),
      record { order = m.2; small = m.3; content = c.1 },
    )

pub item-pos : (last : ℕ) (i : Item) → 2 ≤ length (written_item last i)
item-pos last i =
    let k = 4 * (i.tag - last) + content_kind i.content in
    omega (arith, length-append (encode k) (written_content i.content), length-pos k, content-pos i.content)

pub field_back : (s : List ℕ) (e p last : ℕ) (i : Item) (t : List ℕ) → drop p s ≡ written_item last i ++ t → GoodItem last i
    → p + length (written_item last i) ≤ e
    → (f : Field) × (field_at s e p last ≡ field_found.Got f (p + length (written_item last i))) × (item_of s f ≡ i)
unfolding field_at
field_back s e p last i t h g b =
    let d = i.tag - last in
    let y = content_kind i.content in
    let k = encode (4 * d + y) in
    let c = written_content i.content in
    let len = length-append k c in
    let a : drop p s ≡ k ++ (c ++ t) = h ∙ append_assoc k c t in
    let o : last + d ≡ i.tag = omega (arith, g.order) in
    let u = key_back s e p last d y (c ++ t) (omega (arith, g.order, g.small)) (content-kind-below i.content) a in
    let v = value-back s e (p + length k) i.content t (behind s p k (c ++ t) a) g.content (omega (arith, len)) in
    let q : p + length (k ++ c) ≡ p + length k + length c = omega (arith, len) in (
      record { tag = i.tag; value = v.0 },
      ap (field_of s e) u ∙ ap (tagged (last + d)) v.1 ∙ rw (o, q),
      ap (λ (x : Content). record { tag = i.tag; content = x }) v.2,
    )
