-- One varint, one key, one value, one field: what is read is what would be written, and what is written is read back.
use Rattle.std.specs.Prelude.{ℕ, zero, suc, ◌+◌, ◌-◌, ◌*◌, ◌/◌, ◌%◌, ◌^◌, ◌≤◌, ◌<◌, ◌≡◌, refl, Bool, true, false, List, [], ◌∷◌, ◌++◌, ltb, leb, length, take, drop}
use Rattle.std.proofs.Common.{ap, ◌∙◌, sym, append_assoc, arith, lt-ltb, le-leb, ltb-true, leb-true, length-append, length-drop, take_at, get_or-drop, length-take-le}
use Rattle.std.proofs.lemmas.Bool.{lt-leb}
use Rattle.std.proofs.Math.Seq.{take-append_seam}
use Rattle.wire.specs.Varint.{encode, Sum, Adds, Stops, sum}
use Rattle.wire.specs.VarintLaws.{Bytes, sum-enc, length-pos}
use Rattle.wire.specs.Numbers.{kind_of}
use Rattle.wire.specs.Fixed.{fixed, number, length-fixed, number-fixed, fixed_number, number_small}
use Rattle.wire.specs.Written.{Content, Number, Payload, Four, Eight, Item, content_kind, written_content, written_item, GoodContent, GoodItem}
use Rattle.wire.specs.Places.{part, shown, item_of, join, behind, reach}
use Rattle.wire.specs.Reading.{judged, varint_at, renamed, capped_at, wire_of, key_of, key_at, within, number_from, payload_from, value_at, tagged}
use Rattle.wire.specs.Reading.{field_of, field_at}
use Rattle.wire.specs.declared.Refusal.TheVariants.{Truncated, InvalidVarint, TagOverflowed}
use Rattle.wire.specs.declared.WireType.{WireType}
use Rattle.wire.specs.declared.WireType.TheVariants as wire_type
use Rattle.wire.specs.declared.Value.{Value}
use Rattle.wire.specs.declared.Value.TheVariants as val
use Rattle.wire.specs.declared.Field.{Field}
use Rattle.wire.specs.declared.Key.{Key}
use Rattle.wire.specs.declared.VarintFound.{VarintFound}
use Rattle.wire.specs.declared.VarintFound.TheVariants as varint_found
use Rattle.wire.specs.declared.KeyFound.{KeyFound}
use Rattle.wire.specs.declared.KeyFound.TheVariants as key_found
use Rattle.wire.specs.declared.ValueFound.{ValueFound}
use Rattle.wire.specs.declared.ValueFound.TheVariants as value_found
use Rattle.wire.specs.declared.FieldFound.TheVariants as field_found

-- ---- bytes of parts

pub bytes_drop : (m : ℕ) (bs : List ℕ) → Bytes bs → Bytes (drop m bs)
bytes_drop m bs h i = rw (get_or-drop m bs i 0) (h (m + i))

pub bytes_take : (m : ℕ) (bs : List ℕ) → Bytes bs → Bytes (take m bs)
bytes_take zero bs h i = omega arith
bytes_take (suc m) [] h i = omega arith
bytes_take (suc m) (b ∷ bs) h zero = h 0
bytes_take (suc m) (b ∷ bs) h (suc i) = bytes_take m bs (λ j. h (suc j)) i

-- ---- varints

pub judged-got : (p : ℕ) (a : Sum) (v q : ℕ) → judged p a ≡ varint_found.Got v q → (n : ℕ) × (a ≡ Adds v n) × (q ≡ p + n) × (v < 2 ^ 64)
judged-got p (Adds w n) v q e = go (ltb w (2 ^ 64)) refl
  where
    go : (t : Bool) → ltb w (2 ^ 64) ≡ t → (m : ℕ) × (Adds w n ≡ Adds v m) × (q ≡ p + m) × (v < 2 ^ 64)
    go true t =
        let r : varint_found.Got w (p + n) ≡ varint_found.Got v q = simp t at e in
        let a : w ≡ v = cc in
        (n, cc, cc, omega (arith, ltb-true w (2 ^ 64) t))
    go false t =
        let r : varint_found.Refused InvalidVarint ≡ varint_found.Got v q = simp t at e in
        let z : ◌≡◌ {A = ℕ} 0 1 = cc in absurd (omega arith)
judged-got p Stops v q e = let z : ◌≡◌ {A = ℕ} 0 1 = cc in absurd (omega arith)

pub renamed-got : (e p : ℕ) (r : VarintFound) (v q : ℕ) → renamed e p r ≡ varint_found.Got v q → r ≡ varint_found.Got v q
renamed-got e p (varint_found.Got w n) v q h = h
renamed-got e p (varint_found.Refused r) v q h = let z : ◌≡◌ {A = ℕ} 0 1 = cc in absurd (omega arith)

-- ---- keys

pub kind-wire : (n : ℕ) → n < 4 → kind_of (wire_of n) ≡ n
kind-wire zero h = refl
kind-wire (suc zero) h = refl
kind-wire (suc (suc zero)) h = refl
kind-wire (suc (suc (suc zero))) h = refl
kind-wire (suc (suc (suc (suc n)))) h = let z : ◌≡◌ {A = ℕ} 0 1 = omega arith in absurd (omega arith)

pub wire-eight : (n : ℕ) → 3 ≤ n → wire_of n ≡ wire_type.SixtyFourBit
wire-eight zero h = absurd (omega arith)
wire-eight (suc zero) h = absurd (omega arith)
wire-eight (suc (suc zero)) h = absurd (omega arith)
wire-eight (suc (suc (suc n))) h = refl

-- what stands behind a key that was read
pub record Keyed (s : List ℕ) (p last : ℕ) (k : Key) (q : ℕ) : Type 0 where
  pub key : ℕ
  pub read : varint_at s p ≡ varint_found.Got key q
  pub tag : k.tag ≡ last + key / 4
  pub small : k.tag < 2 ^ 32
  pub wire : k.wire ≡ wire_of (key % 4)

keyed : (s : List ℕ) (p last : ℕ) (r : VarintFound) (k : Key) (q : ℕ)
    → ((v n : ℕ) → r ≡ varint_found.Got v n → varint_at s p ≡ varint_found.Got v n) → key_of last r ≡ key_found.Got k q → Keyed s p last k q
keyed s p last (varint_found.Got x n) k q f e = go (ltb (last + x / 4) (2 ^ 32)) refl
  where
    go : (b : Bool) → ltb (last + x / 4) (2 ^ 32) ≡ b → Keyed s p last k q
    go true b =
        let r : key_found.Got (record { tag = last + x / 4; wire = wire_of (x % 4) }) n ≡ key_found.Got k q = simp b at e in
        let i : n ≡ q = cc in
        let j : k ≡ record { tag = last + x / 4; wire = wire_of (x % 4) } = cc in
        rw j (record { key = x; read = f x n refl ∙ ap (varint_found.Got x) i; tag = refl; small = ltb-true (last + x / 4) (2 ^ 32) b; wire = refl })
    go false b =
        let r : key_found.Refused TagOverflowed ≡ key_found.Got k q = simp b at e in
        let z : ◌≡◌ {A = ℕ} 0 1 = cc in absurd (omega arith)
keyed s p last (varint_found.Refused r) k q f e = let z : ◌≡◌ {A = ℕ} 0 1 = cc in absurd (omega arith)

pub key-took : (s : List ℕ) (e p last : ℕ) (k : Key) (q : ℕ) → key_at s e p last ≡ key_found.Got k q → Keyed s p last k q
key-took s e p last k q h = keyed s p last (capped_at s e p) k q (λ v n. renamed-got e p (varint_at s p) v n) h

-- ---- values

pub within-got : (s : List ℕ) (e q : ℕ) (v w : Value) (r : ℕ) → within s e q v ≡ value_found.Got w r → (w ≡ v) × (r ≡ q) × (q ≤ length s) × (q ≤ e)
within-got s e q v w r h = go (leb q (length s)) refl (leb q e) refl
  where
    go : (a : Bool) → leb q (length s) ≡ a → (b : Bool) → leb q e ≡ b → (w ≡ v) × (r ≡ q) × (q ≤ length s) × (q ≤ e)
    go true a true b =
        let z : value_found.Got v q ≡ value_found.Got w r = simp (a, b) at h in
        (cc, cc, leb-true q (length s) a, leb-true q e b)
    go true a false b =
        let x : value_found.Refused Truncated ≡ value_found.Got w r = simp (a, b) at h in
        let z : ◌≡◌ {A = ℕ} 0 1 = cc in absurd (omega arith)
    go false a true b =
        let x : value_found.Refused Truncated ≡ value_found.Got w r = simp a at h in
        let z : ◌≡◌ {A = ℕ} 0 1 = cc in absurd (omega arith)
    go false a false b =
        let x : value_found.Refused Truncated ≡ value_found.Got w r = simp a at h in
        let z : ◌≡◌ {A = ℕ} 0 1 = cc in absurd (omega arith)

pub number-got : (r : VarintFound) (v : Value) (q : ℕ) → number_from r ≡ value_found.Got v q → (n : ℕ) × (r ≡ varint_found.Got n q) × (v ≡ val.Varint n)
number-got (varint_found.Got n i) v q e = let a : i ≡ q = cc in (n, ap (varint_found.Got n) a, cc)
number-got (varint_found.Refused r) v q e = let z : ◌≡◌ {A = ℕ} 0 1 = cc in absurd (omega arith)

pub payload-got : (s : List ℕ) (e : ℕ) (r : VarintFound) (v : Value) (q : ℕ) → payload_from s e r ≡ value_found.Got v q
    → (n : ℕ) × (i : ℕ) × (r ≡ varint_found.Got n i) × (v ≡ val.LengthDelimited i n) × (q ≡ i + n) × (q ≤ length s)
payload-got s e (varint_found.Got n i) v q h =
    let x = within-got s e (i + n) (val.LengthDelimited i n) v q h in
    let z = x.1 in
    (n, i, refl, x.0, z, omega (arith, x.2))
payload-got s e (varint_found.Refused r) v q h = let z : ◌≡◌ {A = ℕ} 0 1 = cc in absurd (omega arith)

-- the bytes that a value was read from are those that it is written as
abbrev pub Took : List ℕ → ℕ → ℕ → WireType → Content → Type 0
Took s p q w c = (part s p q ≡ written_content c) × GoodContent c × (content_kind c ≡ kind_of w)

pub content-kind-below : (c : Content) → content_kind c < 4
content-kind-below (Number v) = omega arith
content-kind-below (Payload p) = omega arith
content-kind-below (Four n) = omega arith
content-kind-below (Eight n) = omega arith

-- a value that shows c is read back where c is written
abbrev pub Back : List ℕ → ℕ → ℕ → Content → Type 0
Back s e p c = (v : Value) × (value_at s e p (wire_of (content_kind c)) ≡ value_found.Got v (p + length (written_content c))) × (shown s v ≡ c)

pub within-slice : (s : List ℕ) (e q : ℕ) (v : Value) → length s < q → within s e q v ≡ value_found.Refused Truncated
within-slice s e q v a = rw (lt-leb q (length s) a)

pub within_end : (s : List ℕ) (e q : ℕ) (v : Value) → q ≤ length s → e < q → within s e q v ≡ value_found.Refused Truncated
within_end s e q v a b = rw (le-leb q (length s) a, lt-leb q e b)

pub within-back : (s : List ℕ) (e q : ℕ) (v : Value) → q ≤ length s → q ≤ e → within s e q v ≡ value_found.Got v q
within-back s e q v a b = rw (le-leb q (length s) a, le-leb q e b)

-- ---- fields

tagged-got : (t : ℕ) (r : ValueFound) (f : Field) (q : ℕ) → tagged t r ≡ field_found.Got f q
    → (v : Value) × (r ≡ value_found.Got v q) × (f ≡ record { tag = t; value = v })
tagged-got t (value_found.Got v i) f q e = let a : i ≡ q = cc in (v, ap (value_found.Got v) a, cc)
tagged-got t (value_found.Refused r) f q e = let z : ◌≡◌ {A = ℕ} 0 1 = cc in absurd (omega arith)

-- the key and the value of a field that was read
pub record Found (s : List ℕ) (e p last : ℕ) (f : Field) (q : ℕ) : Type 0 where
  pub wire : WireType
  pub middle : ℕ
  pub key : Keyed s p last (record { tag = f.tag; wire = wire }) middle
  pub value : value_at s e middle wire ≡ value_found.Got f.value q

pub found : (s : List ℕ) (e p last : ℕ) (r : KeyFound) (f : Field) (q : ℕ)
    → ((k : Key) (i : ℕ) → r ≡ key_found.Got k i → Keyed s p last k i) → field_of s e r ≡ field_found.Got f q → Found s e p last f q
found s e p last (key_found.Got k i) f q g h =
    let x = tagged-got k.tag (value_at s e i k.wire) f q h in
    rw x.2 (record { wire = k.wire; middle = i; key = g k i refl; value = x.1 })
found s e p last (key_found.Refused r) f q g h = let z : ◌≡◌ {A = ℕ} 0 1 = cc in absurd (omega arith)
