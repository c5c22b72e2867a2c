-- One varint, one key, one value, one field: what is found under a cap, at place a + p of a slice and up to the end a + c, beside what is found at
-- place p of the c bytes cut out.
use Rattle.std.specs.Prelude.{ℕ, ◌+◌, ◌-◌, ◌/◌, ◌%◌, ◌^◌, ◌≤◌, ◌<◌, ◌≡◌, refl, Bool, true, false, List, ltb, leb, length, take, drop}
use Rattle.std.proofs.Common.{ap, ◌∙◌, sym, arith, lt-ltb, le-ltb, ltb-true, ltb-false, leb-true, leb-false, length-drop, drop-drop, take-take, length-take-le}
use Rattle.wire.specs.Varint.{sum}
use Rattle.wire.proofs.VarintLaws.{sum-takes}
use Rattle.wire.specs.Numbers.{number_of}
use Rattle.wire.specs.Fixed.{number}
use Rattle.wire.specs.Written.{Content, Payload}
use Rattle.wire.specs.Places.{shown, item_of}
use Rattle.wire.specs.Reading.{judged, varint_at, renamed, capped_at, wire_of, key_of, key_at, within, number_from, payload_from, value_at, tagged, field_of, field_at}
use Rattle.wire.specs.ReadingLaws.{within-got, within-slice, within_end, within-back, number-got, payload-got}
use Rattle.wire.proofs.ReadingLaws.{value-moves, field_found_lem}
use Rattle.wire.specs.declared.Refusal.{Refusal}
use Rattle.wire.specs.declared.Refusal.TheVariants.{Truncated, InvalidVarint, TagOverflowed}
use Rattle.wire.specs.declared.WireType.{WireType}
use Rattle.wire.specs.declared.WireType.TheVariants as wire_type
use Rattle.wire.specs.declared.Value.{Value}
use Rattle.wire.specs.declared.Value.TheVariants as val
use Rattle.wire.specs.declared.Field.{Field}
use Rattle.wire.specs.declared.VarintFound.{VarintFound}
use Rattle.wire.specs.declared.VarintFound.TheVariants as varint_found
use Rattle.wire.specs.declared.KeyFound.{KeyFound}
use Rattle.wire.specs.declared.KeyFound.TheVariants as key_found
use Rattle.wire.specs.declared.ValueFound.{ValueFound}
use Rattle.wire.specs.declared.ValueFound.TheVariants as value_found
use Rattle.wire.specs.declared.FieldFound.{FieldFound}
use Rattle.wire.specs.declared.FieldFound.TheVariants as field_found
use Rattle.message_early.specs.Cut.{drop-cut}
use Rattle.relay.specs.Prefix.{Prefixed, among, past, both}

-- ---- what moves, and what the names may be

-- a payload's start moves by the start; nothing else of a value does
abbrev pub moved_value : ℕ → Value → Value
moved_value a (val.Varint v) = val.Varint v
moved_value a (val.LengthDelimited p n) = val.LengthDelimited (a + p) n
moved_value a (val.ThirtyTwoBit v) = val.ThirtyTwoBit v
moved_value a (val.SixtyFourBit v) = val.SixtyFourBit v

abbrev pub moved_field : ℕ → Field → Field
moved_field a f = record { tag = f.tag; value = moved_value a f.value }

-- the numbers of two refusals (rule R1), of the cap and of the cut: the same, or the cut's is Truncated
pub data Pair (cap cut : ℕ) : Type 0 where
  truncated : cap ≡ 1 → cut ≡ 1 → Pair cap cut
  invalid : cap ≡ 2 → cut ≡ 2 → Pair cap cut
  overflowed : cap ≡ 3 → cut ≡ 3 → Pair cap cut
  invalid-past : cap ≡ 2 → cut ≡ 1 → Pair cap cut
  overflowed-past : cap ≡ 3 → cut ≡ 1 → Pair cap cut

-- what is found under the cap and in the cut: the same before the end; two refusals; or something past the end, where the cut is Truncated
pub data Beside {A F : Type 0} (got : A → ℕ → F) (refused : Refusal → F) (moved : A → A) (a c : ℕ) (cap cut : F) : Type 0 where
  same : (x : A) (q : ℕ) → cap ≡ got (moved x) (a + q) → cut ≡ got x q → q ≤ c → Beside got refused moved a c cap cut
  refuse : (r t : Refusal) → cap ≡ refused r → cut ≡ refused t → Pair (number_of r) (number_of t) → Beside got refused moved a c cap cut
  passes : (x : A) (q : ℕ) → cap ≡ got x q → cut ≡ refused Truncated → a + c < q → Beside got refused moved a c cap cut

abbrev pub Varints : ℕ → ℕ → VarintFound → VarintFound → Type 0
Varints a c = Beside varint_found.Got varint_found.Refused (λ v. v) a c

abbrev pub Keys : ℕ → ℕ → KeyFound → KeyFound → Type 0
Keys a c = Beside key_found.Got key_found.Refused (λ k. k) a c

abbrev pub Values : ℕ → ℕ → ValueFound → ValueFound → Type 0
Values a c = Beside value_found.Got value_found.Refused (moved_value a) a c

abbrev pub Founds : ℕ → ℕ → FieldFound → FieldFound → Type 0
Founds a c = Beside field_found.Got field_found.Refused (moved_field a) a c

-- where the cap is refused, the cut may be Truncated
pub to-truncated : (x y : ℕ) → Pair x y → Pair x 1
to-truncated x y (truncated i j) = truncated i refl
to-truncated x y (invalid i j) = invalid-past i refl
to-truncated x y (overflowed i j) = overflowed-past i refl
to-truncated x y (invalid-past i j) = invalid-past i refl
to-truncated x y (overflowed-past i j) = overflowed-past i refl

-- ---- from one kind of read to the next

module _ (a c : ℕ) where
  -- rule C3: the nine bytes pass both ends, or neither
  pub renames : (p : ℕ) (x y : VarintFound) → Varints a c x y → Varints a c (renamed (a + c) (a + p) x) (renamed c p y)
  renames p x y (same v q i j h) = same v q (ap (renamed (a + c) (a + p)) i) (ap (renamed c p) j) h
  renames p x y (refuse r t i j w) = go (ltb c (p + 9)) refl
    where
      go : (b : Bool) → ltb c (p + 9) ≡ b → Varints a c (renamed (a + c) (a + p) x) (renamed c p y)
      go true b =
          let l : a + c < a + p + 9 = omega (arith, ltb-true c (p + 9) b) in
          refuse Truncated Truncated (rw (i, lt-ltb (a + c) (a + p + 9) l)) (rw (j, b)) (truncated refl refl)
      go false b =
          let l : a + p + 9 ≤ a + c = omega (arith, ltb-false c (p + 9) b) in
          refuse r t (rw (i, le-ltb (a + c) (a + p + 9) l)) (rw (j, b)) w
  renames p x y (passes v q i j h) = go (ltb c (p + 9)) refl
    where
      go : (b : Bool) → ltb c (p + 9) ≡ b → Varints a c (renamed (a + c) (a + p) x) (renamed c p y)
      go true b = passes v q (ap (renamed (a + c) (a + p)) i) (rw (j, b)) h
      go false b = passes v q (ap (renamed (a + c) (a + p)) i) (rw (j, b)) h

  pub keys_of : (last : ℕ) (x y : VarintFound) → Varints a c x y → Keys a c (key_of last x) (key_of last y)
  keys_of last x y (same k q i j h) = go (ltb (last + k / 4) (2 ^ 32)) refl
    where
      go : (b : Bool) → ltb (last + k / 4) (2 ^ 32) ≡ b → Keys a c (key_of last x) (key_of last y)
      go true b = same (record { tag = last + k / 4; wire = wire_of (k % 4) }) q (rw (i, b)) (rw (j, b)) h
      go false b = refuse TagOverflowed TagOverflowed (rw (i, b)) (rw (j, b)) (overflowed refl refl)
  keys_of last x y (refuse r t i j w) = refuse r t (ap (key_of last) i) (ap (key_of last) j) w
  keys_of last x y (passes k q i j h) = go (ltb (last + k / 4) (2 ^ 32)) refl
    where
      go : (b : Bool) → ltb (last + k / 4) (2 ^ 32) ≡ b → Keys a c (key_of last x) (key_of last y)
      go true b = passes (record { tag = last + k / 4; wire = wire_of (k % 4) }) q (rw (i, b)) (ap (key_of last) j) h
      go false b = refuse TagOverflowed Truncated (rw (i, b)) (ap (key_of last) j) (overflowed-past refl refl)

  pub numbers_of : (x y : VarintFound) → Varints a c x y → Values a c (number_from x) (number_from y)
  numbers_of x y (same v q i j h) = same (val.Varint v) q (ap number_from i) (ap number_from j) h
  numbers_of x y (refuse r t i j w) = refuse r t (ap number_from i) (ap number_from j) w
  numbers_of x y (passes v q i j h) = passes (val.Varint v) q (ap number_from i) (ap number_from j) h

  pub tagged-of : (tag : ℕ) (x y : ValueFound) → Values a c x y → Founds a c (tagged tag x) (tagged tag y)
  tagged-of tag x y (same v q i j h) = same (record { tag = tag; value = v }) q (ap (tagged tag) i) (ap (tagged tag) j) h
  tagged-of tag x y (refuse r t i j w) = refuse r t (ap (tagged tag) i) (ap (tagged tag) j) w
  tagged-of tag x y (passes v q i j h) = passes (record { tag = tag; value = v }) q (ap (tagged tag) i) (ap (tagged tag) j) h

-- bytes that pass the end are refused, in the slice or not
pub within-past : (s : List ℕ) (e q : ℕ) (v : Value) → e < q → within s e q v ≡ value_found.Refused Truncated
within-past s e q v h = go (leb q (length s)) refl
  where
    go : (b : Bool) → leb q (length s) ≡ b → within s e q v ≡ value_found.Refused Truncated
    go true b = within_end s e q v (leb-true q (length s) b) h
    go false b = within-slice s e q v (leb-false q (length s) b)

-- ---- the bytes cut out
