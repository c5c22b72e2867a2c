-- One varint, one key, one value, one field: what is found under a cap, at place a + p of a slice and up to the end a + c, beside what is found at
-- place p of the c bytes cut out.
use Rattle.std.specs.Prelude.{ℕ, ◌+◌, ◌-◌, ◌/◌, ◌%◌, ◌^◌, ◌≤◌, ◌<◌, ◌≡◌, refl, Bool, true, false, List, ltb, leb, length, take, drop}
use Rattle.std.proofs.Common.{ap, ◌∙◌, sym, arith, lt-ltb, le-ltb, ltb-true, ltb-false, leb-true, leb-false, length-drop, drop-drop, take-take, length-take-le}
use Rattle.wire.specs.Varint.{sum}
use Rattle.wire.proofs.VarintLaws.{sum-takes}
use Rattle.wire.specs.Numbers.{number_of}
use Rattle.wire.specs.Fixed.{number}
use Rattle.wire.specs.Written.{Content, Payload}
use Rattle.wire.specs.Places.{shown, item_of}
use Rattle.wire.specs.Reading.{judged, varint_at, renamed, capped_at, wire_of, key_of, key_at, within, number_from, payload_from, value_at, tagged, field_of, field_at}
use Rattle.wire.specs.ReadingLaws.{within-got, within-slice, within_end, within-back, number-got, payload-got}
use Rattle.wire.proofs.ReadingLaws.{value-moves, field_found_lem}
use Rattle.wire.specs.declared.Refusal.{Refusal}
use Rattle.wire.specs.declared.Refusal.TheVariants.{Truncated, InvalidVarint, TagOverflowed}
use Rattle.wire.specs.declared.WireType.{WireType}
use Rattle.wire.specs.declared.WireType.TheVariants as wire_type
use Rattle.wire.specs.declared.Value.{Value}
use Rattle.wire.specs.declared.Value.TheVariants as val
use Rattle.wire.specs.declared.Field.{Field}
use Rattle.wire.specs.declared.VarintFound.{VarintFound}
use Rattle.wire.specs.declared.VarintFound.TheVariants as varint_found
use Rattle.wire.specs.declared.KeyFound.{KeyFound}
use Rattle.wire.specs.declared.KeyFound.TheVariants as key_found
use Rattle.wire.specs.declared.ValueFound.{ValueFound}
use Rattle.wire.specs.declared.ValueFound.TheVariants as value_found
use Rattle.wire.specs.declared.FieldFound.{FieldFound}
use Rattle.wire.specs.declared.FieldFound.TheVariants as field_found
use Rattle.message_early.specs.Cut.{drop-cut}
use Rattle.relay.specs.Prefix.{Prefixed, among, past, both}
use Rattle.relay.proofs.Prefix.{prefixed}
use Rattle.relay.specs.Pairs.{Founds, Keys, Values, Varints, invalid, invalid-past, keys_of, moved_field, moved_value, numbers_of, passes, refuse, renames, same, tagged-of, to-truncated, truncated, within-past}

module _ (s : List ℕ) (a c : ℕ) (inside : a + c ≤ length s) where
  abbrev cut : List ℕ
  cut = take c (drop a s)

  cut-length : length cut ≡ c
  cut-length = length-take-le c (drop a s) (omega (arith, length-drop a s))

  cut-drop : (p : ℕ) → drop p cut ≡ take (c - p) (drop (a + p) s)
  cut-drop p = drop-cut p c (drop a s) ∙ ap (take (c - p)) (drop-drop p a s)

  -- bytes of the cut are bytes of the slice
  cut-part : (p k : ℕ) → p + k ≤ c → take k (drop p cut) ≡ take k (drop (a + p) s)
  cut-part p k h = ap (take k) (cut-drop p) ∙ take-take k (c - p) (drop (a + p) s) (omega arith)

  -- ---- a varint, read from the slice as far as it goes

  judges : (p : ℕ) → Prefixed 8 (drop (a + p) s) (c - p)
      → Varints a c (judged (a + p) (sum 8 (drop (a + p) s))) (judged p (sum 8 (take (c - p) (drop (a + p) s))))
  judges p (among v n x y h) = go (ltb v (2 ^ 64)) refl
    where
      go : (b : Bool) → ltb v (2 ^ 64) ≡ b → Varints a c (judged (a + p) (sum 8 (drop (a + p) s))) (judged p (sum 8 (take (c - p) (drop (a + p) s))))
      go true b =
          let z : a + p + n ≡ a + (p + n) = omega arith in
          same v (p + n) (rw (x, b, z)) (rw (y, b)) (omega (arith, (sum-takes 8 (drop (a + p) s) v n x).0))
      go false b = refuse InvalidVarint InvalidVarint (rw (x, b)) (rw (y, b)) (invalid refl refl)
  judges p (past v n x y h) = go (ltb v (2 ^ 64)) refl
    where
      go : (b : Bool) → ltb v (2 ^ 64) ≡ b → Varints a c (judged (a + p) (sum 8 (drop (a + p) s))) (judged p (sum 8 (take (c - p) (drop (a + p) s))))
      go true b = passes v (a + p + n) (rw (x, b)) (rw y) (omega arith)
      go false b = refuse InvalidVarint Truncated (rw (x, b)) (rw y) (invalid-past refl refl)
  judges p (both x y) = refuse Truncated Truncated (rw x) (rw y) (truncated refl refl)

  varints : (p : ℕ) → Varints a c (varint_at s (a + p)) (varint_at cut p)
  unfolding varint_at
  varints p = rw (cut-drop p) (judges p (prefixed 8 (drop (a + p) s) (c - p)))

  cappeds : (p : ℕ) → Varints a c (capped_at s (a + c) (a + p)) (capped_at cut c p)
  cappeds p = renames a c p (varint_at s (a + p)) (varint_at cut p) (varints p)

  keys : (p last : ℕ) → Keys a c (key_at s (a + c) (a + p) last) (key_at cut c p last)
  keys p last = keys_of a c last (capped_at s (a + c) (a + p)) (capped_at cut c p) (cappeds p)

  -- ---- a value

  withins : (q : ℕ) (v : Value) → Values a c (within s (a + c) (a + q) (moved_value a v)) (within cut c q v)
  withins q v = go (leb q c) refl
    where
      go : (b : Bool) → leb q c ≡ b → Values a c (within s (a + c) (a + q) (moved_value a v)) (within cut c q v)
      go true b =
          let h : q ≤ c = leb-true q c b in
          same v q (within-back s (a + c) (a + q) (moved_value a v) (omega arith) (omega arith)) (within-back cut c q v (omega (arith, cut-length)) h) h
      go false b =
          let h : c < q = leb-false q c b in
          refuse Truncated Truncated (within-past s (a + c) (a + q) (moved_value a v) (omega arith)) (within-past cut c q v h) (truncated refl refl)

  payloads-of : (x y : VarintFound) → Varints a c x y → Values a c (payload_from s (a + c) x) (payload_from cut c y)
  payloads-of x y (same n q i j h) =
      let z : a + q + n ≡ a + (q + n) = omega arith in
      rw (i, j, z) (withins (q + n) (val.LengthDelimited q n))
  payloads-of x y (refuse r t i j w) = refuse r t (ap (payload_from s (a + c)) i) (ap (payload_from cut c) j) w
  payloads-of x y (passes n q i j h) =
      refuse Truncated Truncated (ap (payload_from s (a + c)) i ∙ within-past s (a + c) (q + n) (val.LengthDelimited q n) (omega arith))
      (ap (payload_from cut c) j) (truncated refl refl)

  -- k bytes as a number, of a value that has no place in it
  fixeds : (k p : ℕ) (made : ℕ → Value) → ((n : ℕ) → moved_value a (made n) ≡ made n)
      → Values a c (within s (a + c) (a + p + k) (made (number (take k (drop (a + p) s))))) (within cut c (p + k) (made (number (take k (drop p cut)))))
  fixeds k p made stays = go (leb (p + k) c) refl
    where
      go : (b : Bool) → leb (p + k) c ≡ b
          → Values a c (within s (a + c) (a + p + k) (made (number (take k (drop (a + p) s))))) (within cut c (p + k) (made (number (take k (drop p cut)))))
      go true b =
          let z : a + p + k ≡ a + (p + k) = omega arith in
          let v = made (number (take k (drop (a + p) s))) in
          rw (cut-part p k (leb-true (p + k) c b), z) (rw (stays (number (take k (drop (a + p) s)))) at (withins (p + k) v))
      go false b =
          let h : c < p + k = leb-false (p + k) c b in
          refuse Truncated Truncated (within-past s (a + c) (a + p + k) _ (omega arith)) (within-past cut c (p + k) _ h) (truncated refl refl)

  values : (p : ℕ) (w : WireType) → Values a c (value_at s (a + c) (a + p) w) (value_at cut c p w)
  values p wire_type.Varint = numbers_of a c (capped_at s (a + c) (a + p)) (capped_at cut c p) (cappeds p)
  values p wire_type.LengthDelimited = payloads-of (varint_at s (a + p)) (varint_at cut p) (varints p)
  values p wire_type.ThirtyTwoBit = fixeds 4 p val.ThirtyTwoBit (λ n. refl)
  values p wire_type.SixtyFourBit = fixeds 8 p val.SixtyFourBit (λ n. refl)

  -- behind a key that passed the end (rule C8): nothing there is before the end again
  values-past : (q : ℕ) (w : WireType) → a + c < q → Values a c (value_at s (a + c) q w) (value_found.Refused Truncated)
  values-past q w h =
      let z : a + (q - a) ≡ q = omega arith in
      go (value_at cut c (q - a) w) (rw z at (values (q - a) w))
    where
      go : (y : ValueFound) → Values a c (value_at s (a + c) q w) y → Values a c (value_at s (a + c) q w) (value_found.Refused Truncated)
      go y (same v i x j l) = absurd (omega (arith, (value-moves s (a + c) q w (moved_value a v) (a + i) x).0))
      go y (refuse r t i j p) = refuse r Truncated i refl (to-truncated (number_of r) (number_of t) p)
      go y (passes v i x j l) = passes v i x refl l

  -- ---- a field

  fields-of : (x y : KeyFound) → Keys a c x y → Founds a c (field_of s (a + c) x) (field_of cut c y)
  fields-of x y (same k q i j h) = rw (i, j) (tagged-of a c k.tag (value_at s (a + c) (a + q) k.wire) (value_at cut c q k.wire) (values q k.wire))
  fields-of x y (refuse r t i j w) = refuse r t (ap (field_of s (a + c)) i) (ap (field_of cut c) j) w
  fields-of x y (passes k q i j h) =
      rw (i, j) (tagged-of a c k.tag (value_at s (a + c) q k.wire) (value_found.Refused Truncated) (values-past q k.wire h))

  pub fields : (p last : ℕ) → Founds a c (field_at s (a + c) (a + p) last) (field_at cut c p last)
  unfolding field_at
  fields p last = fields-of (key_at s (a + c) (a + p) last) (key_at cut c p last) (keys p last)

  -- ---- what is shown of a field is the same bytes

  shown-moved : (p : ℕ) (w : WireType) (v : Value) (q : ℕ) → value_at cut c p w ≡ value_found.Got v q → shown s (moved_value a v) ≡ shown cut v
  shown-moved p wire_type.Varint v q h = rw (number-got (capped_at cut c p) v q h).2
  shown-moved p wire_type.LengthDelimited v q h =
      let x = payload-got cut c (varint_at cut p) v q h in
      rw x.3 (ap Payload (sym (cut-part x.1 x.0 (omega (arith, x.4, x.5, cut-length)))))
  shown-moved p wire_type.ThirtyTwoBit v q h = rw (within-got cut c (p + 4) (val.ThirtyTwoBit (number (take 4 (drop p cut)))) v q h).0
  shown-moved p wire_type.SixtyFourBit v q h = rw (within-got cut c (p + 8) (val.SixtyFourBit (number (take 8 (drop p cut)))) v q h).0

  pub item-moved : (p last : ℕ) (f : Field) (q : ℕ) → field_at cut c p last ≡ field_found.Got f q → item_of s (moved_field a f) ≡ item_of cut f
  item-moved p last f q h =
      let x = field_found_lem cut c p last f q h in
      ap (λ (y : Content). record { tag = f.tag; content = y }) (shown-moved x.middle x.wire f.value q x.value)
