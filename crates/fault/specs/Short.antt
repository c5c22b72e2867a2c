-- The short way: a refusal and its place tell where the read failed. It gives what is carried up field by field.
use Rattle.std.specs.Prelude.{ℕ, zero, suc, ◌+◌, ◌-◌, ◌/◌, ◌%◌, ◌^◌, ◌≤◌, ◌<◌, Bool, List, ◌⊎◌, leb, eqb, length, take, drop}
use Rattle.std.proofs.Math.Path.{◌≡◌, refl, ap, sym}
use Rattle.std.proofs.Common.{◌∙◌, inl, inr, arith, length-take-le}
use Rattle.std.proofs.Math.Bool.{true, false}
use borrow.Author.Tests.{lt-ltb, le-ltb, le-leb, lt-leb, eq-eqb, ne_eqb, ltb-true, ltb-false, leb-true, eqb-true, eqb-false}
use Rattle.std.proofs.Math.Dec.{ltb}
use Rattle.std.proofs.Math.ListN.{length-drop}
use Rattle.wire.specs.Choose.{choose}
use Rattle.wire.specs.Numbers.{number_of}
use Rattle.wire.specs.Varint.{encode, Sum, Adds, Stops, sum}
use Rattle.wire.specs.VarintLaws.{Bytes}
use Rattle.wire.proofs.VarintLaws.{enc-sum, sum-takes}
use Rattle.wire.proofs.VarintLength.{length-top}
use Rattle.wire.specs.VarintMeaning.{stops-out}
use Rattle.wire.specs.Faults.{looks, plain_fault}
use Rattle.wire.specs.Reading.{varint_at, renamed, capped_at, wire_of, key_of, key_at, within, number_from, payload_from, value_at, tagged}
use Rattle.wire.specs.Reading.{field_at, step_at, Message, Fields, in_front, reads_from, read_message}
use Rattle.wire.specs.Reading as reading
use Rattle.wire.specs.ReadingLaws.{bytes_drop, key-took}
use Rattle.wire.proofs.ReadingLaws.{field-moves, field_found_lem}
use Rattle.wire.specs.StepBack.{way, Steps, field, refused, end, past, steps}
use Rattle.wire.specs.StepLaws.{field-keyed, field-keyless}
use Rattle.wire.specs.Theorem.{turn-field, turn-refused, turn-past, turn_end}
use Rattle.wire.specs.declared.Fault.{Fault}
use Rattle.wire.specs.declared.Refusal.{Refusal}
use Rattle.wire.specs.declared.Refusal.TheVariants.{Truncated, InvalidVarint, TagOverflowed}
use Rattle.wire.specs.declared.WireType.{WireType}
use Rattle.wire.specs.declared.WireType.TheVariants.{Varint, LengthDelimited, ThirtyTwoBit, SixtyFourBit}
use Rattle.wire.specs.declared.Value.{Value}
use Rattle.wire.specs.declared.Field.{Field}
use Rattle.wire.specs.declared.Key.{Key}
use Rattle.wire.specs.declared.VarintFound.{VarintFound}
use Rattle.wire.specs.declared.VarintFound.TheVariants as varint_found
use Rattle.wire.specs.declared.KeyFound.{KeyFound}
use Rattle.wire.specs.declared.KeyFound.TheVariants as key_found
use Rattle.wire.specs.declared.ValueFound.{ValueFound}
use Rattle.wire.specs.declared.ValueFound.TheVariants as value_found
use Rattle.wire.specs.declared.FieldFound.{FieldFound}
use Rattle.wire.specs.declared.FieldFound.TheVariants as field_found
use Rattle.wire.specs.declared.Stepped.TheVariants as stepped
use Rattle.fault.specs.Fault.{begun_by, key_fault, value_fault, field_fault_of, field_fault, step_fault, faults_from, message_fault}

-- ---- the definitions

-- the bytes from place p on, of n, or nine
unfoldable pub up_to_nine : ℕ → ℕ → ℕ
up_to_nine n p = choose (leb (n - p) 9) (n - p) 9

abbrev pub short_fault : ℕ → ℕ → Fault
short_fault n p = record { place = p; bytes = up_to_nine n p }

-- of a key's refusal
unfoldable pub key_short : Refusal → ℕ → ℕ → Fault
key_short why n p = choose (eqb (number_of why) 3) (plain_fault p) (short_fault n p)

abbrev pub length_short : ℕ → ℕ → VarintFound → Fault
length_short n p (varint_found.Got v q) = plain_fault p
length_short n p (varint_found.Refused r) = short_fault n p

-- of a value
unfoldable pub value_short : List ℕ → ℕ → WireType → Fault
value_short s p Varint = short_fault (length s) p
value_short s p LengthDelimited = length_short (length s) p (varint_at s p)
value_short s p ThirtyTwoBit = plain_fault p
value_short s p SixtyFourBit = plain_fault p

-- behind a key: the value's; a field that can be read was the last one, and the loop's top names the place behind it
abbrev pub behind_key : List ℕ → ℕ → WireType → ValueFound → Fault
behind_key s q w (value_found.Got v n) = plain_fault n
behind_key s q w (value_found.Refused r) = value_short s q w

abbrev pub at_key : List ℕ → ℕ → Refusal → ℕ → KeyFound → Fault
at_key s e why p (key_found.Got k q) = behind_key s q k.wire (value_at s e q k.wire)
at_key s e why p (key_found.Refused r) = key_short why (length s) p

-- of a step refused at a place, or of a message refused with that place
unfoldable pub fault_at : List ℕ → ℕ → Refusal → ℕ → Fault
fault_at s e why p = choose (leb e p) (plain_fault p) (choose (eqb (number_of why) 3) (plain_fault p) (at_key s e why p (key_at s e p 0)))

-- ---- their cases

pub nine-few : (n p : ℕ) → n - p ≤ 9 → up_to_nine n p ≡ n - p
unfolding up_to_nine
nine-few n p h = rw (le-leb (n - p) 9 h)

pub nine-all : (n p : ℕ) → 9 ≤ n - p → up_to_nine n p ≡ 9
unfolding up_to_nine
nine-all n p h = go (leb (n - p) 9) refl
  where
    go : (t : Bool) → leb (n - p) 9 ≡ t → up_to_nine n p ≡ 9
    go true t = rw t (omega (arith, leb-true (n - p) 9 t))
    go false t = rw t

pub short-told : (n p k : ℕ) → k ≡ up_to_nine n p → ◌≡◌ {A = Fault} (record { place = p; bytes = k }) (short_fault n p)
short-told n p k e = ap (λ (m : ℕ). record { place = p; bytes = m }) e

module _ (why : Refusal) (n p : ℕ) where
  pub key-over : number_of why ≡ 3 → key_short why n p ≡ plain_fault p
  unfolding key_short
  key-over h = rw (eq-eqb (number_of why) 3 h)

  pub key-varint : (number_of why ≡ 3 → ⊥) → key_short why n p ≡ short_fault n p
  unfolding key_short
  key-varint h = rw (ne_eqb (number_of why) 3 h)

module _ (s : List ℕ) (e : ℕ) (why : Refusal) (p : ℕ) where
  pub at_top : e ≤ p → fault_at s e why p ≡ plain_fault p
  unfolding fault_at
  at_top h = rw (le-leb e p h)

  pub at-over : p < e → number_of why ≡ 3 → fault_at s e why p ≡ plain_fault p
  unfolding fault_at
  at-over h g = rw (lt-leb e p h, eq-eqb (number_of why) 3 g)

  pub at_field : p < e → (number_of why ≡ 3 → ⊥) → fault_at s e why p ≡ at_key s e why p (key_at s e p 0)
  unfolding fault_at
  at_field h g = rw (lt-leb e p h, ne_eqb (number_of why) 3 g)

-- ---- a varint that is refused

-- the two ways: it runs out, or nine bytes add up to too much
pub data Fails (s : List ℕ) (p : ℕ) : Type 0 where
  short : sum 8 (drop p s) ≡ Stops → length s - p ≤ 8 → looks s p ≡ length s - p → Fails s p
  large : (v : ℕ) → sum 8 (drop p s) ≡ Adds v 9 → 9 ≤ length s - p → looks s p ≡ 9 → Fails s p

-- a sum of 2^64 or more has nine bytes
nine-bytes : (bs : List ℕ) (v n : ℕ) → Bytes bs → sum 8 bs ≡ Adds v n → 2 ^ 64 ≤ v → n ≡ 9
unfolding encode
nine-bytes bs v n b e h =
    let t = sum-takes 8 bs v n e in
    let c : encode v ≡ take n bs = enc-sum 8 bs v n b e in
    sym (length-take-le n bs t.1) ∙ ap length (sym c) ∙ length-top v (omega arith)

module _ (s : List ℕ) (p : ℕ) where
  pub varint-fails : (r : Refusal) → Bytes s → varint_at s p ≡ varint_found.Refused r → Fails s p
  unfolding varint_at looks
  varint-fails r b h = go (sum 8 (drop p s)) refl
    where
      go : (a : Sum) → sum 8 (drop p s) ≡ a → Fails s p
      go (Adds v n) e = over (ltb v (2 ^ 64)) refl
        where
          over : (t : Bool) → ltb v (2 ^ 64) ≡ t → Fails s p
          over true t =
              let x : varint_found.Got v (p + n) ≡ varint_found.Refused r = simp (e, t) at h in
              let z : ◌≡◌ {A = ℕ} 0 1 = cc in absurd (omega arith)
          over false t =
              let nine = nine-bytes (drop p s) v n (bytes_drop p s b) e (ltb-false v (2 ^ 64) t) in
              let f : sum 8 (drop p s) ≡ Adds v 9 = e ∙ ap (Adds v) nine in
              large v f (omega (arith, (sum-takes 8 (drop p s) v 9 f).1, length-drop p s)) (rw f)
      go Stops e = short e (omega (arith, (stops-out 8 (drop p s) e).few, length-drop p s)) (rw e)

  -- it is Truncated or InvalidVarint
  pub varint-number : (r : Refusal) → varint_at s p ≡ varint_found.Refused r → number_of r ≤ 2
  unfolding varint_at
  varint-number r h = go (sum 8 (drop p s)) refl
    where
      go : (a : Sum) → sum 8 (drop p s) ≡ a → number_of r ≤ 2
      go (Adds v n) e = over (ltb v (2 ^ 64)) refl
        where
          over : (t : Bool) → ltb v (2 ^ 64) ≡ t → number_of r ≤ 2
          over true t =
              let x : varint_found.Got v (p + n) ≡ varint_found.Refused r = simp (e, t) at h in
              let z : ◌≡◌ {A = ℕ} 0 1 = cc in absurd (omega arith)
          over false t =
              let x : varint_found.Refused InvalidVarint ≡ varint_found.Refused r = simp (e, t) at h in
              let y : r ≡ InvalidVarint = cc in
              rw y (omega arith)
      go Stops e =
          let x : varint_found.Refused Truncated ≡ varint_found.Refused r = simp e at h in
          let y : r ≡ Truncated = cc in
          rw y (omega arith)

  -- A REFUSED VARINT LOOKED AT THE BYTES UP TO THE SLICE'S END, OR AT NINE: whichever is less
  pub looks-min : (r : Refusal) → Bytes s → varint_at s p ≡ varint_found.Refused r → looks s p ≡ up_to_nine (length s) p
  looks-min r b h = go (varint-fails r b h)
    where
      go : Fails s p → looks s p ≡ up_to_nine (length s) p
      go (short x l f) = f ∙ sym (nine-few (length s) p (omega arith))
      go (large v x l f) = f ∙ sym (nine-all (length s) p l)

  -- read under an end it is refused too, and read so it is refused without one
  pub capped_refused : (e : ℕ) (r : Refusal) → varint_at s p ≡ varint_found.Refused r → (x : Refusal) × (capped_at s e p ≡ varint_found.Refused x)
  capped_refused e r h = (choose (ltb e (p + 9)) Truncated r, ap (renamed e p) h)

  pub refused-capped : (e : ℕ) (r : Refusal) → capped_at s e p ≡ varint_found.Refused r
      → (x : Refusal) × (varint_at s p ≡ varint_found.Refused x) × (number_of r ≤ 2)
  refused-capped e r h = go (varint_at s p) refl
    where
      go : (o : VarintFound) → varint_at s p ≡ o → (x : Refusal) × (varint_at s p ≡ varint_found.Refused x) × (number_of r ≤ 2)
      go (varint_found.Got v q) o =
          let x : varint_found.Got v q ≡ varint_found.Refused r = sym (ap (renamed e p) o) ∙ h in
          let z : ◌≡◌ {A = ℕ} 0 1 = cc in absurd (omega arith)
      go (varint_found.Refused x) o = (x, o, named (ltb e (p + 9)) refl)
        where
          named : (t : Bool) → ltb e (p + 9) ≡ t → number_of r ≤ 2
          named true t =
              let y : varint_found.Refused Truncated ≡ varint_found.Refused r = simp t at (sym (ap (renamed e p) o) ∙ h) in
              let z : r ≡ Truncated = cc in
              rw z (omega arith)
          named false t =
              let y : varint_found.Refused x ≡ varint_found.Refused r = simp t at (sym (ap (renamed e p) o) ∙ h) in
              let z : r ≡ x = cc in
              rw z (varint-number x o)

  -- what is refused because of its varint
  pub begun-refused : (r : Refusal) → Bytes s → varint_at s p ≡ varint_found.Refused r → begun_by s p (varint_at s p) ≡ short_fault (length s) p
  begun-refused r b h = ap (begun_by s p) h ∙ ap (λ (n : ℕ). record { place = p; bytes = n }) (looks-min r b h)

-- ---- a key that is refused

-- its varint is, or its tag is too large
pub data KeyFails (s : List ℕ) (p : ℕ) (r : Refusal) : Type 0 where
  varint : (x : Refusal) → varint_at s p ≡ varint_found.Refused x → number_of r ≤ 2 → KeyFails s p r
  tag : (v q : ℕ) → varint_at s p ≡ varint_found.Got v q → number_of r ≡ 3 → KeyFails s p r

module _ (s : List ℕ) (e p last : ℕ) (r : Refusal) (h : key_at s e p last ≡ key_found.Refused r) where
  pub key-fails : KeyFails s p r
  key-fails = go (varint_at s p) refl
    where
      go : (o : VarintFound) → varint_at s p ≡ o → KeyFails s p r
      go (varint_found.Got v q) o = over (ltb (last + v / 4) (2 ^ 32)) refl
        where
          g : key_of last (varint_found.Got v q) ≡ key_found.Refused r
          g = sym (ap (λ (x : VarintFound). key_of last (renamed e p x)) o) ∙ h

          over : (t : Bool) → ltb (last + v / 4) (2 ^ 32) ≡ t → KeyFails s p r
          over true t =
              let x : key_found.Got (record { tag = last + v / 4; wire = wire_of (v % 4) }) q ≡ key_found.Refused r = simp t at g in
              let z : ◌≡◌ {A = ℕ} 0 1 = cc in absurd (omega arith)
          over false t =
              let x : key_found.Refused TagOverflowed ≡ key_found.Refused r = simp t at g in
              let y : r ≡ TagOverflowed = cc in
              tag v q o (ap number_of y)
      go (varint_found.Refused x) o =
          let y = refused-capped s p e (choose (ltb e (p + 9)) Truncated x) (ap (renamed e p) o) in
          let w : key_found.Refused (choose (ltb e (p + 9)) Truncated x) ≡ key_found.Refused r =
          sym (ap (λ (z : VarintFound). key_of last (renamed e p z)) o) ∙ h in
          let z : r ≡ choose (ltb e (p + 9)) Truncated x = cc in
          varint x o (omega (arith, ap number_of z, y.2))

  pub key-short : Bytes s → key_fault s p ≡ key_short r (length s) p
  unfolding key_fault
  key-short b = go key-fails
    where
      go : KeyFails s p r → begun_by s p (varint_at s p) ≡ key_short r (length s) p
      go (varint x o n) = begun-refused s p x b o ∙ sym (key-varint r (length s) p (λ i. omega arith))
      go (tag v q o n) = ap (begun_by s p) o ∙ sym (key-over r (length s) p n)

-- a key that is read is read behind tag 0 too, with its wire type
pub key-again : (s : List ℕ) (e p last : ℕ) (k : Key) (q : ℕ) → key_at s e p last ≡ key_found.Got k q
    → (j : Key) × (key_at s e p 0 ≡ key_found.Got j q) × (j.wire ≡ k.wire)
key-again s e p last k q h =
    let w = key-took s e p last k q h in
    let v = w.key in (
      record { tag = 0 + v / 4; wire = wire_of (v % 4) },
      ap (λ (x : VarintFound). key_of 0 (renamed e p x)) w.read ∙ simp (lt-ltb (0 + v / 4) (2 ^ 32) (omega (arith, w.tag, w.small))),
      sym w.wire,
    )

-- ---- a value that is refused

module _ (s : List ℕ) (e p : ℕ) where
  pub number-refused : (r : Refusal) → number_from (capped_at s e p) ≡ value_found.Refused r
      → (x : Refusal) × (varint_at s p ≡ varint_found.Refused x) × (number_of r ≤ 2)
  number-refused r h = go (capped_at s e p) refl
    where
      go : (o : VarintFound) → capped_at s e p ≡ o → (x : Refusal) × (varint_at s p ≡ varint_found.Refused x) × (number_of r ≤ 2)
      go (varint_found.Got v q) o =
          let x : value_found.Got _ q ≡ value_found.Refused r = sym (ap number_from o) ∙ h in
          let z : ◌≡◌ {A = ℕ} 0 1 = cc in absurd (omega arith)
      go (varint_found.Refused x) o =
          let y : value_found.Refused x ≡ value_found.Refused r = sym (ap number_from o) ∙ h in
          let z : x ≡ r = cc in
          refused-capped s p e r (o ∙ ap varint_found.Refused z)

  within-number : (q : ℕ) (v : Value) (r : Refusal) → within s e q v ≡ value_found.Refused r → number_of r ≤ 2
  within-number q v r h = go (leb q (length s)) refl (leb q e) refl
    where
      cut : value_found.Refused Truncated ≡ value_found.Refused r → number_of r ≤ 2
      cut x = let y : r ≡ Truncated = cc in rw y (omega arith)

      go : (a : Bool) → leb q (length s) ≡ a → (b : Bool) → leb q e ≡ b → number_of r ≤ 2
      go true a true b =
          let x : value_found.Got v q ≡ value_found.Refused r = simp (a, b) at h in
          let z : ◌≡◌ {A = ℕ} 0 1 = cc in absurd (omega arith)
      go true a false b = cut (simp (a, b) at h)
      go false a b x = cut (simp a at h)

  payload-number : (o : VarintFound) (r : Refusal) → varint_at s p ≡ o → payload_from s e o ≡ value_found.Refused r → number_of r ≤ 2
  payload-number (varint_found.Got n q) r o h = within-number (q + n) _ r h
  payload-number (varint_found.Refused x) r o h = let y : x ≡ r = cc in omega (arith, ap number_of y, varint-number s p x o)

  -- it is Truncated or InvalidVarint
  pub value-number : (w : WireType) (r : Refusal) → value_at s e p w ≡ value_found.Refused r → number_of r ≤ 2
  value-number Varint r h = (number-refused r h).2
  value-number LengthDelimited r h = payload-number (varint_at s p) r refl h
  value-number ThirtyTwoBit r h = within-number (p + 4) _ r h
  value-number SixtyFourBit r h = within-number (p + 8) _ r h

  pub value-short : (w : WireType) (r : Refusal) → Bytes s → value_at s e p w ≡ value_found.Refused r → value_fault s p w ≡ value_short s p w
  unfolding value_fault value_short
  value-short Varint r b h =
      let x = number-refused r h in
      ap (λ (n : ℕ). record { place = p; bytes = n }) (looks-min s p x.0 b x.1)
  value-short LengthDelimited r b h = go (varint_at s p) refl
    where
      go : (o : VarintFound) → varint_at s p ≡ o → begun_by s p (varint_at s p) ≡ length_short (length s) p (varint_at s p)
      go (varint_found.Got v q) o = rw o
      go (varint_found.Refused x) o = begun-refused s p x b o ∙ sym (ap (length_short (length s) p) o)
  value-short ThirtyTwoBit r b h = refl
  value-short SixtyFourBit r b h = refl

-- ---- a field that is refused, and one that was read

-- ---- a message

-- where the loop stands: at its start, or behind a field that began at m
abbrev pub Behind : List ℕ → ℕ → ℕ → ℕ → Type 0
Behind s e m p = (m ≡ p) ⊎ ((l : ℕ) × (f : Field) × (m < e) × (field_at s e m l ≡ field_found.Got f p))

pub refused-in-front : (f : Field) (m : Message) (r : Refusal) (p : ℕ) → in_front f m ≡ reading.Refused r p → m ≡ reading.Refused r p
refused-in-front f (Fields fs) r p h = let z : ◌≡◌ {A = ℕ} 0 1 = cc in absurd (omega arith)
refused-in-front f (reading.Refused x q) r p h = h

-- the loop's top refuses with the place m
pub ended-refused : (s : List ℕ) (e m p last k : ℕ) (r : Refusal) (x : ℕ) → e ≤ p → reads_from k s e m p last ≡ reading.Refused r x
    → (e < p) × (r ≡ Truncated) × (x ≡ m)
ended-refused s e m p last k r x l h = go (eqb p e) refl
  where
    go : (t : Bool) → eqb p e ≡ t → (e < p) × (r ≡ Truncated) × (x ≡ m)
    go true t =
        let y : Fields _ ≡ reading.Refused r x = sym (turn_end s e m p last k (eqb-true p e t)) ∙ h in
        let z : ◌≡◌ {A = ℕ} 0 1 = cc in absurd (omega arith)
    go false t =
        let i : e < p = omega (arith, eqb-false p e t) in
        let y : reading.Refused Truncated m ≡ reading.Refused r x = sym (turn-past s e m p last k i) ∙ h in
        (i, cc, cc)

-- a turn of the loop
module _ (s : List ℕ) (e p last : ℕ) where
  pub faults-field : (k : ℕ) (f : Field) (q : ℕ) → p < e → field_at s e p last ≡ field_found.Got f q → faults_from (suc k) s e p last ≡ faults_from k s e q f.tag
  faults-field k f q l h = rw (lt-ltb p e l, h)

  pub faults-refused : (k : ℕ) (r : Refusal) → p < e → field_at s e p last ≡ field_found.Refused r → faults_from (suc k) s e p last ≡ field_fault s e p last
  faults-refused k r l h = rw (lt-ltb p e l, h)

  pub faults-ended : (k : ℕ) → e ≤ p → faults_from k s e p last ≡ plain_fault p
  faults-ended zero l = refl
  faults-ended (suc k) l = rw (le-ltb p e l)
