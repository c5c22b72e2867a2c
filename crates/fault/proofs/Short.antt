-- The short way: a refusal and its place tell where the read failed. It gives what is carried up field by field.
use Rattle.std.specs.Prelude.{ℕ, zero, suc, ◌+◌, ◌-◌, ◌/◌, ◌%◌, ◌^◌, ◌≤◌, ◌<◌, Bool, List, ◌⊎◌, leb, eqb, length, take, drop}
use Rattle.std.proofs.Math.Path.{◌≡◌, refl, ap, sym}
use Rattle.std.proofs.Common.{◌∙◌, inl, inr, arith, length-take-le}
use Rattle.std.proofs.Math.Bool.{true, false}
use borrow.Author.Tests.{lt-ltb, le-ltb, le-leb, lt-leb, eq-eqb, ne_eqb, ltb-true, ltb-false, leb-true, eqb-true, eqb-false}
use Rattle.std.proofs.Math.Dec.{ltb}
use Rattle.std.proofs.Math.ListN.{length-drop}
use Rattle.wire.specs.Choose.{choose}
use Rattle.wire.specs.Numbers.{number_of}
use Rattle.wire.specs.Varint.{encode, Sum, Adds, Stops, sum}
use Rattle.wire.specs.VarintLaws.{Bytes}
use Rattle.wire.proofs.VarintLaws.{enc-sum, sum-takes}
use Rattle.wire.proofs.VarintLength.{length-top}
use Rattle.wire.specs.VarintMeaning.{stops-out}
use Rattle.wire.specs.Faults.{looks, plain_fault}
use Rattle.wire.specs.Reading.{varint_at, renamed, capped_at, wire_of, key_of, key_at, within, number_from, payload_from, value_at, tagged}
use Rattle.wire.specs.Reading.{field_at, step_at, Message, Fields, in_front, reads_from, read_message}
use Rattle.wire.specs.Reading as reading
use Rattle.wire.specs.ReadingLaws.{bytes_drop, key-took}
use Rattle.wire.proofs.ReadingLaws.{field-moves, field_found_lem}
use Rattle.wire.specs.StepBack.{way, Steps, field, refused, end, past, steps}
use Rattle.wire.specs.StepLaws.{field-keyed, field-keyless}
use Rattle.wire.specs.Theorem.{turn-field, turn-refused, turn-past, turn_end}
use Rattle.wire.specs.declared.Fault.{Fault}
use Rattle.wire.specs.declared.Refusal.{Refusal}
use Rattle.wire.specs.declared.Refusal.TheVariants.{Truncated, InvalidVarint, TagOverflowed}
use Rattle.wire.specs.declared.WireType.{WireType}
use Rattle.wire.specs.declared.WireType.TheVariants.{Varint, LengthDelimited, ThirtyTwoBit, SixtyFourBit}
use Rattle.wire.specs.declared.Value.{Value}
use Rattle.wire.specs.declared.Field.{Field}
use Rattle.wire.specs.declared.Key.{Key}
use Rattle.wire.specs.declared.VarintFound.{VarintFound}
use Rattle.wire.specs.declared.VarintFound.TheVariants as varint_found
use Rattle.wire.specs.declared.KeyFound.{KeyFound}
use Rattle.wire.specs.declared.KeyFound.TheVariants as key_found
use Rattle.wire.specs.declared.ValueFound.{ValueFound}
use Rattle.wire.specs.declared.ValueFound.TheVariants as value_found
use Rattle.wire.specs.declared.FieldFound.{FieldFound}
use Rattle.wire.specs.declared.FieldFound.TheVariants as field_found
use Rattle.wire.specs.declared.Stepped.TheVariants as stepped
use Rattle.fault.specs.Fault.{begun_by, key_fault, value_fault, field_fault_of, field_fault, step_fault, faults_from, message_fault}
use Rattle.fault.specs.Short.{Behind, KeyFails, at-over, at_field, at_key, at_top, behind_key, capped_refused, ended-refused, fault_at, faults-ended, faults-field, faults-refused, key-again, key-fails, key-over, key-short, key_short, refused-in-front, tag, value-number, value-short, varint}

module _ (s : List ℕ) (e p last : ℕ) where
  pub field-short : (r : Refusal) → Bytes s → p < e → field_at s e p last ≡ field_found.Refused r → field_fault s e p last ≡ fault_at s e r p
  unfolding field_fault
  field-short r b l h = go (key_at s e p last) refl
    where
      valued : (k : Key) (q : ℕ) → key_at s e p last ≡ key_found.Got k q → value_at s e q k.wire ≡ value_found.Refused r
          → field_fault_of s p (key_at s e p last) ≡ fault_at s e r p
      valued k q o y =
          let j = key-again s e p last k q o in
          let n = value-number s e q k.wire r y in
          ap (field_fault_of s p) o
          ∙ value-short s e q k.wire r b y
          ∙ sym
          (at_field s e r p l (λ i. omega (arith, n, i))
          ∙ ap (at_key s e r p) j.1
          ∙ ap (λ (w : WireType). behind_key s q w (value_at s e q w)) j.2
          ∙ ap (behind_key s q k.wire) y)

      keyed : (x : Refusal) → key_at s e p last ≡ key_found.Refused x → x ≡ r → KeyFails s p x → key_short r (length s) p ≡ fault_at s e r p
      keyed x o y (varint z i n) =
          let c = capped_refused s p e z i in
          sym (at_field s e r p l (λ f. omega (arith, ap number_of y, n, f)) ∙ ap (λ (v : VarintFound). at_key s e r p (key_of 0 v)) c.1)
      keyed x o y (tag v q i n) = let m : number_of r ≡ 3 = ap number_of (sym y) ∙ n in key-over r (length s) p m ∙ sym (at-over s e r p l m)

      told : (k : Key) (q : ℕ) → key_at s e p last ≡ key_found.Got k q → (v : ValueFound) → value_at s e q k.wire ≡ v
          → field_fault_of s p (key_at s e p last) ≡ fault_at s e r p
      told k q o (value_found.Got v n) y =
          let x : field_found.Got (record { tag = k.tag; value = v }) n ≡ field_found.Refused r =
          sym (field-keyed s e p last o ∙ ap (tagged k.tag) y) ∙ h in
          let z : ◌≡◌ {A = ℕ} 0 1 = cc in absurd (omega arith)
      told k q o (value_found.Refused x) y =
          let i : field_found.Refused x ≡ field_found.Refused r = sym (field-keyed s e p last o ∙ ap (tagged k.tag) y) ∙ h in
          let z : x ≡ r = cc in
          valued k q o (y ∙ ap value_found.Refused z)

      go : (o : KeyFound) → key_at s e p last ≡ o → field_fault_of s p (key_at s e p last) ≡ fault_at s e r p
      go (key_found.Got k q) o = told k q o (value_at s e q k.wire) refl
      go (key_found.Refused x) o =
          let i : field_found.Refused x ≡ field_found.Refused r = sym (field-keyless s e p last o) ∙ h in
          let y : x ≡ r = cc in
          ap (field_fault_of s p) o
          ∙ key-short s e p last x o b
          ∙ ap (λ (z : Refusal). key_short z (length s) p) y
          ∙ keyed x o y (key-fails s e p last x o)

  -- behind a field that was read: the place reached
  read_short : (r : Refusal) (f : Field) (q : ℕ) → p < e → number_of r ≤ 2 → field_at s e p last ≡ field_found.Got f q → fault_at s e r p ≡ plain_fault q
  read_short r f q l n h =
      let x = field_found_lem s e p last f q h in
      let k = x.key in
      let w = x.wire in
      let v = k.key in
      let j : key_of 0 (varint_found.Got v x.middle) ≡ key_found.Got (record { tag = 0 + v / 4; wire = wire_of (v % 4) }) x.middle =
      simp (lt-ltb (0 + v / 4) (2 ^ 32) (omega (arith, k.tag, k.small))) in
      at_field s e r p l (λ i. omega (arith, n, i))
      ∙ ap (λ (y : VarintFound). at_key s e r p (key_of 0 (renamed e p y))) k.read
      ∙ ap (at_key s e r p) j
      ∙ ap (λ (y : WireType). behind_key s x.middle y (value_at s e x.middle y)) (sym k.wire)
      ∙ ap (behind_key s x.middle w) x.value

  -- ---- a step

  -- A STEP THAT IS REFUSED: the short way is the same
  pub step-short : (r : Refusal) → Bytes s → step_at s e p last ≡ stepped.Refused r → step_fault s e p last ≡ fault_at s e r p
  unfolding step_fault
  step-short r b h = go (steps s e p last)
    where
      go : Steps s e p last (step_at s e p last) → step_fault s e p last ≡ fault_at s e r p
      go (field f q l x y) = absurd (omega (arith, ap way (sym y ∙ h)))
      go (refused x l y z) =
          let i : stepped.Refused x ≡ stepped.Refused r = sym z ∙ h in
          let j : x ≡ r = cc in
          rw (lt-ltb p e l) (field-short r b l (y ∙ ap field_found.Refused j))
      go (end l y) = absurd (omega (arith, ap way (sym y ∙ h)))
      go (past l y) = rw (le-ltb p e (omega arith)) (sym (at_top s e r p (omega arith)))

top-short : (s : List ℕ) (e m p last k : ℕ) (r : Refusal) (x : ℕ) → e ≤ p → Behind s e m p → reads_from k s e m p last ≡ reading.Refused r x
    → faults_from k s e p last ≡ fault_at s e r x
top-short s e m p last k r x l w h = go w
  where
    t : (e < p) × (r ≡ Truncated) × (x ≡ m)
    t = ended-refused s e m p last k r x l h

    go : Behind s e m p → faults_from k s e p last ≡ fault_at s e r x
    go (inl i) = let j : p ≡ x = sym i ∙ sym t.2 in faults-ended s e p last k l ∙ ap plain_fault j ∙ sym (at_top s e r x (omega arith))
    go (inr y) =
        let n : number_of r ≤ 2 = rw t.1 (omega arith) in
        faults-ended s e p last k l ∙ sym (ap (fault_at s e r) t.2 ∙ read_short s e m y.0 r y.1 p y.2 n y.3)

reads_short : (k : ℕ) (s : List ℕ) (e m p last : ℕ) (r : Refusal) (x : ℕ) → Bytes s → e - p ≤ k → Behind s e m p
    → reads_from k s e m p last ≡ reading.Refused r x → faults_from k s e p last ≡ fault_at s e r x
reads_short zero s e m p last r x b g w h = top-short s e m p last zero r x (omega arith) w h
reads_short (suc k) s e m p last r x b g w h = go (λ f q. reads_short k s e p q f.tag r x b) (ltb p e) refl (field_at s e p last) refl
  where
    go : ((f : Field) (q : ℕ) → e - q ≤ k → Behind s e p q → reads_from k s e p q f.tag ≡ reading.Refused r x
        → faults_from k s e q f.tag ≡ fault_at s e r x)
        → (t : Bool) → ltb p e ≡ t → (o : FieldFound) → field_at s e p last ≡ o → faults_from (suc k) s e p last ≡ fault_at s e r x
    go ih true t (field_found.Got f q) o =
        let l = ltb-true p e t in
        let v = field-moves s e p last f q o in
        let i = refused-in-front f (reads_from k s e p q f.tag) r x (sym (turn-field s e m p last k f q l o) ∙ h) in
        faults-field s e p last k f q l o ∙ ih f q (omega (arith, v.0)) (inr (last, f, l, o)) i
    go ih true t (field_found.Refused y) o =
        let l = ltb-true p e t in
        let i : reading.Refused y p ≡ reading.Refused r x = sym (turn-refused s e m p last k y l o) ∙ h in
        let j : y ≡ r = cc in
        let n : p ≡ x = cc in
        faults-refused s e p last k y l o
        ∙ field-short s e p last r b l (o ∙ ap field_found.Refused j)
        ∙ ap (fault_at s e r) n
    go ih false t o y = top-short s e m p last (suc k) r x (ltb-false p e t) w h

-- A MESSAGE THAT IS REFUSED: the short way is the same
pub message-short : (s : List ℕ) (start e : ℕ) (r : Refusal) (p : ℕ) → Bytes s → read_message s start e ≡ reading.Refused r p
    → message_fault s start e ≡ fault_at s e r p
unfolding message_fault read_message
message-short s start e r p b h = reads_short (e - start) s e start start 0 r p b (omega arith) (inl refl) h
