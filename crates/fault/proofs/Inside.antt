-- Where a failing read lies, and what the bytes are that it looked at: what can be seen in a dump of the bytes.
use Rattle.std.specs.Prelude.{ℕ, zero, suc, ◌+◌, ◌-◌, ◌≤◌, ◌<◌, Bool, true, false, List, ltb, length, take, drop, get_or}
use Rattle.std.proofs.Math.Path.{◌≡◌, refl, ap, sym}
use Rattle.std.proofs.Common.{◌∙◌, arith, lt-ltb, le-ltb, ltb-true, ltb-false, length-drop, get_or-take, get_or-drop, length-take-le}
use Rattle.wire.specs.VarintLaws.{Bytes}
use Rattle.wire.specs.VarintMeaning.{stops-out}
use Rattle.wire.proofs.VarintMeaning.{sum-spells}
use Rattle.wire.specs.Faults.{varint_fault, plain_fault}
use Rattle.wire.specs.Reading.{varint_at, key_at, value_at, tagged, field_at, step_at, reads_from, read_message}
use Rattle.wire.specs.Reading as reading
use Rattle.wire.specs.ReadingLaws.{key-took}
use Rattle.wire.proofs.ReadingLaws.{varint-moves, field-moves}
use Rattle.wire.specs.StepBack.{way, Steps, field, refused, end, past, steps}
use Rattle.wire.specs.StepLaws.{field-keyed}
use Rattle.wire.specs.Theorem.{turn-field, turn-refused}
use Rattle.wire.specs.declared.Fault.{Fault}
use Rattle.wire.specs.declared.Refusal.{Refusal}
use Rattle.wire.specs.declared.WireType.{WireType}
use Rattle.wire.specs.declared.WireType.TheVariants.{Varint, LengthDelimited, ThirtyTwoBit, SixtyFourBit}
use Rattle.wire.specs.declared.Field.{Field}
use Rattle.wire.specs.declared.Key.{Key}
use Rattle.wire.specs.declared.VarintFound.{VarintFound}
use Rattle.wire.specs.declared.VarintFound.TheVariants as varint_found
use Rattle.wire.specs.declared.KeyFound.{KeyFound}
use Rattle.wire.specs.declared.KeyFound.TheVariants as key_found
use Rattle.wire.specs.declared.ValueFound.{ValueFound}
use Rattle.wire.specs.declared.ValueFound.TheVariants as value_found
use Rattle.wire.specs.declared.FieldFound.{FieldFound}
use Rattle.wire.specs.declared.FieldFound.TheVariants as field_found
use Rattle.wire.specs.declared.Stepped.TheVariants as stepped
use Rattle.fault.specs.Fault.{begun_by, key_fault, value_fault, field_fault_of, field_fault, step_fault, faults_from, message_fault}
use Rattle.fault.specs.Short.{Fails, short, large, varint-fails, number-refused, refused-in-front, ended-refused}
use Rattle.fault.specs.Short.{faults-field, faults-refused, faults-ended}
use Rattle.fault.specs.Inside.{Blamed}

module _ (s : List ℕ) where
  earlier : {low at : ℕ} {f : Fault} → low ≤ at → Blamed s at f → Blamed s low f
  earlier h w = record { from = omega (arith, w.from); few = w.few; inside = w.inside; varint = w.varint; on = w.on }

  plain-blamed : (p : ℕ) → p ≤ length s → Blamed s p (plain_fault p)
  plain-blamed p h =
      record { from = omega arith; few = omega arith; inside = omega arith; varint = λ z. absurd (omega arith); on = λ i z. absurd (omega arith) }

  module _ (b : Bytes s) (p : ℕ) (h : p ≤ length s) where
    varint-blamed : (x : Refusal) → varint_at s p ≡ varint_found.Refused x → Blamed s p (varint_fault s p)
    varint-blamed x o = go (varint-fails s p x b o)
      where
        go : Fails s p → Blamed s p (varint_fault s p)
        go (short e l f) =
            record {
              from = omega arith;
              few = omega (arith, f);
              inside = omega (arith, f);
              varint = λ z. (x, o);
              on = λ i z. rw (get_or-drop p s i 0) at ((stops-out 8 (drop p s) e).on i (omega (arith, f, length-drop p s)));
            }
        go (large v e l f) =
            let w = sum-spells 8 (drop p s) v 9 e in
            let n : length (take 9 (drop p s)) ≡ 9 = length-take-le 9 (drop p s) w.0 in
            record {
              from = omega arith;
              few = omega (arith, f);
              inside = omega (arith, f);
              varint = λ z. (x, o);
              on = λ i z. rw (get_or-take 9 (drop p s) i 0 (omega (arith, f)), get_or-drop p s i 0) at (w.1.on i (omega (arith, f, n)));
            }

    begun-blamed : (o : VarintFound) → varint_at s p ≡ o → Blamed s p (begun_by s p o)
    begun-blamed (varint_found.Got v q) o = plain-blamed p h
    begun-blamed (varint_found.Refused x) o = varint-blamed x o

    pub key-blamed : Blamed s p (key_fault s p)
    unfolding key_fault
    key-blamed = begun-blamed (varint_at s p) refl

    pub value-blamed : (e : ℕ) (w : WireType) (r : Refusal) → value_at s e p w ≡ value_found.Refused r → Blamed s p (value_fault s p w)
    unfolding value_fault
    value-blamed e Varint r o = let x = number-refused s e p r o in varint-blamed x.0 x.1
    value-blamed e LengthDelimited r o = begun-blamed (varint_at s p) refl
    value-blamed e ThirtyTwoBit r o = plain-blamed p h
    value-blamed e SixtyFourBit r o = plain-blamed p h

  module _ (b : Bytes s) (e p last : ℕ) (h : p ≤ length s) where
    field-blamed : (r : Refusal) → field_at s e p last ≡ field_found.Refused r → Blamed s p (field_fault s e p last)
    unfolding field_fault
    field-blamed r g = go (key_at s e p last) refl
      where
        told : (k : Key) (q : ℕ) → key_at s e p last ≡ key_found.Got k q → (v : ValueFound) → value_at s e q k.wire ≡ v
            → Blamed s p (field_fault_of s p (key_at s e p last))
        told k q o (value_found.Got v n) y =
            let x : field_found.Got (record { tag = k.tag; value = v }) n ≡ field_found.Refused r =
            sym (field-keyed s e p last o ∙ ap (tagged k.tag) y) ∙ g in
            let z : ◌≡◌ {A = ℕ} 0 1 = cc in absurd (omega arith)
        told k q o (value_found.Refused x) y =
            let w = key-took s e p last k q o in
            let m = varint-moves s p w.key q w.read in
            rw o (earlier (omega (arith, m.0)) (value-blamed b q m.1 e k.wire x y))

        go : (o : KeyFound) → key_at s e p last ≡ o → Blamed s p (field_fault_of s p (key_at s e p last))
        go (key_found.Got k q) o = told k q o (value_at s e q k.wire) refl
        go (key_found.Refused x) o = rw o (key-blamed b p h)

    -- a step that is refused
    pub step-blamed : (r : Refusal) → step_at s e p last ≡ stepped.Refused r → Blamed s p (step_fault s e p last)
    unfolding step_fault
    step-blamed r g = go (steps s e p last)
      where
        go : Steps s e p last (step_at s e p last) → Blamed s p (step_fault s e p last)
        go (field f q l x y) = absurd (omega (arith, ap way (sym y ∙ g)))
        go (refused x l y z) = rw (lt-ltb p e l) (field-blamed x y)
        go (end l y) = absurd (omega (arith, ap way (sym y ∙ g)))
        go (past l y) = rw (le-ltb p e (omega arith)) (plain-blamed p h)

  -- ---- a message

  top-blamed : (e m p last k : ℕ) (r : Refusal) (x : ℕ) → e ≤ p → m ≤ p → p ≤ length s → reads_from k s e m p last ≡ reading.Refused r x
      → (m ≤ x) × Blamed s x (faults_from k s e p last)
  top-blamed e m p last k r x l a h g =
      let t = ended-refused s e m p last k r x l g in
      rw (t.2, faults-ended s e p last k l) (omega arith, earlier a (plain-blamed p h))

  reads-blamed : (k e m p last : ℕ) (r : Refusal) (x : ℕ) → Bytes s → e - p ≤ k → m ≤ p → p ≤ length s → reads_from k s e m p last ≡ reading.Refused r x
      → (m ≤ x) × Blamed s x (faults_from k s e p last)
  reads-blamed zero e m p last r x b f a h g = top-blamed e m p last zero r x (omega arith) a h g
  reads-blamed (suc k) e m p last r x b f a h g = go (λ i q. reads-blamed k e p q i.tag r x b) (ltb p e) refl (field_at s e p last) refl
    where
      go : ((i : Field) (q : ℕ) → e - q ≤ k → p ≤ q → q ≤ length s → reads_from k s e p q i.tag ≡ reading.Refused r x
          → (p ≤ x) × Blamed s x (faults_from k s e q i.tag))
          → (t : Bool) → ltb p e ≡ t → (o : FieldFound) → field_at s e p last ≡ o → (m ≤ x) × Blamed s x (faults_from (suc k) s e p last)
      go ih true t (field_found.Got i q) o =
          let l = ltb-true p e t in
          let v = field-moves s e p last i q o in
          let y = refused-in-front i (reads_from k s e p q i.tag) r x (sym (turn-field s e m p last k i q l o) ∙ g) in
          let z = ih i q (omega (arith, v.0)) (omega (arith, v.0)) v.1 y in
          rw (faults-field s e p last k i q l o) (omega (arith, z.0), z.1)
      go ih true t (field_found.Refused y) o =
          let l = ltb-true p e t in
          let i : reading.Refused y p ≡ reading.Refused r x = sym (turn-refused s e m p last k y l o) ∙ g in
          let n : x ≡ p = cc in
          rw (n, faults-refused s e p last k y l o) (a, field-blamed b e p last h y o)
      go ih false t o y = top-blamed e m p last (suc k) r x (ltb-false p e t) a h g

  module _ (start e : ℕ) (r : Refusal) (p : ℕ) (b : Bytes s) (h : start ≤ length s) (g : read_message s start e ≡ reading.Refused r p) where
    message-blamed : (start ≤ p) × Blamed s p (message_fault s start e)
    unfolding message_fault read_message
    message-blamed = reads-blamed (e - start) e start start 0 r p b (omega arith) (omega arith) h g

    -- IT LIES IN THE SLICE, no earlier than the place that is answered
    pub fault-inside : let f = message_fault s start e in (start ≤ p) × (p ≤ f.place) × (f.place + f.bytes ≤ length s) × (f.bytes ≤ 9)
    fault-inside = let w = message-blamed in (w.0, w.1.from, w.1.inside, w.1.few)

    -- BYTES ARE TOLD OF A REFUSED VARINT ALONE: all of them but perhaps the last are 0x80 or more
    pub fault-bytes : let f = message_fault s start e in 0 < f.bytes
        → ((x : Refusal) × (varint_at s f.place ≡ varint_found.Refused x)) × ((i : ℕ) → suc i < f.bytes → 128 ≤ get_or s (f.place + i) 0)
    fault-bytes z = let w = message-blamed.1 in (w.varint z, w.on)
