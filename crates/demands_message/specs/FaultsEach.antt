-- Where a read failed (rules F1 to F4 and F6), over every outcome that the contracts of the readers of a varint, a key and a value, and of skipping, allow.
use Rattle.std.specs.Prelude.{ℕ, zero, suc, ◌+◌, ◌-◌, ◌≤◌, ◌<◌, ◌≡◌, Bool, true, false, List, leb, ltb, length, get_or}
use Rattle.std.proofs.Math.Path.{refl}
use Rattle.std.proofs.Common.{◌∙◌, sym, subst, ltb-true, ltb-false}
use native.Mathlib.Omega.{arith}
use Rattle.wire.specs.Faults.{varint_fault, plain_fault, nowhere}
use Rattle.wire.specs.Numbers.{number_of}
use Rattle.wire.specs.VarintLaws.{Bytes}
use Rattle.wire.specs.Reading.{varint_at, capped_at, key_at, value_at, wire_of}
use Rattle.wire.specs.Skipping.{past_number, past_payload, in_slice, past_at, repeats, skip_from, skip_at}
use Rattle.wire.specs.declared.Fault.{Fault}
use Rattle.wire.specs.declared.Refusal.{Refusal}
use Rattle.wire.specs.declared.WireType.{WireType}
use Rattle.wire.specs.declared.WireType.TheVariants.{Varint, LengthDelimited, ThirtyTwoBit, SixtyFourBit}
use Rattle.wire.specs.declared.VarintFound.{VarintFound}
use Rattle.wire.specs.declared.VarintFound.TheVariants as varint_found
use Rattle.wire.specs.declared.KeyFound.{KeyFound}
use Rattle.wire.specs.declared.KeyFound.TheVariants as key_found
use Rattle.wire.specs.declared.ValueFound.{ValueFound}
use Rattle.wire.specs.declared.ValueFound.TheVariants as value_found
use Rattle.wire.specs.declared.Reached.{Reached}
use Rattle.wire.specs.declared.Reached.TheVariants as reached
use Rattle.fault.specs.Fault.{key_fault}
use Rattle.fault.specs.Inside.{Blamed}
use Rattle.fault.proofs.Inside.{key-blamed, value-blamed}
use Rattle.fault.specs.Short.{KeyFails, varint, tag, key-fails, value-number, refused-capped, varint-number}
use Rattle.field_skip.specs.Repeated.{past-slice, differs}
use Rattle.field_skip.specs.SkippingLaws.{past-moves, skip-refused, skip-ends, skip_goes_on}
use Rattle.entry_answer.specs.Gate.{gated, through, gated-opens, gated-number}
use Rattle.entry_answer.specs.declared.Gated.{Gated}
use Rattle.entry_answer.specs.declared.Gated.TheVariants.{Open, Shut}
use Rattle.entry_answer.specs.declared.VarintRead.{VarintRead}
use Rattle.entry_answer.specs.declared.VarintRead.TheVariants as varint_read
use Rattle.entry_answer.specs.declared.KeyRead.{KeyRead}
use Rattle.entry_answer.specs.declared.KeyRead.TheVariants as key_read
use Rattle.entry_answer.specs.declared.ValueRead.{ValueRead}
use Rattle.entry_answer.specs.declared.ValueRead.TheVariants as value_read
use Rattle.entry_answer.specs.declared.Skipped.{Skipped}
use Rattle.entry_answer.specs.declared.Skipped.TheVariants as skipped
use Rattle.entry_varint.specs.Varints as varints
use Rattle.entry_varint.specs.Varints.{decode_varint, decode_varint_capped}
use Rattle.entry_key.specs.Keys.{key_answer, decode_key}
use Rattle.entry_field.specs.Fields.{value_answer, decode_value, skip_answer, skip_field}
use Rattle.entry_varint.proofs.decode_varint.Kinds as decode-varint
use Rattle.entry_varint.proofs.decode_varint.Reads as decode-varint-reads
use Rattle.entry_varint.proofs.decode_varint_capped.Kinds as decode-varint-capped
use Rattle.entry_varint.proofs.decode_varint_capped.Reads as decode-varint-capped-reads
use Rattle.entry_key.proofs.decode_key.Kinds as decode-key
use Rattle.entry_key.proofs.decode_key.Reads as decode-key-reads
use Rattle.entry_field.proofs.decode_value.Kinds as decode-value
use Rattle.entry_field.proofs.decode_value.Reads as decode-value-reads
use Rattle.entry_field.proofs.skip_field.Kinds as skip-field
use Rattle.entry_field.proofs.skip_field.Reads as skip-field-reads
use Rattle.demands_order.specs.Calls.{Every}

-- what a refusal carries: 1 to 3 a fault no earlier than the place given, all others none
abbrev pub Carries : List ℕ → ℕ → Refusal → Fault → Type 0
Carries s at r f = (number_of r ≤ 3 → Blamed s at f) × (4 ≤ number_of r → f ≡ nowhere)

blames : {s : List ℕ} {at : ℕ} (r : Refusal) {f : Fault} → number_of r ≤ 3 → Blamed s at f → Carries s at r f
blames r n b = (λ k. b, λ k. absurd (omega arith))

-- what the gate refuses has no fault
gate-carries : (s : List ℕ) (at e : ℕ) (r : Refusal) → gated (length s) at e ≡ Shut r → Carries s at r nowhere
gate-carries s at e r h = (λ k. absurd (omega (arith, gated-number (length s) at e r h)), λ k. refl)

-- a varint that is refused
number-blamed : (s : List ℕ) → Bytes s → (p : ℕ) → p ≤ length s → (x : Refusal) → varint_at s p ≡ varint_found.Refused x → Blamed s p (varint_fault s p)
unfolding key_fault
number-blamed s b p l x o = rw o at (key-blamed s b p l)

-- ---- the entries, each by its cases

abbrev pub VarintFaulted : List ℕ → ℕ → VarintRead → Type 0
VarintFaulted s at (varint_read.Got v q) = Unit {0}
VarintFaulted s at (varint_read.Refused r p n) = (p ≡ at) × (number_of r ≤ 3 → Blamed s at (record { place = at; bytes = n })) × (4 ≤ number_of r → n ≡ 0)

abbrev pub KeyFaulted : List ℕ → ℕ → KeyRead → Type 0
KeyFaulted s at (key_read.Got k q) = Unit {0}
KeyFaulted s at (key_read.Refused r p last f) = Carries s at r f

abbrev pub ValueFaulted : List ℕ → ℕ → ValueRead → Type 0
ValueFaulted s at (value_read.Got v q) = Unit {0}
ValueFaulted s at (value_read.Refused r p f) = Carries s at r f

abbrev pub SkipFaulted : List ℕ → ℕ → Skipped → Type 0
SkipFaulted s at (skipped.To q) = Unit {0}
SkipFaulted s at (skipped.Refused r p f) = Carries s at r f

module _ (s : List ℕ) (b : Bytes s) where
  module _ (at e : ℕ) where
    entry_key : (last : ℕ) → KeyFaulted s at (decode_key s at e last)
    unfolding decode_key
    entry_key last = go (gated (length s) at e) refl (key_at s e at last) refl
      where
        few : (r : Refusal) → KeyFails s at r → number_of r ≤ 3
        few r (varint x o n) = omega arith
        few r (tag v q o n) = omega arith

        go : (g : Gated) → gated (length s) at e ≡ g → (x : KeyFound) → key_at s e at last ≡ x
            → KeyFaulted s at (through g (λ r. key_read.Refused r at last nowhere) (key_answer s at last (key_at s e at last)))
        go (Shut r) h x i = gate-carries s at e r h
        go Open h (key_found.Got k q) i = rw i tt
        go Open h (key_found.Refused r) i =
            rw i (blames r (few r (key-fails s e at last r i)) (key-blamed s b at (gated-opens (length s) at e h).1))

    entry_value : (w : WireType) → ValueFaulted s at (decode_value s at e w)
    unfolding decode_value
    entry_value w = go (gated (length s) at e) refl (value_at s e at w) refl
      where
        go : (g : Gated) → gated (length s) at e ≡ g → (x : ValueFound) → value_at s e at w ≡ x
            → ValueFaulted s at (through g (λ r. value_read.Refused r at nowhere) (value_answer s at w (value_at s e at w)))
        go (Shut r) h x i = gate-carries s at e r h
        go Open h (value_found.Got v q) i = rw i tt
        go Open h (value_found.Refused r) i =
            rw i (
            blames r (omega (arith, value-number s e at w r i)) (value-blamed s b at (gated-opens (length s) at e h).1 e w r i)
            )

  -- ---- skipping: the value that fails may be a later one

  plain : (p : ℕ) → p ≤ length s → Blamed s p (plain_fault p)
  plain p h =
      record { from = omega arith; few = omega arith; inside = omega arith; varint = λ z. absurd (omega arith); on = λ i z. absurd (omega arith) }

  -- what is passed, or what fails no earlier than a place
  abbrev Failing : ℕ → Reached → Type 0
  Failing p (reached.To q) = Unit {0}
  Failing p (reached.Refused r f) = (number_of r ≤ 2) × Blamed s p f

  in-slice : (p q : ℕ) → p ≤ length s → Failing p (in_slice s p q)
  in-slice p q l = go (leb q (length s)) refl
    where
      go : (t : Bool) → leb q (length s) ≡ t → Failing p (in_slice s p q)
      go true t = rw t tt
      go false t = rw t (omega arith, plain p l)

  past-fails : (e p : ℕ) (w : WireType) → p ≤ length s → Failing p (past_at s e p w)
  unfolding past_at
  past-fails e p Varint l = go (capped_at s e p) refl
    where
      go : (o : VarintFound) → capped_at s e p ≡ o → Failing p (past_number s p o)
      go (varint_found.Got v q) o = tt
      go (varint_found.Refused r) o = let x = refused-capped s p e r o in (x.2, number-blamed s b p l x.0 x.1)
  past-fails e p LengthDelimited l = go (capped_at s e p) refl
    where
      go : (o : VarintFound) → capped_at s e p ≡ o → Failing p (past_payload s p o)
      go (varint_found.Got n q) o = in-slice p (q + n) l
      go (varint_found.Refused r) o = let x = refused-capped s p e r o in (x.2, number-blamed s b p l x.0 x.1)
  past-fails e p ThirtyTwoBit l = in-slice p (p + 4) l
  past-fails e p SixtyFourBit l = in-slice p (p + 8) l

  sooner : {p q : ℕ} (o : Reached) → p ≤ q → Failing q o → Failing p o
  sooner (reached.To q) h f = tt
  sooner (reached.Refused r f) h (n, w) = (n, record { from = omega (arith, w.from); few = w.few; inside = w.inside; varint = w.varint; on = w.on })

  -- a key that is repeated lies in the slice
  repeats-inside : (e q : ℕ) → repeats s e q ≡ true → q < length s
  repeats-inside e q h = go (ltb q (length s)) refl
    where
      go : (t : Bool) → ltb q (length s) ≡ t → q < length s
      go true t = ltb-true q (length s) t
      go false t =
          let x : true ≡ false = sym h ∙ differs s e q (omega (arith, past-slice s e q (ltb-false q (length s) t))) in
          let z : ◌≡◌ {A = ℕ} 0 1 = cc in absurd (omega arith)

  skip-fails : (k e p : ℕ) (w : WireType) → p ≤ length s → Failing p (skip_from k s e p w)
  skip-fails zero e p w l = past-fails e p w l
  skip-fails (suc k) e p w l = go (past_at s e p w) refl (λ q v. skip-fails k e (suc q) v)
    where
      go : (o : Reached) → past_at s e p w ≡ o → ((q : ℕ) (v : WireType) → suc q ≤ length s → Failing (suc q) (skip_from k s e (suc q) v))
          → Failing p (skip_from (suc k) s e p w)
      go (reached.Refused r f) o ih = let x = past-fails e p w l in rw (skip-refused s e p w (suc k) r f o) (rw o at x)
      go (reached.To q) o ih = on (repeats s e q) refl
        where
          on : (t : Bool) → repeats s e q ≡ t → Failing p (skip_from (suc k) s e p w)
          on true t =
              let m = past-moves s e p w q o in
              let v = wire_of (get_or s q 0) in
              rw (skip_goes_on s e p w k q o t)
              (sooner {p = p} {q = suc q} (skip_from k s e (suc q) v) (omega (arith, m.0)) (ih q v (repeats-inside e q t)))
          on false t = rw (skip-ends s e p w (suc k) q o t) tt

  module _ (at e : ℕ) where
    entry-skip : (w : WireType) → SkipFaulted s at (skip_field s at e w)
    unfolding skip_field skip_at
    entry-skip w = go (gated (length s) at e) refl
      where
        told : (o : Reached) → Failing at o → SkipFaulted s at (skip_answer at o)
        told (reached.To q) f = tt
        told (reached.Refused r f) (n, y) = blames r (omega arith) y

        go : (g : Gated) → gated (length s) at e ≡ g
            → SkipFaulted s at (through g (λ r. skipped.Refused r at nowhere) (skip_answer at (skip_from (length s - at) s e at w)))
        go (Shut r) h = gate-carries s at e r h
        go Open h = told (skip_from (length s - at) s e at w) (skip-fails (length s - at) e at w (gated-opens (length s) at e h).1)

  -- ---- a varint, with an end or without one

  number-told : (at e : ℕ) (o : VarintFound) → at ≤ length s
      → ((r : Refusal) → o ≡ varint_found.Refused r → (x : Refusal) × (varint_at s at ≡ varint_found.Refused x) × (number_of r ≤ 2))
      → VarintFaulted s at (varints.varint_read s at o)
  number-told at e (varint_found.Got v q) l h = tt
  number-told at e (varint_found.Refused r) l h =
      let x = h r refl in
      (refl, λ k. number-blamed s b at l x.0 x.1, λ k. absurd (omega (arith, x.2)))

  gate-told : (at e : ℕ) (r : Refusal) → gated (length s) at e ≡ Shut r → VarintFaulted s at (varint_read.Refused r at 0)
  gate-told at e r h = (refl, λ k. absurd (omega (arith, gated-number (length s) at e r h)), λ k. refl)

  entry-varint : (at : ℕ) → VarintFaulted s at (decode_varint s at)
  unfolding decode_varint
  entry-varint at = go (gated (length s) at (length s)) refl
    where
      go : (g : Gated) → gated (length s) at (length s) ≡ g
          → VarintFaulted s at (through g (λ r. varint_read.Refused r at 0) (varints.varint_read s at (varint_at s at)))
      go (Shut r) h = gate-told at (length s) r h
      go Open h = number-told at (length s) (varint_at s at) (gated-opens (length s) at (length s) h).1 (λ r o. (r, o, varint-number s at r o))

  entry-capped : (at e : ℕ) → VarintFaulted s at (decode_varint_capped s at e)
  unfolding decode_varint_capped
  entry-capped at e = go (gated (length s) at e) refl
    where
      go : (g : Gated) → gated (length s) at e ≡ g
          → VarintFaulted s at (through g (λ r. varint_read.Refused r at 0) (varints.varint_read s at (capped_at s e at)))
      go (Shut r) h = gate-told at e r h
      go Open h = number-told at e (capped_at s e at) (gated-opens (length s) at e h).1 (λ r o. refused-capped s at e r o)

-- ---- EVERY REFUSED READER names a place no earlier than the one given, in the slice, and the bytes that can be seen there

pub varint-faulted : Every 1 decode-varint.ps decode-varint.r decode-varint-reads.Post (λ κs a x s.
    Bytes a.0.now → VarintFaulted a.0.now a.1.0 x)
varint-faulted κs a x s p b = subst (VarintFaulted a.0.now a.1.0) (sym p) (entry-varint a.0.now b a.1.0)

pub capped-faulted : Every 1 decode-varint-capped.ps decode-varint-capped.r decode-varint-capped-reads.Post (λ κs a x s.
    Bytes a.0.now → VarintFaulted a.0.now a.1.0 x)
capped-faulted κs a x s p b = subst (VarintFaulted a.0.now a.1.0) (sym p) (entry-capped a.0.now b a.1.0 a.1.1.0)

pub key-faulted : Every 1 decode-key.ps decode-key.r decode-key-reads.Post (λ κs a x s. Bytes a.0.now → KeyFaulted a.0.now a.1.0 x)
key-faulted κs a x s p b =
    subst (KeyFaulted a.0.now a.1.0) (sym p) (entry_key a.0.now b a.1.0 a.1.1.0 a.1.1.1.0)

pub value-faulted : Every 1 decode-value.ps decode-value.r decode-value-reads.Post (λ κs a x s.
    Bytes a.0.now → ValueFaulted a.0.now a.1.0 x)
value-faulted κs a x s p b =
    subst (ValueFaulted a.0.now a.1.0) (sym p) (entry_value a.0.now b a.1.0 a.1.1.0 a.1.1.1.0)

pub skip-faulted : Every 1 skip-field.ps skip-field.r skip-field-reads.Post (λ κs a x s. Bytes a.0.now → SkipFaulted a.0.now a.1.0 x)
skip-faulted κs a x s p b =
    subst (SkipFaulted a.0.now a.1.0) (sym p) (entry-skip a.0.now b a.1.0 a.1.1.0 a.1.1.1.0)
