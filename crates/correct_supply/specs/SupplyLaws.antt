-- The cases of a lookup over two messages; what is found of a tag lies inside its message.
use Rattle.std.specs.Prelude.{ℕ, zero, suc, ◌+◌, ◌-◌, ◌≤◌, ◌<◌, ◌≡◌, refl, Bool, true, false, List, ◌∷◌, ltb, eqb, length, take, drop}
use Rattle.std.proofs.Common.{ap, ◌∙◌, sym, subst, arith, ltb-true, ltb-false, eq-eqb, ne_eqb, eqb-true}
use Rattle.std.proofs.lemmas.Bool.{eqb-false}
use Rattle.std.specs.Borrow.{Bor}
use Rattle.wire.specs.Choose.{choose}
use Rattle.wire.specs.Reading.{varint_at, capped_at, key_at, value_at, field_at, Message, Fields, in_front, read_message}
use Rattle.wire.specs.Reading as reading
use Rattle.wire.specs.ReadingLaws.{renamed-got, key-took, within-got, number-got, payload-got}
use Rattle.wire.proofs.ReadingLaws.{value-moves, field_found_lem}
use Rattle.wire.specs.Marks.{Mark, marks_from, marks, marks-turn, marks-end}
use Rattle.wire.specs.declared.Refusal.{Refusal}
use Rattle.wire.specs.declared.Refusal.TheVariants.{Repeated}
use Rattle.wire.specs.declared.WireType.{WireType}
use Rattle.wire.specs.declared.WireType.TheVariants as wire_type
use Rattle.wire.specs.declared.Value.{Value}
use Rattle.wire.specs.declared.Key.{Key}
use Rattle.wire.specs.declared.Field.{Field}
use Rattle.wire.specs.declared.KeyFound.TheVariants as key_found
use Rattle.wire.specs.declared.ValueFound.TheVariants as value_found
use Rattle.wire.specs.declared.FieldFound.{FieldFound}
use Rattle.wire.specs.declared.FieldFound.TheVariants as field_found
use Rattle.message_payload.specs.declared.Span.{Span}
use Rattle.entry_answer.specs.Gate.{gated, through, through-open, through-shut}
use Rattle.entry_answer.specs.declared.Gated.{Gated}
use Rattle.entry_answer.specs.declared.Gated.TheVariants.{Open, Shut}
use Rattle.entry_message.specs.Messages.{Part, part_at}
use Rattle.correct_supply.specs.declared.Held.{Held}
use Rattle.correct_supply.specs.declared.Held.TheVariants as held_as
use Rattle.correct_supply.specs.declared.Supply.{Supply}
use Rattle.correct_supply.specs.declared.Supply.TheVariants as supply
use Rattle.correct_supply.specs.Supplying.{span, nowhere, after, bare_at, bare_of, between, ahead, held_in, accepting, held, alone, chosen, judged, supply_of}

-- ---- one message

module _ (s : List ℕ) (t : ℕ) where
  pub held-shut : (r : Refusal) → gated (length s) 0 (length s) ≡ Shut r → held s t ≡ held_as.Refused r
  unfolding held
  held-shut r h = through-shut _ _ h

  pub held-open : gated (length s) 0 (length s) ≡ Open → held s t ≡ accepting (read_message s 0 (length s)) (held_in s t (marks s 0 (length s)))
  unfolding held
  held-open h = through-open _ _ h

  module _ (m : Mark) (ms : List Mark) where
    pub held_same : m.field.tag ≡ t → held_in s t (m ∷ ms) ≡ ahead 1 (bare_of s m) (held_in s t ms)
    unfolding held_in
    held_same h = rw (eq-eqb m.field.tag t h)

    pub held-other : (m.field.tag ≡ t → ⊥) → held_in s t (m ∷ ms) ≡ held_in s t ms
    unfolding held_in
    held-other h = rw (ne_eqb m.field.tag t h)

pub ahead_none : (h : Held) → h ≡ ahead 0 nowhere h
ahead_none (held_as.Fields c g) = let e : 0 + c ≡ c = omega arith in rw e
ahead_none (held_as.Refused r) = refl

pub ahead-one : (n : ℕ) (f g : Span) (h : Held) → ahead n f (ahead 1 g h) ≡ ahead (n + 1) (choose (eqb n 0) g f) h
ahead-one n f g (held_as.Fields c x) =
    let e : n + (1 + c) ≡ n + 1 + c = omega arith in
    rw (ne_eqb (n + 1) 0 (λ z. omega arith), e)
ahead-one n f g (held_as.Refused r) = refl

pub accepting-front : (f : Field) (m : Message) (h : Held) → accepting (in_front f m) h ≡ accepting m h
accepting-front f (Fields fs) h = refl
accepting-front f (reading.Refused r p) h = refl

pub accepting-ahead : (n : ℕ) (f : Span) (m : Message) (h : Held) → accepting m (ahead n f h) ≡ ahead n f (accepting m h)
accepting-ahead n f (Fields fs) h = refl
accepting-ahead n f (reading.Refused r p) h = refl

-- ---- a part of a lent message, from a start on, so many bytes

pub lies : (m : Bor (List ℕ)) (a n : ℕ) (q : Part) → part_at m (span a n) ≡ q
    → ◌≡◌ {A = Part} (record { block = m.ref_ptr.0; place = a + m.ref_ptr.1; bytes = take (a + n - a) (drop a m.now) }) q
lies m a n q h =
    let e : a + n - a ≡ n = omega arith in
    let f : a + m.ref_ptr.1 ≡ m.ref_ptr.1 + a = omega arith in
    rw (e, f) h

-- ---- a value's own bytes, by the places behind its key and behind it

pub key-after : (s : List ℕ) (e p last : ℕ) (k : Key) (q : ℕ) → key_at s e p last ≡ key_found.Got k q → after p (varint_at s p) ≡ q
key-after s e p last k q h = ap (after p) (key-took s e p last k q h).read

pub bare-between : (s : List ℕ) (e q : ℕ) (w : WireType) (v : Value) (n : ℕ) → value_at s e q w ≡ value_found.Got v n → between v q n ≡ bare_at s q v
unfolding bare_at
bare-between s e q wire_type.Varint v n h =
    let x = number-got (capped_at s e q) v n h in
    let r = renamed-got e q (varint_at s q) x.0 n x.1 in
    rw (x.2, r)
bare-between s e q wire_type.LengthDelimited v n h = rw (payload-got s e (varint_at s q) v n h).3
bare-between s e q wire_type.ThirtyTwoBit v n h =
    let x = within-got s e (q + 4) _ v n h in
    let z : n - q ≡ 4 = omega (arith, x.1) in
    rw (x.0, z)
bare-between s e q wire_type.SixtyFourBit v n h =
    let x = within-got s e (q + 8) _ v n h in
    let z : n - q ≡ 8 = omega (arith, x.1) in
    rw (x.0, z)

-- ---- what is found lies inside the message

abbrev pub Inside : ℕ → Span → Type 0
Inside n p = p.start + p.length ≤ n

pub between-inside : (s : List ℕ) (e q : ℕ) (w : WireType) (v : Value) (n : ℕ) → value_at s e q w ≡ value_found.Got v n → Inside (length s) (between v q n)
between-inside s e q wire_type.Varint v n h =
    let m = value-moves s e q wire_type.Varint v n h in
    rw (number-got (capped_at s e q) v n h).2 (omega (arith, m.0, m.1))
between-inside s e q wire_type.LengthDelimited v n h =
    let x = payload-got s e (varint_at s q) v n h in
    rw x.3 (omega (arith, x.4, x.5))
between-inside s e q wire_type.ThirtyTwoBit v n h =
    let m = value-moves s e q wire_type.ThirtyTwoBit v n h in
    rw (within-got s e (q + 4) _ v n h).0 (omega (arith, m.0, m.1))
between-inside s e q wire_type.SixtyFourBit v n h =
    let m = value-moves s e q wire_type.SixtyFourBit v n h in
    rw (within-got s e (q + 8) _ v n h).0 (omega (arith, m.0, m.1))

-- of a field that is read
pub bare-field : (s : List ℕ) (e p last : ℕ) (f : Field) (q : ℕ) (h : field_at s e p last ≡ field_found.Got f q)
    → between f.value (field_found_lem s e p last f q h).middle q ≡ bare_of s (record { key = p; field = f })
bare-field s e p last f q h =
    let x = field_found_lem s e p last f q h in
    bare-between s e x.middle x.wire f.value q x.value
    ∙ ap (λ (k : ℕ). bare_at s k f.value) (sym (ap (after p) x.key.read))

abbrev pub HeldInside : ℕ → Held → Type 0
HeldInside n (held_as.Fields c f) = Inside n f
HeldInside n (held_as.Refused r) = Unit {0}

ahead-inside : (n : ℕ) (f : Span) (h : Held) → Inside n f → HeldInside n h → HeldInside n (ahead 1 f h)
ahead-inside n f (held_as.Fields c g) a b = a
ahead-inside n f (held_as.Refused r) a b = tt

pub more-inside : (n : ℕ) (s : List ℕ) (t : ℕ) (m : Mark) (ms : List Mark) → Inside n (bare_of s m) → HeldInside n (held_in s t ms)
    → HeldInside n (held_in s t (m ∷ ms))
more-inside n s t m ms a b = go (eqb m.field.tag t) refl
  where
    go : (x : Bool) → eqb m.field.tag t ≡ x → HeldInside n (held_in s t (m ∷ ms))
    go true x = rw (held_same s t m ms (eqb-true m.field.tag t x)) (ahead-inside n (bare_of s m) (held_in s t ms) a b)
    go false x = rw (held-other s t m ms (eqb-false m.field.tag t x)) b

-- ---- two messages

pub chosen-many : (n : ℕ) (p : Span) (m : ℕ) (q : Span) → 1 < m → chosen n p m q ≡ supply.Refused Repeated
chosen-many n p zero q h = absurd (omega arith)
chosen-many n p (suc zero) q h = absurd (omega arith)
chosen-many n p (suc (suc m)) q h = refl

pub chosen-older : (n : ℕ) (p : Span) (m : ℕ) (q : Span) → m ≡ 0 → 1 < n → chosen n p m q ≡ supply.Refused Repeated
chosen-older zero p m q e h = absurd (omega arith)
chosen-older (suc zero) p m q e h = absurd (omega arith)
chosen-older (suc (suc n)) p m q e h = rw e

-- a part that is supplied lies inside its message
abbrev pub SupplyInside : ℕ → ℕ → Supply → Type 0
SupplyInside n m (supply.Original p) = Inside n p
SupplyInside n m (supply.Correction p) = Inside m p
SupplyInside n m supply.Absent = Unit {0}
SupplyInside n m (supply.Refused r) = Unit {0}
