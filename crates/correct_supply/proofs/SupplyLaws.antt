-- The cases of a lookup over two messages; what is found of a tag lies inside its message.
use Rattle.std.specs.Prelude.{ℕ, zero, suc, ◌+◌, ◌-◌, ◌≤◌, ◌<◌, ◌≡◌, refl, Bool, true, false, List, ◌∷◌, ltb, eqb, length, take, drop}
use Rattle.std.proofs.Common.{ap, ◌∙◌, sym, subst, arith, ltb-true, ltb-false, eq-eqb, ne_eqb, eqb-true}
use Rattle.std.proofs.lemmas.Bool.{eqb-false}
use Rattle.std.specs.Borrow.{Bor}
use Rattle.wire.specs.Choose.{choose}
use Rattle.wire.specs.Reading.{varint_at, capped_at, key_at, value_at, field_at, Message, Fields, in_front, read_message}
use Rattle.wire.specs.Reading as reading
use Rattle.wire.specs.ReadingLaws.{renamed-got, key-took, within-got, number-got, payload-got}
use Rattle.wire.proofs.ReadingLaws.{value-moves, field_found_lem}
use Rattle.wire.specs.Marks.{Mark, marks_from, marks, marks-turn, marks-end}
use Rattle.wire.specs.declared.Refusal.{Refusal}
use Rattle.wire.specs.declared.Refusal.TheVariants.{Repeated}
use Rattle.wire.specs.declared.WireType.{WireType}
use Rattle.wire.specs.declared.WireType.TheVariants as wire_type
use Rattle.wire.specs.declared.Value.{Value}
use Rattle.wire.specs.declared.Key.{Key}
use Rattle.wire.specs.declared.Field.{Field}
use Rattle.wire.specs.declared.KeyFound.TheVariants as key_found
use Rattle.wire.specs.declared.ValueFound.TheVariants as value_found
use Rattle.wire.specs.declared.FieldFound.{FieldFound}
use Rattle.wire.specs.declared.FieldFound.TheVariants as field_found
use Rattle.message_payload.specs.declared.Span.{Span}
use Rattle.entry_answer.specs.Gate.{gated, through, through-open, through-shut}
use Rattle.entry_answer.specs.declared.Gated.{Gated}
use Rattle.entry_answer.specs.declared.Gated.TheVariants.{Open, Shut}
use Rattle.entry_message.specs.Messages.{Part, part_at}
use Rattle.correct_supply.specs.declared.Held.{Held}
use Rattle.correct_supply.specs.declared.Held.TheVariants as held_as
use Rattle.correct_supply.specs.declared.Supply.{Supply}
use Rattle.correct_supply.specs.declared.Supply.TheVariants as supply
use Rattle.correct_supply.specs.Supplying.{span, nowhere, after, bare_at, bare_of, between, ahead, held_in, accepting, held, alone, chosen, judged, supply_of}
use Rattle.correct_supply.specs.SupplyLaws.{HeldInside, Inside, SupplyInside, bare-field, between-inside, chosen-many, chosen-older, more-inside}

pub field-inside : (s : List ℕ) (e p last : ℕ) (f : Field) (q : ℕ) → field_at s e p last ≡ field_found.Got f q
    → Inside (length s) (bare_of s (record { key = p; field = f }))
field-inside s e p last f q h =
    let x = field_found_lem s e p last f q h in
    subst (λ (r : Span). Inside (length s) r) (bare-field s e p last f q h) (between-inside s e x.middle x.wire f.value q x.value)

marks-inside : (k : ℕ) (s : List ℕ) (e p last t : ℕ) → HeldInside (length s) (held_in s t (marks_from k s e p last))
unfolding held_in
marks-inside zero s e p last t = omega arith
marks-inside (suc k) s e p last t = go (ltb p e) refl (field_at s e p last) refl (λ q u. marks-inside k s e q u t)
  where
    go : (b : Bool) → ltb p e ≡ b → (o : FieldFound) → field_at s e p last ≡ o → ((q u : ℕ) → HeldInside (length s) (held_in s t (marks_from k s e q u)))
        → HeldInside (length s) (held_in s t (marks_from (suc k) s e p last))
    go false b o x ih = rw (marks-end s e p last (suc k) (ltb-false p e b)) (omega arith)
    go true b (field_found.Refused r) x ih = rw (b, x) (omega arith)
    go true b (field_found.Got f q) x ih =
        rw (marks-turn s e p last k f q (ltb-true p e b) x)
        (more-inside (length s) s t _ (marks_from k s e q f.tag) (field-inside s e p last f q x) (ih q f.tag))

pub held-inside : (s : List ℕ) (t : ℕ) → HeldInside (length s) (held s t)
unfolding held marks
held-inside s t = go (gated (length s) 0 (length s)) (read_message s 0 (length s))
  where
    go : (g : Gated) (m : Message) → HeldInside (length s) (through g held_as.Refused (accepting m (held_in s t (marks s 0 (length s)))))
    go Open (Fields fs) = marks-inside (length s - 0) s (length s) 0 0 t
    go Open (reading.Refused r p) = tt
    go (Shut r) m = tt

module _ (o c : List ℕ) (t : ℕ) where
  pub supply-shut : (r : Refusal) → held o t ≡ held_as.Refused r → supply_of o c t ≡ supply.Refused r
  unfolding supply_of judged
  supply-shut r h = rw h

  module _ (n : ℕ) (p : Span) (h : held o t ≡ held_as.Fields n p) where
    pub supply-refused : (r : Refusal) → held c t ≡ held_as.Refused r → supply_of o c t ≡ supply.Refused r
    unfolding supply_of judged
    supply-refused r g = rw (h, g)

    module _ (m : ℕ) (q : Span) (g : held c t ≡ held_as.Fields m q) where
      both : supply_of o c t ≡ chosen n p m q
      unfolding supply_of judged
      both = rw (h, g)

      pub supply-new : m ≡ 1 → supply_of o c t ≡ supply.Correction q
      supply-new e = both ∙ rw e

      pub supply-many : 1 < m → supply_of o c t ≡ supply.Refused Repeated
      supply-many e = both ∙ chosen-many n p m q e

      pub supply-old : m ≡ 0 → n ≡ 1 → supply_of o c t ≡ supply.Original p
      supply-old e f = both ∙ rw (e, f)

      pub supply-older : m ≡ 0 → 1 < n → supply_of o c t ≡ supply.Refused Repeated
      supply-older e f = both ∙ chosen-older n p m q e f

      pub supply-none : m ≡ 0 → n ≡ 0 → supply_of o c t ≡ supply.Absent
      supply-none e f = both ∙ rw (e, f)

pub supply-inside : (o c : List ℕ) (t : ℕ) → SupplyInside (length o) (length c) (supply_of o c t)
unfolding supply_of judged
supply-inside o c t = go (held o t) (held c t) (held-inside o t) (held-inside c t)
  where
    old : (n : ℕ) (p : Span) → Inside (length o) p → SupplyInside (length o) (length c) (alone supply.Original n p)
    old zero p a = tt
    old (suc zero) p a = a
    old (suc (suc n)) p a = tt

    new : (m : ℕ) (q : Span) → Inside (length c) q → SupplyInside (length o) (length c) (alone supply.Correction m q)
    new zero q a = tt
    new (suc zero) q a = a
    new (suc (suc m)) q a = tt

    either : (n : ℕ) (p : Span) (m : ℕ) (q : Span) → Inside (length o) p → Inside (length c) q → SupplyInside (length o) (length c) (chosen n p m q)
    either n p zero q a b = old n p a
    either n p (suc m) q a b = new (suc m) q b

    go : (x y : Held) → HeldInside (length o) x → HeldInside (length c) y → SupplyInside (length o) (length c) (judged x y)
    go (held_as.Fields n p) (held_as.Fields m q) a b = either n p m q a b
    go (held_as.Fields n p) (held_as.Refused r) a b = tt
    go (held_as.Refused r) y a b = tt

pub original-inside : (o c : List ℕ) (t : ℕ) (p : Span) → supply_of o c t ≡ supply.Original p → Inside (length o) p
original-inside o c t p h = rw h at (supply-inside o c t)

pub correction-inside : (o c : List ℕ) (t : ℕ) (p : Span) → supply_of o c t ≡ supply.Correction p → Inside (length c) p
correction-inside o c t p h = rw h at (supply-inside o c t)
