-- What a supply says: how many fields of the tag each message has, and whose bytes the part holds (rules G2 and G3).
use Rattle.std.specs.Prelude.{ℕ, zero, suc, ◌+◌, ◌-◌, ◌≤◌, ◌≡◌, refl, Bool, true, false, List, [], ◌∷◌, ltb, eqb, length, take, drop}
use Rattle.std.proofs.Common.{ap, ◌∙◌, sym, arith, ltb-true, ltb-false, eqb-true}
use Rattle.std.proofs.lemmas.Bool.{eqb-false}
use Rattle.wire.specs.Limits.{message_limit}
use Rattle.wire.specs.Varint.{encode}
use Rattle.wire.specs.VarintLaws.{Bytes}
use Rattle.wire.specs.Fixed.{fixed}
use Rattle.wire.specs.Written.{Content, Number, Payload, Four, Eight}
use Rattle.wire.specs.Places.{shown}
use Rattle.wire.specs.Reading.{varint_at, capped_at, value_at, field_at, Message, Fields, read_message}
use Rattle.wire.specs.Reading as reading
use Rattle.wire.specs.ReadingLaws.{within-got, number-got, payload-got}
use Rattle.wire.proofs.ReadingLaws.{value-took, field_found_lem}
use Rattle.wire.specs.Marks.{Mark, marks_from, marks, fields_of, marks-turn, marks-end}
use Rattle.wire.proofs.Marks.{marks-fields}
use Rattle.wire.specs.declared.WireType.{WireType}
use Rattle.wire.specs.declared.WireType.TheVariants as wire_type
use Rattle.wire.specs.declared.Value.{Value}
use Rattle.wire.specs.declared.Field.{Field}
use Rattle.wire.specs.declared.Refusal.{Refusal}
use Rattle.wire.specs.declared.ValueFound.TheVariants as value_found
use Rattle.wire.specs.declared.FieldFound.{FieldFound}
use Rattle.wire.specs.declared.FieldFound.TheVariants as field_found
use Rattle.message.specs.Tags.{of_tag}
use Rattle.message_payload.specs.declared.Span.{Span}
use Rattle.entry_answer.specs.Gate.{gated, gated-open, gated-opens}
use Rattle.entry_answer.specs.declared.Gated.{Gated}
use Rattle.entry_answer.specs.declared.Gated.TheVariants.{Open, Shut}
use Rattle.correct_supply.specs.declared.Held.{Held}
use Rattle.correct_supply.specs.declared.Held.TheVariants as held_as
use Rattle.correct_supply.specs.declared.Supply.{Supply}
use Rattle.correct_supply.specs.declared.Supply.TheVariants as supply
use Rattle.correct_supply.specs.Supplying.{bare_of, between, ahead, held_in, accepting, held, chosen, judged, supply_of}
use Rattle.correct_supply.specs.SupplyLaws.{held-shut, held-open, held_same, held-other, bare-field}
use Rattle.correct_supply.specs.Meaning.{Has, HeldFields, Of, Said, Told, bare_bytes, both, correction, no_fields, original, span_bytes, told-mark}

module _ (s : List ℕ) (b : Bytes s) where
  between-bytes : (e q : ℕ) (w : WireType) (v : Value) (n : ℕ) → value_at s e q w ≡ value_found.Got v n → span_bytes s (between v q n) ≡ bare_bytes (shown s v)
  between-bytes e q wire_type.Varint v n h =
      let x = (number-got (capped_at s e q) v n h).2 in
      rw x (rw x at (value-took s b e q wire_type.Varint v n h).0)
  between-bytes e q wire_type.LengthDelimited v n h = rw (payload-got s e (varint_at s q) v n h).3
  between-bytes e q wire_type.ThirtyTwoBit v n h =
      let x = (within-got s e (q + 4) _ v n h).0 in
      rw x (rw x at (value-took s b e q wire_type.ThirtyTwoBit v n h).0)
  between-bytes e q wire_type.SixtyFourBit v n h =
      let x = (within-got s e (q + 8) _ v n h).0 in
      rw x (rw x at (value-took s b e q wire_type.SixtyFourBit v n h).0)

  -- of a field that is read: the part is its value's own bytes
  pub field-bytes : (e p last : ℕ) (f : Field) (q : ℕ) → field_at s e p last ≡ field_found.Got f q
      → span_bytes s (bare_of s (record { key = p; field = f })) ≡ bare_bytes (shown s f.value)
  field-bytes e p last f q h =
      let x = field_found_lem s e p last f q h in
      ap (span_bytes s) (sym (bare-field s e p last f q h)) ∙ between-bytes e x.middle x.wire f.value q x.value

marks-told : (k : ℕ) (s : List ℕ) (e p last t : ℕ) → Told s (of_tag t (fields_of (marks_from k s e p last))) (held_in s t (marks_from k s e p last))
unfolding held_in
marks-told zero s e p last t = (refl, λ y. tt)
marks-told (suc k) s e p last t = go (ltb p e) refl (field_at s e p last) refl (λ q u. marks-told k s e q u t)
  where
    go : (b : Bool) → ltb p e ≡ b → (o : FieldFound) → field_at s e p last ≡ o
        → ((q u : ℕ) → Told s (of_tag t (fields_of (marks_from k s e q u))) (held_in s t (marks_from k s e q u)))
        → Told s (of_tag t (fields_of (marks_from (suc k) s e p last))) (held_in s t (marks_from (suc k) s e p last))
    go false b o x ih = rw (marks-end s e p last (suc k) (ltb-false p e b)) (refl, λ y. tt)
    go true b (field_found.Refused r) x ih = rw (b, x) (refl, λ y. tt)
    go true b (field_found.Got f q) x ih =
        rw (marks-turn s e p last k f q (ltb-true p e b) x)
        (told-mark s t _ (marks_from k s e q f.tag) (λ y. field-bytes s y e p last f q x) (ih q f.tag))

pub held_of : (s : List ℕ) (t n : ℕ) (p : Span) → HeldFields s t n p → Of s t n p
unfolding marks
held_of s t n p h = go (gated (length s) 0 (length s)) refl (read_message s 0 (length s)) refl
  where
    go : (g : Gated) → gated (length s) 0 (length s) ≡ g → (m : Message) → read_message s 0 (length s) ≡ m → Of s t n p
    go (Shut r) g m x = no_fields (sym (held-shut s t r g) ∙ h)
    go Open g (reading.Refused r q) x =
        no_fields {r = r} (sym (held-open s t g ∙ ap (λ (y : Message). accepting y (held_in s t (marks s 0 (length s)))) x) ∙ h)
    go Open g (Fields fs) x =
        let e : held_in s t (marks s 0 (length s)) ≡ held_as.Fields n p =
        sym (held-open s t g ∙ ap (λ (y : Message). accepting y (held_in s t (marks s 0 (length s)))) x) ∙ h
        in
        let w : Told s (of_tag t fs) (held_as.Fields n p) =
        rw (e, marks-fields s 0 (length s) fs x) at (marks-told (length s - 0) s (length s) 0 0 t)
        in
        record { has = record { short = (gated-opens (length s) 0 (length s) g).0; fields = fs; read = x; count = w.0 }; first = w.1 }

pub has-held : (s : List ℕ) (t n : ℕ) → Has s t n → (p : Span) × HeldFields s t n p
unfolding marks
has-held s t n w =
    go (held_in s t (marks s 0 (length s))) refl
    (rw (marks-fields s 0 (length s) w.fields w.read) at (marks-told (length s - 0) s (length s) 0 0 t))
  where
    is_held : held s t ≡ held_in s t (marks s 0 (length s))
    is_held =
        held-open s t (gated-open (length s) 0 (length s) w.short (omega arith) (omega arith))
        ∙ ap (λ (m : Message). accepting m (held_in s t (marks s 0 (length s)))) w.read

    go : (h : Held) → held_in s t (marks s 0 (length s)) ≡ h → Told s (of_tag t w.fields) h → (p : Span) × HeldFields s t n p
    go (held_as.Fields m p) e x = (p, is_held ∙ e ∙ ap (λ (k : ℕ). held_as.Fields k p) (x.0 ∙ sym w.count))
    go (held_as.Refused r) e x = absurd x

pub said : (o c : List ℕ) (t : ℕ) → Said o c t (supply_of o c t)
unfolding supply_of judged
said o c t = go (held o t) refl (held c t) refl
  where
    go : (x : Held) → held o t ≡ x → (y : Held) → held c t ≡ y → Said o c t (supply_of o c t)
    go (held_as.Refused r) x y z = original r x (rw x)
    go (held_as.Fields n p) x (held_as.Refused r) z = correction r n p x z (rw (x, z))
    go (held_as.Fields n p) x (held_as.Fields m q) z =
        both (record { olds = n; old = p; news = m; new = q; original = held_of o t n p x; correction = held_of c t m q z; told = rw (x, z) })
