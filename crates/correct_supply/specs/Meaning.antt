-- What a supply says: how many fields of the tag each message has, and whose bytes the part holds (rules G2 and G3).
use Rattle.std.specs.Prelude.{ℕ, zero, suc, ◌+◌, ◌-◌, ◌≤◌, ◌≡◌, refl, Bool, true, false, List, [], ◌∷◌, ltb, eqb, length, take, drop}
use Rattle.std.proofs.Common.{ap, ◌∙◌, sym, arith, ltb-true, ltb-false, eqb-true}
use Rattle.std.proofs.lemmas.Bool.{eqb-false}
use Rattle.wire.specs.Limits.{message_limit}
use Rattle.wire.specs.Varint.{encode}
use Rattle.wire.specs.VarintLaws.{Bytes}
use Rattle.wire.specs.Fixed.{fixed}
use Rattle.wire.specs.Written.{Content, Number, Payload, Four, Eight}
use Rattle.wire.specs.Places.{shown}
use Rattle.wire.specs.Reading.{varint_at, capped_at, value_at, field_at, Message, Fields, read_message}
use Rattle.wire.specs.Reading as reading
use Rattle.wire.specs.ReadingLaws.{within-got, number-got, payload-got}
use Rattle.wire.proofs.ReadingLaws.{value-took, field_found_lem}
use Rattle.wire.specs.Marks.{Mark, marks_from, marks, fields_of, marks-turn, marks-end}
use Rattle.wire.proofs.Marks.{marks-fields}
use Rattle.wire.specs.declared.WireType.{WireType}
use Rattle.wire.specs.declared.WireType.TheVariants as wire_type
use Rattle.wire.specs.declared.Value.{Value}
use Rattle.wire.specs.declared.Field.{Field}
use Rattle.wire.specs.declared.Refusal.{Refusal}
use Rattle.wire.specs.declared.ValueFound.TheVariants as value_found
use Rattle.wire.specs.declared.FieldFound.{FieldFound}
use Rattle.wire.specs.declared.FieldFound.TheVariants as field_found
use Rattle.message.specs.Tags.{of_tag}
use Rattle.message_payload.specs.declared.Span.{Span}
use Rattle.entry_answer.specs.Gate.{gated, gated-open, gated-opens}
use Rattle.entry_answer.specs.declared.Gated.{Gated}
use Rattle.entry_answer.specs.declared.Gated.TheVariants.{Open, Shut}
use Rattle.correct_supply.specs.declared.Held.{Held}
use Rattle.correct_supply.specs.declared.Held.TheVariants as held_as
use Rattle.correct_supply.specs.declared.Supply.{Supply}
use Rattle.correct_supply.specs.declared.Supply.TheVariants as supply
use Rattle.correct_supply.specs.Supplying.{bare_of, between, ahead, held_in, accepting, held, chosen, judged, supply_of}
use Rattle.correct_supply.specs.SupplyLaws.{held-shut, held-open, held_same, held-other, bare-field}

-- ---- the bytes of a value, without a payload's length

abbrev pub bare_bytes : Content → List ℕ
bare_bytes (Number v) = encode v
bare_bytes (Payload p) = p
bare_bytes (Four n) = fixed 4 n
bare_bytes (Eight n) = fixed 8 n

abbrev pub span_bytes : List ℕ → Span → List ℕ
span_bytes s p = take p.length (drop p.start s)

-- ---- how many fields of the tag, and the first one's bytes

abbrev pub FirstOf : List ℕ → List Field → Span → Type 0
FirstOf s [] p = Unit {0}
FirstOf s (f ∷ fs) p = span_bytes s p ≡ bare_bytes (shown s f.value)

abbrev pub Told : List ℕ → List Field → Held → Type 0
Told s fs (held_as.Fields n p) = (n ≡ length fs) × (Bytes s → FirstOf s fs p)
Told s fs (held_as.Refused r) = ⊥

told_more : (s : List ℕ) (f : Field) (fs : List Field) (p : Span) (h : Held) → (Bytes s → span_bytes s p ≡ bare_bytes (shown s f.value))
    → Told s fs h → Told s (f ∷ fs) (ahead 1 p h)
told_more s f fs p (held_as.Fields n g) x y = (omega (arith, y.0), x)
told_more s f fs p (held_as.Refused r) x y = absurd y

pub told-mark : (s : List ℕ) (t : ℕ) (m : Mark) (ms : List Mark) → (Bytes s → span_bytes s (bare_of s m) ≡ bare_bytes (shown s m.field.value))
    → Told s (of_tag t (fields_of ms)) (held_in s t ms) → Told s (of_tag t (fields_of (m ∷ ms))) (held_in s t (m ∷ ms))
told-mark s t m ms x y = go (eqb m.field.tag t) refl
  where
    go : (b : Bool) → eqb m.field.tag t ≡ b → Told s (of_tag t (fields_of (m ∷ ms))) (held_in s t (m ∷ ms))
    go true b =
        rw (held_same s t m ms (eqb-true m.field.tag t b), b) (told_more s m.field (of_tag t (fields_of ms)) (bare_of s m) (held_in s t ms) x y)
    go false b = rw (held-other s t m ms (eqb-false m.field.tag t b), b) y

-- for other crates: a message that is refused, and what is found in one that is accepted
abbrev pub HeldRefused : List ℕ → ℕ → Refusal → Type 0
HeldRefused s t r = held s t ≡ held_as.Refused r

abbrev pub HeldFields : List ℕ → ℕ → ℕ → Span → Type 0
HeldFields s t n p = held s t ≡ held_as.Fields n p

-- a message that is accepted and has so many fields of the tag
pub record Has (s : List ℕ) (t n : ℕ) : Type 0 where
  pub short : length s ≤ message_limit
  pub fields : List Field
  pub read : read_message s 0 (length s) ≡ Fields fields
  pub count : n ≡ length (of_tag t fields)

-- and the bytes of the first one's value
pub record Of (s : List ℕ) (t n : ℕ) (p : Span) : Type 0 where
  pub has : Has s t n
  pub first : Bytes s → FirstOf s (of_tag t has.fields) p

pub no_fields : {A : Type 0} {r : Refusal} {n : ℕ} {p : Span} → held_as.Refused r ≡ held_as.Fields n p → A
no_fields e = let z : ◌≡◌ {A = ℕ} 0 1 = cc in absurd (omega arith)

-- ---- who supplies the tag

pub record Both (o c : List ℕ) (t : ℕ) (r : Supply) : Type 0 where
  pub olds : ℕ
  pub old : Span
  pub news : ℕ
  pub new : Span
  pub original : Of o t olds old
  pub correction : Of c t news new
  pub told : r ≡ chosen olds old news new

-- an answer that is no refusal of a message: both are accepted
pub data Said (o c : List ℕ) (t : ℕ) (r : Supply) : Type 0 where
  both : Both o c t r → Said o c t r
  original : (x : Refusal) → HeldRefused o t x → r ≡ supply.Refused x → Said o c t r
  correction : (x : Refusal) (n : ℕ) (p : Span) → HeldFields o t n p → HeldRefused c t x → r ≡ supply.Refused x → Said o c t r
