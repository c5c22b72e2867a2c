-- THE NUMBER THAT READING A SOUNDING TELLS is that of the first refusal in its order (rule L7) whose condition holds, and 0 exactly if none does: of
-- every outcome that the contract allows.
use Rattle.std.specs.Prelude.{ℕ, ◌-◌, ◌≡◌, Bool, not, List, [], ◌∷◌, ◌++◌, ltb, leb, length, take, drop}
use Rattle.std.proofs.Math.Path.{refl, sym}
use Rattle.std.proofs.Common.{ap, ◌∙◌, arith, lt-ltb}
use Rattle.std.proofs.Math.Bool.{true, false}
use Rattle.std.proofs.Math.Dec.{eqb}
use Rattle.wire.specs.Choose.{choose}
use Rattle.wire.specs.Numbers.{number_of}
use Rattle.wire.specs.Table.{kind_word}
use Rattle.wire.specs.Reading.{Message, Fields, read_message}
use Rattle.wire.specs.Reading as reading
use Rattle.wire.specs.declared.Refusal.{Refusal}
use Rattle.wire.specs.declared.Refusal.TheVariants.{NoRoom, WrongWireType, OutOfRange, MissingField}
use Rattle.wire.specs.declared.Value.{Value}
use Rattle.wire.specs.declared.Value.TheVariants.{Varint, LengthDelimited, ThirtyTwoBit, SixtyFourBit}
use Rattle.wire.specs.declared.Field.{Field}
use Rattle.message.specs.Tags.{of_tag}
use Rattle.entry_message.specs.Messages.{picked_of}
use Rattle.sounding_value.specs.Values.{entered, number_picked, sent, needed, between, all_ones, in_range, measured}
use Rattle.sounding_value.specs.Values as values
use Rattle.sounding_value.specs.declared.Single.{Single}
use Rattle.sounding_value.specs.declared.Single.TheVariants as single
use Rattle.sounding_value.specs.declared.NumberFound.{NumberFound}
use Rattle.sounding_value.specs.declared.NumberFound.TheVariants as number_found
use Rattle.sounding_value.specs.declared.Measured.TheVariants.{Missing}
use Rattle.sounding_value.specs.declared.MeasuredFound.{MeasuredFound}
use Rattle.sounding_value.specs.declared.MeasuredFound.TheVariants as measured_found
use Rattle.sounding_value.specs.declared.Range.{Range}
use Rattle.sounding.specs.Layout.{Station, Launch, Pressure, Temperature, Depression, tag_of, range_of, level_tag}
use Rattle.sounding.specs.Soundings.{number_as, measured_as}
use Rattle.sounding.specs.Soundings.{level_of, level, level_in, Levels, All, Refused, also, each, levels, head_of, head, Judgement, judged, judge, opened}
use Rattle.sounding.specs.Words.{level_room, Outcome, stored, read_sounding}
use Rattle.sounding.specs.Promises.{each_all}
use Rattle.sounding.specs.Told.{sounding_told}
use Rattle.sounding.specs.declared.Level.{Level}
use Rattle.sounding.specs.declared.layout.Line.{Line}
use Rattle.sounding.specs.declared.LevelFound.{LevelFound}
use Rattle.sounding.specs.declared.LevelFound.TheVariants as level_found
use Rattle.demands_order.specs.Order.{Rule, when, first_of, Numbered, or_else, refused-first, ordered}
use Rattle.demands_order.specs.Rules.{order_r, message_rules, fields_in}
use Rattle.demands_order.specs.RulesLaws.{above, behind, message_number, message-told, fields_read_lem}
use Rattle.demands_order.specs.Verdicts.{order-r}
use Rattle.demands_sounding.specs.SoundingRules.{sent_rules, lacks, strays, line_rules, item_rules}
use Rattle.demands_sounding.specs.SoundingRules.{level_rules, level_in_rules, each_rules, sounding_rules, read_sounding_order}
use Rattle.sounding.proofs.read_sounding.Kinds as read-sounding
use Rattle.sounding.proofs.read_sounding.Reads as read-sounding-reads

-- ---- the number of each finding

abbrev pub found_number : NumberFound → ℕ
found_number (number_found.Got v) = 0
found_number (number_found.Refused r) = number_of r

abbrev pub measured_number : MeasuredFound → ℕ
measured_number (measured_found.Got m) = 0
measured_number (measured_found.Refused r) = number_of r

abbrev pub level_number : LevelFound → ℕ
level_number (level_found.Got l) = 0
level_number (level_found.Refused r) = number_of r

abbrev pub levels_number : Levels → ℕ
levels_number (All ls) = 0
levels_number (Refused r) = number_of r

-- ---- the fields of one tag

abbrev pub one_sent : List Field → Single
one_sent gs = number_picked (picked_of gs)

-- what is asked of one, in order: that the tag stands once, that it is a Varint, then the rest, of no field or of a number
module _ (number : Single → ℕ) (refused : (r : Refusal) → number (single.Refused r) ≡ number_of r) (rest : List Field → List Rule)
    (absent : number single.Absent ≡ first_of (rest []))
    (one : (f : Field) (v : ℕ) → f.value ≡ Varint v → number (single.Number v) ≡ first_of (rest (f ∷ []))) where
  pub sent-told : (gs : List Field) → number (one_sent gs) ≡ first_of (sent_rules gs ++ rest gs)
  sent-told [] = absent
  sent-told (f ∷ g ∷ gs) = rw (lt-ltb 1 (length (f ∷ g ∷ gs)) (omega arith)) (refused _)
  sent-told (f ∷ []) = go f.value refl
    where
      go : (v : Value) → f.value ≡ v → number (one_sent (f ∷ [])) ≡ first_of (sent_rules (f ∷ []) ++ rest (f ∷ []))
      go (Varint v) e =
          ap (λ (w : Value). number (values.number_of w)) e ∙ one f v e
          ∙ sym (ap (λ (w : Value). first_of (when (not (eqb (kind_word w) 0)) WrongWireType ∷ rest (f ∷ []))) e)
      go (LengthDelimited p n) e = rw e (refused _)
      go (ThirtyTwoBit v) e = rw e (refused _)
      go (SixtyFourBit v) e = rw e (refused _)

-- what a line of the layout asks of the fields of its tag
abbrev pub asked : Line → List Field → List Rule
asked l gs = when (lacks l gs) MissingField ∷ when (strays l gs) OutOfRange ∷ []

-- ---- a message that is refused, or read and then judged by its fields

module _ (number : Message → ℕ) (refused : (r : Refusal) (p : ℕ) → number (reading.Refused r p) ≡ number_of r) (rules : List Field → List Rule)
    (read : (fs : List Field) → number (Fields fs) ≡ first_of (rules fs)) where
  pub entered-told : (s : List ℕ) → number (entered s) ≡ first_of (order_r s 0 (length s) (message_rules s 0 (length s) ++ rules (fields_in s 0 (length s))))
  unfolding entered read_message
  entered-told s =
      order-r number (λ r. reading.Refused r 0) (λ r. refused r 0) s 0 (length s) (read_message s 0 (length s))
      (message_rules s 0 (length s) ++ rules (fields_in s 0 (length s)))
      (go (read_message s 0 (length s)) refl ∙ behind (message_rules s 0 (length s)) (rules (fields_in s 0 (length s))) (message-told s 0 (length s)) refl)
    where
      go : (m : Message) → read_message s 0 (length s) ≡ m → number m ≡ or_else (message_number m) (first_of (rules (fields_in s 0 (length s))))
      go (reading.Refused r p) h = refused r p ∙ sym (refused-first r _)
      go (Fields fs) h = rw (fields_read_lem (length s - 0) s (length s) 0 0 0 fs h) (read fs)

-- ---- a level

pub level-refused : (r : Refusal) (p : ℕ) → level_number (level (reading.Refused r p)) ≡ number_of r
unfolding level sent between
level-refused r p = refl

-- ---- the levels

pub also-told : (l : LevelFound) (ls : Levels) → levels_number (also l ls) ≡ or_else (level_number l) (levels_number ls)
also-told (level_found.Got l) (All ls) = refl
also-told (level_found.Got l) (Refused r) = refl
also-told (level_found.Refused r) ls = sym (refused-first r _)

-- ---- a sounding

abbrev pub outcome_number : Outcome → ℕ
outcome_number o = (sounding_told o.answer).number

abbrev pub sounding_number : List ℕ → Judgement → ℕ
sounding_number t j = outcome_number (stored t j)

room-told : (t : List ℕ) (n : ℕ) (x y : Outcome) → outcome_number x ≡ 0 → outcome_number y ≡ number_of NoRoom
    → outcome_number (choose (leb n (level_room t)) x y) ≡ first_of (when (ltb (level_room t) n) NoRoom ∷ [])
room-told t n x y e f = go (leb n (level_room t)) refl
  where
    go : (b : Bool) → leb n (level_room t) ≡ b → outcome_number (choose (leb n (level_room t)) x y) ≡ first_of (when (ltb (level_room t) n) NoRoom ∷ [])
    go true b = rw (above n (level_room t), b) e
    go false b = rw (above n (level_room t), b) f

-- station, launch, n levels, the room
pub stored-told : (t : List ℕ) (x y : NumberFound) (ls : Levels) (n : ℕ) → ((ks : List Level) → ls ≡ All ks → length ks ≡ n)
    → sounding_number t (judged (head_of x y) ls) ≡ or_else (found_number x)
    (or_else (found_number y) (or_else (levels_number ls) (first_of (when (ltb (level_room t) n) NoRoom ∷ []))))
stored-told t (number_found.Refused r) y ls n h = sym (refused-first r _)
stored-told t (number_found.Got s) (number_found.Refused r) ls n h = sym (refused-first r _)
stored-told t (number_found.Got s) (number_found.Got l) (Refused r) n h = sym (refused-first r _)
stored-told t (number_found.Got s) (number_found.Got l) (All ks) n h = rw (← (h ks refl)) (room-told t (length ks) _ _ refl refl)

pub sounding-refused : (s t : List ℕ) (r : Refusal) (p : ℕ) → sounding_number t (judge (opened s) (reading.Refused r p)) ≡ number_of r
unfolding judge head levels sent between
sounding-refused s t r p = refl
