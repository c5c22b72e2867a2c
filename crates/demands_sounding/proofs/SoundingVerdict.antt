-- THE NUMBER THAT READING A SOUNDING TELLS is that of the first refusal in its order (rule L7) whose condition holds, and 0 exactly if none does: of
-- every outcome that the contract allows.
use Rattle.std.specs.Prelude.{ℕ, ◌-◌, ◌≡◌, Bool, not, List, [], ◌∷◌, ◌++◌, ltb, leb, length, take, drop}
use Rattle.std.proofs.Math.Path.{refl, sym}
use Rattle.std.proofs.Common.{ap, ◌∙◌, arith, lt-ltb}
use Rattle.std.proofs.Math.Bool.{true, false}
use Rattle.std.proofs.Math.Dec.{eqb}
use Rattle.wire.specs.Choose.{choose}
use Rattle.wire.specs.Numbers.{number_of}
use Rattle.wire.specs.Table.{kind_word}
use Rattle.wire.specs.Reading.{Message, Fields, read_message}
use Rattle.wire.specs.Reading as reading
use Rattle.wire.specs.declared.Refusal.{Refusal}
use Rattle.wire.specs.declared.Refusal.TheVariants.{NoRoom, WrongWireType, OutOfRange, MissingField}
use Rattle.wire.specs.declared.Value.{Value}
use Rattle.wire.specs.declared.Value.TheVariants.{Varint, LengthDelimited, ThirtyTwoBit, SixtyFourBit}
use Rattle.wire.specs.declared.Field.{Field}
use Rattle.message.specs.Tags.{of_tag}
use Rattle.entry_message.specs.Messages.{picked_of}
use Rattle.sounding_value.specs.Values.{entered, number_picked, sent, needed, between, all_ones, in_range, measured}
use Rattle.sounding_value.specs.Values as values
use Rattle.sounding_value.specs.declared.Single.{Single}
use Rattle.sounding_value.specs.declared.Single.TheVariants as single
use Rattle.sounding_value.specs.declared.NumberFound.{NumberFound}
use Rattle.sounding_value.specs.declared.NumberFound.TheVariants as number_found
use Rattle.sounding_value.specs.declared.Measured.TheVariants.{Missing}
use Rattle.sounding_value.specs.declared.MeasuredFound.{MeasuredFound}
use Rattle.sounding_value.specs.declared.MeasuredFound.TheVariants as measured_found
use Rattle.sounding_value.specs.declared.Range.{Range}
use Rattle.sounding.specs.Layout.{Station, Launch, Pressure, Temperature, Depression, tag_of, range_of, level_tag}
use Rattle.sounding.specs.Soundings.{number_as, measured_as}
use Rattle.sounding.specs.Soundings.{level_of, level, level_in, Levels, All, Refused, also, each, levels, head_of, head, Judgement, judged, judge, opened}
use Rattle.sounding.specs.Words.{level_room, Outcome, stored, read_sounding}
use Rattle.sounding.specs.Promises.{each_all}
use Rattle.sounding.specs.Told.{sounding_told}
use Rattle.sounding.specs.declared.Level.{Level}
use Rattle.sounding.specs.declared.layout.Line.{Line}
use Rattle.sounding.specs.declared.LevelFound.{LevelFound}
use Rattle.sounding.specs.declared.LevelFound.TheVariants as level_found
use Rattle.demands_order.specs.Order.{Rule, when, first_of, Numbered, or_else, refused-first, ordered}
use Rattle.demands_order.specs.Rules.{order_r, message_rules, fields_in}
use Rattle.demands_order.specs.RulesLaws.{above, behind, message_number, message-told, fields_read_lem}
use Rattle.demands_order.specs.Verdicts.{order-r}
use Rattle.demands_sounding.specs.SoundingRules.{sent_rules, lacks, strays, line_rules, item_rules}
use Rattle.demands_sounding.specs.SoundingRules.{level_rules, level_in_rules, each_rules, sounding_rules, read_sounding_order}
use Rattle.sounding.proofs.read_sounding.Kinds as read-sounding
use Rattle.sounding.proofs.read_sounding.Reads as read-sounding-reads
use Rattle.demands_sounding.specs.SoundingVerdict.{also-told, asked, entered-told, found_number, level-refused, level_number, levels_number, measured_number, one_sent, outcome_number, sent-told, sounding-refused, sounding_number, stored-told}

module _ (t : ℕ) (q : Range) where
  -- where it must be there
  abbrev needs : Line
  needs = record { tag = t; range = q; missing = false }

  pub needed-told : (gs : List Field) → found_number (between q (needed (one_sent gs))) ≡ first_of (line_rules needs gs)
  unfolding between
  needed-told = sent-told (λ x. found_number (between q (needed x))) (λ r. refl) (asked needs) refl (λ f v e. rw e (go v (in_range q v) refl))
    where
      go : (v : ℕ) (b : Bool) → in_range q v ≡ b → found_number (between q (number_found.Got v)) ≡ first_of (when (not (in_range q v)) OutOfRange ∷ [])
      go v true b = rw b
      go v false b = rw b

  -- where it may be missing
  abbrev misses : Line
  misses = record { tag = t; range = q; missing = true }

  pub measured-told : (gs : List Field) → measured_number (measured q (one_sent gs)) ≡ first_of (line_rules misses gs)
  unfolding measured
  measured-told = sent-told (λ x. measured_number (measured q x)) (λ r. refl) (asked misses) refl (λ f v e. rw e (go v (eqb v all_ones) refl (in_range q v) refl))
    where
      go : (v : ℕ) (a : Bool) → eqb v all_ones ≡ a → (b : Bool) → in_range q v ≡ b
          → measured_number (measured q (single.Number v)) ≡ first_of (when (choose (eqb v all_ones) false (not (in_range q v))) OutOfRange ∷ [])
      go v true a b x = rw a
      go v false a true b = rw (a, b)
      go v false a false b = rw (a, b)

pub level-told : (fs : List Field) → level_number (level (Fields fs)) ≡ first_of (level_rules fs)
unfolding level sent
level-told fs =
    let p = one_sent (of_tag (tag_of Pressure) fs) in
    let t = one_sent (of_tag (tag_of Temperature) fs) in
    let d = one_sent (of_tag (tag_of Depression) fs) in
    go (number_as Pressure p) (measured_as Temperature t) (measured_as Depression d)
    ∙ behind (item_rules Pressure fs) (item_rules Temperature fs ++ item_rules Depression fs) (needed-told (tag_of Pressure) (range_of Pressure) (of_tag (tag_of Pressure) fs))
    (behind (item_rules Temperature fs) (item_rules Depression fs)
    (measured-told (tag_of Temperature) (range_of Temperature) (of_tag (tag_of Temperature) fs)) (measured-told (tag_of Depression) (range_of Depression) (of_tag (tag_of Depression) fs)))
  where
    go : (p : NumberFound) (t d : MeasuredFound) → level_number (level_of p t d) ≡ or_else (found_number p) (or_else (measured_number t) (measured_number d))
    go (number_found.Refused r) t d = sym (refused-first r _)
    go (number_found.Got p) (measured_found.Refused r) d = sym (refused-first r _)
    go (number_found.Got p) (measured_found.Got t) (measured_found.Refused r) = refl
    go (number_found.Got p) (measured_found.Got t) (measured_found.Got d) = refl

level-in-told : (s : List ℕ) (v : Value) → level_number (level_in (opened s) v) ≡ first_of (level_in_rules s v)
level-in-told s (LengthDelimited p n) = entered-told (λ m. level_number (level m)) level-refused level_rules level-told (take n (drop p s))
level-in-told s (Varint v) = refl
level-in-told s (ThirtyTwoBit v) = refl
level-in-told s (SixtyFourBit v) = refl

each-told : (s : List ℕ) (gs : List Field) → levels_number (each (opened s) gs) ≡ first_of (each_rules s gs)
each-told s [] = refl
each-told s (g ∷ gs) =
    also-told (level_in (opened s) g.value) (each (opened s) gs)
    ∙ behind (level_in_rules s g.value) (each_rules s gs) (level-in-told s g.value) (each-told s gs)

sounding-told : (s t : List ℕ) (fs : List Field) → sounding_number t (judge (opened s) (Fields fs)) ≡ first_of (sounding_rules s t fs)
unfolding judge head levels sent
sounding-told s t fs =
    let ls = of_tag level_tag fs in
    let room = when (ltb (level_room t) (length ls)) NoRoom ∷ [] in
    let f : Field = record { tag = level_tag; value = Varint 0 } in
    let l : Level = record { pressure = 0; temperature = Missing; depression = Missing } in
    stored-told t (number_as Station (one_sent (of_tag (tag_of Station) fs))) (number_as Launch (one_sent (of_tag (tag_of Launch) fs))) (each (opened s) ls) (length ls)
    (λ ks h. (each_all (opened s) f l ls ks h).0)
    ∙ behind (item_rules Station fs) (item_rules Launch fs ++ (each_rules s ls ++ room)) (needed-told (tag_of Station) (range_of Station) (of_tag (tag_of Station) fs))
    (behind (item_rules Launch fs) (each_rules s ls ++ room) (needed-told (tag_of Launch) (range_of Launch) (of_tag (tag_of Launch) fs))
    (behind (each_rules s ls) room (each-told s ls) refl))

pub read-sounding-number : Numbered 2 read-sounding.ps read-sounding.r read-sounding-reads.Post (λ κs x. (sounding_told x).number)
    (λ κs a. read_sounding_order a.0.now a.1.0.now)
unfolding read_sounding
read-sounding-number κs a x e p =
    let s = a.0.now in
    let t = a.1.0.now in
    ordered _ _
    (ap outcome_number p
    ∙ entered-told (λ m. sounding_number t (judge (opened s) m)) (sounding-refused s t) (sounding_rules s t) (sounding-told s t) s)
