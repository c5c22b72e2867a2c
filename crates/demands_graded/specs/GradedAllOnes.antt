-- All ones alone, in the second edition: where the least grade that is taken is NotCanonical, the number is the one that the same sounding gets with
-- 0 in the place of all ones in every field that is no station and no pressure. With a higher one an all-ones value written out is NotCanonical (14),
-- by rule B3.
use Rattle.std.specs.Prelude.{ℕ, ◌≡◌, Bool, true, false, leb, length}
use Rattle.std.proofs.Math.Path.{refl, ap, sym}
use Rattle.std.proofs.Common.{◌∙◌, arith}
use mathlib.Core.List.{List, [], ◌∷◌}
use Rattle.wire.specs.Choose.{choose}
use Rattle.wire.specs.Numbers.{number_of}
use Rattle.wire.specs.Reading.{Message, Fields}
use Rattle.wire.specs.Reading as reading
use Rattle.wire.specs.declared.Value.{Value}
use Rattle.wire.specs.declared.Value.TheVariants.{Varint, LengthDelimited, ThirtyTwoBit, SixtyFourBit}
use Rattle.wire.specs.declared.Field.{Field}
use Rattle.wire.specs.declared.Refusal.TheVariants.{NoRoom}
use Rattle.message.specs.Tags.{of_tag}
use Rattle.sounding_value.specs.Values.{entered, in_range}
use Rattle.sounding_value.specs.declared.Measured.TheVariants.{Missing}
use Rattle.sounding_value.specs.declared.MeasuredFound.{MeasuredFound}
use Rattle.sounding_value.specs.declared.MeasuredFound.TheVariants as measured_found
use Rattle.sounding.specs.Layout.{Speed, Direction, tag_of, range_of, level_tag}
use Rattle.sounding.specs.Soundings.{sent_of, level, head, opened}
use Rattle.sounding.specs.AllOnes.{calm_value, kept, calm_field, calm_fields, calm, Verdict, Accepted, Refuses, first, of_measured, of_level, of_head, calm_of}
use Rattle.sounding.specs.AllOnes.{calm-sent, calm-measured, calm-level, calm_inside, calm-head}
use Rattle.sounding.specs.declared.LevelFound.{LevelFound}
use Rattle.sounding.specs.declared.LevelFound.TheVariants as level_found
use Rattle.sounding.specs.declared.HeadFound.{HeadFound}
use Rattle.sounding.specs.declared.HeadFound.TheVariants as head_found
use Rattle.sounding_grade.specs.Flaws.{gated-first}
use Rattle.sounding_grade.specs.declared.Grade.{Grade}
use Rattle.sounding_grade.specs.declared.Grade.TheVariants.{NotCanonical}
use Rattle.sounding_wind.specs.Windy.{speed, direction, windy_of, windy}
use Rattle.sounding_wind.specs.declared.WindyFound.{WindyFound}
use Rattle.sounding_wind.specs.declared.WindyFound.TheVariants as windy_found
use Rattle.sounding_graded.specs.Graded.{windy_in, Windies, All, Refused, in_front, each, windies, all_grades, Report, Judgement, Good, Bad, judged, judge}
use Rattle.sounding_graded.specs.Words.{graded_room, Outcome, stored, read_graded}
use Rattle.sounding_graded.specs.Told.{graded_told}
use Rattle.demands_order.specs.Calls.{Every}
use Rattle.demands_sounding.specs.AllOnesAlone.{levels_sent}
use Rattle.demands_sounding.specs.AllOnesAlone as alone
use Rattle.demands_graded.specs.Grades.{each_placed, judged-good}
use Rattle.sounding_graded.proofs.read_graded.Kinds as read-graded
use Rattle.sounding_graded.proofs.read_graded.Reads as read-graded-reads

-- ---- each part of a judgement has a verdict, and the first refusal decides

abbrev of_windy : WindyFound → Verdict
of_windy (windy_found.Got w) = Accepted
of_windy (windy_found.Refused r) = Refuses r

abbrev of_windies : Windies → Verdict
of_windies (All ws) = Accepted
of_windies (Refused r) = Refuses r

abbrev pub verdict_of : Judgement → Verdict
verdict_of (Good r) = Accepted
verdict_of (Bad r) = Refuses r

windy-first : (l : LevelFound) (s d : MeasuredFound) → of_windy (windy_of l s d) ≡ first (of_level l) (first (of_measured s) (of_measured d))
windy-first (level_found.Refused r) s d = refl
windy-first (level_found.Got l) (measured_found.Refused r) d = refl
windy-first (level_found.Got l) (measured_found.Got s) (measured_found.Refused r) = refl
windy-first (level_found.Got l) (measured_found.Got s) (measured_found.Got d) = refl

front-first : (w : WindyFound) (ws : Windies) → of_windies (in_front w ws) ≡ first (of_windy w) (of_windies ws)
front-first (windy_found.Refused r) ws = refl
front-first (windy_found.Got w) (Refused r) = refl
front-first (windy_found.Got w) (All ws) = refl

graded-first : (h : HeadFound) (ws : Windies) (gs : List Grade) → verdict_of (judged h ws gs) ≡ first (of_head h) (of_windies ws)
graded-first (head_found.Refused r) ws gs = refl
graded-first (head_found.Got s l) (Refused r) gs = refl
graded-first (head_found.Got s l) (All ws) gs = refl

-- ---- 0 lies in both ranges

speed-zero : in_range (range_of Speed) 0 ≡ true
unfolding in_range
speed-zero = refl

direction-zero : in_range (range_of Direction) 0 ≡ true
unfolding in_range
direction-zero = refl

-- ---- a level, the levels, the sounding

calm-windy : (m : Message) → of_windy (windy (calm m)) ≡ of_windy (windy m)
unfolding windy
calm-windy m =
    windy-first (level (calm m)) (speed (calm m)) (direction (calm m))
    ∙ rw (calm-level m, calm-sent (tag_of Speed) m, calm-sent (tag_of Direction) m)
    (rw (calm-measured _ speed-zero (sent_of Speed m), calm-measured _ direction-zero (sent_of Direction m)) refl)
    ∙ sym (windy-first (level m) (speed m) (direction m))

module _ (inside : ℕ → ℕ → Message) where
  calm-windy-in : (b : Bool) (v : Value) → of_windy (windy_in (calm_inside inside) (choose b v (calm_value v))) ≡ of_windy (windy_in inside v)
  calm-windy-in true (LengthDelimited p n) = calm-windy (inside p n)
  calm-windy-in true (Varint v) = refl
  calm-windy-in true (ThirtyTwoBit v) = refl
  calm-windy-in true (SixtyFourBit v) = refl
  calm-windy-in false (LengthDelimited p n) = calm-windy (inside p n)
  calm-windy-in false (Varint v) = refl
  calm-windy-in false (ThirtyTwoBit v) = refl
  calm-windy-in false (SixtyFourBit v) = refl

  calm-each : (fs : List Field) → of_windies (each (calm_inside inside) (calm_fields fs)) ≡ of_windies (each inside fs)
  calm-each [] = refl
  calm-each (f ∷ fs) =
      front-first (windy_in (calm_inside inside) (calm_field f).value) (each (calm_inside inside) (calm_fields fs))
      ∙ rw (calm-windy-in (kept f.tag) f.value, calm-each fs) refl
      ∙ sym (front-first (windy_in inside f.value) (each inside fs))

  calm-windies : (m : Message) → of_windies (windies (calm_inside inside) (calm m)) ≡ of_windies (windies inside m)
  unfolding windies
  calm-windies (Fields fs) = ap (λ (gs : List Field). of_windies (each (calm_inside inside) gs)) (calm_of level_tag fs) ∙ calm-each (of_tag level_tag fs)
  calm-windies (reading.Refused r p) = refl

  -- ALL ONES ALONE CHANGES NO VERDICT, the grade apart
  pub graded-all-ones-alone : (m : Message) → verdict_of (judge (calm_inside inside) (calm m)) ≡ verdict_of (judge inside m)
  unfolding judge
  graded-all-ones-alone m =
      graded-first (head (calm m)) (windies (calm_inside inside) (calm m)) (all_grades (calm_inside inside) (calm m))
      ∙ rw (calm-head inside m, calm-windies m) refl
      ∙ sym (graded-first (head m) (windies inside m) (all_grades inside m))

-- ---- the number, with room or without

abbrev pub number_for : List ℕ → (ℕ → ℕ → Message) → Message → ℕ
number_for t inside m = (graded_told (stored t NotCanonical (judge inside m)).answer).number

good-levels : (inside : ℕ → ℕ → Message) (m : Message) (r : Report) → judge inside m ≡ Good r → length r.levels ≡ levels_sent m
unfolding judge windies levels_sent
good-levels inside (Fields fs) r e =
    (each_placed inside (record { tag = level_tag; value = Varint 0 })
    (record { level = record { pressure = 0; temperature = Missing; depression = Missing }; speed = Missing; direction = Missing })
    (of_tag level_tag fs) r.levels
    (judged-good (head (Fields fs)) (windies inside (Fields fs)) (all_grades inside (Fields fs)) r e).1).0
good-levels inside (reading.Refused q p) r e =
    let m = reading.Refused q p in
    let x : Refused q ≡ All r.levels = (judged-good (head m) (Refused q) [] r e).1 in
    let z : ◌≡◌ {A = ℕ} 0 1 = cc in
    absurd (omega arith)

good-number : (t : List ℕ) (r : Report)
    → (graded_told (stored t NotCanonical (Good r)).answer).number ≡ choose (leb (length r.levels) (graded_room t)) 0 (number_of NoRoom)
good-number t r = go (leb (length r.levels) (graded_room t)) refl
  where
    go : (b : Bool) → leb (length r.levels) (graded_room t) ≡ b
        → (graded_told (stored t NotCanonical (Good r)).answer).number ≡ choose (leb (length r.levels) (graded_room t)) 0 (number_of NoRoom)
    go true b = rw (b, sym (gated-first NotCanonical r.grades))
    go false b = rw b

same_number : (t : List ℕ) (j k : Judgement) → verdict_of j ≡ verdict_of k
    → ((r q : Report) → j ≡ Good r → k ≡ Good q → length r.levels ≡ length q.levels)
    → (graded_told (stored t NotCanonical j).answer).number ≡ (graded_told (stored t NotCanonical k).answer).number
same_number t (Good r) (Good q) v h =
    good-number t r ∙ ap (λ (n : ℕ). choose (leb n (graded_room t)) 0 (number_of NoRoom)) (h r q refl refl) ∙ sym (good-number t q)
same_number t (Good r) (Bad y) v h = let z : ◌≡◌ {A = ℕ} 0 1 = cc in absurd (omega arith)
same_number t (Bad x) (Good q) v h = let z : ◌≡◌ {A = ℕ} 0 1 = cc in absurd (omega arith)
same_number t (Bad x) (Bad y) v h = let z : x ≡ y = cc in rw z

pub graded-calm-number : (t s : List ℕ) → number_for t (opened s) (entered s) ≡ number_for t (calm_inside (opened s)) (calm (entered s))
graded-calm-number t s =
    let m = entered s in
    sym
    (same_number t (judge (calm_inside (opened s)) (calm m)) (judge (opened s) m) (graded-all-ones-alone (opened s) m)
    (λ r q e f. good-levels (calm_inside (opened s)) (calm m) r e ∙ alone.calm-sent m ∙ sym (good-levels (opened s) m q f)))

-- THE THEOREM, over every outcome
pub graded-all-ones : Every 2 read-graded.ps read-graded.r read-graded-reads.Post
    (λ κs a x s. a.1.1.0 ≡ NotCanonical
    → let m = a.0.now in (graded_told x).number ≡ number_for a.1.0.now (calm_inside (opened m)) (calm (entered m)))
unfolding read_graded
graded-all-ones κs a x s p e =
    ap (λ (o : Outcome). (graded_told o.answer).number) p
    ∙ ap (λ (g : Grade). (graded_told (read_graded a.0.now a.1.0.now g).answer).number) e
    ∙ graded-calm-number a.1.0.now a.0.now
