-- THE NUMBER THAT READING A GRADED SOUNDING TELLS is that of the first refusal in its order (rule B6) whose condition holds, and 0 exactly if none
-- does; and what a read leaves of the table: of every outcome that the contract allows.
use Rattle.std.specs.Prelude.{ℕ, zero, suc, ◌*◌, ◌≡◌, refl, Bool, true, false, List, [], ◌∷◌, ◌++◌, leb, ltb, length, take, drop}
use Rattle.std.proofs.Common.{ap, ◌∙◌, sym, subst, arith, leb-true, lt-ltb}
use Rattle.wire.specs.Numbers.{number_of}
use Rattle.wire.specs.Reading.{Message, Fields}
use Rattle.wire.specs.Reading as reading
use Rattle.wire.specs.declared.Refusal.{Refusal}
use Rattle.wire.specs.declared.Refusal.TheVariants.{NoRoom}
use Rattle.wire.specs.declared.Value.{Value}
use Rattle.wire.specs.declared.Value.TheVariants.{Varint, LengthDelimited, ThirtyTwoBit, SixtyFourBit}
use Rattle.wire.specs.declared.Field.{Field}
use Rattle.message.specs.Tags.{of_tag}
use Rattle.entry_answer.specs.declared.Gated.{Gated}
use Rattle.entry_answer.specs.declared.Gated.TheVariants.{Open, Shut}
use Rattle.sounding_value.specs.Values.{entered, sent, between}
use Rattle.sounding_value.specs.declared.NumberFound.{NumberFound}
use Rattle.sounding_value.specs.declared.NumberFound.TheVariants as number_found
use Rattle.sounding_value.specs.declared.MeasuredFound.{MeasuredFound}
use Rattle.sounding_value.specs.declared.MeasuredFound.TheVariants as measured_found
use Rattle.sounding_value.specs.declared.Measured.TheVariants.{Missing}
use Rattle.sounding.specs.Layout.{Station, Launch, Speed, Direction, tag_of, range_of, level_tag}
use Rattle.sounding.specs.Soundings.{number_as, level, head_of, head, opened}
use Rattle.sounding.specs.declared.LevelFound.{LevelFound}
use Rattle.sounding.specs.declared.LevelFound.TheVariants as level_found
use Rattle.sounding_grade.specs.Grades.{below, first_below}
use Rattle.sounding_grade.specs.declared.Grade.{Grade}
use Rattle.sounding_grade.specs.declared.Grade.TheVariants.{NotCanonical, HasExtensions, Canonical}
use Rattle.sounding_wind.specs.Windy.{speed, direction, windy_of, windy}
use Rattle.sounding_wind.specs.declared.Windy.{Windy}
use Rattle.sounding_wind.specs.declared.WindyFound.{WindyFound}
use Rattle.sounding_wind.specs.declared.WindyFound.TheVariants as windy_found
use Rattle.sounding_graded.specs.Graded.{windy_in, Windies, All, Refused, in_front, each, windies, grades, Report, Judgement, Good, Bad, judged, judge}
use Rattle.sounding_graded.specs.Words.{graded_size, words_of, graded_room, Outcome, admitted, stored, read_graded}
use Rattle.sounding_graded.specs.Told.{GradedHeading, graded_told}
use Rattle.sounding_graded.proofs.Parts.{length-words}
use Rattle.c_words.specs.Words.{Lent}
use Rattle.c_graded.specs.Words.{as_graded, grade_of, graded_lent, graded_as}
use Rattle.c_graded.specs.declared.Least.{Least}
use Rattle.c_graded.specs.declared.Least.TheVariants.{Is, Unknown}
use Rattle.demands_order.specs.Calls.{Every}
use Rattle.demands_order.specs.Order.{when, first_of, Numbered, or_else, refused-first, ordered}
use Rattle.demands_order.specs.RulesLaws.{above, behind}
use Rattle.demands_order.specs.Refusals.{Framed, kept, put_front}
use Rattle.demands_sounding.specs.SoundingRules.{item_rules, level_rules}
use Rattle.demands_sounding.specs.SoundingVerdict.{found_number, measured_number, level_number, one_sent, entered-told}
use Rattle.demands_sounding.proofs.SoundingVerdict.{needed-told, measured-told, level-told}
use Rattle.demands_graded.specs.GradedRules.{windy_rules, windy_in_rules, windies_rules, grade_rules, last_rules, graded_rules, read_graded_order, least_order}
use Rattle.demands_graded.specs.Grades.{each_placed}
use Rattle.sounding_graded.proofs.read_graded.Kinds as read-graded
use Rattle.sounding_graded.proofs.read_graded.Reads as read-graded-reads
use Rattle.capgauze_c.proofs.capgauze_read_graded.Kinds as c-read-graded
use Rattle.capgauze_c.proofs.capgauze_read_graded.Reads as c-read-graded-reads

-- ---- a level

abbrev windy_number : WindyFound → ℕ
windy_number (windy_found.Got w) = 0
windy_number (windy_found.Refused r) = number_of r

windy-told : (fs : List Field) → windy_number (windy (Fields fs)) ≡ first_of (windy_rules fs)
unfolding windy sent
windy-told fs =
    go (level (Fields fs)) (speed (Fields fs)) (direction (Fields fs))
    ∙ behind (level_rules fs) (item_rules Speed fs ++ item_rules Direction fs) (level-told fs)
    (behind (item_rules Speed fs) (item_rules Direction fs)
    (measured-told (tag_of Speed) (range_of Speed) (of_tag (tag_of Speed) fs)) (measured-told (tag_of Direction) (range_of Direction) (of_tag (tag_of Direction) fs)))
  where
    go : (l : LevelFound) (s d : MeasuredFound) → windy_number (windy_of l s d) ≡ or_else (level_number l) (or_else (measured_number s) (measured_number d))
    go (level_found.Refused r) s d = sym (refused-first r _)
    go (level_found.Got l) (measured_found.Refused r) d = sym (refused-first r _)
    go (level_found.Got l) (measured_found.Got s) (measured_found.Refused r) = refl
    go (level_found.Got l) (measured_found.Got s) (measured_found.Got d) = refl

windy-refused : (r : Refusal) (p : ℕ) → windy_number (windy (reading.Refused r p)) ≡ number_of r
unfolding windy level sent between
windy-refused r p = refl

windy-in-told : (s : List ℕ) (v : Value) → windy_number (windy_in (opened s) v) ≡ first_of (windy_in_rules s v)
windy-in-told s (LengthDelimited p n) = entered-told (λ m. windy_number (windy m)) windy-refused windy_rules windy-told (take n (drop p s))
windy-in-told s (Varint v) = refl
windy-in-told s (ThirtyTwoBit v) = refl
windy-in-told s (SixtyFourBit v) = refl

-- ---- the levels

abbrev windies_number : Windies → ℕ
windies_number (All ws) = 0
windies_number (Refused r) = number_of r

front-told : (w : WindyFound) (ws : Windies) → windies_number (in_front w ws) ≡ or_else (windy_number w) (windies_number ws)
front-told (windy_found.Got w) (All ws) = refl
front-told (windy_found.Got w) (Refused r) = refl
front-told (windy_found.Refused r) ws = sym (refused-first r _)

windies-told : (s : List ℕ) (gs : List Field) → windies_number (each (opened s) gs) ≡ first_of (windies_rules s gs)
windies-told s [] = refl
windies-told s (g ∷ gs) =
    front-told (windy_in (opened s) g.value) (each (opened s) gs)
    ∙ behind (windy_in_rules s g.value) (windies_rules s gs) (windy-in-told s g.value) (windies-told s gs)

-- ---- the room, and the grades

abbrev outcome_number : Outcome → ℕ
outcome_number o = (graded_told o.answer).number

grade-told : (t : List ℕ) (r : Report) (least : Grade) (gs : List Grade) → outcome_number (admitted t r (first_below least gs)) ≡ first_of (grade_rules least gs)
grade-told t r least [] = refl
grade-told t r least (g ∷ gs) = go (below g least) refl (grade-told t r least gs)
  where
    go : (b : Bool) → below g least ≡ b → outcome_number (admitted t r (first_below least gs)) ≡ first_of (grade_rules least gs)
        → outcome_number (admitted t r (first_below least (g ∷ gs))) ≡ first_of (grade_rules least (g ∷ gs))
    go true b ih = rw b
    go false b ih = rw b ih

last-told : (s t : List ℕ) (least : Grade) (fs : List Field) (r : Report) → r.grades ≡ grades (opened s) fs → length r.levels ≡ length (of_tag level_tag fs)
    → outcome_number (stored t least (Good r)) ≡ first_of (last_rules s t least fs)
last-told s t least fs r e n = rw (← e, ← n) (go (leb (length r.levels) (graded_room t)) refl)
  where
    go : (b : Bool) → leb (length r.levels) (graded_room t) ≡ b
        → outcome_number (stored t least (Good r)) ≡ first_of (when (ltb (graded_room t) (length r.levels)) NoRoom ∷ grade_rules least r.grades)
    go true b = rw (above (length r.levels) (graded_room t), b) (grade-told t r least r.grades)
    go false b = rw (above (length r.levels) (graded_room t), b)

-- ---- a sounding

abbrev graded_number : List ℕ → Grade → Judgement → ℕ
graded_number t least j = outcome_number (stored t least j)

-- station, launch, levels, and the rest
stored-told : (s t : List ℕ) (least : Grade) (fs : List Field) (x y : NumberFound) (ws : Windies)
    → ((vs : List Windy) → ws ≡ All vs → length vs ≡ length (of_tag level_tag fs))
    → graded_number t least (judged (head_of x y) ws (grades (opened s) fs)) ≡ or_else (found_number x)
    (or_else (found_number y) (or_else (windies_number ws) (first_of (last_rules s t least fs))))
stored-told s t least fs (number_found.Refused r) y ws h = sym (refused-first r _)
stored-told s t least fs (number_found.Got a) (number_found.Refused r) ws h = sym (refused-first r _)
stored-told s t least fs (number_found.Got a) (number_found.Got b) (Refused r) h = sym (refused-first r _)
stored-told s t least fs (number_found.Got a) (number_found.Got b) (All vs) h =
    last-told s t least fs (record { station = a; launch = b; levels = vs; grades = grades (opened s) fs }) refl (h vs refl)

graded-told : (s t : List ℕ) (least : Grade) (fs : List Field) → graded_number t least (judge (opened s) (Fields fs)) ≡ first_of (graded_rules s t least fs)
unfolding judge head windies sent
graded-told s t least fs =
    let ls = of_tag level_tag fs in
    let last = last_rules s t least fs in
    let f : Field = record { tag = level_tag; value = Varint 0 } in
    let w : Windy = record { level = record { pressure = 0; temperature = Missing; depression = Missing }; speed = Missing; direction = Missing } in
    stored-told s t least fs (number_as Station (one_sent (of_tag (tag_of Station) fs))) (number_as Launch (one_sent (of_tag (tag_of Launch) fs))) (each (opened s) ls)
    (λ vs h. (each_placed (opened s) f w ls vs h).0)
    ∙ behind (item_rules Station fs) (item_rules Launch fs ++ (windies_rules s ls ++ last)) (needed-told (tag_of Station) (range_of Station) (of_tag (tag_of Station) fs))
    (behind (item_rules Launch fs) (windies_rules s ls ++ last) (needed-told (tag_of Launch) (range_of Launch) (of_tag (tag_of Launch) fs))
    (behind (windies_rules s ls) last (windies-told s ls) refl))

graded-refused : (s t : List ℕ) (least : Grade) (r : Refusal) (p : ℕ) → graded_number t least (judge (opened s) (reading.Refused r p)) ≡ number_of r
unfolding judge head windies sent between
graded-refused s t least r p = refl

pub graded-order : (s t : List ℕ) (least : Grade) → outcome_number (read_graded s t least) ≡ first_of (read_graded_order s t least)
unfolding read_graded
graded-order s t least =
    entered-told (λ m. graded_number t least (judge (opened s) m)) (graded-refused s t least) (graded_rules s t least) (graded-told s t least) s

pub read-graded-number : Numbered 2 read-graded.ps read-graded.r read-graded-reads.Post (λ κs x. (graded_told x).number)
    (λ κs a. read_graded_order a.0.now a.1.0.now a.1.1.0)
read-graded-number κs a x e p = ordered _ _ (ap outcome_number p ∙ graded-order a.0.now a.1.0.now a.1.1.0)

-- ---- what a read leaves of the table

-- so many levels
abbrev pub InGraded : List ℕ → Lent GradedHeading → Type 0
InGraded t o = Framed o.told.number 0 (graded_size * o.told.levels) t o.lent

pub graded-in : (s t : List ℕ) (least : Grade) → InGraded t (graded_lent (read_graded s t least))
unfolding read_graded
graded-in s t least = go (judge (opened s) (entered s))
  where
    go : (j : Judgement) → InGraded t (graded_lent (stored t least j))
    go (Bad r) = kept _ _ _ t
    go (Good r) = fits (leb (length r.levels) (graded_room t)) refl (first_below least r.grades) refl
      where
        fits : (x : Bool) → leb (length r.levels) (graded_room t) ≡ x → (g : Gated) → first_below least r.grades ≡ g
            → InGraded t (graded_lent (stored t least (Good r)))
        fits true x Open y =
            rw (x, y) (put_front t (words_of r.levels) (graded_size * length r.levels) (length-words r.levels)
            (omega (arith, leb-true (length r.levels) (graded_room t) x)))
        fits true x (Shut q) y = rw (x, y) (kept _ _ _ t)
        fits false x g y = rw x (kept _ _ _ t)

-- A REFUSAL LEAVES THE TABLE AS IT WAS, and an accepted read the words behind its levels
pub read-graded-frame : Every 2 read-graded.ps read-graded.r read-graded-reads.Post
    (λ κs a x s. InGraded a.1.0.now (record { told = graded_told x; lent = s.1.0.now }))
read-graded-frame κs a x s p = subst (InGraded a.1.0.now) (sym (ap graded_lent p)) (graded-in a.0.now a.1.0.now a.1.1.0)

-- ---- by the number of the least grade

least-told : (s t : List ℕ) (n : ℕ) → (graded_as t (grade_of n) (λ g. read_graded s t g)).told.number ≡ first_of (least_order n (read_graded_order s t))
unfolding grade_of graded_as
least-told s t zero = graded-order s t NotCanonical
least-told s t (suc zero) = graded-order s t HasExtensions
least-told s t (suc (suc zero)) = graded-order s t Canonical
least-told s t (suc (suc (suc n))) = rw (lt-ltb 2 (suc (suc (suc n))) (omega arith))

least-in : (s t : List ℕ) (k : Least) → InGraded t (graded_as t k (λ g. read_graded s t g))
unfolding graded_as
least-in s t (Is g) = graded-in s t g
least-in s t Unknown = kept _ _ _ t

-- ---- the same of the export: a number that is no grade is 6 before all else (rule B8)

pub c-read-graded-number : Numbered 2 c-read-graded.ps c-read-graded.r c-read-graded-reads.Post (λ κs x. x.number)
    (λ κs a. least_order a.1.1.0 (read_graded_order a.0.now a.1.0.now))
c-read-graded-number κs a x e p =
    let s = a.0.now in
    let t = a.1.0.now in
    ordered _ _ (ap (λ (o : Lent GradedHeading). o.told.number) p ∙ least-told s t a.1.1.0)

pub c-read-graded-frame : Every 2 c-read-graded.ps c-read-graded.r c-read-graded-reads.Post
    (λ κs a x s. InGraded a.1.0.now (record { told = as_graded x; lent = s.1.0.now }))
c-read-graded-frame κs a x s p =
    let t = a.1.0.now in
    subst (InGraded t) (sym p) (least-in a.0.now t (grade_of a.1.1.0))
