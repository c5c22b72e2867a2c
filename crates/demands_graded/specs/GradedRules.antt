-- Which refusals reading a graded sounding has, in their order (rule B6): those of the first edition, with 11, 9 and 10 of a level's tags 4 and 5
-- behind its tag 3; 5; then 14 or 15 of the first field below the least grade.
use Rattle.std.specs.Prelude.{ℕ, zero, suc, true, List, [], ◌∷◌, ◌++◌, ltb, length, take, drop}
use Rattle.wire.specs.declared.Refusal.TheVariants.{NoRoom, BadRecord, WrongWireType}
use Rattle.wire.specs.declared.Value.{Value}
use Rattle.wire.specs.declared.Value.TheVariants.{Varint, LengthDelimited, ThirtyTwoBit, SixtyFourBit}
use Rattle.wire.specs.declared.Field.{Field}
use Rattle.message.specs.Tags.{of_tag}
use Rattle.sounding.specs.Layout.{Station, Launch, Speed, Direction, level_tag}
use Rattle.sounding.specs.Soundings.{opened}
use Rattle.sounding_grade.specs.Grades.{below, why_below}
use Rattle.sounding_grade.specs.declared.Grade.{Grade}
use Rattle.sounding_grade.specs.declared.Grade.TheVariants.{NotCanonical, HasExtensions, Canonical}
use Rattle.sounding_graded.specs.Graded.{grades}
use Rattle.sounding_graded.specs.Words.{graded_room}
use Rattle.demands_order.specs.Order.{Rule, when}
use Rattle.demands_order.specs.Rules.{order_r, message_rules, fields_in}
use Rattle.demands_sounding.specs.SoundingRules.{item_rules, level_rules}

-- ---- a level: the first edition's tags, then speed and direction

abbrev pub windy_rules : List Field → List Rule
windy_rules fs = level_rules fs ++ (item_rules Speed fs ++ item_rules Direction fs)

abbrev pub windy_bytes_rules : List ℕ → List Rule
windy_bytes_rules p = order_r p 0 (length p) (message_rules p 0 (length p) ++ windy_rules (fields_in p 0 (length p)))

abbrev pub windy_in_rules : List ℕ → Value → List Rule
windy_in_rules s (LengthDelimited p n) = windy_bytes_rules (take n (drop p s))
windy_in_rules s (Varint v) = when true WrongWireType ∷ []
windy_in_rules s (ThirtyTwoBit v) = when true WrongWireType ∷ []
windy_in_rules s (SixtyFourBit v) = when true WrongWireType ∷ []

abbrev pub windies_rules : List ℕ → List Field → List Rule
windies_rules s [] = []
windies_rules s (f ∷ fs) = windy_in_rules s f.value ++ windies_rules s fs

-- ---- the grades: field by field

abbrev pub grade_rules : Grade → List Grade → List Rule
grade_rules least [] = []
grade_rules least (g ∷ gs) = when (below g least) (why_below g) ∷ grade_rules least gs

-- ---- a sounding: station, launch, levels, the room, the grades

abbrev pub last_rules : List ℕ → List ℕ → Grade → List Field → List Rule
last_rules s t least fs = when (ltb (graded_room t) (length (of_tag level_tag fs))) NoRoom ∷ grade_rules least (grades (opened s) fs)

abbrev pub graded_rules : List ℕ → List ℕ → Grade → List Field → List Rule
graded_rules s t least fs = item_rules Station fs ++ (item_rules Launch fs ++ (windies_rules s (of_tag level_tag fs) ++ last_rules s t least fs))

abbrev pub read_graded_order : List ℕ → List ℕ → Grade → List Rule
read_graded_order s t least = order_r s 0 (length s) (message_rules s 0 (length s) ++ graded_rules s t least (fields_in s 0 (length s)))

-- ---- for C: the number of the least grade first (rule B8)

abbrev grade_at : ℕ → Grade
grade_at zero = NotCanonical
grade_at (suc zero) = HasExtensions
grade_at (suc (suc n)) = Canonical

abbrev pub least_order : ℕ → (Grade → List Rule) → List Rule
least_order n rules = when (ltb 2 n) BadRecord ∷ rules (grade_at n)
