-- Which refusals reading a sounding has, in their order (rule L7): the sounding as a message; then tag by tag 11, 9, 13 and 10; the levels one behind
-- the other, each as a message and then tag by tag; and 5 behind all of it.
use Rattle.std.specs.Prelude.{ℕ, Bool, true, false, not, List, [], ◌∷◌, ◌++◌, ltb, eqb, length, take, drop}
use Rattle.wire.specs.Choose.{choose}
use Rattle.wire.specs.Table.{kind_word, value_word}
use Rattle.wire.specs.declared.Refusal.TheVariants.{NoRoom, WrongWireType, OutOfRange, Repeated, MissingField}
use Rattle.wire.specs.declared.Value.{Value}
use Rattle.wire.specs.declared.Value.TheVariants.{Varint, LengthDelimited, ThirtyTwoBit, SixtyFourBit}
use Rattle.wire.specs.declared.Field.{Field}
use Rattle.message.specs.Tags.{of_tag}
use Rattle.sounding_value.specs.Values.{all_ones, in_range}
use Rattle.sounding.specs.Layout.{Item, Station, Launch, Pressure, Temperature, Depression, line_of, tag_of, level_tag}
use Rattle.sounding.specs.Words.{level_room}
use Rattle.sounding.specs.declared.layout.Line.{Line}
use Rattle.demands_order.specs.Order.{Rule, when}
use Rattle.demands_order.specs.Rules.{order_r, message_rules, fields_in}

-- ---- the fields of one tag

-- Rule L4: 11 if there are several; 9 if it is no Varint
abbrev pub other_type : List Field → Bool
other_type [] = false
other_type (f ∷ fs) = not (eqb (kind_word f.value) 0)

abbrev pub sent_rules : List Field → List Rule
sent_rules gs = when (ltb 1 (length gs)) Repeated ∷ when (other_type gs) WrongWireType ∷ []

-- Rule L6: 13 if there is none, and the layout does not let it be missing
abbrev pub lacks : Line → List Field → Bool
lacks l [] = not l.missing
lacks l (f ∷ fs) = false

-- Rules L1, L2 and L5: 10 if its number lies outside the range; where it may be missing, all ones is no number
abbrev pub outside : Line → ℕ → Bool
outside l v = choose (choose l.missing (eqb v all_ones) false) false (not (in_range l.range v))

abbrev pub strays : Line → List Field → Bool
strays l [] = false
strays l (f ∷ fs) = outside l (value_word f.value)

abbrev pub line_rules : Line → List Field → List Rule
line_rules l gs = sent_rules gs ++ (when (lacks l gs) MissingField ∷ when (strays l gs) OutOfRange ∷ [])

-- of a single field, by its line of the layout
abbrev pub item_rules : Item → List Field → List Rule
item_rules i fs = line_rules (line_of i) (of_tag (tag_of i) fs)

-- ---- a level: pressure, temperature, depression

abbrev pub level_rules : List Field → List Rule
level_rules fs = item_rules Pressure fs ++ (item_rules Temperature fs ++ item_rules Depression fs)

-- the bytes of one: as a message, then tag by tag
abbrev pub level_bytes_rules : List ℕ → List Rule
level_bytes_rules p = order_r p 0 (length p) (message_rules p 0 (length p) ++ level_rules (fields_in p 0 (length p)))

-- a field of the levels' tag: 9 if it is no payload
abbrev pub level_in_rules : List ℕ → Value → List Rule
level_in_rules s (LengthDelimited p n) = level_bytes_rules (take n (drop p s))
level_in_rules s (Varint v) = when true WrongWireType ∷ []
level_in_rules s (ThirtyTwoBit v) = when true WrongWireType ∷ []
level_in_rules s (SixtyFourBit v) = when true WrongWireType ∷ []

abbrev pub each_rules : List ℕ → List Field → List Rule
each_rules s [] = []
each_rules s (f ∷ fs) = level_in_rules s f.value ++ each_rules s fs

-- ---- a sounding: station, launch, levels; and the room (rules L7 and L8)

abbrev pub sounding_rules : List ℕ → List ℕ → List Field → List Rule
sounding_rules s t fs =
    item_rules Station fs ++ (item_rules Launch fs ++ (each_rules s (of_tag level_tag fs) ++ (when (ltb (level_room t) (length (of_tag level_tag fs))) NoRoom ∷ [])))

abbrev pub read_sounding_order : List ℕ → List ℕ → List Rule
read_sounding_order s t = order_r s 0 (length s) (message_rules s 0 (length s) ++ sounding_rules s t (fields_in s 0 (length s)))
