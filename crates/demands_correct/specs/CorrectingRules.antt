-- The refusals of corrections, each in its order (rules G2 and G5).
use Rattle.std.specs.Prelude.{ℕ, List, [], ◌∷◌, ◌++◌, ltb, length}
use Rattle.wire.specs.Limits.{message_limit}
use Rattle.wire.specs.Written.{Item, written}
use Rattle.wire.specs.Places.{items}
use Rattle.wire.specs.declared.Refusal.TheVariants.{TooLong, Repeated}
use Rattle.wire.specs.declared.Field.{Field}
use Rattle.message.specs.Tags.{of_tag}
use Rattle.correct_write.specs.Corrected.{corrected}
use Rattle.demands_order.specs.Order.{Rule, when}
use Rattle.demands_order.specs.Rules.{fields_in, room_rules, pick_at_order}

-- the whole original's, then the whole correction's, then others
abbrev pub both_rules : List ℕ → List ℕ → List Rule → List Rule
both_rules o c rest = pick_at_order o ++ (pick_at_order c ++ rest)

-- Rule G2: of the fields of a tag those of its supplier: the correction's, if there are any, else the original's
abbrev pub supplying : List Field → List Field → List Field
supplying os [] = os
supplying os (c ∷ cs) = c ∷ cs

-- Rule G2: 11, if these are more than one
abbrev pub supplier_rules : List Field → List Field → List Rule
supplier_rules os cs = when (ltb 1 (length (supplying os cs))) Repeated ∷ []

abbrev pub corrected_by_order : List ℕ → List ℕ → ℕ → List Rule
corrected_by_order o c t = both_rules o c (supplier_rules (of_tag t (fields_in o 0 (length o))) (of_tag t (fields_in c 0 (length c))))

-- Rule G1: the result
abbrev pub whole_items : List ℕ → List Item
whole_items s = items s (fields_in s 0 (length s))

abbrev pub result_of : List ℕ → List ℕ → List ℕ
result_of o c = written (corrected (whole_items c) (whole_items o))

-- Rule G5: 4 for the result, then 5
abbrev pub result_rules : List ℕ → List ℕ → List Rule
result_rules b bs = when (ltb message_limit (length bs)) TooLong ∷ room_rules b bs

abbrev pub write_corrected_order : List ℕ → List ℕ → List ℕ → List Rule
write_corrected_order o c b = both_rules o c (result_rules b (result_of o c))
