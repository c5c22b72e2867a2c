-- The refusals of runs, each in its order (rules U2 to U5).
use Rattle.std.specs.Prelude.{ℕ, zero, suc, not, List, [], ◌∷◌, ◌++◌, ltb, eqb, length}
use Rattle.wire.specs.Choose.{choose}
use Rattle.wire.specs.Limits.{message_limit}
use Rattle.wire.specs.Reading.{value_at}
use Rattle.wire.specs.Table.{room, record_at, good}
use Rattle.wire.specs.declared.Refusal.TheVariants.{TooLong, NoRoom, BadRecord}
use Rattle.wire.specs.declared.WireType.{WireType}
use Rattle.wire.specs.declared.Value.{Value}
use Rattle.run_read.specs.Packed.{Packed, Values, Refused, packed}
use Rattle.run_write.specs.RunPlan.{run_bytes}
use Rattle.demands_order.specs.Order.{Rule, when}
use Rattle.demands_order.specs.Rules.{order_r, value_rules, room_rules}
use Rattle.demands_index.specs.IndexRules.{behind_value}

-- Rule U2: those of each value, as they are met
abbrev pub run_rules : ℕ → List ℕ → WireType → ℕ → List Rule
run_rules zero s w p = []
run_rules (suc k) s w p =
    choose (ltb p (length s)) (value_rules s (length s) p w ++ behind_value (value_at s (length s) p w) (λ q. run_rules k s w q)) []

abbrev pub whole_rules : List ℕ → WireType → List Rule
whole_rules s w = run_rules (length s) s w 0

-- Rule U3: the whole run's, of the count and of a value at a number
abbrev pub run_count_order : List ℕ → WireType → List Rule
run_count_order s w = order_r s 0 (length s) (whole_rules s w)

-- the values of a run that is accepted
abbrev pub values_of : Packed → List Value
values_of (Values vs) = vs
values_of (Refused r) = []

-- Rule U4: 5 behind these, if the values are more than the table has room for
abbrev pub run_table : List ℕ → WireType → List ℕ → List Rule
run_table s w t = when (ltb (room t) (length (values_of (packed s w)))) NoRoom ∷ []

abbrev pub read_run_order : List ℕ → WireType → List ℕ → List Rule
read_run_order s w t = order_r s 0 (length s) (whole_rules s w ++ run_table s w t)

-- Rule U5: of each record 6, if it is not good, of another type or of another tag than 0
abbrev pub of_record : ℕ → ℕ → List ℕ → ℕ → List Rule
of_record n k t i =
    when (not (good n (record_at t i))) BadRecord
    ∷ when (not (eqb (record_at t i).kind k)) BadRecord
    ∷ when (not (eqb (record_at t i).tag 0)) BadRecord
    ∷ []

abbrev pub of_records : ℕ → ℕ → ℕ → List ℕ → List Rule
of_records zero n k t = []
of_records (suc i) n k t = of_records i n k t ++ of_record n k t i

-- Rules U5 and R6: 4 for the source, 6 for the count, the records, 4 for the output, 5
abbrev pub out_rules : List ℕ → List ℕ → ℕ → List ℕ → List Rule
out_rules s t c b = when (ltb message_limit (length (run_bytes s t c))) TooLong ∷ room_rules b (run_bytes s t c)

abbrev pub write_run_order : List ℕ → List ℕ → ℕ → ℕ → List ℕ → List Rule
write_run_order s t c k b =
    when (ltb message_limit (length s)) TooLong ∷ when (ltb (room t) c) BadRecord ∷ (of_records c (length s) k t ++ out_rules s t c b)
