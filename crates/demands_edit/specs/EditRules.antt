-- The refusals of edits, each in its order (rule H9).
use Rattle.std.specs.Prelude.{ℕ, zero, suc, ◌+◌, ◌^◌, Bool, not, List, [], ◌∷◌, ◌++◌, ltb, leb, eqb, length}
use Rattle.wire.specs.Table.{room, record_at}
use Rattle.wire.specs.declared.Refusal.TheVariants.{NoRoom, BadRecord}
use Rattle.edit_live.specs.Spans.{span_in, meets_any, keyed_at, total}
use Rattle.demands_order.specs.Order.{Rule, when}
use Rattle.demands_order.specs.Rules.{order_t}

-- 6 for each index at which a test says yes
abbrev pub flagged : ℕ → (ℕ → Bool) → List Rule
flagged zero p = []
flagged (suc j) p = flagged j p ++ when (p j) BadRecord ∷ []

-- of every edit: 4 for the room, 6 for the count, the records; overlaps of all of them; key words of all of them
abbrev pub order_e : List ℕ → List ℕ → ℕ → List Rule → List Rule
order_e s t c rest =
    order_t s t c (flagged c (λ j. meets_any j (span_in (length s) t c) (span_in (length s) t c j)) ++ (flagged c (keyed_at t) ++ rest))

-- 6 for the index
abbrev pub index_rule : ℕ → ℕ → Rule
index_rule c i = when (leb c i) BadRecord

-- 5: the live bytes, without those of record k, and n more are more than the room
abbrev pub full_rule : List ℕ → List ℕ → ℕ → ℕ → ℕ → Rule
full_rule s t c k n = when (ltb (length s) (total c (span_in (length s) t k) + n)) NoRoom

abbrev pub remove_record_order : List ℕ → List ℕ → ℕ → ℕ → List Rule
remove_record_order s t c i = order_e s t c (index_rule c i ∷ [])

abbrev pub replace_payload_order : List ℕ → List ℕ → ℕ → ℕ → ℕ → List Rule
replace_payload_order s t c i n = order_e s t c (index_rule c i ∷ when (not (eqb (record_at t i).kind 1)) BadRecord ∷ full_rule s t c i n ∷ [])

-- 5 also for a full table. A tag of 32 bits never is above them
abbrev pub insert_payload_order : List ℕ → List ℕ → ℕ → ℕ → ℕ → List Rule
insert_payload_order s t c tag n = order_e s t c (full_rule s t c c n ∷ when (leb (room t) c) NoRoom ∷ when (leb (2 ^ 32) tag) BadRecord ∷ [])
