-- Cases of rule U5, computed.
use Rattle.std.specs.Prelude.{ℕ, ◌≡◌, refl, List, [], ◌∷◌}
use Rattle.wire.specs.Varint.{encode}
use Rattle.wire.specs.Limits.{message_limit, no_key}
use Rattle.wire.specs.Table.{record_at, good_value, good_key, good_head, good}
use Rattle.wire.specs.declared.Refusal.TheVariants.{BadRecord}
use Rattle.wire.specs.declared.WireType.TheVariants.{Varint, LengthDelimited}
use Rattle.wire.specs.declared.Written.TheVariants.{At}
use Rattle.write_message.specs.Writing.{Plan, Writes, Refuses, front, no_room}
use Rattle.run_write.specs.RunPlan.{run_judge, run_checked, run_plan, write_run}

abbrev planned : List ℕ → List ℕ → ℕ → ℕ → Plan
planned s t c k = run_plan message_limit s t c k

pub runs :
    -- two payloads over the source 01 AA 00: each behind its length, and no keys, whatever the key words; other bytes stay
    (write_run (1 ∷ 170 ∷ 0 ∷ []) (0 ∷ 1 ∷ 1 ∷ 1 ∷ no_key ∷ 0 ∷ 1 ∷ 3 ∷ 0 ∷ 2 ∷ []) 2 LengthDelimited (7 ∷ 7 ∷ 7 ∷ 7 ∷ [])
    ≡ record { answer = At 0 3; buf = 1 ∷ 170 ∷ 0 ∷ 7 ∷ [] })
    -- a buffer that is too short stays
    × (write_run (1 ∷ 170 ∷ 0 ∷ []) (0 ∷ 1 ∷ 1 ∷ 1 ∷ no_key ∷ 0 ∷ 1 ∷ 3 ∷ 0 ∷ 2 ∷ []) 2 LengthDelimited (7 ∷ 7 ∷ [])
    ≡ record { answer = no_room (1 ∷ 170 ∷ 0 ∷ []); buf = 7 ∷ 7 ∷ [] })
    -- no records: no bytes, whatever the source
    × (write_run (5 ∷ 5 ∷ []) [] 0 Varint (7 ∷ []) ≡ record { answer = At 0 0; buf = 7 ∷ [] })
    -- four bytes, lowest first
    × (planned [] (0 ∷ 2 ∷ 258 ∷ 4 ∷ no_key ∷ []) 1 2 ≡ Writes (2 ∷ 1 ∷ 0 ∷ 0 ∷ []))
    -- a good record of the type, with tag 1
    × (planned [] (0 ∷ 0 ∷ 5 ∷ 0 ∷ no_key ∷ 1 ∷ 0 ∷ 5 ∷ 0 ∷ no_key ∷ []) 2 0 ≡ Refuses BadRecord 1)
    -- a good record of another type
    × (planned [] (0 ∷ 0 ∷ 5 ∷ 0 ∷ no_key ∷ 0 ∷ 3 ∷ 5 ∷ 8 ∷ no_key ∷ []) 2 0 ≡ Refuses BadRecord 1)
    -- a key past the source
    × (planned (1 ∷ 170 ∷ 0 ∷ []) (0 ∷ 1 ∷ 1 ∷ 1 ∷ 3 ∷ []) 1 1 ≡ Refuses BadRecord 0)
    -- nine words have room for one record, and the count comes before any record
    × (planned [] (9 ∷ 9 ∷ 9 ∷ 9 ∷ 9 ∷ 9 ∷ 9 ∷ 9 ∷ 9 ∷ []) 2 0 ≡ Refuses BadRecord 1)
unfolding write_run run_plan run_checked run_judge front encode record_at good_value good_key good_head good
runs = (refl, refl, refl, refl, refl, refl, refl, refl)
