-- What `wire` finds has the number that the rules tell.
use Rattle.std.specs.Prelude.{ℕ, zero, suc, ◌+◌, ◌-◌, ◌/◌, ◌^◌, ◌≡◌, refl, Bool, true, false, not, List, [], ◌∷◌, ◌++◌, ltb, leb, eqb, length, get_or}
use Rattle.std.proofs.Common.{ap, ◌∙◌, sym, lt-ltb, le-ltb, le-leb, ltb-true, ltb-false, leb-true, leb-false}
use Rattle.std.proofs.lemmas.Bool.{lt-leb}
use Rattle.wire.specs.Choose.{choose}
use Rattle.wire.specs.Limits.{message_limit}
use Rattle.wire.specs.Numbers.{number_of}
use Rattle.wire.specs.Varint.{Sum, Adds, Stops}
use Rattle.wire.specs.Reading.{judged, varint_at, renamed, capped_at, key_of, key_at, within, number_from, payload_from, value_at, tagged, field_of, field_at}
use Rattle.wire.specs.Reading.{step_of, step_at, wire_of, Message, Fields, in_front, onward, ended, reads_from, read_message}
use Rattle.wire.specs.Reading as reading
use Rattle.wire.specs.Theorem.{refused-fields}
use Rattle.wire.specs.Skipping.{in_slice, past_number, past_payload, past_at, repeats, beyond, skip_from}
use Rattle.wire.specs.Table.{room, record_at, good}
use Rattle.write_record.specs.Records.{tag_before, Judged, Fine, Bad, judge, Verdict, AllFine, First, and_then, tested, checked}
use Rattle.wire.specs.declared.Refusal.TheVariants.{Truncated, InvalidVarint, TagOverflowed}
use Rattle.wire.specs.declared.WireType.{WireType}
use Rattle.wire.specs.declared.WireType.TheVariants.{Varint, LengthDelimited, ThirtyTwoBit, SixtyFourBit}
use Rattle.wire.specs.declared.Value.{Value}
use Rattle.wire.specs.declared.Field.{Field}
use Rattle.wire.specs.declared.VarintFound.{VarintFound}
use Rattle.wire.specs.declared.VarintFound.TheVariants as varint_found
use Rattle.wire.specs.declared.KeyFound.{KeyFound}
use Rattle.wire.specs.declared.KeyFound.TheVariants as key_found
use Rattle.wire.specs.declared.ValueFound.{ValueFound}
use Rattle.wire.specs.declared.ValueFound.TheVariants as value_found
use Rattle.wire.specs.declared.FieldFound.{FieldFound}
use Rattle.wire.specs.declared.FieldFound.TheVariants as field_found
use Rattle.wire.specs.declared.Stepped.{Stepped}
use Rattle.wire.specs.declared.Stepped.TheVariants as stepped
use Rattle.wire.specs.declared.Reached.{Reached}
use Rattle.wire.specs.declared.Reached.TheVariants as reached
use Rattle.message_early.specs.Early.{sight_of, sight_at, Stop, Ends, Above, also, stops_from}
use Rattle.message_early.specs.Early as early
use Rattle.demands_order.specs.Order.{Rule, when, first_of, or_else, refused-first, first-behind}
use Rattle.demands_order.specs.Rules.{runs_out, too_large, sum_at, varint_rules, capped_rules, overflows, key_rules, bytes_rules, payload_rules, value_rules}
use Rattle.demands_order.specs.Rules.{behind_key, field_rules, end_rules, step_rules, behind_field, fields_rules, message_rules, one_more, fields_read}
use Rattle.demands_order.specs.Rules.{early_rules, early_read, skipped_payload, past_rules, beyond_rules, skip_rules, record_rules, records_rules, order_t}
use Rattle.demands_order.specs.RulesLaws.{above, behind, judge-told, then-number, verdict_number}

records-told : (c n : ℕ) (t : List ℕ) → verdict_number (tested c n t) ≡ first_of (records_rules c n t)
records-told zero n t = refl
records-told (suc i) n t = then-number (tested i n t) _ i ∙ behind (records_rules i n t) (record_rules n t i) (records-told i n t) (judge-told n t i)

-- the tests of order T, and what comes behind them
pub order-t : (s t : List ℕ) (c n : ℕ) (rest : List Rule) → n ≡ first_of rest
    → or_else (verdict_number (checked message_limit s t c)) n ≡ first_of (order_t s t c rest)
unfolding checked
order-t s t c n rest h = go (leb (length s) message_limit) refl (leb c (room t)) refl
  where
    go : (a : Bool) → leb (length s) message_limit ≡ a → (b : Bool) → leb c (room t) ≡ b
        → or_else (verdict_number (checked message_limit s t c)) n ≡ first_of (order_t s t c rest)
    go true a true b = rw (above (length s) message_limit, above c (room t), a, b) (behind (records_rules c (length s) t) rest (records-told c (length s) t) h)
    go true a false b = rw (above (length s) message_limit, above c (room t), a, b)
    go false a b x = rw (above (length s) message_limit, a)
