-- The records of two tables (rule T1), one of a cap's fields and one of the cut's.
use Rattle.std.specs.Prelude.{ℕ, zero, suc, ◌+◌, ◌<◌, ◌≡◌, refl, List, [], ◌∷◌, ◌++◌, eqb, length}
use Rattle.std.proofs.Common.{ap, ◌∙◌, sym, arith}
use Rattle.wire.specs.Choose.{choose}
use Rattle.wire.specs.Marks.{Mark, fields_of}
use Rattle.wire.specs.Table.{record_of, records, record_at, record-first, record-behind}
use Rattle.wire.specs.declared.Value.{Value}
use Rattle.wire.specs.declared.Value.TheVariants as val
use Rattle.wire.specs.declared.Record.{Record}
use Rattle.relay.specs.Pairs.{moved_value}
use Rattle.relay.specs.Cap.{moved_mark, moved_marks}
use Rattle.relay.specs.Words.{moved_record, record-moved}

-- record i of the cap is record i of the cut, moved; whatever stands behind the records
pub records-moved : (a : ℕ) (ms : List Mark) (t u : List ℕ) (i : ℕ) → i < length ms
    → record_at (records (moved_marks a ms) ++ t) i ≡ moved_record a (record_at (records ms ++ u) i)
records-moved a [] t u i h = absurd (omega arith)
records-moved a (m ∷ ms) t u zero h =
    record-first (record_of (moved_mark a m)) (records (moved_marks a ms) ++ t)
    ∙ record-moved a m
    ∙ ap (moved_record a) (sym (record-first (record_of m) (records ms ++ u)))
records-moved a (m ∷ ms) t u (suc i) h =
    record-behind (record_of (moved_mark a m)) (records (moved_marks a ms) ++ t) i
    ∙ records-moved a ms t u i (omega arith)
    ∙ ap (moved_record a) (sym (record-behind (record_of m) (records ms ++ u) i))
