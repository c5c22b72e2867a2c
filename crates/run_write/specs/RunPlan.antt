-- What writing a run does (rule U5): the tests of its records, and what they are written as. What is answered and left is that of every writer.
use Rattle.std.specs.Prelude.{ℕ, zero, suc, List, leb, eqb, length}
use Rattle.wire.specs.Choose.{choose}
use Rattle.wire.specs.Limits.{message_limit}
use Rattle.wire.specs.Numbers.{kind_of}
use Rattle.wire.specs.Table.{room, record_at, good}
use Rattle.wire.specs.declared.Record.{Record}
use Rattle.wire.specs.declared.Refusal.TheVariants.{TooLong, BadRecord}
use Rattle.wire.specs.declared.Weight.{Weight}
use Rattle.wire.specs.declared.WireType.{WireType}
use Rattle.write_record.specs.Records.{Judged, Fine, Bad, Verdict, AllFine, First, and_then, value_size, sized}
use Rattle.write_message.specs.Writing.{Plan, passed, Writing, front}
use Rattle.run_read.specs.Packed.{run_written, contents, values_from}

-- Rule U5: one record, over a source of n bytes, in a run of kind k: it is good, of the kind, and has tag 0
unfoldable pub run_judge : ℕ → ℕ → Record → Judged
run_judge n k r =
    choose (good n r) (choose (eqb r.kind k) (choose (eqb r.tag 0) Fine (Bad BadRecord)) (Bad BadRecord)) (Bad BadRecord)

-- what is said of it: its value's size, or why it is refused
unfoldable pub run_weigh : ℕ → ℕ → Record → Weight
run_weigh n k r = sized (value_size r.kind r.value r.length) (run_judge n k r)

-- the first records; a refusal carries the record's index
abbrev pub run_tested : ℕ → ℕ → ℕ → List ℕ → Verdict
run_tested zero n k t = AllFine
run_tested (suc i) n k t = and_then (run_tested i n k t) (run_judge n k (record_at t i)) i

-- Rules U5 and R6: a source that is longer than most; a count above room, which carries the room; the records
unfoldable pub run_checked : ℕ → List ℕ → List ℕ → ℕ → ℕ → Verdict
run_checked most s t c k =
    choose (leb (length s) most) (choose (leb c (room t)) (run_tested c (length s) k t) (First BadRecord (room t))) (First TooLong 0)

-- c records from record i on, their values one behind the other
abbrev pub stretch : List ℕ → List ℕ → ℕ → ℕ → List ℕ
stretch s t i c = run_written (contents s (values_from c t i))

-- Rule U5: the run of the first c records
abbrev pub run_bytes : List ℕ → List ℕ → ℕ → List ℕ
run_bytes s t c = stretch s t 0 c

unfoldable pub run_plan : ℕ → List ℕ → List ℕ → ℕ → ℕ → Plan
run_plan most s t c k = passed most (run_bytes s t c) (run_checked most s t c k)

-- Rule U5: the run at the buffer's front
unfoldable pub write_run : List ℕ → List ℕ → ℕ → WireType → List ℕ → Writing
write_run s t c w b = front b (run_plan message_limit s t c (kind_of w))
