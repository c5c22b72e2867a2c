-- `write_insertion::insert_record` meets its contract.
use Rattle.std.proofs.Common.{ℕ, List, ◌≡◌, ◌<◌, ◌≤◌, sym, ap, ◌∙◌, length, arith}
use Rattle.wire.specs.Table.{room}
use Rattle.write_record.specs.Records.{AllFine, checked}
use Rattle.write_message.specs.WritingLaws.{checked-fine, spent-first, spent-left}
use Rattle.write_insertion.specs.Insertion.{Puts}
use Rattle.write_insertion.specs.InsertionLaws.{spot-inside, aim-first, aim-bad, aim-full, aim-puts, inserts-refuses, inserts-puts}
use Rattle.write_insertion.proofs.Turns.{put-inserted}
use Rattle.write_insertion.proofs.insert_record.Goals as goal

-- Where no test of the records refused, the source is no longer than may be,
short : (most : ℕ) (s t : List ℕ) (n : ℕ) → checked most s t n ≡ AllFine → length s ≤ most
short most s t n e = (checked-fine most s t n e).0

-- and there is room for one more.
roomy : (most : ℕ) (s t : List ℕ) (n : ℕ) → checked most s t n ≡ AllFine → (n ≡ room t → ⊥) → n < room t
roomy most s t n e q = omega (arith, (checked-fine most s t n e).1.count, q)

pub overflow_cast-source : goal.overflow_cast-source
overflow_cast-source c =
    let fine = (spent-left _ _ _ _ c.weigh.ensures _ c.in-Left.is).0 in
    omega (arith, short _ _ _ _ fine, c.ranges.most.fits)

pub returns-then-count-table : goal.returns-then-count-table
returns-then-count-table c =
    let fine = (spent-left _ _ _ _ c.weigh.ensures _ c.in-Left.is).0 in
    inserts-refuses _ _ _ _ _ (aim-full _ _ _ _ _ fine (sym c.is_good.ensures ∙ c.if-is_good.true) c.if-count-table.true)

pub find_spot-p-requires : goal.find_spot-p-requires
find_spot-p-requires c =
    let fine = (spent-left _ _ _ _ c.weigh.ensures _ c.in-Left.is).0 in
    omega (arith, roomy _ _ _ _ fine c.if-count-table.false)

pub overflow_mul-p : goal.overflow_mul-p
overflow_mul-p c =
    let fine = (spent-left _ _ _ _ c.weigh.ensures _ c.in-Left.is).0 in
    omega (arith, roomy _ _ _ _ fine c.if-count-table.false, c.find_spot-p.ensures, spot-inside c.args.count c.args.table.now c.args.added.tag)

pub overflow_mul-count : goal.overflow_mul-count
overflow_mul-count c =
    let fine = (spent-left _ _ _ _ c.weigh.ensures _ c.in-Left.is).0 in
    omega (arith, roomy _ _ _ _ fine c.if-count-table.false)

pub put_between-requires : goal.put_between-requires
put_between-requires c =
    let fine = (spent-left _ _ _ _ c.weigh.ensures _ c.in-Left.is).0 in
    let h = roomy _ _ _ _ fine c.if-count-table.false in
    (omega (arith, c.find_spot-p.ensures, spot-inside c.args.count c.args.table.now c.args.added.tag), omega (arith, h))

pub overflow_add-result : goal.overflow_add-result
overflow_add-result c =
    let fine = (spent-left _ _ _ _ c.weigh.ensures _ c.in-Left.is).0 in
    omega (arith, roomy _ _ _ _ fine c.if-count-table.false)

pub returns-then-is_good : goal.returns-then-is_good
returns-then-is_good c =
    let fine = (spent-left _ _ _ _ c.weigh.ensures _ c.in-Left.is).0 in
    let inside : c.find_spot-p.result ≤ c.args.count =
    omega (arith, c.find_spot-p.ensures, spot-inside c.args.count c.args.table.now c.args.added.tag) in
    inserts-puts _ _ _ _
    (aim-puts _ _ _ _ _ fine (sym c.is_good.ensures ∙ c.if-is_good.true) c.if-count-table.false ∙ ap Puts (sym c.find_spot-p.ensures))
    (c.put_between.ensures ∙ put-inserted _ _ _ _ inside (roomy _ _ _ _ fine c.if-count-table.false))

pub returns-in-First : goal.returns-in-First
returns-in-First c =
    inserts-refuses _ _ _ _ _ (aim-first _ _ _ _ _ _ _ (spent-first _ _ _ _ c.weigh.ensures _ _ c.in-First.is))

pub returns-else-is_good : goal.returns-else-is_good
returns-else-is_good c =
    let fine = (spent-left _ _ _ _ c.weigh.ensures _ c.in-Left.is).0 in
    inserts-refuses _ _ _ _ _ (aim-bad _ _ _ _ _ fine (sym c.is_good.ensures ∙ c.if-is_good.false))
