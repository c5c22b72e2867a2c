-- The order of the tests.
use mathlib.Core.Path.{◌≡◌, ap, sym, ◌∙◌}
use native.Mathlib.Omega.{arith}
use Rattle.wire.specs.declared.Record.{Record}
use Rattle.wire.specs.declared.Refusal.TheVariants.{NoRoom, BadRecord}
use Rattle.write_record.specs.Records.{AllFine}
use Rattle.write_record.specs.Taken.{record_in}
use Rattle.edit.specs.Edits.{vetted, at_index}
use Rattle.edit.specs.EditLaws.{told-first, told-fine, first-told, fine-told}
use Rattle.edit.proofs.EditLaws.{index-first, index-past, index-fine, replace-first, replace-other}
use Rattle.edit.proofs.EditLaws.{replace-full, replace-fine}
use Rattle.edit.proofs.vet_replaced.Goals as goal

pub returns-then-n-spare : goal.returns-then-n-spare
returns-then-n-spare c =
    let left = rw c.in_room.ensures at c.spare.ensures in
    let fine : vetted c.args.room.now c.args.table.now c.args.count ≡ AllFine = let a = c.args in fine-told a.count _ c.vet.ensures c.in-Count.is in
    let there : at_index c.args.room.now c.args.table.now c.args.count c.args.index ≡ AllFine = let a = c.args in
    index-fine a.room.now a.table.now a.count a.index fine c.if-index-count.true in
    let payload : (record_in c.args.table.now c.args.index).kind ≡ 1 = ap (λ (r : Record). r.kind) (sym c.record_at.ensures) ∙ c.if-record_at-eq1.true in
    let a = c.args in
    told-fine a.count
    (replace-fine a.room.now a.table.now a.count a.index a.n there payload
    (omega (arith, c.if-n-spare.true, left)))

pub returns-then-record_at-eq1 : goal.returns-then-record_at-eq1
returns-then-record_at-eq1 c =
    let left = rw c.in_room.ensures at c.spare.ensures in
    let fine : vetted c.args.room.now c.args.table.now c.args.count ≡ AllFine = let a = c.args in fine-told a.count _ c.vet.ensures c.in-Count.is in
    let there : at_index c.args.room.now c.args.table.now c.args.count c.args.index ≡ AllFine = let a = c.args in
    index-fine a.room.now a.table.now a.count a.index fine c.if-index-count.true in
    let payload : (record_in c.args.table.now c.args.index).kind ≡ 1 = ap (λ (r : Record). r.kind) (sym c.record_at.ensures) ∙ c.if-record_at-eq1.true in
    let a = c.args in
    told-first a.count NoRoom 0
    (replace-full a.room.now a.table.now a.count a.index a.n there payload
    (omega (arith, c.if-n-spare.false, left)))

pub returns-then-index-count : goal.returns-then-index-count
returns-then-index-count c =
    let fine : vetted c.args.room.now c.args.table.now c.args.count ≡ AllFine = let a = c.args in fine-told a.count _ c.vet.ensures c.in-Count.is in
    let there : at_index c.args.room.now c.args.table.now c.args.count c.args.index ≡ AllFine = let a = c.args in
    index-fine a.room.now a.table.now a.count a.index fine c.if-index-count.true in
    let a = c.args in
    told-first a.count BadRecord a.index
    (replace-other a.room.now a.table.now a.count a.index a.n there
    (λ z. c.if-record_at-eq1.false (ap (λ (r : Record). r.kind) c.record_at.ensures ∙ z)))

pub returns-in-Refused : goal.returns-in-Refused
returns-in-Refused c =
    let a = c.args in
    told-first a.count _ _
    (replace-first a.room.now a.table.now a.count a.index a.n _ _
    (index-first a.room.now a.table.now a.count a.index _ _
    (first-told a.count _ _ c.vet.ensures c.in-Refused.is)))

pub returns-else-index-count : goal.returns-else-index-count
returns-else-index-count c =
    let fine : vetted c.args.room.now c.args.table.now c.args.count ≡ AllFine = let a = c.args in fine-told a.count _ c.vet.ensures c.in-Count.is in
    let a = c.args in
    told-first a.count BadRecord a.index
    (replace-first a.room.now a.table.now a.count a.index a.n BadRecord a.index
    (index-past a.room.now a.table.now a.count a.index fine c.if-index-count.false))
