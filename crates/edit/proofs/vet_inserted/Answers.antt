-- The order of the tests.
use mathlib.Core.Path.{◌≡◌}
use native.Mathlib.Omega.{arith}
use Rattle.wire.specs.declared.Refusal.TheVariants.{NoRoom}
use Rattle.write_record.specs.Records.{AllFine}
use Rattle.edit.specs.Edits.{vetted}
use Rattle.edit.specs.EditLaws.{told-first, told-fine, first-told, fine-told}
use Rattle.edit.proofs.EditLaws.{insert-first, insert-full, insert-rows, insert-fine}
use Rattle.edit.proofs.vet_inserted.Goals as goal

pub returns-then-count-table : goal.returns-then-count-table
returns-then-count-table c =
    let left = rw c.in_room.ensures at c.spare.ensures in
    let fine : vetted c.args.room.now c.args.table.now c.args.count ≡ AllFine = let a = c.args in fine-told a.count _ c.vet.ensures c.in-Count.is in
    let a = c.args in
    told-fine a.count
    (insert-fine a.room.now a.table.now a.count a.n fine (omega (arith, c.if-n-spare.true, left))
    c.if-count-table.true)

pub returns-then-n-spare : goal.returns-then-n-spare
returns-then-n-spare c =
    let left = rw c.in_room.ensures at c.spare.ensures in
    let fine : vetted c.args.room.now c.args.table.now c.args.count ≡ AllFine = let a = c.args in fine-told a.count _ c.vet.ensures c.in-Count.is in
    let a = c.args in
    told-first a.count NoRoom 0
    (insert-rows a.room.now a.table.now a.count a.n fine (omega (arith, c.if-n-spare.true, left))
    c.if-count-table.false)

pub returns-in-Refused : goal.returns-in-Refused
returns-in-Refused c =
    let a = c.args in
    told-first a.count _ _
    (insert-first a.room.now a.table.now a.count a.n _ _
    (first-told a.count _ _ c.vet.ensures c.in-Refused.is))

pub returns-else-n-spare : goal.returns-else-n-spare
returns-else-n-spare c =
    let left = rw c.in_room.ensures at c.spare.ensures in
    let fine : vetted c.args.room.now c.args.table.now c.args.count ≡ AllFine = let a = c.args in fine-told a.count _ c.vet.ensures c.in-Count.is in
    let a = c.args in
    told-first a.count NoRoom 0
    (insert-full a.room.now a.table.now a.count a.n fine (omega (arith, c.if-n-spare.false, left)))
