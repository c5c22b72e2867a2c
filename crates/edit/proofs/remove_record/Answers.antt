-- The records behind one moved down.
use Prim.Native.Nat.{◌+◌, ◌≤◌, ◌*◌, ◌-◌}
use mathlib.Core.Path.{◌≡◌, refl, ◌∙◌}
use native.Mathlib.Omega.{arith}
use Rattle.wire.specs.Limits.{record_words}
use Rattle.wire.specs.Table.{room}
use Rattle.edit_pack.proofs.Turns.{moved-down}
use Rattle.wire.specs.declared.Refusal.TheVariants.{BadRecord}
use Rattle.write_record.specs.Records.{AllFine}
use Rattle.edit.specs.Edits.{vetted}
use Rattle.edit.specs.EditLaws.{first-told, fine-told, removed-is, remove_first, remove-done}
use Rattle.edit.proofs.EditLaws.{vetted-count, index-first, index-past, index-fine}
use Rattle.edit.proofs.remove_record.Goals as goal

pub overflow_mul-at : goal.overflow_mul-at
overflow_mul-at c =
    let fine : vetted c.args.room.now c.args.table.now c.args.count ≡ AllFine = let a = c.args in fine-told a.count _ c.vet.ensures c.in-Count.is in
    let inside : c.args.count ≤ room c.args.table.now = let a = c.args in vetted-count a.room.now a.table.now a.count fine in
    omega (arith, inside, c.if-index-count.true, c.well_formed)

pub overflow_add-at : goal.overflow_add-at
overflow_add-at c =
    let fine : vetted c.args.room.now c.args.table.now c.args.count ≡ AllFine = let a = c.args in fine-told a.count _ c.vet.ensures c.in-Count.is in
    let inside : c.args.count ≤ room c.args.table.now = let a = c.args in vetted-count a.room.now a.table.now a.count fine in
    omega (arith, inside, c.if-index-count.true, c.well_formed)

pub overflow_mul-count : goal.overflow_mul-count
overflow_mul-count c =
    let fine : vetted c.args.room.now c.args.table.now c.args.count ≡ AllFine = let a = c.args in fine-told a.count _ c.vet.ensures c.in-Count.is in
    let inside : c.args.count ≤ room c.args.table.now = let a = c.args in vetted-count a.room.now a.table.now a.count fine in
    omega (arith, inside, c.if-index-count.true, c.well_formed)

pub copy_within-requires-clause-in_bounds : goal.copy_within-requires-clause-in_bounds
copy_within-requires-clause-in_bounds c =
    let fine : vetted c.args.room.now c.args.table.now c.args.count ≡ AllFine = let a = c.args in fine-told a.count _ c.vet.ensures c.in-Count.is in
    let inside : c.args.count ≤ room c.args.table.now = let a = c.args in vetted-count a.room.now a.table.now a.count fine in
    omega (arith, inside, c.if-index-count.true)

pub copy_within-requires-clause-dest_in_bounds : goal.copy_within-requires-clause-dest_in_bounds
copy_within-requires-clause-dest_in_bounds c =
    let fine : vetted c.args.room.now c.args.table.now c.args.count ≡ AllFine = let a = c.args in fine-told a.count _ c.vet.ensures c.in-Count.is in
    let inside : c.args.count ≤ room c.args.table.now = let a = c.args in vetted-count a.room.now a.table.now a.count fine in
    omega (arith, inside, c.if-index-count.true)

pub returns-then-index-count : goal.returns-then-index-count
returns-then-index-count c =
    let fine : vetted c.args.room.now c.args.table.now c.args.count ≡ AllFine = let a = c.args in fine-told a.count _ c.vet.ensures c.in-Count.is in
    let inside : c.args.count ≤ room c.args.table.now = let a = c.args in vetted-count a.room.now a.table.now a.count fine in
    let a = c.args in
    remove-done a.room.now a.table.now a.count a.index
    (index-fine a.room.now a.table.now a.count a.index fine c.if-index-count.true)
    (c.copy_within.ensures.after ∙ moved-down a.table.now (record_words * a.index + record_words) (record_words * a.count) (record_words * a.index) (record_words * (a.count - 1 - a.index)) (omega (arith, c.if-index-count.true)) (omega arith) (omega (arith, inside))
    ∙ removed-is a.table.now a.count a.index _ c.if-index-count.true inside refl)

pub returns-in-Refused : goal.returns-in-Refused
returns-in-Refused c =
    let a = c.args in
    remove_first a.room.now a.table.now a.count a.index _ _
    (index-first a.room.now a.table.now a.count a.index _ _
    (first-told a.count _ _ c.vet.ensures c.in-Refused.is))

pub returns-else-index-count : goal.returns-else-index-count
returns-else-index-count c =
    let fine : vetted c.args.room.now c.args.table.now c.args.count ≡ AllFine = let a = c.args in fine-told a.count _ c.vet.ensures c.in-Count.is in
    let a = c.args in
    remove_first a.room.now a.table.now a.count a.index BadRecord a.index
    (index-past a.room.now a.table.now a.count a.index fine c.if-index-count.false)
