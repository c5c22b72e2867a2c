-- The bytes laid down, then the record's start and length.
use mathlib.Core.Path.{◌≡◌, ap, ◌∙◌}
use native.Mathlib.Omega.{arith}
use lib.ListN.{length}
use Rattle.write_record.specs.Records.{AllFine}
use Rattle.wire.specs.Table.{room}
use Rattle.edit.specs.Edits.{Laid, replaceable}
use Rattle.edit.specs.EditLaws.{first-told, fine-told, laid-rows, replace-refused, replace-done}
use Rattle.edit.proofs.EditLaws.{replaced-index}
use Rattle.edit.proofs.replace_payload.Goals as goal

pub set_payload-requires : goal.set_payload-requires
set_payload-requires c =
    let fine : replaceable c.args.room.now c.args.table.now c.args.count c.args.index (length c.args.bytes.now) ≡ AllFine = let a = c.args in
    fine-told a.count _ c.vet_replaced.ensures c.in-Count.is in
    let a = c.args in
    let f = replaced-index a.room.now a.table.now a.count a.index (length a.bytes.now) fine in
    let e = ap (λ (o : Laid). room o.table) c.lay-start.ensures ∙ laid-rows a.count a.index a.room.now a.table.now a.bytes.now in
    omega (arith, f.0, f.1, e)

pub returns-in-Refused : goal.returns-in-Refused
returns-in-Refused c =
    let a = c.args in
    replace-refused a.room.now a.table.now a.count a.index a.bytes.now _ _
    (first-told a.count _ _ c.vet_replaced.ensures c.in-Refused.is)

pub returns-in-Count : goal.returns-in-Count
returns-in-Count c =
    let fine : replaceable c.args.room.now c.args.table.now c.args.count c.args.index (length c.args.bytes.now) ≡ AllFine = let a = c.args in
    fine-told a.count _ c.vet_replaced.ensures c.in-Count.is in
    let a = c.args in
    replace-done a.room.now a.table.now a.count a.index a.bytes.now fine c.lay-start.ensures
    c.set_payload.ensures
