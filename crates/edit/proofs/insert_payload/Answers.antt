-- The bytes laid down, then the record put in.
use mathlib.Core.Path.{◌≡◌}
use lib.ListN.{length}
use Rattle.write_record.specs.Records.{AllFine}
use Rattle.edit.specs.Edits.{insertable}
use Rattle.edit.specs.EditLaws.{first-told, fine-told, insert-refused, insert-done}
use Rattle.edit.proofs.insert_payload.Goals as goal

pub returns-in-Refused : goal.returns-in-Refused
returns-in-Refused c =
    let a = c.args in
    insert-refused a.room.now a.table.now a.count a.tag a.bytes.now _ _
    (first-told a.count _ _ c.vet_inserted.ensures c.in-Refused.is)

pub returns-in-Count : goal.returns-in-Count
returns-in-Count c =
    let fine : insertable c.args.room.now c.args.table.now c.args.count (length c.args.bytes.now) ≡ AllFine = let a = c.args in
    fine-told a.count _ c.vet_inserted.ensures c.in-Count.is in
    let a = c.args in
    insert-done a.room.now a.table.now a.count a.tag a.bytes.now fine
    c.lay-start.ensures c.insert_record.ensures
