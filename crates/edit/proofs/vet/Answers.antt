-- The order of the tests.
use mathlib.Core.Path.{◌≡◌, refl, sym, ◌∙◌}
use Rattle.wire.specs.Limits.{message_limit}
use Rattle.wire.specs.declared.Refusal.TheVariants.{BadRecord}
use Rattle.write_record.specs.Records.{AllFine, checked}
use Rattle.write_message.specs.WritingLaws.{spent-first, spent-left}
use Rattle.edit_live.specs.SpanLaws.{found-is, found-none}
use Rattle.edit.specs.EditLaws.{told-first, told-fine}
use Rattle.edit.proofs.EditLaws.{vet-first, vet-over, vet-keyed, vet-fine}
use Rattle.edit.proofs.vet.Goals as goal

pub returns-in-Some : goal.returns-in-Some
returns-in-Some c =
    let a = c.args in
    let fine : checked message_limit a.room.now a.table.now a.count ≡ AllFine = (spent-left message_limit a.room.now a.table.now a.count c.weigh.ensures _ c.in-Left.is).0 in
    let over = rw c.in_room.ensures at c.first_overlap.ensures in
    let x = found-is a.count _ (sym c.in-Some.is ∙ over) in
    told-first a.count BadRecord _ (vet-over _ _ _ fine x.0 x.1)

pub returns-in-Some-first_keyed : goal.returns-in-Some-first_keyed
returns-in-Some-first_keyed c =
    let a = c.args in
    let fine : checked message_limit a.room.now a.table.now a.count ≡ AllFine = (spent-left message_limit a.room.now a.table.now a.count c.weigh.ensures _ c.in-Left.is).0 in
    let over = rw c.in_room.ensures at c.first_overlap.ensures in
    let x = found-is a.count _ (sym c.in-Some-first_keyed.is ∙ c.first_keyed.ensures) in
    told-first a.count BadRecord _ (vet-keyed _ _ _ fine refl (found-none a.count _ (sym c.in_default.is ∙ over)) x.0 x.1)

pub returns-in-First : goal.returns-in-First
returns-in-First c =
    let a = c.args in
    told-first a.count _ _
    (vet-first _ _ _ _ _
    (spent-first message_limit a.room.now a.table.now a.count c.weigh.ensures _ _ c.in-First.is))

pub returns-in_default-first_keyed : goal.returns-in_default-first_keyed
returns-in_default-first_keyed c =
    let a = c.args in
    let fine : checked message_limit a.room.now a.table.now a.count ≡ AllFine = (spent-left message_limit a.room.now a.table.now a.count c.weigh.ensures _ c.in-Left.is).0 in
    let over = rw c.in_room.ensures at c.first_overlap.ensures in
    told-fine a.count
    (vet-fine _ _ _ fine refl (found-none a.count _ (sym c.in_default.is ∙ over)) refl
    (found-none a.count _ (sym c.in_default-first_keyed.is ∙ c.first_keyed.ensures)))
