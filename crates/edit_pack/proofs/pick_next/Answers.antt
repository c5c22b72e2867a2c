-- Up to the fence the next by index is the next in order of place.
use mathlib.Core.Path.{◌∙◌, sym}
use Rattle.edit_live.specs.SpanLaws.{found-is}
use Rattle.edit_pack.proofs.Turns.{next-found}
use Rattle.edit_pack.proofs.pick_next.Goals as goal

pub returns-in-Some : goal.returns-in-Some
returns-in-Some c =
    let p = c.args.payloads.now in
    let x = found-is p.count _ (sym c.in-Some.is ∙ c.first_between.ensures) in
    next-found p.size p.table.now p.skip _ _ _ _ c.requires.0 c.requires.1 x.0 x.1
