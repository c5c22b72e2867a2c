-- Who supplies the tag, without the place.
use mathlib.Core.Path.{◌≡◌, ◌∙◌, ap, sym}
use Rattle.correct_supply.specs.Supplying.{supplier_of, supplied_by}
use Rattle.correct_supply.proofs.corrected_by.Goals as goal

pub returns-in-Original : goal.returns-in-Original
unfolding supplied_by
returns-in-Original c =
    let told : supplier_of c.supply_of.result ≡ supplied_by c.args.original.now c.args.correction.now c.args.tag = ap supplier_of c.supply_of.ensures in
    sym (ap supplier_of c.in-Original.is) ∙ told

pub returns-in-Correction : goal.returns-in-Correction
unfolding supplied_by
returns-in-Correction c =
    let told : supplier_of c.supply_of.result ≡ supplied_by c.args.original.now c.args.correction.now c.args.tag = ap supplier_of c.supply_of.ensures in
    sym (ap supplier_of c.in-Correction.is) ∙ told

pub returns-in-Absent : goal.returns-in-Absent
unfolding supplied_by
returns-in-Absent c =
    let told : supplier_of c.supply_of.result ≡ supplied_by c.args.original.now c.args.correction.now c.args.tag = ap supplier_of c.supply_of.ensures in
    sym (ap supplier_of c.in-Absent.is) ∙ told

pub returns-in-Refused : goal.returns-in-Refused
unfolding supplied_by
returns-in-Refused c =
    let told : supplier_of c.supply_of.result ≡ supplied_by c.args.original.now c.args.correction.now c.args.tag = ap supplier_of c.supply_of.ensures in
    sym (ap supplier_of c.in-Refused.is) ∙ told
