-- The part lies inside the message that supplies the tag.
use mathlib.Core.Path.{◌≡◌, ◌∙◌, ap, sym}
use native.Mathlib.Omega.{arith}
use lib.ListN.{length}
use Rattle.correct_supply.specs.declared.Supply.TheVariants as supply
use Rattle.correct_supply.specs.Supplying.{supply_of, part_in, corrected_part}
use Rattle.correct_supply.specs.SupplyLaws.{Inside, lies}
use Rattle.correct_supply.proofs.SupplyLaws.{original-inside, correction-inside}
use Rattle.correct_supply.proofs.corrected_part.Goals as goal

pub overflow_add-end : goal.overflow_add-end
overflow_add-end c =
    let old : supply_of c.args.original.now c.args.correction.now c.args.tag ≡ supply.Original c.in-Original.p = sym c.supply_of.ensures ∙ c.in-Original.is in
    let old-inside : Inside (length c.args.original.now) c.in-Original.p = original-inside _ _ _ _ old in
    omega (arith, old-inside, c.well_formed.0.0)

pub slice_bounds-result-end : goal.slice_bounds-result-end
slice_bounds-result-end c =
    let old : supply_of c.args.original.now c.args.correction.now c.args.tag ≡ supply.Original c.in-Original.p = sym c.supply_of.ensures ∙ c.in-Original.is in
    let old-inside : Inside (length c.args.original.now) c.in-Original.p = original-inside _ _ _ _ old in
    omega (arith, old-inside)

pub overflow_add-end-in-Correction : goal.overflow_add-end-in-Correction
overflow_add-end-in-Correction c =
    let new : supply_of c.args.original.now c.args.correction.now c.args.tag ≡ supply.Correction c.in-Correction.p =
    sym c.supply_of.ensures ∙ c.in-Correction.is in
    let new-inside : Inside (length c.args.correction.now) c.in-Correction.p = correction-inside _ _ _ _ new in
    omega (arith, new-inside, c.well_formed)

pub slice_bounds-result-end-in-Correction : goal.slice_bounds-result-end-in-Correction
slice_bounds-result-end-in-Correction c =
    let new : supply_of c.args.original.now c.args.correction.now c.args.tag ≡ supply.Correction c.in-Correction.p =
    sym c.supply_of.ensures ∙ c.in-Correction.is in
    let new-inside : Inside (length c.args.correction.now) c.in-Correction.p = correction-inside _ _ _ _ new in
    omega (arith, new-inside)

pub returns-in-Original : goal.returns-in-Original
unfolding corrected_part
returns-in-Original c =
    let old : supply_of c.args.original.now c.args.correction.now c.args.tag ≡ supply.Original c.in-Original.p = sym c.supply_of.ensures ∙ c.in-Original.is in
    let p = c.in-Original.p in
    let a = c.args in
    lies a.original p.start p.length _ (sym (ap (part_in a.original a.correction) old))

pub returns-in-Correction : goal.returns-in-Correction
unfolding corrected_part
returns-in-Correction c =
    let new : supply_of c.args.original.now c.args.correction.now c.args.tag ≡ supply.Correction c.in-Correction.p =
    sym c.supply_of.ensures ∙ c.in-Correction.is in
    let p = c.in-Correction.p in
    let a = c.args in
    lies a.correction p.start p.length _ (sym (ap (part_in a.original a.correction) new))

pub returns-in-Absent : goal.returns-in-Absent
unfolding corrected_part
returns-in-Absent c =
    let a = c.args in
    lies a.original 0 0 _ (sym (ap (part_in a.original a.correction) (sym c.supply_of.ensures ∙ c.in-Absent.is)))

pub returns-in-Refused : goal.returns-in-Refused
unfolding corrected_part
returns-in-Refused c =
    let a = c.args in
    lies a.original 0 0 _ (sym (ap (part_in a.original a.correction) (sym c.supply_of.ensures ∙ c.in-Refused.is)))
