-- What each message has of the tag, then who supplies it.
use mathlib.Core.Path.{◌≡◌, ◌∙◌, sym}
use native.Mathlib.Omega.{arith}
use Rattle.correct_supply.specs.declared.Held.TheVariants as held_as
use Rattle.correct_supply.specs.Supplying.{held}
use Rattle.correct_supply.proofs.SupplyLaws.{supply-shut, supply-refused, supply-new, supply-many, supply-old, supply-older, supply-none}
use Rattle.correct_supply.proofs.supply_of.Goals as goal

pub returns-then-m-eq1 : goal.returns-then-m-eq1
returns-then-m-eq1 c =
    let old : held c.args.original.now c.args.tag ≡ held_as.Fields c.in-Fields.n c.in-Fields.p = sym c.seek.ensures ∙ c.in-Fields.is in
    let new : held c.args.correction.now c.args.tag ≡ held_as.Fields c.in-Fields-seek.m c.in-Fields-seek.q =
    sym c.seek-in-Fields.ensures ∙ c.in-Fields-seek.is in
    sym (supply-new _ _ _ _ _ old _ _ new c.if-m-eq1.true)

pub returns-then-m-gt1 : goal.returns-then-m-gt1
returns-then-m-gt1 c =
    let old : held c.args.original.now c.args.tag ≡ held_as.Fields c.in-Fields.n c.in-Fields.p = sym c.seek.ensures ∙ c.in-Fields.is in
    let new : held c.args.correction.now c.args.tag ≡ held_as.Fields c.in-Fields-seek.m c.in-Fields-seek.q =
    sym c.seek-in-Fields.ensures ∙ c.in-Fields-seek.is in
    sym (supply-many _ _ _ _ _ old _ _ new c.if-m-gt1.true)

pub returns-then-n-eq1 : goal.returns-then-n-eq1
returns-then-n-eq1 c =
    let old : held c.args.original.now c.args.tag ≡ held_as.Fields c.in-Fields.n c.in-Fields.p = sym c.seek.ensures ∙ c.in-Fields.is in
    let new : held c.args.correction.now c.args.tag ≡ held_as.Fields c.in-Fields-seek.m c.in-Fields-seek.q =
    sym c.seek-in-Fields.ensures ∙ c.in-Fields-seek.is in
    sym
    (supply-old _ _ _ _ _ old _ _ new
    (omega (arith, c.if-m-gt1.false, c.if-m-eq1.false)) c.if-n-eq1.true)

pub returns-then-n-gt1 : goal.returns-then-n-gt1
returns-then-n-gt1 c =
    let old : held c.args.original.now c.args.tag ≡ held_as.Fields c.in-Fields.n c.in-Fields.p = sym c.seek.ensures ∙ c.in-Fields.is in
    let new : held c.args.correction.now c.args.tag ≡ held_as.Fields c.in-Fields-seek.m c.in-Fields-seek.q =
    sym c.seek-in-Fields.ensures ∙ c.in-Fields-seek.is in
    sym
    (supply-older _ _ _ _ _ old _ _ new
    (omega (arith, c.if-m-gt1.false, c.if-m-eq1.false)) c.if-n-gt1.true)

pub returns-in-Refused : goal.returns-in-Refused
returns-in-Refused c = sym (supply-shut _ _ _ _ (sym c.seek.ensures ∙ c.in-Refused.is))

pub returns-in-Refused-seek : goal.returns-in-Refused-seek
returns-in-Refused-seek c =
    let old : held c.args.original.now c.args.tag ≡ held_as.Fields c.in-Fields.n c.in-Fields.p = sym c.seek.ensures ∙ c.in-Fields.is in
    sym
    (supply-refused _ _ _ _ _ old _ (sym c.seek-in-Fields.ensures ∙ c.in-Refused-seek.is))

pub returns-else-n-gt1 : goal.returns-else-n-gt1
returns-else-n-gt1 c =
    let old : held c.args.original.now c.args.tag ≡ held_as.Fields c.in-Fields.n c.in-Fields.p = sym c.seek.ensures ∙ c.in-Fields.is in
    let new : held c.args.correction.now c.args.tag ≡ held_as.Fields c.in-Fields-seek.m c.in-Fields-seek.q =
    sym c.seek-in-Fields.ensures ∙ c.in-Fields-seek.is in
    sym
    (supply-none _ _ _ _ _ old _ _ new
    (omega (arith, c.if-m-gt1.false, c.if-m-eq1.false)) (omega (arith, c.if-n-gt1.false, c.if-n-eq1.false)))
