-- Each turn counts a tag.
use mathlib.Core.Path.{◌≡◌, ◌∙◌, sym}
use native.Mathlib.Omega.{arith}
use Rattle.index_make.specs.Groups.{group_at}
use Rattle.index_make.specs.declared.Group.TheVariants as group
use Rattle.index_make.specs.GroupLaws.{group-moves}
use Rattle.index_make.proofs.Making.{count-start, count-end, count-refused, count-on}
use Rattle.index_make.proofs.count_tags.Goals as goal

pub loop-r-init : goal.loop-r-init
loop-r-init c = count-start _

pub next_group-requires : goal.next_group-requires
next_group-requires c = c.loop-r.invariant.rest.inside

pub returns-in-Refused : goal.returns-in-Refused
returns-in-Refused c = count-refused c.loop-r.invariant _ (sym c.next_group.ensures ∙ c.in-Refused.is)

pub returns-in-End : goal.returns-in-End
returns-in-End c = count-end c.loop-r.invariant (sym c.next_group.ensures ∙ c.in-End.is)

pub overflow_add-n : goal.overflow_add-n
overflow_add-n c =
    let found : group_at c.args.s.now c.loop-r.p c.loop-r.last ≡ group.Of c.in-Of.tag c.in-Of.field-1 c.in-Of.next = sym c.next_group.ensures ∙ c.in-Of.is in
    let v = group-moves _ _ _ _ _ _ found in
    omega (arith, v.least, v.bytes, v.inside, c.loop-r.invariant.few, c.well_formed.0)

pub loop-r-smaller : goal.loop-r-smaller
loop-r-smaller c =
    let found : group_at c.args.s.now c.loop-r.p c.loop-r.last ≡ group.Of c.in-Of.tag c.in-Of.field-1 c.in-Of.next = sym c.next_group.ensures ∙ c.in-Of.is in
    let v = group-moves _ _ _ _ _ _ found in
    omega (arith, v.least, v.bytes, v.inside)

pub loop-r-preserved : goal.loop-r-preserved
loop-r-preserved c =
    let found : group_at c.args.s.now c.loop-r.p c.loop-r.last ≡ group.Of c.in-Of.tag c.in-Of.field-1 c.in-Of.next = sym c.next_group.ensures ∙ c.in-Of.is in
    count-on c.loop-r.invariant _ _ _ found
