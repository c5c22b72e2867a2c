-- Each turn compares an entry.
use mathlib.Core.Path.{◌≡◌, ◌∙◌, sym}
use native.Mathlib.Omega.{arith}
use Rattle.index_make.specs.Groups.{group_at}
use Rattle.index_make.specs.declared.Group.TheVariants as group
use Rattle.index_make.specs.GroupLaws.{group-moves}
use Rattle.index_make.proofs.Making.{agree-start, agree-end, agree-refused, agree-more, agree-room, agree-not, agree_on}
use Rattle.index_make.proofs.agree.Goals as goal

pub loop-tag-init : goal.loop-tag-init
loop-tag-init c = agree-start _ _ _ c.requires

pub next_group-requires : goal.next_group-requires
next_group-requires c = c.loop-tag.invariant.rest.inside

pub returns-in-Refused : goal.returns-in-Refused
returns-in-Refused c = agree-refused c.loop-tag.invariant _ (sym c.next_group.ensures ∙ c.in-Refused.is)

pub returns-in-End : goal.returns-in-End
returns-in-End c = agree-end c.loop-tag.invariant (sym c.next_group.ensures ∙ c.in-End.is)

pub returns-then-n-tags : goal.returns-then-n-tags
returns-then-n-tags c =
    let found : group_at c.args.s.now c.loop-tag.p c.loop-tag.last ≡ group.Of c.in-Of.tag c.in-Of.count c.in-Of.next = sym c.next_group.ensures ∙ c.in-Of.is in
    agree-more c.loop-tag.invariant _ _ _ found c.if-n-tags.true

pub stands-requires : goal.stands-requires
stands-requires c =
    let found : group_at c.args.s.now c.loop-tag.p c.loop-tag.last ≡ group.Of c.in-Of.tag c.in-Of.count c.in-Of.next = sym c.next_group.ensures ∙ c.in-Of.is in
    agree-room c.loop-tag.invariant _ _ _ found c.if-n-tags.false

pub returns-then-not-stands : goal.returns-then-not-stands
returns-then-not-stands c =
    let found : group_at c.args.s.now c.loop-tag.p c.loop-tag.last ≡ group.Of c.in-Of.tag c.in-Of.count c.in-Of.next = sym c.next_group.ensures ∙ c.in-Of.is in
    agree-not c.loop-tag.invariant _ _ _ found c.if-n-tags.false (sym (c.if-not-stands.true) ∙ c.stands.ensures)

pub overflow_add-n : goal.overflow_add-n
overflow_add-n c = omega (arith, c.loop-tag.invariant.few, c.if-n-tags.false, c.ranges)

pub overflow_add-i : goal.overflow_add-i
overflow_add-i c =
    let found : group_at c.args.s.now c.loop-tag.p c.loop-tag.last ≡ group.Of c.in-Of.tag c.in-Of.count c.in-Of.next = sym c.next_group.ensures ∙ c.in-Of.is in
    omega (arith, agree-room c.loop-tag.invariant _ _ _ found c.if-n-tags.false, c.well_formed)

pub loop-tag-smaller : goal.loop-tag-smaller
loop-tag-smaller c =
    let found : group_at c.args.s.now c.loop-tag.p c.loop-tag.last ≡ group.Of c.in-Of.tag c.in-Of.count c.in-Of.next = sym c.next_group.ensures ∙ c.in-Of.is in
    let v = group-moves _ _ _ _ _ _ found in
    omega (arith, v.least, v.bytes, v.inside)

pub loop-tag-preserved : goal.loop-tag-preserved
loop-tag-preserved c =
    let found : group_at c.args.s.now c.loop-tag.p c.loop-tag.last ≡ group.Of c.in-Of.tag c.in-Of.count c.in-Of.next = sym c.next_group.ensures ∙ c.in-Of.is in
    agree_on c.loop-tag.invariant _ _ _ found c.if-n-tags.false (sym (c.if-not-stands.false) ∙ c.stands.ensures)
