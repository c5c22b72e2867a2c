-- Each turn writes an entry.
use mathlib.Core.Path.{◌≡◌, ◌∙◌, refl, sym}
use native.Mathlib.Omega.{arith}
use Rattle.index_make.specs.Groups.{group_at}
use Rattle.index_make.specs.declared.Group.TheVariants as group
use Rattle.index_make.specs.GroupLaws.{group-moves}
use Rattle.index_make.proofs.Making.{fill_start, fill_end, fill-refused, fill-room, fill_on}
use Rattle.index_make.proofs.fill.Goals as goal

pub loop-tag-init : goal.loop-tag-init
loop-tag-init c = (fill_start _ _ c.requires, refl)

pub next_group-requires : goal.next_group-requires
next_group-requires c = c.loop-tag.invariant.0.rest.inside

pub shape_of-index-in-Refused : goal.shape_of-index-in-Refused
shape_of-index-in-Refused c = c.loop-tag.invariant.1

pub returns-in-Refused : goal.returns-in-Refused
returns-in-Refused c = fill-refused c.loop-tag.invariant.0 _ (sym c.next_group.ensures ∙ c.in-Refused.is)

pub shape_of-index-in-End : goal.shape_of-index-in-End
shape_of-index-in-End c = c.loop-tag.invariant.1

pub returns-in-End : goal.returns-in-End
returns-in-End c = fill_end c.loop-tag.invariant.0 (sym c.next_group.ensures ∙ c.in-End.is)

pub store-requires : goal.store-requires
store-requires c =
    let found : group_at c.args.s.now c.loop-tag.p c.loop-tag.last ≡ group.Of c.in-Of.tag c.in-Of.count c.in-Of.next = sym c.next_group.ensures ∙ c.in-Of.is in
    fill-room c.loop-tag.invariant.0 _ _ _ found

pub overflow_add-i : goal.overflow_add-i
overflow_add-i c =
    let found : group_at c.args.s.now c.loop-tag.p c.loop-tag.last ≡ group.Of c.in-Of.tag c.in-Of.count c.in-Of.next = sym c.next_group.ensures ∙ c.in-Of.is in
    omega (arith, fill-room c.loop-tag.invariant.0 _ _ _ found, c.loop-tag.invariant.1, c.well_formed)

pub loop-tag-smaller : goal.loop-tag-smaller
loop-tag-smaller c =
    let found : group_at c.args.s.now c.loop-tag.p c.loop-tag.last ≡ group.Of c.in-Of.tag c.in-Of.count c.in-Of.next = sym c.next_group.ensures ∙ c.in-Of.is in
    let v = group-moves _ _ _ _ _ _ found in
    omega (arith, v.least, v.bytes, v.inside)

pub loop-tag-preserved : goal.loop-tag-preserved
loop-tag-preserved c =
    let found : group_at c.args.s.now c.loop-tag.p c.loop-tag.last ≡ group.Of c.in-Of.tag c.in-Of.count c.in-Of.next = sym c.next_group.ensures ∙ c.in-Of.is in
    let f = fill_on c.loop-tag.invariant.0 _ _ _ found _ c.store.ensures in
    (f.0, f.1 ∙ c.loop-tag.invariant.1)
