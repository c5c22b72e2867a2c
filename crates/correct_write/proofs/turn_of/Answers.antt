-- The fields of lower tags, those of the tag, and those that are passed over.
use native.Mathlib.Omega.{arith}
use Rattle.wire.specs.VarintLaws.{Bytes}
use Rattle.correct_write.specs.Turning.{turned}
use Rattle.correct_write.proofs.turn_of.Goals as goal

pub tag_at-limit-requires : goal.tag_at-limit-requires
tag_at-limit-requires c = (c.requires.1, c.requires.2)

pub pass-low-requires : goal.pass-low-requires
pass-low-requires c = c.requires.0

pub pass-high-requires : goal.pass-high-requires
pass-high-requires c = c.pass-low.ensures.0.rest

pub pass-group-requires : goal.pass-group-requires
pass-group-requires c = c.requires.1

pub returns : goal.returns
returns c =
    let old-bytes : Bytes c.args.original.now = λ i. omega (arith, c.type_inv.original i) in
    let new-bytes : Bytes c.args.correction.now = λ i. omega (arith, c.type_inv.correction i) in
    turned _ _ _ _ _ _ old-bytes new-bytes _ c.tag_at-limit.ensures _ _ _ _ _ _
    c.pass-low.ensures.0 c.pass-low.ensures.1 c.pass-high.ensures.0 c.pass-high.ensures.1 c.pass-group.ensures.0 c.pass-group.ensures.1
    _ c.later.ensures
