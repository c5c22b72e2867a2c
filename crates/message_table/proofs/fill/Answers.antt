-- Pass two: each turn writes the words of the next field.
use mathlib.Core.Path.{refl, ◌∙◌}
use native.Mathlib.Omega.{arith}
use Rattle.wire.specs.Marks.{marks}
use Rattle.wire.specs.Table.{filled}
use Rattle.message_table.proofs.Filling.{Here, fill_start, here, varinted, valued, small, further, fill-turn, fill_end}
use Rattle.message_table.proofs.fill.Goals as goal

pub loop-p-init : goal.loop-p-init
loop-p-init c =
    let a = c.args in
    (fill_start a.s.now a.start a.end a.table.now c.requires, refl)

pub known_varint-k-requires : goal.known_varint-k-requires
known_varint-k-requires c =
    let turn : Here c.args.s.now c.args.end (filled c.args.table.now (marks c.args.s.now c.args.start c.args.end)) c.loop-p.p c.loop-p.tag c.loop-p.i
    c.loop-p.table =
    here c.loop-p.invariant.0 c.loop-p-test.true in
    varinted turn

pub overflow_add-tag : goal.overflow_add-tag
overflow_add-tag c =
    let turn : Here c.args.s.now c.args.end (filled c.args.table.now (marks c.args.s.now c.args.start c.args.end)) c.loop-p.p c.loop-p.tag c.loop-p.i
    c.loop-p.table =
    here c.loop-p.invariant.0 c.loop-p-test.true in
    omega (arith, small turn c.known_varint-k.ensures)

pub known_value-v-requires : goal.known_value-v-requires
known_value-v-requires c =
    let turn : Here c.args.s.now c.args.end (filled c.args.table.now (marks c.args.s.now c.args.start c.args.end)) c.loop-p.p c.loop-p.tag c.loop-p.i
    c.loop-p.table =
    here c.loop-p.invariant.0 c.loop-p-test.true in
    valued turn c.known_varint-k.ensures

pub store-requires : goal.store-requires
store-requires c =
    let turn : Here c.args.s.now c.args.end (filled c.args.table.now (marks c.args.s.now c.args.start c.args.end)) c.loop-p.p c.loop-p.tag c.loop-p.i
    c.loop-p.table =
    here c.loop-p.invariant.0 c.loop-p-test.true in
    omega (arith, turn.room)

pub overflow_add-i : goal.overflow_add-i
overflow_add-i c =
    let turn : Here c.args.s.now c.args.end (filled c.args.table.now (marks c.args.s.now c.args.start c.args.end)) c.loop-p.p c.loop-p.tag c.loop-p.i
    c.loop-p.table =
    here c.loop-p.invariant.0 c.loop-p-test.true in
    omega (
      arith,
      turn.room,
      c.loop-p.invariant.1,
      c.well_formed,
    )

pub loop-p-smaller : goal.loop-p-smaller
loop-p-smaller c =
    let turn : Here c.args.s.now c.args.end (filled c.args.table.now (marks c.args.s.now c.args.start c.args.end)) c.loop-p.p c.loop-p.tag c.loop-p.i
    c.loop-p.table =
    here c.loop-p.invariant.0 c.loop-p-test.true in
    let n = further turn c.known_varint-k.ensures c.known_value-v.ensures in
    omega (arith, n.0, c.loop-p-test.true)

pub loop-p-preserved : goal.loop-p-preserved
loop-p-preserved c =
    let turn : Here c.args.s.now c.args.end (filled c.args.table.now (marks c.args.s.now c.args.start c.args.end)) c.loop-p.p c.loop-p.tag c.loop-p.i
    c.loop-p.table =
    here c.loop-p.invariant.0 c.loop-p-test.true in
    let t = fill-turn turn c.known_varint-k.ensures c.known_value-v.ensures _ c.store.ensures in
    (t.0, t.1 ∙ c.loop-p.invariant.1)

pub shape_of-table : goal.shape_of-table
shape_of-table c = c.loop-p.invariant.1

pub returns : goal.returns
returns c = fill_end c.loop-p.invariant.0 c.loop-p-test.false
