-- The tests in their order, then the entries are stored.
use mathlib.Core.Path.{◌≡◌}
use Prim.Native.Nat.{◌+◌, ◌*◌}
use native.Mathlib.Omega.{arith}
use lib.ListN.{length}
use Rattle.index_line.specs.Line.{head_digits, width, tags_in}
use Rattle.index_line.proofs.Answers.{answer-misspelled, answer-length, answer-falling, answer-full, answer-read}
use Rattle.index_line.proofs.read_edition.Goals as goal

pub returns-then-not-spelled_well : goal.returns-then-not-spelled_well
returns-then-not-spelled_well c = answer-misspelled _ _ _ _ c.spelled_well.ensures (c.if-not-spelled_well.true)

pub overflow_sub-tags : goal.overflow_sub-tags
overflow_sub-tags c =
    let long : length c.args.line.now ≡ head_digits + width c.args.w * tags_in c.args.w c.args.line.now = answer-length _ _ _ c.args.index.now c.spelled_well.ensures (c.if-not-spelled_well.false) in
    omega (arith, long)

pub rising-requires : goal.rising-requires
rising-requires c =
    let long : length c.args.line.now ≡ head_digits + width c.args.w * tags_in c.args.w c.args.line.now = answer-length _ _ _ c.args.index.now c.spelled_well.ensures (c.if-not-spelled_well.false) in
    (c.requires.1, omega (arith, long))

pub returns-then-not-rising : goal.returns-then-not-rising
returns-then-not-rising c = answer-falling _ _ _ _ c.spelled_well.ensures (c.if-not-spelled_well.false) c.rising.ensures (c.if-not-rising.true)

pub returns-then-index-tags : goal.returns-then-index-tags
returns-then-index-tags c =
    answer-full _ _ _ _ c.spelled_well.ensures (c.if-not-spelled_well.false) c.rising.ensures
    (c.if-not-rising.false) c.if-index-tags.true

pub fill-requires : goal.fill-requires
fill-requires c =
    let long : length c.args.line.now ≡ head_digits + width c.args.w * tags_in c.args.w c.args.line.now = answer-length _ _ _ c.args.index.now c.spelled_well.ensures (c.if-not-spelled_well.false) in
    (c.requires.1, omega (arith, long), omega (arith, c.if-index-tags.false))

pub returns : goal.returns
returns c =
    answer-read _ _ _ _ c.spelled_well.ensures (c.if-not-spelled_well.false) c.rising.ensures
    (c.if-not-rising.false) c.if-index-tags.false
    c.fill.ensures
