-- Each turn tests a record of fixed values; those that were passed two by two are behind it.
use mathlib.Core.Path.{◌≡◌, ◌∙◌, refl, sym}
use mathlib.Core.Bool.{Bool, true, false}
use Prim.Native.Nat.{ℕ, ◌+◌, ◌*◌, ◌≤◌}
use native.Mathlib.Omega.{arith}
use lib.ListN.{length}
use Rattle.wire.specs.Limits.{message_limit, record_words}
use Rattle.run_write.proofs.Turns.{plain-testing, test-inside, test-bad, test-more, test-done, all-spent, not-spent}
use Rattle.run_write.proofs.weigh_fixed.Goals as goal

pub overflow_cast-size : goal.overflow_cast-size
overflow_cast-size c = omega (arith, c.requires.0)

pub overflow_mul-end : goal.overflow_mul-end
overflow_mul-end c = omega (arith, c.requires.1, c.well_formed)

pub plain_words-at-requires : goal.plain_words-at-requires
plain_words-at-requires c = c.requires.1

pub loop-at-init : goal.loop-at-init
loop-at-init c = plain-testing c.requires.0 c.requires.1 c.plain_words-at.ensures

pub words_at-r-requires : goal.words_at-r-requires
words_at-r-requires c =
    let inside : c.loop-at.at + record_words ≤ length c.args.table.now = test-inside c.loop-at.invariant c.loop-at-test.true in
    inside

pub returns-then-r-gt0 : goal.returns-then-r-gt0
returns-then-r-gt0 c = test-bad c.loop-at.invariant c.loop-at-test.true c.words_at-r.ensures (λ g k z. omega (arith, c.if-r-gt0.true, z))

pub returns-then-kind-r : goal.returns-then-kind-r
returns-then-kind-r c =
    let k = c.kind_of-kind.ensures in
    test-bad c.loop-at.invariant c.loop-at-test.true c.words_at-r.ensures (λ g e z. c.if-kind-r.true (k ∙ sym e))

pub returns-then-not-is_good : goal.returns-then-not-is_good
returns-then-not-is_good c =
    test-bad c.loop-at.invariant c.loop-at-test.true c.words_at-r.ensures
    (λ g k z. no (sym g ∙ sym c.is_good.ensures ∙ c.if-not-is_good.true))
  where
    no : ◌≡◌ {A = Bool} true false → ⊥
    no q = let z : ◌≡◌ {A = ℕ} 0 1 = cc in omega arith

pub overflow_add-at : goal.overflow_add-at
overflow_add-at c =
    let inside : c.loop-at.at + record_words ≤ length c.args.table.now = test-inside c.loop-at.invariant c.loop-at-test.true in
    omega (arith, inside, c.well_formed)

pub loop-at-smaller : goal.loop-at-smaller
loop-at-smaller c = omega (arith, c.loop-at-test.true)

pub loop-at-preserved : goal.loop-at-preserved
loop-at-preserved c =
    let k = c.kind_of-kind.ensures in
    test-more c.loop-at.invariant c.loop-at-test.true c.words_at-r.ensures (sym c.is_good.ensures ∙ c.if-not-is_good.false)
    (sym c.if-kind-r.false ∙ k) (omega (arith, c.if-r-gt0.false))

pub returns-then-n-count : goal.returns-then-n-count
returns-then-n-count c =
    let e = all-spent c.args.count c.args.wide c.width_of-n.ensures c.if-n-count.true in
    test-done c.loop-at.invariant c.loop-at-test.false e

pub overflow_mul-result : goal.overflow_mul-result
overflow_mul-result c =
    let few : c.width_of-n.result * c.args.count ≤ message_limit = not-spent c.args.count c.args.wide c.width_of-n.ensures c.if-n-count.false in
    omega (arith, few)

pub overflow_sub-result : goal.overflow_sub-result
overflow_sub-result c =
    let few : c.width_of-n.result * c.args.count ≤ message_limit = not-spent c.args.count c.args.wide c.width_of-n.ensures c.if-n-count.false in
    omega (arith, few)

pub returns : goal.returns
returns c = test-done c.loop-at.invariant c.loop-at-test.false (rw c.width_of-n.ensures refl)
