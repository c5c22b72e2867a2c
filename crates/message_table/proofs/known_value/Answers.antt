-- Each kind of value gives its words.
use native.Mathlib.Omega.{arith}
use Prim.Native.Nat.{◌≤◌}
use Rattle.wire.specs.Fixed.{eight}
use Rattle.message_table.proofs.Present.{varinted-of, number-words, payload-words, payload-inside, four-words, four-inside, eight-words, eight-inside}
use Rattle.message_table.proofs.known_value.Goals as goal

pub known_varint-v-requires : goal.known_varint-v-requires
known_varint-v-requires c = varinted-of _ _ _ c.requires (omega (arith, c.if-kind-eq0.true))

pub returns-then-kind-eq0 : goal.returns-then-kind-eq0
returns-then-kind-eq0 c = number-words _ _ _ c.if-kind-eq0.true _ _ c.known_varint-v.ensures

pub known_varint-v-requires-then-kind-eq1 : goal.known_varint-v-requires-then-kind-eq1
known_varint-v-requires-then-kind-eq1 c = varinted-of _ _ _ c.requires (omega (arith, c.if-kind-eq1.true))

pub overflow_add-result : goal.overflow_add-result
overflow_add-result c =
    let n = payload-inside _ _ _ c.if-kind-eq1.true _ _ c.known_varint-v-then-kind-eq1.ensures c.requires in
    omega (arith, n, c.well_formed.0.0)

pub returns-then-kind-eq1 : goal.returns-then-kind-eq1
returns-then-kind-eq1 c = payload-words _ _ _ c.if-kind-eq1.true _ _ c.known_varint-v-then-kind-eq1.ensures

pub known_four-requires : goal.known_four-requires
known_four-requires c = four-inside _ _ _ c.if-kind-eq2.true c.requires

pub overflow_add-result-then-kind-eq2 : goal.overflow_add-result-then-kind-eq2
overflow_add-result-then-kind-eq2 c = omega (arith, four-inside _ _ _ c.if-kind-eq2.true c.requires, c.well_formed.0.0)

pub returns-then-kind-eq2 : goal.returns-then-kind-eq2
returns-then-kind-eq2 c = four-words _ _ _ c.if-kind-eq2.true _ c.known_four.ensures.0

pub known_four-low-requires : goal.known_four-low-requires
known_four-low-requires c =
    let last : 3 ≤ c.args.kind = omega (arith, c.if-kind-eq2.false, c.if-kind-eq1.false, c.if-kind-eq0.false) in
    omega (arith, eight-inside _ _ _ last c.requires)

pub overflow_add-at : goal.overflow_add-at
overflow_add-at c =
    let last : 3 ≤ c.args.kind = omega (arith, c.if-kind-eq2.false, c.if-kind-eq1.false, c.if-kind-eq0.false) in
    omega (arith, eight-inside _ _ _ last c.requires, c.well_formed.0.0)

pub known_four-high-requires : goal.known_four-high-requires
known_four-high-requires c =
    let last : 3 ≤ c.args.kind = omega (arith, c.if-kind-eq2.false, c.if-kind-eq1.false, c.if-kind-eq0.false) in
    omega (arith, eight-inside _ _ _ last c.requires)

pub overflow_add-result-3 : goal.overflow_add-result-3
overflow_add-result-3 c =
    let last : 3 ≤ c.args.kind = omega (arith, c.if-kind-eq2.false, c.if-kind-eq1.false, c.if-kind-eq0.false) in
    omega (arith, eight-inside _ _ _ last c.requires, c.well_formed.0.0)

pub returns : goal.returns
returns c =
    let last : 3 ≤ c.args.kind = omega (arith, c.if-kind-eq2.false, c.if-kind-eq1.false, c.if-kind-eq0.false) in
    let k = last in
    let n = eight-inside _ _ _ k c.requires in
    eight-words _ _ _ k _ (omega (arith, eight c.args.s.now c.args.at n, c.known_four-low.ensures.0, c.known_four-high.ensures.0))
