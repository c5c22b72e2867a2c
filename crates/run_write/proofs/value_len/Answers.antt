-- Each kind has its size.
use mathlib.Core.Path.{◌≡◌}
use native.Mathlib.Omega.{arith}
use Rattle.wire.specs.VarintLaws.{length-le}
use Rattle.run_write.proofs.Turns.{size-one, size-eight}
use Rattle.run_write.proofs.value_len.Goals as goal

pub returns-then-kind-eq0 : goal.returns-then-kind-eq0
returns-then-kind-eq0 c = rw c.if-kind-eq0.true c.count_len.ensures

pub overflow_add-result : goal.overflow_add-result
overflow_add-result c =
    let k : c.args.kind ≡ 1 = omega (arith, c.if-kind-eq0.false, c.if-kind-lt2.true) in
    omega (arith, c.count_len-then-kind-lt2.ensures, length-le c.args.length, c.requires k)

pub returns-then-kind-lt2 : goal.returns-then-kind-lt2
returns-then-kind-lt2 c =
    let a = c.args in
    omega (arith, c.count_len-then-kind-lt2.ensures, size-one a.kind a.value a.length c.if-kind-eq0.false c.if-kind-lt2.true)

pub returns-then-kind-eq2 : goal.returns-then-kind-eq2
returns-then-kind-eq2 c = rw c.if-kind-eq2.true

pub returns : goal.returns
returns c = size-eight _ _ _ c.if-kind-lt2.false c.if-kind-eq2.false
