-- `write_record::weigh_record` meets its contract.
use Rattle.std.proofs.Common.{◌≡◌, ◌-◌, ◌*◌, true, sym, ap, ◌∙◌, arith, rules}
use borrow.Author.Tests.{not-true, not-false}
use Rattle.wire.specs.VarintLaws.{length-le}
use Rattle.wire.specs.Table.{good_head, good_value, good}
use Rattle.write_record.specs.Records.{value_size, record_size}
use Rattle.write_record.specs.RecordLaws.{head_small, bad-head, good-head, value-good, value-bad, value-short, judge-bad, judge-falls, judge-good}
use Rattle.write_record.specs.RecordLaws.{weigh-bad, weigh-fine}
use Rattle.wire.specs.declared.Weight.TheVariants.{Bad}
use Rattle.write_record.proofs.weigh_record.Goals as goal

pub returns-then-not-has_head : goal.returns-then-not-has_head
returns-then-not-has_head c = sym (weigh-bad _ _ _ _ (judge-bad _ _ _ (bad-head _ _ (sym c.has_head.ensures ∙ c.if-not-has_head.true))))

pub returns-then-r-prev : goal.returns-then-r-prev
returns-then-r-prev c =
    let headed : good_head c.args.size c.args.r.tag c.args.r.key ≡ true = sym c.has_head.ensures ∙ c.if-not-has_head.false in
    let valued : (good_value c.args.size c.args.r.kind c.args.r.value c.args.r.length ≡ true)
    × (c.in-Bytes.n ≡ value_size c.args.r.kind c.args.r.value c.args.r.length) =
    value-good _ _ _ _ _ c.weigh_either.ensures c.in-Bytes.is in
    let sound : good c.args.size c.args.r ≡ true = good-head _ _ headed ∙ valued.0 in
    sym (weigh-bad _ _ _ _ (judge-falls _ _ _ sound c.if-r-prev.true))

pub overflow_mul-r : goal.overflow_mul-r
overflow_mul-r c =
    let headed : good_head c.args.size c.args.r.tag c.args.r.key ≡ true = sym c.has_head.ensures ∙ c.if-not-has_head.false in
    omega (arith, head_small _ _ _ headed)

pub overflow_add-result : goal.overflow_add-result
overflow_add-result c =
    let valued : (good_value c.args.size c.args.r.kind c.args.r.value c.args.r.length ≡ true)
    × (c.in-Bytes.n ≡ value_size c.args.r.kind c.args.r.value c.args.r.length) =
    value-good _ _ _ _ _ c.weigh_either.ensures c.in-Bytes.is in
    let a = c.args in
    let v = valued in
    omega (
      arith,
      c.number_len.ensures,
      length-le (4 * (a.r.tag - a.prev)),
      v.1,
      value-short a.size a.r.kind a.r.value a.r.length v.0,
      c.ranges.size.fits,
    )

pub returns-in-Bad : goal.returns-in-Bad
returns-in-Bad c =
    let headed : good_head c.args.size c.args.r.tag c.args.r.key ≡ true = sym c.has_head.ensures ∙ c.if-not-has_head.false in
    let v = value-bad _ _ _ _ _ c.weigh_either.ensures c.in-Bad.is in
    ap Bad v.1 ∙ sym (weigh-bad _ _ _ _ (judge-bad _ _ _ (good-head _ _ headed ∙ v.0)))

pub returns-else-r-prev : goal.returns-else-r-prev
unfolding record_size
returns-else-r-prev c =
    let headed : good_head c.args.size c.args.r.tag c.args.r.key ≡ true = sym c.has_head.ensures ∙ c.if-not-has_head.false in
    let valued : (good_value c.args.size c.args.r.kind c.args.r.value c.args.r.length ≡ true)
    × (c.in-Bytes.n ≡ value_size c.args.r.kind c.args.r.value c.args.r.length) =
    value-good _ _ _ _ _ c.weigh_either.ensures c.in-Bytes.is in
    let sound : good c.args.size c.args.r ≡ true = good-head _ _ headed ∙ valued.0 in
    rw (c.number_len.ensures, valued.1) (sym (weigh-fine _ _ _ (judge-good _ _ _ sound c.if-r-prev.false)))
