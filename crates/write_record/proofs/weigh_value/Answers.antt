-- `write_record::weigh_value` meets its contract.
use Rattle.std.proofs.Common.{sym, arith, rules}
use Rattle.wire.specs.VarintLaws.{length-le}
use Rattle.write_record.specs.RecordLaws.{value-number, no_number, value-payload, no_payload, value-four, no-four, value-eight, no-eight, no_kind}
use Rattle.write_record.proofs.weigh_value.Goals as goal

pub returns-then-length-eq0 : goal.returns-then-length-eq0
returns-then-length-eq0 c = rw c.count_len.ensures (sym (value-number _ _ _ _ c.if-kind-eq0.true c.if-length-eq0.true))

pub returns-then-kind-eq0 : goal.returns-then-kind-eq0
returns-then-kind-eq0 c = sym (no_number _ _ _ _ c.if-kind-eq0.true c.if-length-eq0.false)

pub returns-then-size-value : goal.returns-then-size-value
returns-then-size-value c = sym (no_payload _ _ _ _ (omega arith) (omega arith))

pub overflow_add-result : goal.overflow_add-result
overflow_add-result c =
    omega (
      arith,
      c.count_len-then-length-size.ensures,
      length-le c.args.length,
      c.ranges.size.fits,
    )

pub returns-then-length-size : goal.returns-then-length-size
returns-then-length-size c = rw c.count_len-then-length-size.ensures (sym (value-payload _ _ _ _ (omega arith) (omega arith)))

pub returns-then-kind-lt2 : goal.returns-then-kind-lt2
returns-then-kind-lt2 c = sym (no_payload _ _ _ _ (omega arith) (omega arith))

pub returns-then-value-lt4294967296 : goal.returns-then-value-lt4294967296
returns-then-value-lt4294967296 c = sym (value-four _ _ _ _ c.if-kind-eq2.true c.if-length-eq4.true c.if-value-lt4294967296.true)

pub returns-then-length-eq4 : goal.returns-then-length-eq4
returns-then-length-eq4 c = sym (no-four _ _ _ _ c.if-kind-eq2.true (λ e h. omega arith))

pub returns-then-kind-eq2 : goal.returns-then-kind-eq2
returns-then-kind-eq2 c = sym (no-four _ _ _ _ c.if-kind-eq2.true (λ e h. c.if-length-eq4.false e))

pub returns-then-length-eq8 : goal.returns-then-length-eq8
returns-then-length-eq8 c = sym (value-eight _ _ _ _ c.if-kind-eq3.true c.if-length-eq8.true)

pub returns-then-kind-eq3 : goal.returns-then-kind-eq3
returns-then-kind-eq3 c = sym (no-eight _ _ _ _ c.if-kind-eq3.true c.if-length-eq8.false)

pub returns : goal.returns
returns c = sym (no_kind _ _ _ _ (omega arith))
