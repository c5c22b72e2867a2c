-- `write_record::weigh_mixed` meets its contract.
use Rattle.std.proofs.Common.{◌≡◌, ◌-◌, ◌<◌, ◌≤◌, sym, ◌∙◌, arith, rules}
use Rattle.wire.specs.VarintLaws.{length-le}
use Rattle.write_record.specs.RecordLaws.{no_kind}
use Rattle.write_record.specs.Mixed.{most_of, least_len, spare_len, number_in, high, short, long, fits, size_below, number-below}
use Rattle.write_record.proofs.weigh_mixed.Goals as goal

pub returns-then-kind-gt3 : goal.returns-then-kind-gt3
returns-then-kind-gt3 c = sym (no_kind _ _ _ _ c.if-kind-gt3.true)

pub most_of-requires : goal.most_of-requires
most_of-requires c = omega arith

pub returns-then-most_of-value : goal.returns-then-most_of-value
returns-then-most_of-value c =
    let a = c.args in
    let f = c.ranges.value.fits in
    sym (high a.size a.kind a.value a.length (omega arith) f (omega (arith, c.most_of.ensures)))

pub least_len-least-requires : goal.least_len-least-requires
least_len-least-requires c = omega arith

pub returns-then-length-least : goal.returns-then-length-least
returns-then-length-least c =
    let a = c.args in
    sym (short a.size a.kind a.value a.length (omega arith) (omega (arith, c.least_len-least.ensures)))

pub spare_len-requires : goal.spare_len-requires
spare_len-requires c =
    let low : c.args.value ≤ most_of c.args.size c.args.kind = omega (arith, c.most_of.ensures) in
    low

pub returns-then-spare_len-length : goal.returns-then-spare_len-length
returns-then-spare_len-length c =
    let low : c.args.value ≤ most_of c.args.size c.args.kind = omega (arith, c.most_of.ensures) in
    let enough : least_len c.args.kind ≤ c.args.length = omega (arith, c.least_len-least.ensures) in
    let a = c.args in
    sym (long a.size a.kind a.value a.length (omega arith) low enough
    (omega (arith, c.least_len-least.ensures, c.spare_len.ensures)))

pub overflow_add-result : goal.overflow_add-result
overflow_add-result c =
    let low : c.args.value ≤ most_of c.args.size c.args.kind = omega (arith, c.most_of.ensures) in
    let enough : least_len c.args.kind ≤ c.args.length = omega (arith, c.least_len-least.ensures) in
    let within : c.args.length - least_len c.args.kind ≤ spare_len c.args.size c.args.kind c.args.value =
    omega (arith, c.least_len-least.ensures, c.spare_len.ensures) in
    let a = c.args in
    omega (
      arith,
      c.if_number-n.ensures,
      number-below a.kind c.count_len.result,
      c.count_len.ensures,
      length-le c.number_in.result,
      size_below a.size a.kind a.value a.length (omega arith) low enough within,
      c.ranges.size.fits,
    )

pub returns : goal.returns
returns c =
    let low : c.args.value ≤ most_of c.args.size c.args.kind = omega (arith, c.most_of.ensures) in
    let enough : least_len c.args.kind ≤ c.args.length = omega (arith, c.least_len-least.ensures) in
    let within : c.args.length - least_len c.args.kind ≤ spare_len c.args.size c.args.kind c.args.value =
    omega (arith, c.least_len-least.ensures, c.spare_len.ensures) in
    let a = c.args in
    rw (c.if_number-n.ensures, c.count_len.ensures, c.number_in.ensures)
    (sym (fits a.size a.kind a.value a.length (omega arith) low enough within))
