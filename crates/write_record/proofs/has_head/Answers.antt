-- `write_record::has_head` meets its contract.
use Rattle.std.proofs.Common.{◌≡◌, sym, ◌∙◌, arith, rules}
use Rattle.wire.specs.Table.{head-above, head-key}
use Rattle.write_record.specs.Mixed.{key-told, key-past}
use Rattle.write_record.proofs.has_head.Goals as goal

pub returns-then-tag-gt-LAST_TAG : goal.returns-then-tag-gt-LAST_TAG
returns-then-tag-gt-LAST_TAG c = sym (head-above _ _ _ (omega arith))

pub returns-then-wrapping_add_u64-size : goal.returns-then-wrapping_add_u64-size
returns-then-wrapping_add_u64-size c =
    let f = c.ranges.key.fits in
    sym (head-key _ _ _ (omega arith) ∙ key-told _ _ f (omega (arith, c.wrapping_add_u64.ensures)))

pub returns : goal.returns
returns c =
    let f = c.ranges.key.fits in
    sym (head-key _ _ _ (omega arith) ∙ key-past _ _ f (omega (arith, c.wrapping_add_u64.ensures)))
