-- `write_record::is_good` meets its contract.
use Rattle.std.proofs.Common.{sym, ◌∙◌, rules}
use Rattle.write_record.specs.RecordLaws.{good-value, bad-value, value-good, value-bad}
use Rattle.write_record.proofs.is_good.Goals as goal

pub returns-in-Bytes : goal.returns-in-Bytes
returns-in-Bytes c =
    c.good_head.ensures
    ∙ sym (good-value _ _ (value-good _ _ _ _ _ c.weigh_value.ensures c.in-Bytes.is).0)

pub returns-in-Bad : goal.returns-in-Bad
returns-in-Bad c = sym (bad-value _ _ (value-bad _ _ _ _ _ c.weigh_value.ensures c.in-Bad.is).0)
