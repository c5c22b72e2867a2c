-- A key and its value, then the fields behind them.
use mathlib.Core.Path.{◌≡◌, ◌∙◌, ap, sym}
use lib.ListN.{length}
use Rattle.wire.specs.Reading.{key_at, tagged}
use Rattle.wire.specs.StepLaws.{field-keyed, field-keyless}
use Rattle.wire.specs.declared.KeyFound.TheVariants as key_found
use Rattle.index_pick.specs.Looked.{only_one, look-refused, look-field}
use Rattle.index_pick.proofs.look.Goals as goal

pub returns-in-Refused : goal.returns-in-Refused
returns-in-Refused c = sym (look-refused _ _ _ _ (field-keyless _ _ _ _ (sym c.decode_key.ensures ∙ c.in-Refused.is)))

pub returns-in-Refused-decode_value : goal.returns-in-Refused-decode_value
returns-in-Refused-decode_value c =
    let keyed : key_at c.args.s.now (length c.args.s.now) c.args.place 0 ≡ key_found.Got c.in-Got.key c.in-Got.q = sym c.decode_key.ensures ∙ c.in-Got.is in
    let v = sym c.decode_value.ensures ∙ c.in-Refused-decode_value.is in
    sym (look-refused _ _ _ _ (field-keyed _ _ _ _ keyed ∙ ap (tagged _) v))

pub returns-in-Got-decode_value : goal.returns-in-Got-decode_value
returns-in-Got-decode_value c =
    let keyed : key_at c.args.s.now (length c.args.s.now) c.args.place 0 ≡ key_found.Got c.in-Got.key c.in-Got.q = sym c.decode_key.ensures ∙ c.in-Got.is in
    let a = c.args in
    c.alone.ensures ∙ ap (only_one a.tag a.count c.in-Got-decode_value.v) c.follow.ensures
    ∙ sym (look-field _ _ _ _ _ (field-keyed _ _ _ _ keyed ∙ ap (tagged _) (sym c.decode_value.ensures ∙ c.in-Got-decode_value.is)))
