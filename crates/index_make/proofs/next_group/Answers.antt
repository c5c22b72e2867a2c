-- A key and its value, then the run behind them.
use mathlib.Core.Path.{◌≡◌, ◌∙◌, ap, sym}
use native.Mathlib.Omega.{arith}
use lib.ListN.{length}
use Rattle.field.proofs.Dispatch.{step-keyless, step-keyed}
use Rattle.wire.specs.Reading.{key_at}
use Rattle.wire.specs.StepLaws.{step-at}
use Rattle.wire.specs.declared.KeyFound.TheVariants as key_found
use Rattle.index_make.specs.Groups.{grouped, group-end, group-refused, group-field}
use Rattle.index_make.proofs.next_group.Goals as goal

pub returns-then-s-at : goal.returns-then-s-at
returns-then-s-at c = sym (group-end _ _ _ (step-at _ _ _ _ (omega (arith, c.if-s-at.true, c.requires))))

pub returns-in-Refused : goal.returns-in-Refused
returns-in-Refused c = sym (group-refused _ _ _ _ (step-keyless _ _ _ _ c.if-s-at.false (sym c.decode_key.ensures ∙ c.in-Refused.is)))

pub returns-in-Refused-decode_value : goal.returns-in-Refused-decode_value
returns-in-Refused-decode_value c =
    let keyed : key_at c.args.s.now (length c.args.s.now) c.args.at c.args.last ≡ key_found.Got c.in-Got.key c.in-Got.q = sym c.decode_key.ensures ∙ c.in-Got.is in
    sym (group-refused _ _ _ _ (step-keyed _ _ _ _ c.if-s-at.false keyed c.decode_value.ensures c.in-Refused-decode_value.is))

pub returns-in-Got-decode_value : goal.returns-in-Got-decode_value
returns-in-Got-decode_value c =
    let keyed : key_at c.args.s.now (length c.args.s.now) c.args.at c.args.last ≡ key_found.Got c.in-Got.key c.in-Got.q = sym c.decode_key.ensures ∙ c.in-Got.is in
    ap (grouped _) c.run_of-run.ensures
    ∙ sym (group-field _ _ _ _ _ (step-keyed _ _ _ _ c.if-s-at.false keyed c.decode_value.ensures c.in-Got-decode_value.is))
