-- At the end, past it, and before it a field.
use mathlib.Core.Path.{◌≡◌, ◌∙◌, sym}
use native.Mathlib.Omega.{arith}
use Prim.Native.Nat.{◌<◌}
use Rattle.wire.specs.Reading.{tagged, step_of, step_at}
use Rattle.wire.specs.StepLaws.{step-at, step_past}
use Rattle.wire.specs.declared.ValueFound.{ValueFound}
use Rattle.field.proofs.Dispatch.{step-keyless, step-keyed}
use borrow.Author.Rules.{rules}
use Rattle.field.proofs.step_from.Goals as goal

pub returns-then-at-end : goal.returns-then-at-end
returns-then-at-end c = sym (step-at _ _ _ _ c.if-at-end.true)

pub returns-then-end-at : goal.returns-then-end-at
returns-then-end-at c = sym (step_past _ _ _ _ c.if-end-at.true)

pub returns-in-Refused : goal.returns-in-Refused
returns-in-Refused c =
    let before : c.args.at < c.args.end = let n = c.if-at-end.false in omega arith in
    sym (step-keyless _ _ _ _ before (sym c.decode_key.ensures ∙ c.in-Refused.is))

pub returns-in-Refused-decode_value : goal.returns-in-Refused-decode_value
returns-in-Refused-decode_value c =
    let before : c.args.at < c.args.end = let n = c.if-at-end.false in omega arith in
    let valued : (v : ValueFound) → c.decode_value.result ≡ v → let a = c.args in step_at a.s.now a.end a.at a.last ≡ step_of (tagged c.in-Got.key.tag v) =
    λ v. step-keyed _ _ _ _ before (sym c.decode_key.ensures ∙ c.in-Got.is) c.decode_value.ensures in
    sym (valued _ c.in-Refused-decode_value.is)

pub returns-in-Got-decode_value : goal.returns-in-Got-decode_value
returns-in-Got-decode_value c =
    let before : c.args.at < c.args.end = let n = c.if-at-end.false in omega arith in
    let valued : (v : ValueFound) → c.decode_value.result ≡ v → let a = c.args in step_at a.s.now a.end a.at a.last ≡ step_of (tagged c.in-Got.key.tag v) =
    λ v. step-keyed _ _ _ _ before (sym c.decode_key.ensures ∙ c.in-Got.is) c.decode_value.ensures in
    sym (valued _ c.in-Got-decode_value.is)
