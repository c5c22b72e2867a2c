-- At the end, past it, and before it a field.
use mathlib.Core.Path.{◌≡◌, ◌∙◌, sym}
use mathlib.Core.Logic.{⊎_elim}
use native.Mathlib.Omega.{arith}
use Prim.Native.Nat.{◌<◌}
use Rattle.wire.specs.Reading.{tagged, step_of, step_at}
use Rattle.wire.specs.StepLaws.{step-at, step_past}
use Rattle.wire.specs.declared.ValueFound.{ValueFound}
use Rattle.field.proofs.Dispatch.{ByKind, number, payload, four, eight, of-wire, step-keyless, step-keyed}
use borrow.Author.Rules.{rules}
use Rattle.field.proofs.next_field.Goals.{then-kind-lt2+then-kind-eq0, then-kind-lt2+else-kind-eq0, else-kind-lt2+then-kind-eq2, else-kind-lt2+else-kind-eq2}
use Rattle.field.proofs.next_field.Goals as goal

pub returns-then-from-end : goal.returns-then-from-end
returns-then-from-end c = sym (step-at _ _ _ _ c.if-from-end.true)

pub returns-then-end-from : goal.returns-then-end-from
returns-then-end-from c = sym (step_past _ _ _ _ c.if-end-from.true)

pub returns-in-Refused : goal.returns-in-Refused
returns-in-Refused c =
    let before : c.args.from < c.args.end = let n = c.if-from-end.false in omega arith in
    sym (step-keyless _ _ _ _ before (sym c.decode_key.ensures ∙ c.in-Refused.is))

pub returns-in-Refused-value : goal.returns-in-Refused-value
returns-in-Refused-value c =
    let before : c.args.from < c.args.end = let n = c.if-from-end.false in omega arith in
    let met : ByKind c.args.s.now c.args.end c.in-Got.place c.wire_number-kind.result c.if-kind-lt2.value =
    elim c.if-kind-lt2.branch [
      | then-kind-lt2+then-kind-eq0 w ↦ number w.if-kind-eq0.true (w.value-is ∙ w.number_at.ensures)
      | then-kind-lt2+else-kind-eq0 w ↦ payload w.if-kind-lt2.true w.if-kind-eq0.false (w.value-is ∙ w.payload_at.ensures)
      | else-kind-lt2+then-kind-eq2 w ↦ four w.if-kind-eq2.true (w.value-is ∙ w.four_at.ensures)
      | else-kind-lt2+else-kind-eq2 w ↦ eight w.if-kind-lt2.false w.if-kind-eq2.false (w.value-is ∙ w.eight_at.ensures)
    ] in
    let valued : (v : ValueFound) → c.if-kind-lt2.value ≡ v → let a = c.args in step_at a.s.now a.end a.from a.last ≡ step_of (tagged c.in-Got.key.tag v) =
    λ v. step-keyed _ _ _ _ before (sym c.decode_key.ensures ∙ c.in-Got.is)
    (of-wire _ _ _ _ c.in-Got.key.wire _ c.wire_number-kind.ensures met) in
    sym (valued _ c.in-Refused-value.is)

pub returns-in-Got-value : goal.returns-in-Got-value
returns-in-Got-value c =
    let before : c.args.from < c.args.end = let n = c.if-from-end.false in omega arith in
    let met : ByKind c.args.s.now c.args.end c.in-Got.place c.wire_number-kind.result c.if-kind-lt2.value =
    elim c.if-kind-lt2.branch [
      | then-kind-lt2+then-kind-eq0 w ↦ number w.if-kind-eq0.true (w.value-is ∙ w.number_at.ensures)
      | then-kind-lt2+else-kind-eq0 w ↦ payload w.if-kind-lt2.true w.if-kind-eq0.false (w.value-is ∙ w.payload_at.ensures)
      | else-kind-lt2+then-kind-eq2 w ↦ four w.if-kind-eq2.true (w.value-is ∙ w.four_at.ensures)
      | else-kind-lt2+else-kind-eq2 w ↦ eight w.if-kind-lt2.false w.if-kind-eq2.false (w.value-is ∙ w.eight_at.ensures)
    ] in
    let valued : (v : ValueFound) → c.if-kind-lt2.value ≡ v → let a = c.args in step_at a.s.now a.end a.from a.last ≡ step_of (tagged c.in-Got.key.tag v) =
    λ v. step-keyed _ _ _ _ before (sym c.decode_key.ensures ∙ c.in-Got.is)
    (of-wire _ _ _ _ c.in-Got.key.wire _ c.wire_number-kind.ensures met) in
    sym (valued _ c.in-Got-value.is)
