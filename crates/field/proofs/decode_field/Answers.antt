-- A key, then the value of its wire type.
use mathlib.Core.Path.{◌≡◌, ◌∙◌, ap, sym}
use mathlib.Core.Logic.{⊎_elim}
use native.Mathlib.Omega.{arith}
use Prim.Native.Nat.{ℕ}
use Rattle.wire.specs.Reading.{wire_of, value_at, tagged, field_at}
use Rattle.wire.specs.StepLaws.{field-keyed, field-keyless}
use Rattle.field.proofs.Dispatch.{by-wire}
use borrow.Author.Rules.{rules}
use Rattle.field.proofs.decode_field.Goals.{then-kind-eq0, else-kind-eq0}
use Rattle.field.proofs.decode_field.Goals as goal

pub value_behind-found-requires : goal.value_behind-found-requires
value_behind-found-requires c = omega (arith, c.if-kind-eq0.false)

pub returns-in-Refused : goal.returns-in-Refused
returns-in-Refused c = sym (field-keyless _ _ _ _ (sym c.decode_key.ensures ∙ c.in-Refused.is))

pub returns-in-Refused-found : goal.returns-in-Refused-found
returns-in-Refused-found c =
    let met : c.if-kind-eq0.found ≡ value_at c.args.s.now c.args.end c.in-Got.q (wire_of c.wire_number-kind.result) = let a = c.args in
    let q = c.in-Got.q in
    elim c.if-kind-eq0.branch [
      | then-kind-eq0 w ↦ w.found-is ∙ w.number_at-found.ensures ∙ ap (λ (k : ℕ). value_at a.s.now a.end q (wire_of k)) (sym w.if-kind-eq0.true)
      | else-kind-eq0 w ↦ w.found-is ∙ w.value_behind-found.ensures
    ] in
    let valued : field_at c.args.s.now c.args.end c.args.at c.args.last ≡ tagged c.in-Got.key.tag c.if-kind-eq0.found =
    field-keyed _ _ _ _ (sym c.decode_key.ensures ∙ c.in-Got.is)
    ∙ ap (tagged c.in-Got.key.tag) (sym (by-wire _ _ _ _ c.in-Got.key.wire _ c.wire_number-kind.ensures met)) in
    sym (valued ∙ ap (tagged c.in-Got.key.tag) c.in-Refused-found.is)

pub returns-in-Got-found : goal.returns-in-Got-found
returns-in-Got-found c =
    let met : c.if-kind-eq0.found ≡ value_at c.args.s.now c.args.end c.in-Got.q (wire_of c.wire_number-kind.result) = let a = c.args in
    let q = c.in-Got.q in
    elim c.if-kind-eq0.branch [
      | then-kind-eq0 w ↦ w.found-is ∙ w.number_at-found.ensures ∙ ap (λ (k : ℕ). value_at a.s.now a.end q (wire_of k)) (sym w.if-kind-eq0.true)
      | else-kind-eq0 w ↦ w.found-is ∙ w.value_behind-found.ensures
    ] in
    let valued : field_at c.args.s.now c.args.end c.args.at c.args.last ≡ tagged c.in-Got.key.tag c.if-kind-eq0.found =
    field-keyed _ _ _ _ (sym c.decode_key.ensures ∙ c.in-Got.is)
    ∙ ap (tagged c.in-Got.key.tag) (sym (by-wire _ _ _ _ c.in-Got.key.wire _ c.wire_number-kind.ensures met)) in
    sym (valued ∙ ap (tagged c.in-Got.key.tag) c.in-Got-found.is)
