-- `field::past_value` meets its contract.
use mathlib.Core.Path.{◌∙◌, sym}
use native.Mathlib.Omega.{arith}
use Rattle.field_skip.proofs.Skips.{past-four, past-eight, past-number, past-payload, past-none}
use borrow.Author.Rules.{rules}
use Rattle.field_skip.proofs.past_value.Goals as goal

pub returns-then-kind-eq2 : goal.returns-then-kind-eq2
returns-then-kind-eq2 c = c.past_bytes.ensures ∙ sym (past-four _ _ _ _ c.if-kind-eq2.true)

pub returns-then-kind-gt2 : goal.returns-then-kind-gt2
returns-then-kind-gt2 c = c.past_bytes-then-kind-gt2.ensures ∙ sym (past-eight _ _ _ _ c.if-kind-gt2.true)

pub returns-then-kind-eq0 : goal.returns-then-kind-eq0
returns-then-kind-eq0 c = sym (past-number _ _ _ _ c.if-kind-eq0.true (sym c.decode_varint_capped.ensures ∙ c.in-Got.is))

pub returns-in-Refused : goal.returns-in-Refused
returns-in-Refused c =
    past-none _ _ _ c.args.kind (λ i. omega (arith, c.shared_slice_known-1.given i)) c.looked.ensures (omega arith)
    (sym c.decode_varint_capped.ensures ∙ c.in-Refused.is)

pub returns-else-kind-eq0 : goal.returns-else-kind-eq0
returns-else-kind-eq0 c =
    c.past_bytes-in-Got.ensures
    ∙ sym
    (past-payload _ _ _ c.args.kind (omega arith)
    (sym c.decode_varint_capped.ensures ∙ c.in-Got.is))
