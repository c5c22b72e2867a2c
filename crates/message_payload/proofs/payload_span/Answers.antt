-- The tests of a good record, one by one.
use mathlib.Core.Path.{◌≡◌, sym, ◌∙◌}
use mathlib.Core.Bool.{true}
use native.Mathlib.Omega.{arith}
use borrow.Author.Tests.{not-true, not-false}
use Rattle.wire.specs.Table.{good_head}
use Rattle.message_payload.specs.Payload.{span-kind, span_head, span-outside, span-inside}
use borrow.Author.Rules.{rules}
use Rattle.message_payload.proofs.payload_span.Goals as goal

pub returns-then-r-ne1 : goal.returns-then-r-ne1
returns-then-r-ne1 c = sym (span-kind _ _ c.if-r-ne1.true)

pub returns-then-not-good_head : goal.returns-then-not-good_head
returns-then-not-good_head c = sym (span_head _ _ (omega arith) (sym c.good_head.ensures ∙ c.if-not-good_head.true))

pub returns-then-len-r : goal.returns-then-len-r
returns-then-len-r c =
    let headed : good_head c.args.len c.args.r.tag c.args.r.key ≡ true = sym c.good_head.ensures ∙ c.if-not-good_head.false in
    sym (span-outside _ _ (omega arith) headed (omega arith))

pub returns-then-len-r-2 : goal.returns-then-len-r-2
returns-then-len-r-2 c =
    let headed : good_head c.args.len c.args.r.tag c.args.r.key ≡ true = sym c.good_head.ensures ∙ c.if-not-good_head.false in
    sym (span-outside _ _ (omega arith) headed (omega arith))

pub returns : goal.returns
returns c =
    let headed : good_head c.args.len c.args.r.tag c.args.r.key ≡ true = sym c.good_head.ensures ∙ c.if-not-good_head.false in
    sym (span-inside _ _ (omega arith) headed (omega arith))
