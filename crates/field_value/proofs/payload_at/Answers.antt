-- A length, and as many bytes in the slice and before the end.
use mathlib.Core.Path.{◌≡◌, ◌∙◌, ap, sym}
use native.Mathlib.Omega.{arith}
use Prim.Native.Nat.{ℕ, ◌+◌, ◌≤◌}
use mathlib.Core.List.{List}
use lib.ListN.{length}
use Rattle.wire.specs.Reading.{varint_at, within, payload_from}
use Rattle.wire.specs.ReadingLaws.{within-slice, within_end, within-back}
use Rattle.wire.proofs.ReadingLaws.{varint-moves}
use Rattle.wire.specs.declared.Value.{Value}
use Rattle.wire.specs.declared.Value.TheVariants.{LengthDelimited}
use Rattle.wire.specs.declared.VarintFound.TheVariants.{Got}
use borrow.Author.Rules.{rules}
use Rattle.field_value.proofs.payload_at.Goals as goal

pub overflow_sub-s : goal.overflow_sub-s
overflow_sub-s c =
    let bytes : List ℕ = c.args.s.now in
    let read : varint_at bytes c.args.at ≡ Got c.in-Got.n c.in-Got.q = sym c.decode_varint.ensures ∙ c.in-Got.is in
    let inside : c.in-Got.q ≤ length bytes = (varint-moves _ _ _ _ read).1 in
    inside

pub returns-then-s-q : goal.returns-then-s-q
returns-then-s-q c =
    let bytes : List ℕ = c.args.s.now in
    let end : ℕ = c.args.end in
    let past : ℕ = c.in-Got.q + c.in-Got.n in
    let payload : Value = LengthDelimited c.in-Got.q c.in-Got.n in
    let read : varint_at bytes c.args.at ≡ Got c.in-Got.n c.in-Got.q = sym c.decode_varint.ensures ∙ c.in-Got.is in
    let found : payload_from bytes end (varint_at bytes c.args.at) ≡ within bytes end past payload = ap (payload_from bytes end) read in
    let inside : c.in-Got.q ≤ length bytes = (varint-moves _ _ _ _ read).1 in
    sym (found ∙ within-slice bytes end past payload (omega (arith, inside)))

pub returns-then-end-next : goal.returns-then-end-next
returns-then-end-next c =
    let bytes : List ℕ = c.args.s.now in
    let end : ℕ = c.args.end in
    let past : ℕ = c.in-Got.q + c.in-Got.n in
    let payload : Value = LengthDelimited c.in-Got.q c.in-Got.n in
    let read : varint_at bytes c.args.at ≡ Got c.in-Got.n c.in-Got.q = sym c.decode_varint.ensures ∙ c.in-Got.is in
    let found : payload_from bytes end (varint_at bytes c.args.at) ≡ within bytes end past payload = ap (payload_from bytes end) read in
    let inside : c.in-Got.q ≤ length bytes = (varint-moves _ _ _ _ read).1 in
    sym (found ∙ within_end bytes end past payload (omega (arith, inside)) (omega arith))

pub returns-in-Refused : goal.returns-in-Refused
returns-in-Refused c =
    let a = c.args in
    sym (ap (payload_from a.s.now a.end) (sym c.decode_varint.ensures ∙ c.in-Refused.is))

pub returns-else-end-next : goal.returns-else-end-next
returns-else-end-next c =
    let bytes : List ℕ = c.args.s.now in
    let end : ℕ = c.args.end in
    let past : ℕ = c.in-Got.q + c.in-Got.n in
    let payload : Value = LengthDelimited c.in-Got.q c.in-Got.n in
    let read : varint_at bytes c.args.at ≡ Got c.in-Got.n c.in-Got.q = sym c.decode_varint.ensures ∙ c.in-Got.is in
    let found : payload_from bytes end (varint_at bytes c.args.at) ≡ within bytes end past payload = ap (payload_from bytes end) read in
    let inside : c.in-Got.q ≤ length bytes = (varint-moves _ _ _ _ read).1 in
    sym (found ∙ within-back bytes end past payload (omega (arith, inside)) (omega arith))
