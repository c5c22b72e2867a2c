-- A key is what its varint says of the last tag.
use mathlib.Core.Path.{◌∙◌, ap, sym}
use native.Mathlib.Omega.{arith}
use Prim.Native.Nat.{◌+◌, ◌/◌, ◌^◌}
use borrow.Author.Tests.{lt-ltb, le-ltb}
use Rattle.wire.specs.Reading.{key_of}
use Rattle.wire.specs.declared.WireType.{WireType}
use Rattle.wire.specs.declared.KeyFound.TheVariants.{Got}
use borrow.Author.Rules.{rules}
use Rattle.field_key.proofs.decode_key.Goals as goal

pub returns-then-tag-gt-LAST_TAG : goal.returns-then-tag-gt-LAST_TAG
returns-then-tag-gt-LAST_TAG c =
    let a = c.args in
    sym
    (ap (key_of a.last) (sym c.decode_varint_capped.ensures ∙ c.in-Got.is)
    ∙ simp (le-ltb (a.last + c.in-Got.key / 4) (2 ^ 32) (omega arith)))

pub returns-in-Refused : goal.returns-in-Refused
returns-in-Refused c =
    let a = c.args in
    sym (ap (key_of a.last) (sym c.decode_varint_capped.ensures ∙ c.in-Refused.is))

pub returns-else-tag-gt-LAST_TAG : goal.returns-else-tag-gt-LAST_TAG
returns-else-tag-gt-LAST_TAG c =
    let a = c.args in
    ap (λ (w : WireType). Got (record { tag = a.last + c.in-Got.key / 4; wire = w }) c.in-Got.next) c.wire_type_of.ensures
    ∙ sym
    (ap (key_of a.last) (sym c.decode_varint_capped.ensures ∙ c.in-Got.is)
    ∙ simp (lt-ltb (a.last + c.in-Got.key / 4) (2 ^ 32) (omega arith)))
