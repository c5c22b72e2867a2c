-- `field::prepend_key` meets its contract.
use mathlib.Core.Path.{◌∙◌, ap}
use Prim.Native.Nat.{ℕ}
use Rattle.wire.specs.Varint.{encode}
use Rattle.place.specs.Place.{prepend_at}
use borrow.Author.Rules.{rules}
use Rattle.field_key.proofs.prepend_key.Goals as goal

pub returns : goal.returns
returns c =
    let a = c.args in
    c.prepend_varint.ensures ∙ ap (λ (k : ℕ). prepend_at a.buf.now a.end (encode k)) c.key_of.ensures
