-- `field::put_key` meets its contract.
use mathlib.Core.Path.{◌∙◌, ap}
use Prim.Native.Nat.{ℕ}
use Rattle.wire.specs.Varint.{encode}
use Rattle.place.specs.Place.{put_at}
use borrow.Author.Rules.{rules}
use Rattle.field_key.proofs.put_key.Goals as goal

pub returns : goal.returns
returns c =
    let a = c.args in
    c.put_varint.ensures ∙ ap (λ (k : ℕ). put_at a.buf.now a.at (encode k)) c.key_of.ensures
