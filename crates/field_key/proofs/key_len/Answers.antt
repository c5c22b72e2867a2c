-- `field::key_len` meets its contract.
use mathlib.Core.Path.{◌∙◌, ap}
use Prim.Native.Nat.{ℕ, ◌*◌}
use lib.ListN.{length}
use Rattle.wire.specs.Varint.{encode}
use borrow.Author.Rules.{rules}
use Rattle.field_key.proofs.key_len.Goals as goal

pub returns : goal.returns
returns c = c.encoded_len_varint.ensures ∙ ap (λ (d : ℕ). length (encode (4 * d))) c.ahead.ensures
