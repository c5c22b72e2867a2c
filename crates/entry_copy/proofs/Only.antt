-- Any two outcomes that the contract of this crate allows are equal.
use mathlib.Core.Path.{◌∙◌, sym}
use Rattle.wire.specs.Only.{One}
use Rattle.entry_copy.specs.Copy.{Copying}
use Rattle.entry_copy.proofs.copy_message.Kinds as copy-message
use Rattle.entry_copy.proofs.copy_message.Reads as copy-message-reads

pub copy-message-one : One 4 copy-message.ps copy-message.r copy-message-reads.Post {S = Copying}
    (λ κs r s. record { answer = r; table = s.1.0.now; front = s.1.1.0.now; back = s.1.1.1.0.now })
copy-message-one κs a x y s t p q = p ∙ sym q
