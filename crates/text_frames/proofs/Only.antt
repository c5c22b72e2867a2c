-- Any two outcomes that a contract of this crate allows are equal.
use mathlib.Core.Path.{◌∙◌, sym}
use Rattle.wire.specs.Only.{One}
use Rattle.text_frames.specs.Print.{Printing}
use Rattle.text_frames.proofs.put_frame.Kinds as put-frame
use Rattle.text_frames.proofs.put_frame.Reads as put-frame-reads

pub put-frame-one : One 4 put-frame.ps put-frame.r put-frame-reads.Post {S = Printing}
    (λ κs r s. record { next = r; out = s.0.now; bytes = s.1.1.1.1.1.0.now; table = s.1.1.1.1.1.1.0.now })
put-frame-one κs a x y s t p q = p ∙ sym q
