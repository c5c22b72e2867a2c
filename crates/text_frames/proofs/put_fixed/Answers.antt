-- The bytes at the front of the small array are the number's.
use Rattle.std.proofs.Common.{sym, arith}
use Rattle.wire.specs.Fixed.{fixed, length-fixed}
use Rattle.text_frames.proofs.Puts.{front-is}
use Rattle.text_frames.proofs.put_fixed.Goals as goal

pub returns : goal.returns
returns c =
    let a = c.args in
    let k = length-fixed a.size a.v in
    let f = front-is _ (fixed a.size a.v) (omega (arith, c.requires.0)) c.put_fixed.ensures a.size (sym k) in
    rw (← f) c.put_hex_bytes.ensures
