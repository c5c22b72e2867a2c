-- `write_message::put_exact` meets its contract.
use Prim.Native.Nat.{◌+◌, ◌-◌}
use native.Mathlib.Omega.{arith}
use Rattle.wire.specs.Fixed.{length-fixed}
use Rattle.write_message.proofs.Parts.{part-back}
use Rattle.write_message.proofs.put_exact.Goals as goal

pub returns : goal.returns
returns c =
    part-back c.args.buf.now c.args.at (c.args.at + c.args.size - c.args.at) _
    (omega (arith, length-fixed c.args.size c.args.n)) (omega (arith, c.requires)) c.put_fixed.ensures
