-- `write_message::put_sized` meets its contract.
use Prim.Native.Nat.{◌+◌, ◌-◌}
use mathlib.Core.Path.{refl}
use native.Mathlib.Omega.{arith}
use Rattle.wire.specs.Fixed.{fixed}
use Rattle.write_message.proofs.Parts.{same_size, four-least, halves}
use Rattle.write_message.proofs.put_sized.Goals as goal

pub overflow_add-at : goal.overflow_add-at
overflow_add-at c = omega (arith, c.requires.1)

pub overflow_sub-at : goal.overflow_sub-at
overflow_sub-at c = omega (arith, four-least c.requires.0)

pub put_exact-requires : goal.put_exact-requires
put_exact-requires c = omega (arith, four-least c.requires.0, c.requires.1)

pub put_exact-requires-2 : goal.put_exact-requires-2
put_exact-requires-2 c =
    let m = c.high_of.result in
    let e = same_size c.args.buf.now (c.args.at + c.args.size - 4) (fixed 4 m) c.put_exact.ensures in
    omega (arith, four-least c.requires.0, c.requires.1, e)

pub returns : goal.returns
returns c =
    let h = c.high_of.ensures in
    halves _ _ _ _ _ _ c.requires.0 h.0 h.1 refl c.put_exact.ensures c.put_exact-2.ensures
