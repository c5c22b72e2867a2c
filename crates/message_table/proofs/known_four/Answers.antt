-- Four bytes of the slice, as one number.
use mathlib.Core.Path.{◌∙◌, sym}
use native.Mathlib.Omega.{arith}
use Prim.Native.Nat.{◌+◌}
use Rattle.wire.specs.Fixed.{four}
use Rattle.message_table.proofs.known_four.Goals as goal

pub returns : goal.returns
returns c =
    let a = c.args in
    let g = c.type_inv.s in (
      c.four_bytes.ensures ∙ sym (four a.s.now a.at c.requires),
      omega (arith, c.four_bytes.ensures, g a.at, g (a.at + 1), g (a.at + 2), g (a.at + 3)),
    )
