-- `field::four_from` meets its contract.
use mathlib.Core.Path.{◌∙◌, sym}
use native.Mathlib.Omega.{arith}
use Prim.Native.Nat.{◌+◌}
use Rattle.wire.specs.Fixed.{four}
use borrow.Author.Rules.{rules}
use Rattle.field_value.proofs.four_from.Goals as goal

pub overflow_cast-result : goal.overflow_cast-result
overflow_cast-result c =
    let at = c.args.at in
    let g = c.shared_slice_known-5-1.given in
    omega (arith, c.four_bytes.ensures, g at, g (at + 1), g (at + 2), g (at + 3))

pub returns : goal.returns
returns c =
    let a = c.args in
    c.four_bytes.ensures ∙ sym (four a.s.now a.at c.requires)
