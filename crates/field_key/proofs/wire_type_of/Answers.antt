-- The type of a key is the case of its last two bits.
use mathlib.Core.Path.{◌≡◌, ap, sym}
use native.Mathlib.Omega.{arith}
use Prim.Native.Nat.{◌%◌}
use Rattle.wire.specs.Reading.{wire_of}
use Rattle.field_key.proofs.wire_type_of.Goals as goal

pub returns-in-0 : goal.returns-in-0
returns-in-0 c = sym (ap wire_of c.in-0.is)

pub returns-in-1 : goal.returns-in-1
returns-in-1 c = sym (ap wire_of c.in-1.is)

pub returns-in-2 : goal.returns-in-2
returns-in-2 c = sym (ap wire_of c.in-2.is)

pub returns-in_default : goal.returns-in_default
returns-in_default c =
    let e : c.args.key % 4 ≡ 3 = omega (arith, c.in_default.in_default-own.rest.0.0.1, c.in_default.in_default-own.rest.0.1, c.in_default.in_default-own.rest.1) in
    sym (ap wire_of e)
