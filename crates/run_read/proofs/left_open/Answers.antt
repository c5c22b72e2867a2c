-- Byte by byte, from the third last on.
use native.Mathlib.Omega.{arith}
use Rattle.run_read.specs.Short.{left-three}
use Rattle.run_read.proofs.left_open.Goals as goal

pub returns : goal.returns
returns c =
    let a = c.up_to-one.ensures in
    let b = c.up_to-two.ensures in
    let l = c.args in
    (left-three l.s.now l.at _ _ _ a.0 b.0 c.up_to.ensures.0, omega (arith, c.up_to.ensures.1, b.1, a.1))
