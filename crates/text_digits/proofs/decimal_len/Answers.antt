-- A number has a digit more than its logarithm.
use Rattle.std.proofs.Common.{arith}
use Rattle.text_digits.proofs.Turns.{places-max}
use Rattle.text_digits.proofs.decimal_len.Goals as goal

pub returns : goal.returns
returns c =
    places-max _ _ _ (omega (arith, c.max.ensures)) (omega (arith, c.max.ensures)) c.ilog10.ensures.power_le c.ilog10.ensures.next_power_gt (omega arith)
