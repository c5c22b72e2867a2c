-- The bytes that are left, put after those that are there, are all bytes of the line.
use Rattle.std.proofs.Common.{arith}
use Rattle.text_hex.proofs.Chars.{decode-start, high_digit, low_digit, decode-more, decode-done}
use Rattle.text_hex.proofs.decode.Goals as goal

pub loop-k-init : goal.loop-k-init
loop-k-init c = decode-start c.requires

pub overflow_mul-out : goal.overflow_mul-out
overflow_mul-out c = omega (arith, c.known.ensures, high_digit c.loop-k.invariant c.loop-k-test.true)

pub overflow_add-out : goal.overflow_add-out
overflow_add-out c =
    omega (
      arith,
      c.known.ensures,
      c.known-in-loop-k.ensures,
      high_digit c.loop-k.invariant c.loop-k-test.true,
      low_digit c.loop-k.invariant c.loop-k-test.true,
    )

pub loop-k-preserved : goal.loop-k-preserved
loop-k-preserved c = decode-more c.loop-k.invariant c.loop-k-test.true c.known.ensures c.known-in-loop-k.ensures

pub returns : goal.returns
returns c = decode-done c.loop-k.invariant c.loop-k-test.false
