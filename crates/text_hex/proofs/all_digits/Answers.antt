-- What was tested and what is left decide the line.
use Rattle.text_hex.specs.Faults.{hexdigit}
use Rattle.text_hex.proofs.Chars.{test-more, test-done}
use Rattle.std.proofs.Common.{refl}
use Rattle.text_hex.proofs.all_digits.Goals as goal

pub loop-c-preserved : goal.loop-c-preserved
loop-c-preserved c =
    test-more _ _ c.loop-c-test.true _ _ _ c.loop-c.invariant (hexdigit _ _ c.is_ascii_hexdigit-all.ensures.cases) refl

pub returns : goal.returns
returns c = test-done _ _ c.loop-c-test.false _ c.loop-c.invariant
