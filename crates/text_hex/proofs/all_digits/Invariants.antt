-- What was tested and what is left decide the line.
use Rattle.std.proofs.Common.{◌≡◌, ◌&&◌, drop}
use Rattle.text_hex.specs.Faults.{all_digits}
use Rattle.text_hex.proofs.all_digits.Given as goal

abbrev pub invariant-loop-c : goal.invariant-loop-c
invariant-loop-c l = all_digits l.line ≡ (l.all && all_digits (drop l.c-index l.line))
