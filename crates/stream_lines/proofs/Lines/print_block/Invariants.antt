-- No text waits, and the line has the room that it had.
use Rattle.std.proofs.Common.{length, ◌-◌, ◌≡◌}
use Rattle.stream_lines.specs.Sizes.{line_size}
use Rattle.stream_lines.proofs.Lines.print_block.Given as goal

abbrev pub invariant-loop-s : goal.invariant-loop-s
invariant-loop-s g l = (length l.out ≡ length l.initial.out) × (length l.self.line ≡ line_size) × (l.s.used ≡ 0)

abbrev pub decreases-loop-s : goal.decreases-loop-s
decreases-loop-s g l = length l.block - l.s.at
