-- No text waits, and what is read into has the room that it had.
use Rattle.std.proofs.Common.{◌≡◌, length}
use Rattle.stream_lines.specs.Sizes.{line_size}
use Rattle.stream_lines.proofs.Lines.print_files.Given as goal

abbrev pub invariant-loop : goal.invariant-loop
invariant-loop g l =
    (length l.out ≡ length l.initial.out) × (length l.block ≡ length l.initial.block) × (length l.self.line ≡ line_size) × (l.s.used ≡ 0)
