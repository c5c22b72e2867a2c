-- The list keeps its length.
use Rattle.std.proofs.Common.{◌≡◌, length}
use Rattle.stream.proofs.Program.open_files.Given as goal

abbrev pub invariant-loop-i : goal.invariant-loop-i
invariant-loop-i l = length l.files ≡ length l.initial.files
