-- The block keeps its length, and a read that was interrupted consumed nothing.
use Rattle.std.proofs.Common.{◌≡◌, length}
use Rattle.std.specs.Io.KnownBytes.{Keeps}
use Rattle.stream.proofs.read_block.Given as goal

abbrev pub invariant-loop : goal.invariant-loop
invariant-loop g l = (length l.block ≡ length l.initial.block) × Keeps (g.R.Read.remaining l.initial.reader) (g.R.Read.remaining l.reader)
