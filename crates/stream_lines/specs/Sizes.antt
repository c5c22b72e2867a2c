-- How much there is room for: the characters of the longest line that a frame has, the bytes of one read, and a count of each verdict.
use Rattle.std.specs.Prelude.{ℕ}

abbrev pub line_size : ℕ
line_size = 4096

abbrev pub block_size : ℕ
block_size = 65536

abbrev pub verdict_count : ℕ
verdict_count = 18
