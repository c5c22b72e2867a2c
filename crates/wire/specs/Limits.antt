-- The numbers that the tables and the buffers have, each by one name.
use Rattle.std.specs.Prelude.{ℕ}

-- Rule R1, number 4: the longest slice that is read, and the longest message that is written
abbrev pub message_limit : ℕ
message_limit = 1048575

-- Rule T1: the words of a record in a table
abbrev pub record_words : ℕ
record_words = 5

-- Rule T1: the key word of a record that was read from no key
abbrev pub no_key : ℕ
no_key = 0xffff_ffff_ffff_ffff
