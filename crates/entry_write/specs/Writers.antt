-- The entries that write tables and insert into them: what each answers, and what it leaves.
use Rattle.std.specs.Prelude.{ℕ, List}
use Rattle.wire.specs.Limits.{message_limit}
use Rattle.wire.specs.Table.{stamped}
use Rattle.write_message.specs.Writing.{plan, Writing, front, back}
use Rattle.write_insertion.specs.Insertion.{aim, Insertion, inserts}
use Rattle.wire.specs.declared.NewRecord.{NewRecord}

-- Rules E2, E3 and E4: of a source, a table, a count and a buffer: the message at the buffer's front, or at its end
abbrev pub encode_message : List ℕ → List ℕ → ℕ → List ℕ → Writing
encode_message s t c b = front b (plan message_limit s t c)

abbrev pub prepend_message : List ℕ → List ℕ → ℕ → List ℕ → Writing
prepend_message s t c b = back b (plan message_limit s t c)

-- Rules I1 and I4: of a source, a table, a count and a new record: the record, with no key, in its place
abbrev pub insert_record : List ℕ → List ℕ → ℕ → NewRecord → Insertion
insert_record s t c r = inserts t c (stamped r) (aim message_limit s t c (stamped r))
