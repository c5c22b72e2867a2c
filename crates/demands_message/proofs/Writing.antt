-- The third demand, for writing: a message that was read whole into a table and is written from it, forwards or from the end, gives the same bytes
-- back. Over every outcome that the contracts of `read_message`, `encode_message` and `prepend_message` allow.
-- And the second, for writing: for every source, table, count and buffer, what is written is the list that the records stand for.
use Rattle.std.specs.Prelude.{ℕ, ◌-◌, ◌≤◌, ◌≡◌, refl, length, take, drop}
use Rattle.std.proofs.Common.{ap, ◌∙◌, arith}
use mathlib.Core.List.{List, ◌++◌}
use contract.Lifetimes.{Lfts}
use borrow.Fn.Kinds.{Dens, res_t, ended_of}
use denote.Triple.Clauses.{AtExit}
use Rattle.wire.specs.Limits.{message_limit}
use Rattle.wire.specs.Marks.{marks}
use Rattle.wire.specs.Places.{items}
use Rattle.wire.specs.Reading.{Message, Fields, read_message}
use Rattle.wire.specs.Reading as reading
use Rattle.wire.proofs.Theorem.{accepted}
use Rattle.demands_order.specs.Formats.{refused-format}
use Rattle.wire.specs.Table.{room, filled}
use Rattle.write_record.specs.Records.{AllFine, checked}
use Rattle.write_record.specs.Records as records
use Rattle.write_message.specs.Writing.{Writes, plan, Writing, front, back}
use Rattle.write_message.specs.WritingLaws.{plan-fine, into-writes}
use Rattle.write_message.specs.ReadBack.{table-plan}
use Rattle.wire.specs.declared.Field.{Field}
use Rattle.wire.specs.declared.Read.{Read}
use Rattle.wire.specs.declared.Written.TheVariants.{At}
use Rattle.message_table.specs.Into.{Outcome, outcome, read_into, into-refused, into-fits}
use Rattle.entry_answer.specs.Told.{read_told}
use Rattle.entry_message.specs.Messages.{entry-open}
use Rattle.entry_write.proofs.encode_message.Kinds as encode
use Rattle.entry_write.proofs.encode_message.Reads as encode-reads
use Rattle.entry_write.proofs.prepend_message.Kinds as prepend
use Rattle.entry_write.proofs.prepend_message.Reads as prepend-reads
use Rattle.demands_order.specs.Calls.{Call, message, start, end, table, answer, left}
use Rattle.demands_message.specs.Reading.{Whole, to-meant}
use Rattle.demands_message.specs.Writing.{Encoded, Prepended, at_end, at_front, encoded-as, encodes, planned, prepended-as, prepends}

module _ (c : Call) (w : Whole c) (z : (read_told (answer c)).number ≡ 0) {b : List ℕ} (fits : length (message c) ≤ length b) where
  pub forwards : (e : Encoded (message c) (left c) (read_told (answer c)).count b) → encodes e ≡ at_front (message c) b
  forwards = encoded-as (planned c w z) fits

  pub from-the-end : (e : Prepended (message c) (left c) (read_told (answer c)).count b) → prepends e ≡ at_end (message c) b
  from-the-end = prepended-as (planned c w z) fits
