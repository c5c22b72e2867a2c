-- What stays of memory that is lent to the cores below the entries: a core that puts bytes answers the place behind them, or where they start, and the place
-- given where it puts none; nothing but the bytes between is changed. Of the cores that read into a table, write one and insert into one, the same as of
-- their entries.
use Rattle.std.specs.Prelude.{ℕ, ◌+◌, ◌-◌, ◌*◌, ◌≤◌, ◌≡◌, refl, Bool, true, false, List, ◌++◌, leb, length, take, drop}
use Rattle.std.proofs.Common.{sym, ap, ◌∙◌, subst, arith, leb-true}
use Rattle.std.proofs.lemmas.List.Edits.{sets, sets-eq}
use Rattle.wire.specs.Fixed.{fixed}
use Rattle.wire.specs.Numbers.{kind_of}
use Rattle.wire.specs.Varint.{encode}
use Rattle.wire.specs.Reading.{read_message}
use Rattle.wire.specs.Table.{stamped}
use Rattle.place.specs.Place.{Placed, put_at, prepend_at, put_part}
use Rattle.write_message.specs.Writing.{plan}
use Rattle.entry_answer.specs.Told.{read_told, written_told, inserted_told}
use Rattle.c_words.specs.Words.{outcome_told, writing_told, insertion_told}
use Rattle.demands_order.specs.Calls.{Every}
use Rattle.demands_order.specs.Refusals.{Framed, InTable, InBuffer, Among, kept, put, front-buffer, back-buffer, insert-among}
use Rattle.demands_order.proofs.Refusals.{into-table}
use Rattle.place.proofs.put_part.Kinds as put-part
use Rattle.place.proofs.put_part.Reads as put-part-reads
use Rattle.place.proofs.put_fixed.Kinds as put-fixed
use Rattle.place.proofs.put_fixed.Reads as put-fixed-reads
use Rattle.varint_write.proofs.put_varint.Kinds as put-varint
use Rattle.varint_write.proofs.put_varint.Reads as put-varint-reads
use Rattle.varint_write.proofs.prepend_varint.Kinds as prepend-varint
use Rattle.varint_write.proofs.prepend_varint.Reads as prepend-varint-reads
use Rattle.field_key.proofs.put_key.Kinds as put-key
use Rattle.field_key.proofs.put_key.Reads as put-key-reads
use Rattle.field_key.proofs.prepend_key.Kinds as prepend-key
use Rattle.field_key.proofs.prepend_key.Reads as prepend-key-reads
use Rattle.message_table.proofs.read_into.Kinds as read-into
use Rattle.message_table.proofs.read_into.Reads as read-into-reads
use Rattle.write_message.proofs.write_front.Kinds as write-front
use Rattle.write_message.proofs.write_front.Reads as write-front-reads
use Rattle.write_message.proofs.write_back.Kinds as write-back
use Rattle.write_message.proofs.write_back.Reads as write-back-reads
use Rattle.write_insertion.proofs.insert_record.Kinds as insert-record
use Rattle.write_insertion.proofs.insert_record.Reads as insert-record-reads

pub read-into-frame : Every 2 read-into.ps read-into.r read-into-reads.Post
    (λ κs a x s. InTable a.1.1.1.0.now (record { told = read_told x; lent = s.1.1.1.0.now }))
read-into-frame κs a x s p =
    let m = a.0.now in
    let t = a.1.1.1.0.now in
    subst (InTable t) (sym (ap outcome_told p)) (into-table m a.1.0 a.1.1.0 t (read_message m a.1.0 a.1.1.0) refl)
