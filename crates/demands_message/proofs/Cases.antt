-- The cases of FORMAT.md that are marked P, over every outcome that the contracts of the entries allow: varints put, measured and read, messages
-- read, fields skipped.
use Rattle.std.specs.Prelude.{ℕ, ◌-◌, ◌*◌, ◌≤◌, ◌≡◌, refl, Bool, true, false, List, [], ◌∷◌, ◌++◌, leb, length, take, drop}
use Rattle.std.proofs.Common.{ap, ◌∙◌, sym, subst, leb-true, le-leb}
use Rattle.wire.specs.Choose.{choose, both}
use Rattle.wire.specs.Limits.{message_limit, record_words}
use Rattle.wire.specs.Marks.{Mark, marks, fields_of}
use Rattle.wire.proofs.Marks.{marks-fields}
use Rattle.wire.specs.Numbers.{number_of}
use Rattle.wire.specs.Varint.{encode}
use Rattle.wire.specs.Reading.{varint_at, Message, Fields, read_message}
use Rattle.wire.specs.Reading as reading
use Rattle.wire.specs.Skipping.{skip_at}
use Rattle.wire.specs.declared.WireType.{WireType}
use Rattle.wire.specs.declared.VarintFound.{VarintFound}
use Rattle.wire.specs.declared.VarintFound.TheVariants as varint_found
use Rattle.wire.specs.declared.Reached.{Reached}
use Rattle.wire.specs.Table.{room, records}
use Rattle.wire.specs.Cases.{Case, Encodes, Varint, Reads, Skips, Right, All}
use Rattle.wire.proofs.Cases.{cases}
use Rattle.wire.specs.Cases as format
use Rattle.fault.specs.Fault.{message_fault}
use Rattle.message_table.specs.Into.{Outcome, read_into, into-refused, into-fits}
use Rattle.entry_answer.specs.Gate.{gated, through-open, gated-open}
use Rattle.entry_varint.specs.Varints.{varint_read, decode_varint}
use Rattle.entry_answer.specs.Stores.{Stored, room_for, at_front, at_end}
use Rattle.entry_field.specs.Fields.{skip_answer, skip_field}
use Rattle.entry_answer.specs.Told.{Message as Answer, put_told, varint_told, skipped_told, read_told}
use Rattle.entry_message.specs.Messages.{read_entry}
use Rattle.entry_answer.specs.declared.Gated.TheVariants.{Open}
use Rattle.entry_answer.specs.declared.Put.TheVariants.{Done}
use Rattle.entry_varint.proofs.encode_varint.Kinds as encode-varint
use Rattle.entry_varint.proofs.encode_varint.Reads as encode-varint-reads
use Rattle.entry_varint.proofs.prepend_varint.Kinds as prepend-varint
use Rattle.entry_varint.proofs.prepend_varint.Reads as prepend-varint-reads
use Rattle.varint_write.proofs.encoded_len_varint.Kinds as encoded-len-varint
use Rattle.varint_write.proofs.encoded_len_varint.Reads as encoded-len-varint-reads
use Rattle.entry_varint.proofs.decode_varint.Kinds as decode-varint
use Rattle.entry_varint.proofs.decode_varint.Reads as decode-varint-reads
use Rattle.entry_field.proofs.skip_field.Kinds as skip-field
use Rattle.entry_field.proofs.skip_field.Reads as skip-field-reads
use Rattle.demands_order.specs.Calls.{Every, Call, message, start, end, table, answer, left}
use Rattle.demands_message.specs.Cases.{Holds, Tells, encoded, every, inside, open-gate, reads-varint, skips, told-into}

tells : (k : Case) → Right k → inside k ≡ true → Tells k
unfolding read_entry
tells (Encodes v bs) w i = (encoded v bs w.0, reads-varint bs _ w.1 i)
tells (Varint bs found) w i = reads-varint bs found w i
tells (Reads bs a e m) w i =
    λ c p q r g.
    let t = table c in
    let z = ap (λ (s : List ℕ). read_entry s (start c) (end c) t) p ∙ ap (λ (j : ℕ). read_entry bs j (end c) t) q ∙ ap (λ (j : ℕ). read_entry bs a j t) r in
    let o = c.allowed ∙ z ∙ through-open _ _ (open-gate bs a e i) in
    let y = told-into bs a e t m w g in
    (ap (λ (o : Outcome). read_told o.answer) o ∙ y.0, subst (Holds t (marks bs a e) m) (sym (ap (λ (o : Outcome). o.table) o)) y.1)
tells (Skips bs e at w to) h i = skips bs at e w to h i

tell : (cs : List Case) → All Right cs → every cs ≡ true → All Tells cs
tell [] a b = tt
tell (c ∷ cs) a b = let x = both (inside c) (every cs) b in (tells c a.0 x.0, tell cs a.1 x.1)

-- THE TABLE
pub told-cases : All Tells format.table
told-cases = tell format.table cases refl
