-- The third demand, for reading (rule M7): a message is accepted exactly if some good list of items is written as it, and the table then holds the
-- only such list. Over every outcome that the contract of `read_message` allows.
use Rattle.std.specs.Prelude.{ℕ, suc, ◌+◌, ◌-◌, ◌*◌, ◌≤◌, ◌≡◌, refl, List, [], ◌∷◌, length, take, drop}
use Rattle.std.proofs.Common.{ap, ◌∙◌, sym, subst, arith}
use Rattle.std.proofs.Math.Seq.{take-length}
use Rattle.wire.specs.Limits.{message_limit, record_words}
use Rattle.wire.specs.Marks.{marks}
use Rattle.wire.proofs.Marks.{marks-fields, marks-count}
use Rattle.wire.specs.VarintLaws.{Bytes}
use Rattle.wire.specs.Written.{Item, written, Good}
use Rattle.wire.specs.Places.{part, items}
use Rattle.wire.specs.Reading.{Message, Fields, read_message}
use Rattle.wire.specs.Reading as reading
use Rattle.wire.specs.Theorem.{Written}
use Rattle.wire.proofs.Theorem.{accepted, unique, refused}
use Rattle.demands_order.specs.Formats.{refused-format}
use Rattle.wire.specs.Table.{room, filled, fields_from, fields-records}
use Rattle.wire.specs.declared.Fault.{Fault}
use Rattle.wire.specs.declared.Refusal.{Refusal}
use Rattle.wire.specs.declared.Field.{Field}
use Rattle.wire.specs.declared.Read.{Read}
use Rattle.wire.specs.declared.Read.TheVariants.{Accepted, Refused}
use Rattle.fault.specs.Fault.{message_fault}
use Rattle.message_table.specs.Into.{Outcome, outcome, read_into, into-refused, into-fits}
use Rattle.entry_answer.specs.Told.{read_told}
use Rattle.entry_message.specs.Messages.{entry-open}
use Rattle.demands_order.specs.Calls.{Call, message, start, end, table, answer, left}
use Rattle.demands_message.specs.Reading.{Third, Whole, length-items, to-meant, to-written}

module _ (m t : List ℕ) (b : Bytes m) where
  third-accepted : (fs : List Field) → read_message m 0 (length m) ≡ Fields fs → Third m t (filled t (marks m 0 (length m))) (Accepted (length m) (length fs))
  third-accepted fs h =
      let w = (accepted m 0 (length m) b fs h).0 in
      let ms = marks m 0 (length m) in
      let back : fields_from (length fs) (filled t ms) 0 ≡ fs =
      ap (λ (k : ℕ). fields_from k (filled t ms) 0) (sym (marks-count m 0 (length m) fs h))
      ∙ fields-records ms (drop (record_words * length ms) t) ∙ marks-fields m 0 (length m) fs h
      in
      record {
        refused_none = λ n. absurd (n refl);
        none-refused = λ n z. n (items m fs) (to-meant m (items m fs) w);
        refusal = λ n. absurd (n refl);
        place = λ z. refl;
        count = λ z is v. ap length (unique m 0 (length m) (omega arith) (omega arith) is (items m fs) (to-written m is v) w) ∙ length-items m fs;
        list = λ z. rw back (to-meant m (items m fs) w);
        only = λ z is v. rw back (unique m 0 (length m) (omega arith) (omega arith) is (items m fs) (to-written m is v) w);
      }

  third-refused : (q : Refusal) (p : ℕ) (x : Fault) → read_message m 0 (length m) ≡ reading.Refused q p → Third m t t (Refused q p 0 x)
  third-refused q p x h =
      let f = refused-format m 0 (length m) q p h in
      record {
        refused_none = λ n is v. refused m 0 (length m) (omega arith) (omega arith) q p is h (to-written m is v);
        none-refused = λ n z. absurd (omega (arith, f.0));
        refusal = λ n. (f.0, f.1, refl);
        place = λ z. absurd (omega (arith, f.0));
        count = λ z is v. absurd (omega (arith, f.0));
        list = λ z. absurd (omega (arith, f.0));
        only = λ z is v. absurd (omega (arith, f.0));
      }

  third-into : length m ≤ 2 * room t + 1 → (o : Message) → read_message m 0 (length m) ≡ o
      → Third m t (read_into m 0 (length m) t).table (read_into m 0 (length m) t).answer
  third-into e (Fields fs) h =
      let k = (accepted m 0 (length m) b fs h).1 in
      rw (into-fits m 0 (length m) t fs h (omega (arith, k))) (third-accepted fs h)
  third-into e (reading.Refused q p) h = rw (into-refused m 0 (length m) t q p h) (third-refused q p (message_fault m 0 (length m)) h)

pub third : (c : Call) → Whole c → Third (message c) (table c) (left c) (answer c)
third c w =
    let m = message c in
    let t = table c in
    let e : outcome (answer c) (left c) ≡ read_into m 0 (length m) t =
    c.allowed ∙ entry-open m (start c) (end c) t w.short (omega (arith, w.from)) (omega (arith, w.to))
    ∙ ap (λ (i : ℕ). read_into m i (end c) t) w.from ∙ ap (λ (i : ℕ). read_into m 0 i t) w.to
    in
    subst (λ (o : Outcome). Third m t o.table o.answer) (sym e) (third-into m t w.bytes w.enough (read_message m 0 (length m)) refl)
