-- The third demand, for reading (rule M7): a message is accepted exactly if some good list of items is written as it, and the table then holds the
-- only such list. Over every outcome that the contract of `read_message` allows.
use Rattle.std.specs.Prelude.{ℕ, suc, ◌+◌, ◌-◌, ◌*◌, ◌≤◌, ◌≡◌, refl, List, [], ◌∷◌, length, take, drop}
use Rattle.std.proofs.Common.{ap, ◌∙◌, sym, subst, arith}
use Rattle.std.proofs.Math.Seq.{take-length}
use Rattle.wire.specs.Limits.{message_limit, record_words}
use Rattle.wire.specs.Marks.{marks}
use Rattle.wire.proofs.Marks.{marks-fields, marks-count}
use Rattle.wire.specs.VarintLaws.{Bytes}
use Rattle.wire.specs.Written.{Item, written, Good}
use Rattle.wire.specs.Places.{part, items}
use Rattle.wire.specs.Reading.{Message, Fields, read_message}
use Rattle.wire.specs.Reading as reading
use Rattle.wire.specs.Theorem.{Written}
use Rattle.wire.proofs.Theorem.{accepted, unique, refused}
use Rattle.demands_order.specs.Formats.{refused-format}
use Rattle.wire.specs.Table.{room, filled, fields_from, fields-records}
use Rattle.wire.specs.declared.Fault.{Fault}
use Rattle.wire.specs.declared.Refusal.{Refusal}
use Rattle.wire.specs.declared.Field.{Field}
use Rattle.wire.specs.declared.Read.{Read}
use Rattle.wire.specs.declared.Read.TheVariants.{Accepted, Refused}
use Rattle.fault.specs.Fault.{message_fault}
use Rattle.message_table.specs.Into.{Outcome, outcome, read_into, into-refused, into-fits}
use Rattle.entry_answer.specs.Told.{read_told}
use Rattle.entry_message.specs.Messages.{entry-open}
use Rattle.demands_order.specs.Calls.{Call, message, start, end, table, answer, left}

-- a list of items that is good and written as the message m
pub record Meant (m : List ℕ) (is : List Item) : Type 0 where
  pub good : Good is
  pub bytes : written is ≡ m

-- the items that the first n records of a table stand for, their payloads in m
abbrev pub items_in : List ℕ → ℕ → List ℕ → List Item
items_in m n t = items m (fields_from n t 0)

-- what is demanded of an answer r that leaves t' of the table t
pub record Third (m t t' : List ℕ) (r : Read) : Type 0 where
  -- refused exactly if no list is meant
  pub refused_none : ((read_told r).number ≡ 0 → ⊥) → (is : List Item) → Meant m is → ⊥
  pub none-refused : ((is : List Item) → Meant m is → ⊥) → (read_told r).number ≡ 0 → ⊥
  -- and then with one of the first three numbers, and nothing written
  pub refusal : ((read_told r).number ≡ 0 → ⊥) → (1 ≤ (read_told r).number) × ((read_told r).number ≤ 3) × (t' ≡ t)
  -- accepted: the whole message was read, and the list in the table is meant
  pub place : (read_told r).number ≡ 0 → (read_told r).place ≡ length m
  -- the count is the length of every list that is meant
  pub count : (read_told r).number ≡ 0 → (is : List Item) → Meant m is → length is ≡ (read_told r).count
  pub list : (read_told r).number ≡ 0 → Meant m (items_in m (read_told r).count t')
  -- and no other is
  pub only : (read_told r).number ≡ 0 → (is : List Item) → Meant m is → is ≡ items_in m (read_told r).count t'

-- a whole message within the limit, and a table with room for half as many records as the message has bytes
pub record Whole (c : Call) : Type 0 where
  pub bytes : Bytes (message c)
  pub short : length (message c) ≤ message_limit
  pub from : start c ≡ 0
  pub to : end c ≡ length (message c)
  pub enough : length (message c) ≤ 2 * room (table c) + 1

-- ---- the proof

whole : (m : List ℕ) → part m 0 (length m) ≡ m
whole m = let e : length m - 0 ≡ length m = omega arith in ap (λ (n : ℕ). take n m) e ∙ take-length m

pub to-written : (m : List ℕ) (is : List Item) → Meant m is → Written m 0 (length m) is
to-written m is w = record { good = w.good; bytes = whole m ∙ sym w.bytes }

pub to-meant : (m : List ℕ) (is : List Item) → Written m 0 (length m) is → Meant m is
to-meant m is w = record { good = w.good; bytes = sym w.bytes ∙ whole m }

pub length-items : (m : List ℕ) (fs : List Field) → length (items m fs) ≡ length fs
length-items m [] = refl
length-items m (f ∷ fs) = ap suc (length-items m fs)

-- ---- THE THIRD DEMAND
