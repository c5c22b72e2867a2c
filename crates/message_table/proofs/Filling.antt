-- The second pass: what is still to be written, on top of what is there, is the goal.
use Prim.Native.Nat.{ℕ, suc, ◌+◌, ◌-◌, ◌*◌, ◌/◌, ◌%◌, ◌^◌, ◌≤◌, ◌<◌}
use mathlib.Core.Path.{◌≡◌, ap, ◌∙◌, sym}
use mathlib.Core.List.{List, ◌∷◌, ◌++◌}
use native.Mathlib.Omega.{arith}
use lib.ListN.{length, drop}
use lib.Seq.{sets, sets-eq, length-sets}
use Rattle.wire.specs.Limits.{record_words}
use Rattle.wire.specs.Marks.{Mark, marks_from, marks, marks-turn, marks-end}
use Rattle.wire.proofs.Marks.{marks-count}
use Rattle.wire.specs.Reading.{field_at, varint_at, value_at, wire_of, Fields, reads_from, read_message}
use Rattle.wire.specs.ReadingLaws.{Found, kind-wire}
use Rattle.wire.proofs.ReadingLaws.{field-moves, field_found_lem}
use Rattle.wire.specs.Theorem.{Stands, none, some}
use Rattle.wire.proofs.Theorem.{stands}
use Rattle.wire.specs.Table.{kind_word, words, records, filled, length-records}
use Rattle.wire.specs.declared.Field.{Field}
use Rattle.wire.specs.declared.Record.{Record}
use Rattle.wire.specs.declared.FieldFound.TheVariants as field_found
use Rattle.wire.specs.declared.VarintFound.TheVariants.{Got}
use Rattle.wire.specs.declared.ValueFound.TheVariants as value_found
use Rattle.message_table.specs.Second.{Fits, Varinted, Valued, Worded}
use Rattle.message_table.proofs.Present.{value-kind, same-varint}
use Rattle.message.proofs.Walking.{positive}

-- the rest is known to be good and to have room
pub record Filling (s : List ℕ) (e : ℕ) (goal : List ℕ) (p last i : ℕ) (t : List ℕ) : Type 0 where
  pub k : ℕ
  pub m : ℕ
  pub rest : List Field
  pub fuel : e - p ≤ k
  pub read : reads_from k s e m p last ≡ Fields rest
  pub room : i + record_words * length rest ≤ length t
  pub same : sets t i (records (marks_from k s e p last)) ≡ goal

pub fill_start : (s : List ℕ) (start e : ℕ) (t : List ℕ) → Fits s start e t → Filling s e (filled t (marks s start e)) start 0 0 t
unfolding read_message marks
fill_start s start e t f =
    let ms = marks_from (e - start) s e start 0 in
    let n = length-records ms in
    let c = marks-count s start e f.fields f.read in
    let z : 0 + length (records ms) ≡ record_words * length ms = omega (arith, n) in
    record {
      k = e - start;
      m = start;
      rest = f.fields;
      fuel = omega arith;
      read = f.read;
      room = omega (arith, f.room);
      same = sets-eq (records ms) t 0 (omega (arith, f.room, n, c)) ∙ ap (λ (j : ℕ). records ms ++ drop j t) z;
    }

-- what stands at the place of a turn
pub record Here (s : List ℕ) (e : ℕ) (goal : List ℕ) (p last i : ℕ) (t : List ℕ) : Type 0 where
  pub field : Field
  pub next : ℕ
  pub k : ℕ
  pub rest : List Field
  pub found : field_at s e p last ≡ field_found.Got field next
  pub fuel : e - next ≤ k
  pub read : reads_from k s e p next field.tag ≡ Fields rest
  pub room : i + record_words + record_words * length rest ≤ length t
  pub same : sets t i (records (record { key = p; field = field } ∷ marks_from k s e next field.tag)) ≡ goal

module _ {s : List ℕ} {e : ℕ} {goal : List ℕ} {p last i : ℕ} {t : List ℕ} (w : Filling s e goal p last i t) where
  pub here : p < e → Here s e goal p last i t
  here a =
      let j = positive w.k (omega (arith, w.fuel)) in
      go j (stands (w.k - 1) s e w.m p last w.rest (ap (λ (j : ℕ). reads_from j s e w.m p last) (sym j) ∙ w.read))
    where
      go : w.k ≡ suc (w.k - 1) → Stands (w.k - 1) s e p last w.rest → Here s e goal p last i t
      go j (none b c) = absurd (omega arith)
      go j (some f q gs b c d x) =
          let v = field-moves s e p last f q c in
          record {
            field = f;
            next = q;
            k = w.k - 1;
            rest = gs;
            found = c;
            fuel = omega (arith, w.fuel, v.0);
            read = d;
            room = omega (arith, w.room, ap length x);
            same =
                ap (λ (l : List Mark). sets t i (records l))
                (sym (ap (λ (n : ℕ). marks_from n s e p last) j ∙ marks-turn s e p last (w.k - 1) f q b c))
                ∙ w.same;
          }

  pub fill_end : e ≤ p → t ≡ goal
  fill_end a = ap (λ (l : List Mark). sets t i (records l)) (sym (marks-end s e p last w.k a)) ∙ w.same

-- a turn: the key, the value behind it, a record, and the next place
module _ {s : List ℕ} {e : ℕ} {goal : List ℕ} {p last i : ℕ} {t : List ℕ} (h : Here s e goal p last i t) where
  found : Found s e p last h.field h.next
  found = field_found_lem s e p last h.field h.next h.found

  pub varinted : Varinted s p
  varinted = let k = found.key in record { value = k.key; next = found.middle; read = k.read }

  module _ {key at : ℕ} (r : varint_at s p ≡ Got key at) where
    told : (found.key.key ≡ key) × (found.middle ≡ at)
    told = same-varint s p found.key.key found.middle key at found.key.read r

    wired : found.wire ≡ wire_of (key % 4)
    wired = found.key.wire ∙ ap (λ (n : ℕ). wire_of (n % 4)) told.0

    there : value_at s e at (wire_of (key % 4)) ≡ value_found.Got h.field.value h.next
    there = rw (← told.1, ← wired) found.value

    pub valued : Valued s at (key % 4)
    valued = record { end = e; value = h.field.value; next = h.next; read = there }

    tag : last + key / 4 ≡ h.field.tag
    tag = let a = told.0 in omega (arith, found.key.tag)

    pub small : last + key / 4 < 2 ^ 32
    small = omega (arith, tag, found.key.small)

    kind : key % 4 ≡ kind_word h.field.value
    kind = sym (value-kind s e at (wire_of (key % 4)) h.field.value h.next there ∙ kind-wire (key % 4) (omega arith))

    module _ {value size next : ℕ} (w : Worded s at (key % 4) value size next) where
      pub further : (p < next) × (next ≤ length s)
      further =
          let v = field-moves s e p last h.field h.next h.found in
          let o = (w e h.field.value h.next there).2 in
          (omega (arith, v.0), omega (arith, v.1))

      -- the record of the turn
      abbrev stored : Record
      stored = record { tag = last + key / 4; kind = key % 4; value = value; length = size; key = p }

      pub fill-turn : (u : List ℕ) → u ≡ sets t i (words stored) → Filling s e goal next (last + key / 4) (i + record_words) u × (length u ≡ length t)
      fill-turn u g =
          let x = w e h.field.value h.next there in
          let d : i + record_words ≡ suc (suc (suc (suc (suc i)))) = omega arith in
          let n = ap length g ∙ length-sets t i (words stored) in (
            rw (tag, x.2, d)
                (
                record {
                  k = h.k;
                  m = p;
                  rest = h.rest;
                  fuel = h.fuel;
                  read = h.read;
                  room = omega (arith, h.room, n);
                  same = rw (g, tag, kind, x.0, x.1) h.same;
                }
                ),
            n,
          )
