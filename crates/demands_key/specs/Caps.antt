-- A cap is as good as a cut: a message read from a start up to an end in a longer slice, and the bytes between taken out as a slice of their own. Over
-- every outcome that the contract of `read_message` allows for each of the two calls.
use Rattle.std.specs.Prelude.{ℕ, ◌+◌, ◌-◌, ◌*◌, ◌≤◌, ◌<◌, ◌≡◌, refl, List, ◌++◌, length, drop}
use Rattle.std.proofs.Common.{ap, ◌∙◌, sym, subst, arith, length-drop, length-take-le}
use Rattle.wire.specs.Limits.{message_limit, record_words}
use Rattle.wire.specs.Marks.{Mark, marks, fields_of, fields-count}
use Rattle.wire.specs.Numbers.{number_of}
use Rattle.wire.specs.Places.{part, items}
use Rattle.wire.specs.Reading.{Message, Fields, read_message}
use Rattle.wire.specs.Reading as reading
use Rattle.wire.specs.Table.{room, filled, fields_from, record_at, fields-records}
use Rattle.wire.specs.Table.{records as tabled}
use Rattle.wire.specs.declared.Fault.{Fault}
use Rattle.wire.specs.declared.Field.{Field}
use Rattle.wire.specs.declared.Read.{Read}
use Rattle.wire.specs.declared.Read.TheVariants.{Accepted, Refused}
use Rattle.wire.specs.declared.Refusal.{Refusal}
use Rattle.fault.specs.Fault.{message_fault}
use Rattle.message_table.specs.Into.{Outcome, outcome, read_into, into-refused, into-fits}
use Rattle.entry_answer.specs.Told.{read_told}
use Rattle.entry_message.specs.Messages.{entry-open}
use Rattle.relay.specs.Pairs.{Pair, truncated, invalid, overflowed, invalid-past, overflowed-past}
use Rattle.relay.specs.Cap.{moved_marks, Alike, accepts, refuses}
use Rattle.relay.proofs.Cap.{cap-and-cut}
use Rattle.relay.specs.Words.{moved_record, fields-moved}
use Rattle.relay.proofs.Words.{records-moved}
use Rattle.relay.specs.Cases.{numbered, each-occurs}
use Rattle.demands_order.specs.Calls.{Call, message, start, end, table, answer, left}
use Rattle.demands_message.specs.Reading.{items_in}

-- a table with room for the fields of a message from a up to e, if it is one
abbrev pub Roomy : List ℕ → ℕ → ℕ → List ℕ → Type 0
Roomy s a e t = (fs : List Field) → read_message s a e ≡ Fields fs → length fs ≤ room t

-- a call c under a cap, its start not past its end, and a call d on the bytes between; both have room enough
pub record Relay (c d : Call) : Type 0 where
  pub short : length (message c) ≤ message_limit
  pub order : start c ≤ end c
  pub inside : end c ≤ length (message c)
  pub cut : message d ≡ part (message c) (start c) (end c)
  pub from : start d ≡ 0
  pub to : end d ≡ length (message d)
  pub room-cap : Roomy (message c) (start c) (end c) (table c)
  pub room_cut : Roomy (message d) (start d) (end d) (table d)

-- what is then so of an answer r that leaves t of a slice s read from a on, and of an answer r' that leaves t' of the bytes b cut out
pub record AsGood (s b : List ℕ) (a : ℕ) (r r' : Read) (t t' : List ℕ) : Type 0 where
  -- accepted together
  pub accepted : (read_told r).number ≡ 0 → (read_told r').number ≡ 0
  pub accepted-back : (read_told r').number ≡ 0 → (read_told r).number ≡ 0
  -- accepted or refused: the same count, and the place moved by the start
  pub count : (read_told r).count ≡ (read_told r').count
  pub place : (read_told r).place ≡ a + (read_told r').place
  -- accepted: each record is the other's, its places moved by the start; and the fields show the same
  pub records : (read_told r).number ≡ 0 → (i : ℕ) → i < (read_told r).count → record_at t i ≡ moved_record a (record_at t' i)
  pub fields : (read_told r).number ≡ 0 → items_in s (read_told r).count t ≡ items_in b (read_told r').count t'
  -- refused: one of the five pairs
  pub names : ((read_told r).number ≡ 0 → ⊥) → Pair (read_told r).number (read_told r').number

-- ---- the proof

pair-pos : (x y : ℕ) → Pair x y → (0 < x) × (0 < y)
pair-pos x y (truncated i j) = (omega arith, omega arith)
pair-pos x y (invalid i j) = (omega arith, omega arith)
pair-pos x y (overflowed i j) = (omega arith, omega arith)
pair-pos x y (invalid-past i j) = (omega arith, omega arith)
pair-pos x y (overflowed-past i j) = (omega arith, omega arith)

module _ (s b : List ℕ) (a e n : ℕ) (far : e ≡ a + n) (t u : List ℕ) where
  both-accepted : (ms : List Mark) → items s (fields_of (moved_marks a ms)) ≡ items b (fields_of ms)
      → AsGood s b a (Accepted e (length (fields_of (moved_marks a ms)))) (Accepted n (length (fields_of ms))) (filled t (moved_marks a ms)) (filled u ms)
  both-accepted ms w =
      let ns = moved_marks a ms in
      let x = drop (record_words * length ns) t in
      let y = drop (record_words * length ms) u in
      record {
        accepted = λ z. refl;
        accepted-back = λ z. refl;
        count = fields-moved a ms;
        place = far;
        records = λ z i l. records-moved a ms x y i (omega (arith, fields-moved a ms, fields-count ms));
        fields = λ z. ap (items s) (told ns x) ∙ w ∙ sym (ap (items b) (told ms y));
        names = λ z. absurd (z refl);
      }
    where
      told : (ns : List Mark) (x : List ℕ) → fields_from (length (fields_of ns)) (tabled ns ++ x) 0 ≡ fields_of ns
      told ns x = ap (λ (k : ℕ). fields_from k (tabled ns ++ x) 0) (fields-count ns) ∙ fields-records ns x

  both-refused : (r q : Refusal) (p : ℕ) (x y : Fault) → Pair (number_of r) (number_of q) → AsGood s b a (Refused r (a + p) 0 x) (Refused q p 0 y) t u
  both-refused r q p x y w =
      let o = pair-pos (number_of r) (number_of q) w in
      record {
        accepted = λ z. absurd (omega (arith, o.0));
        accepted-back = λ z. absurd (omega (arith, o.1));
        count = refl;
        place = refl;
        records = λ z i l. absurd (omega (arith, o.0));
        fields = λ z. absurd (omega (arith, o.0));
        names = λ z. w;
      }

  both : Roomy s a e t → Roomy b 0 n u → Alike s b a (read_message s a e) (read_message b 0 n) (marks s a e) (marks b 0 n)
      → AsGood s b a (read_into s a e t).answer (read_into b 0 n u).answer (read_into s a e t).table (read_into b 0 n u).table
  both h g (accepts ms i j x y w) =
      let fs = fields_of (moved_marks a ms) in
      rw (into-fits s a e t fs i (h fs i), into-fits b 0 n u (fields_of ms) j (g (fields_of ms) j), x, y) (both-accepted ms w)
  both h g (refuses r q p i j w) =
      rw (into-refused s a e t r (a + p) i, into-refused b 0 n u q p j) (both-refused r q p (message_fault s a e) (message_fault b 0 n) w)

-- the number that is told of a message with room
number-told : (s : List ℕ) (a e : ℕ) (t : List ℕ) → Roomy s a e t → (read_told (read_into s a e t).answer).number ≡ numbered (read_message s a e)
number-told s a e t h = go (read_message s a e) refl
  where
    go : (m : Message) → read_message s a e ≡ m → (read_told (read_into s a e t).answer).number ≡ numbered (read_message s a e)
    go (Fields fs) x = rw (into-fits s a e t fs x (h fs x), x)
    go (reading.Refused r p) x = rw (into-refused s a e t r p x, x)

module _ (c d : Call) (h : Relay c d) where
  abbrev b : List ℕ
  b = part (message c) (start c) (end c)

  abbrev n : ℕ
  n = end c - start c

  cut-end : end d ≡ n
  cut-end = h.to ∙ ap length h.cut ∙ length-take-le n (drop (start c) (message c)) (omega (arith, length-drop (start c) (message c), h.inside))

  cap-into : outcome (answer c) (left c) ≡ read_into (message c) (start c) (end c) (table c)
  cap-into = c.allowed ∙ entry-open (message c) (start c) (end c) (table c) h.short (omega (arith, h.order, h.inside)) h.inside

  cut-into : outcome (answer d) (left d) ≡ read_into b 0 n (table d)
  cut-into =
      d.allowed
      ∙ entry-open (message d) (start d) (end d) (table d) (omega (arith, h.short, h.inside, h.to, cut-end)) (omega (arith, h.from)) (omega (arith, h.to))
      ∙ ap (λ (m : List ℕ). read_into m (start d) (end d) (table d)) h.cut
      ∙ ap (λ (i : ℕ). read_into b i (end d) (table d)) h.from
      ∙ ap (λ (i : ℕ). read_into b 0 i (table d)) cut-end

  cut-roomy : Roomy b 0 n (table d)
  cut-roomy =
      subst (λ (i : ℕ). Roomy b 0 i (table d)) cut-end (subst (λ (i : ℕ). Roomy b i (end d) (table d)) h.from
      (subst (λ (m : List ℕ). Roomy m (start d) (end d) (table d)) h.cut h.room_cut))

  -- A CAP IS AS GOOD AS A CUT
  pub caps : AsGood (message c) (message d) (start c) (answer c) (answer d) (left c) (left d)
  caps =
      let s = message c in
      let a = start c in
      let o = read_into b 0 n (table d) in
      let far : end c ≡ a + n = omega (arith, h.order) in
      let z = both s b a (end c) n far (table c) (table d) h.room-cap cut-roomy (cap-and-cut s a (end c) h.order h.inside) in
      let x = subst (λ (p : Outcome). AsGood s b a p.answer o.answer p.table o.table) (sym cap-into) z in
      let y = subst (λ (p : Outcome). AsGood s b a (answer c) p.answer (left c) p.table) (sym cut-into) x in
      subst (λ (m : List ℕ). AsGood s m a (answer c) (answer d) (left c) (left d)) (sym h.cut) y

  cap-number : (read_told (answer c)).number ≡ numbered (read_message (message c) (start c) (end c))
  cap-number =
      ap (λ (o : Outcome). (read_told o.answer).number) cap-into ∙ number-told (message c) (start c) (end c) (table c) h.room-cap

  cut-number : (read_told (answer d)).number ≡ numbered (read_message b 0 n)
  cut-number = ap (λ (o : Outcome). (read_told o.answer).number) cut-into ∙ number-told b 0 n (table d) cut-roomy

-- AND EACH PAIR OCCURS: for some slice, start and end, all two such calls are refused with those numbers
abbrev pub Met : ℕ → ℕ → List ℕ → ℕ → ℕ → Type 0
Met x y s a e =
    (c d : Call) → Relay c d → message c ≡ s → start c ≡ a → end c ≡ e → ((read_told (answer c)).number ≡ x) × ((read_told (answer d)).number ≡ y)

same-call : (f : List ℕ → ℕ → ℕ → ℕ) {s t : List ℕ} {a b e n : ℕ} → s ≡ t → a ≡ b → e ≡ n → f s a e ≡ f t b n
same-call f i j l = rw (i, j, l)

pub pairs-met : (x y : ℕ) → Pair x y → (s : List ℕ) × (a : ℕ) × (e : ℕ) × Met x y s a e
pairs-met x y p =
    let o = each-occurs x y p in
    let k = o.0 in (
      k.bytes,
      k.start,
      k.end,
      λ c d h i j l. (
        cap-number c d h ∙ same-call (λ t a e. numbered (read_message t a e)) i j l ∙ ap numbered o.1.0 ∙ o.5,
        cut-number c d h ∙ same-call (λ t a e. numbered (read_message (part t a e) 0 (e - a))) i j l ∙ ap numbered o.1.1 ∙ o.6,
      ),
    )
