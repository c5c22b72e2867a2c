-- The third demand for runs (rule U6), once for every wire type: a run is accepted exactly if some list of good values of the type is written as it; the table
-- then holds the only such list, and writing it gives the same bytes back. And what writing does for every source, table, count and type. Over every
-- outcome that the contracts of `read_run`, `run_count`, `run_value` and `write_run` allow.
use Rattle.std.specs.Prelude.{ℕ, zero, suc, ◌+◌, ◌*◌, ◌^◌, ◌≤◌, ◌<◌, ◌≡◌, refl, Bool, true, false, ltb, leb, length, drop}
use Rattle.std.proofs.Common.{ap, ◌∙◌, sym, subst, arith}
use mathlib.Core.List.{List, [], ◌∷◌}
use contract.Lifetimes.{Lfts}
use borrow.Fn.Kinds.{Dens, res_t, ended_of}
use denote.Triple.Clauses.{AtExit}
use Rattle.wire.specs.Limits.{message_limit, record_words}
use Rattle.wire.specs.Numbers.{number_of, kind_of}
use Rattle.wire.specs.VarintLaws.{Bytes}
use Rattle.wire.specs.Written.{Content}
use Rattle.wire.specs.Varint.{Sum, Adds, Stops, sum}
use Rattle.wire.specs.Reading.{judged, varint_at, renamed, capped_at, within, number_from, payload_from, value_at}
use Rattle.wire.specs.Table.{room}
use Rattle.wire.specs.declared.Refusal.{Refusal}
use Rattle.wire.specs.declared.WireType.{WireType}
use Rattle.wire.specs.declared.WireType.TheVariants as wire_type
use Rattle.wire.specs.declared.Value.{Value}
use Rattle.wire.specs.declared.VarintFound.{VarintFound}
use Rattle.wire.specs.declared.VarintFound.TheVariants as varint_found
use Rattle.wire.specs.declared.ValueFound.{ValueFound}
use Rattle.wire.specs.declared.ValueFound.TheVariants as value_found
use Rattle.entry_answer.specs.Gate.{gated, gated-open}
use Rattle.entry_answer.specs.declared.Gated.TheVariants.{Open}
use Rattle.entry_answer.specs.Told.{run_count_told}
use Rattle.entry_answer.specs.declared.RunCount.{RunCount}
use Rattle.entry_answer.specs.declared.RunCount.TheVariants as count
use Rattle.entry_answer.specs.declared.RunValue.TheVariants as value
use Rattle.write_record.specs.Records.{AllFine}
use Rattle.write_message.specs.Writing.{Writes, Writing, front, no_room}
use Rattle.write_message.specs.WritingLaws.{into-writes, into-none}
use Rattle.run_read.specs.Packed.{Packed, Values, Refused, leading, followed, packed_from, packed, contents, length-contents, values_from, values-records}
use Rattle.run_read.specs.Packed.{run_filled}
use Rattle.run_read.specs.Theorem.{Meant, accepted, unique, refused}
use Rattle.run_read.specs.Runs.{count_of, count-open, numbered, numbered_of, value-open, Outcome, outcome, read_run, read-refused, read_fits}
use Rattle.run_write.specs.RunPlan.{run_checked, run_bytes, run_plan, write_run}
use Rattle.run_write.specs.RunLaws.{plan-fine}
use Rattle.run_write.specs.Back.{run-table-plan, run-table-fine}
use Rattle.demands_message.specs.Writing.{at_front}
use Rattle.run_read.proofs.run_count.Kinds as run-count
use Rattle.run_read.proofs.run_count.Reads as run-count-reads
use Rattle.run_read.proofs.run_value.Kinds as run-value
use Rattle.run_read.proofs.run_value.Reads as run-value-reads
use Rattle.run_read.proofs.read_run.Kinds as read-run
use Rattle.run_read.proofs.read_run.Reads as read-run-reads
use Rattle.run_write.proofs.write_run.Kinds as write-run
use Rattle.run_write.proofs.write_run.Reads as write-run-reads

-- ---- calls and one of their outcomes each

pub record RunRead (m : List ℕ) (w : WireType) (t : List ℕ) : Type 0 where
  pub lifetimes : Lfts 2
  pub arguments : Dens lifetimes read-run.ps
  pub answer : (res_t read-run.r lifetimes).Denot
  pub exit : AtExit (ended_of 2 read-run.ps read-run.r) lifetimes
  pub allowed : read-run-reads.Post lifetimes arguments answer exit
  pub run : arguments.0.now ≡ m
  pub wire : arguments.1.0 ≡ w
  pub table : arguments.1.1.0.now ≡ t

pub record RunCounted (m : List ℕ) (w : WireType) : Type 0 where
  pub lifetimes : Lfts 1
  pub arguments : Dens lifetimes run-count.ps
  pub answer : (res_t run-count.r lifetimes).Denot
  pub exit : AtExit (ended_of 1 run-count.ps run-count.r) lifetimes
  pub allowed : run-count-reads.Post lifetimes arguments answer exit
  pub run : arguments.0.now ≡ m
  pub wire : arguments.1.0 ≡ w

pub record RunLooked (m : List ℕ) (w : WireType) (n : ℕ) : Type 0 where
  pub lifetimes : Lfts 1
  pub arguments : Dens lifetimes run-value.ps
  pub answer : (res_t run-value.r lifetimes).Denot
  pub exit : AtExit (ended_of 1 run-value.ps run-value.r) lifetimes
  pub allowed : run-value-reads.Post lifetimes arguments answer exit
  pub run : arguments.0.now ≡ m
  pub wire : arguments.1.0 ≡ w
  pub number : arguments.1.1.0 ≡ n

pub record RunWritten (s t : List ℕ) (c : ℕ) (w : WireType) (b : List ℕ) : Type 0 where
  pub lifetimes : Lfts 3
  pub arguments : Dens lifetimes write-run.ps
  pub answer : (res_t write-run.r lifetimes).Denot
  pub exit : AtExit (ended_of 3 write-run.ps write-run.r) lifetimes
  pub allowed : write-run-reads.Post lifetimes arguments answer exit
  pub source : arguments.0.now ≡ s
  pub records : arguments.1.0.now ≡ t
  pub count : arguments.1.1.0 ≡ c
  pub wire : arguments.1.1.1.0 ≡ w
  pub buffer : arguments.1.1.1.1.0.now ≡ b

module _ {m : List ℕ} {w : WireType} {t : List ℕ} (c : RunRead m w t) where
  -- what is left of the table, and all that was seen
  abbrev pub left : List ℕ
  left = c.exit.1.1.0.now

  abbrev pub reads : Outcome
  reads = outcome c.answer left

  abbrev pub told : ℕ
  told = (run_count_told c.answer).number

  abbrev pub many : ℕ
  many = (run_count_told c.answer).value

abbrev pub writes : {s t : List ℕ} {c : ℕ} {w : WireType} {b : List ℕ} → RunWritten s t c w b → Writing
writes x = record { answer = x.answer; buf = x.exit.1.1.1.1.0.now }

pub read_as : {m : List ℕ} {w : WireType} {t : List ℕ} (c : RunRead m w t) → reads c ≡ read_run m w t
read_as c = c.allowed ∙ rw (c.run, c.wire, c.table)

pub written_as : {s t : List ℕ} {c : ℕ} {w : WireType} {b : List ℕ} (x : RunWritten s t c w b) → writes x ≡ write_run s t c w b
written_as x = x.allowed ∙ rw (x.source, x.records, x.count, x.wire, x.buffer)

-- ---- a run is refused as Truncated or as InvalidVarint, the first two

abbrev Wrong : Refusal → Type 0
Wrong r = (1 ≤ number_of r) × (number_of r ≤ 2)

abbrev VarintOk : VarintFound → Type 0
VarintOk (varint_found.Got v q) = Unit {0}
VarintOk (varint_found.Refused r) = Wrong r

abbrev ValueOk : ValueFound → Type 0
ValueOk (value_found.Got v q) = Unit {0}
ValueOk (value_found.Refused r) = Wrong r

judged-ok : (p : ℕ) (a : Sum) → VarintOk (judged p a)
judged-ok p (Adds v n) = go (ltb v (2 ^ 64)) refl
  where
    go : (t : Bool) → ltb v (2 ^ 64) ≡ t → VarintOk (judged p (Adds v n))
    go true t = rw t tt
    go false t = rw t (omega arith, omega arith)
judged-ok p Stops = (omega arith, omega arith)

varint-ok : (s : List ℕ) (p : ℕ) → VarintOk (varint_at s p)
unfolding varint_at
varint-ok s p = judged-ok p (sum 8 (drop p s))

renamed-ok : (e p : ℕ) (x : VarintFound) → VarintOk x → VarintOk (renamed e p x)
renamed-ok e p (varint_found.Got v q) h = tt
renamed-ok e p (varint_found.Refused r) h = go (ltb e (p + 9)) refl
  where
    go : (t : Bool) → ltb e (p + 9) ≡ t → VarintOk (renamed e p (varint_found.Refused r))
    go true t = rw t (omega arith, omega arith)
    go false t = rw t h

number_ok : (x : VarintFound) → VarintOk x → ValueOk (number_from x)
number_ok (varint_found.Got v q) h = tt
number_ok (varint_found.Refused r) h = h

within-ok : (s : List ℕ) (e q : ℕ) (v : Value) → ValueOk (within s e q v)
within-ok s e q v = go (leb q (length s)) refl (leb q e) refl
  where
    go : (a : Bool) → leb q (length s) ≡ a → (b : Bool) → leb q e ≡ b → ValueOk (within s e q v)
    go true a true b = rw (a, b) tt
    go true a false b = rw (a, b) (omega arith, omega arith)
    go false a b x = rw a (omega arith, omega arith)

payload-ok : (s : List ℕ) (e : ℕ) (x : VarintFound) → VarintOk x → ValueOk (payload_from s e x)
payload-ok s e (varint_found.Got n q) h = within-ok s e (q + n) _
payload-ok s e (varint_found.Refused r) h = h

value-ok : (s : List ℕ) (e p : ℕ) (w : WireType) → ValueOk (value_at s e p w)
value-ok s e p wire_type.Varint = number_ok (capped_at s e p) (renamed-ok e p (varint_at s p) (varint-ok s p))
value-ok s e p wire_type.LengthDelimited = payload-ok s e (varint_at s p) (varint-ok s p)
value-ok s e p wire_type.ThirtyTwoBit = within-ok s e (p + 4) _
value-ok s e p wire_type.SixtyFourBit = within-ok s e (p + 8) _

abbrev RunOk : Packed → Type 0
RunOk (Values vs) = Unit {0}
RunOk (Refused r) = Wrong r

leading-ok : (v : Value) (x : Packed) → RunOk x → RunOk (leading v x)
leading-ok v (Values vs) h = tt
leading-ok v (Refused r) h = h

run_ok : (k : ℕ) (s : List ℕ) (w : WireType) (p : ℕ) → RunOk (packed_from k s w p)
unfolding packed_from
run_ok zero s w p = tt
run_ok (suc k) s w p = go (ltb p (length s)) refl (λ q. run_ok k s w q)
  where
    on : (x : ValueFound) → ValueOk x → ((q : ℕ) → RunOk (packed_from k s w q)) → RunOk (followed x (λ q. packed_from k s w q))
    on (value_found.Got v q) h ih = leading-ok v (packed_from k s w q) (ih q)
    on (value_found.Refused r) h ih = h

    go : (b : Bool) → ltb p (length s) ≡ b → ((q : ℕ) → RunOk (packed_from k s w q)) → RunOk (packed_from (suc k) s w p)
    go true b ih = rw b (on (value_at s (length s) p w) (value-ok s (length s) p w) ih)
    go false b ih = rw b tt

wrong : (s : List ℕ) (w : WireType) (r : Refusal) → packed s w ≡ Refused r → Wrong r
unfolding packed
wrong s w r h = subst RunOk h (run_ok (length s) s w 0)

-- ---- THE THIRD DEMAND FOR RUNS

-- what the first n records of a table stand for, their payloads in m
abbrev pub contents_in : List ℕ → ℕ → List ℕ → List Content
contents_in m n t = contents m (values_from n t 0)

-- what is demanded of an answer r that leaves t' of the table t
pub record ThirdRun (m : List ℕ) (w : WireType) (t t' : List ℕ) (r : RunCount) : Type 0 where
  -- refused exactly if no list is meant
  pub refused_none : ((run_count_told r).number ≡ 0 → ⊥) → (cs : List Content) → Meant w m cs → ⊥
  pub none-refused : ((cs : List Content) → Meant w m cs → ⊥) → (run_count_told r).number ≡ 0 → ⊥
  -- and then with one of the first two numbers, and nothing written
  pub refusal : ((run_count_told r).number ≡ 0 → ⊥) → (1 ≤ (run_count_told r).number) × ((run_count_told r).number ≤ 2) × (t' ≡ t)
  -- accepted: the records are good, of tag 0 and of the type
  pub good : (run_count_told r).number ≡ 0 → run_checked message_limit m t' (run_count_told r).value (kind_of w) ≡ AllFine
  -- the list in the table is meant, and no other is; the count is its length
  pub list : (run_count_told r).number ≡ 0 → Meant w m (contents_in m (run_count_told r).value t')
  pub only : (run_count_told r).number ≡ 0 → (cs : List Content) → Meant w m cs → cs ≡ contents_in m (run_count_told r).value t'
  pub count : (run_count_told r).number ≡ 0 → (cs : List Content) → Meant w m cs → length cs ≡ (run_count_told r).value

-- a run within the limit, and a table with room for as many records as the run has bytes
pub record WholeRun (m t : List ℕ) : Type 0 where
  pub bytes : Bytes m
  pub short : length m ≤ message_limit
  pub enough : length m ≤ room t

module _ (m : List ℕ) (w : WireType) (t : List ℕ) (g : WholeRun m t) where
  opens : gated (length m) 0 (length m) ≡ Open
  opens = gated-open (length m) 0 (length m) g.short (omega arith) (omega arith)

  fits : (vs : List Value) → packed m w ≡ Values vs → length vs ≤ room t
  fits vs h = omega (arith, (accepted w m g.bytes vs h).1, g.enough)

  third-accepted : (vs : List Value) → packed m w ≡ Values vs → ThirdRun m w t (run_filled t vs) (count.Values (length vs))
  third-accepted vs h =
      let x = (accepted w m g.bytes vs h).0 in
      let back : values_from (length vs) (run_filled t vs) 0 ≡ vs = values-records vs (drop (record_words * length vs) t) in
      record {
        refused_none = λ n. absurd (n refl);
        none-refused = λ n z. n (contents m vs) x;
        refusal = λ n. absurd (n refl);
        good = λ z. run-table-fine m t w vs g.bytes h (fits vs h) message_limit g.short;
        list = λ z. rw back x;
        only = λ z cs v. rw back (unique w m cs (contents m vs) v x);
        count = λ z cs v. ap length (unique w m cs (contents m vs) v x) ∙ length-contents m vs;
      }

  third-refused : (r : Refusal) → packed m w ≡ Refused r → ThirdRun m w t t (count.Refused r)
  third-refused r h =
      let f = wrong m w r h in
      record {
        refused_none = λ n cs v. refused w m r cs h v;
        none-refused = λ n z. absurd (omega (arith, f.0));
        refusal = λ n. (f.0, f.1, refl);
        good = λ z. absurd (omega (arith, f.0));
        list = λ z. absurd (omega (arith, f.0));
        only = λ z cs v. absurd (omega (arith, f.0));
        count = λ z cs v. absurd (omega (arith, f.0));
      }

  third-read : (x : Packed) → packed m w ≡ x → ThirdRun m w t (read_run m w t).table (read_run m w t).answer
  third-read (Values vs) h = rw (read_fits m w t opens vs h (fits vs h)) (third-accepted vs h)
  third-read (Refused r) h = rw (read-refused m w t opens r h) (third-refused r h)

  pub run-third : (c : RunRead m w t) → ThirdRun m w t (left c) c.answer
  run-third c = subst (λ (o : Outcome). ThirdRun m w t o.table o.answer) (sym (read_as c)) (third-read (packed m w) refl)

-- ---- FOR WRITING: records that pass every test are written as the list that they stand for, whatever the source, the table, the count and the type

module _ {s t : List ℕ} {c : ℕ} {w : WireType} {b bs : List ℕ} (p : run_plan message_limit s t c (kind_of w) ≡ Writes bs) where
  written-fits : length bs ≤ length b → (x : RunWritten s t c w b) → writes x ≡ at_front bs b
  unfolding write_run front
  written-fits h x = written_as x ∙ into-writes b (λ (xs : List ℕ). at_front xs b) p h

  written_none : length b < length bs → (x : RunWritten s t c w b) → writes x ≡ record { answer = no_room bs; buf = b }
  unfolding write_run front
  written_none h x = written_as x ∙ into-none b (λ (xs : List ℕ). at_front xs b) p h

pub run-writes : {s t : List ℕ} {c : ℕ} {w : WireType} {b : List ℕ} → run_checked message_limit s t c (kind_of w) ≡ AllFine
    → length (run_bytes s t c) ≤ message_limit → length (run_bytes s t c) ≤ length b → (x : RunWritten s t c w b) → writes x ≡ at_front (run_bytes s t c) b
run-writes {s} {t} {c} {w} fine short fits = written-fits (plan-fine message_limit s t c (kind_of w) fine short) fits

-- ---- WHAT WAS READ IS WRITTEN BACK, and a buffer that is too short stays

module _ (m : List ℕ) (w : WireType) (t : List ℕ) (g : WholeRun m t) (c : RunRead m w t) (z : told c ≡ 0) where
  back-plan : (x : Packed) → packed m w ≡ x → run_plan message_limit m (left c) (many c) (kind_of w) ≡ Writes m
  back-plan (Values vs) h =
      let f = fits m w t g vs h in
      let e = read_as c ∙ read_fits m w t (opens m w t g) vs h f in
      rw (ap (λ (o : Outcome). (run_count_told o.answer).value) e, ap (λ (o : Outcome). o.table) e)
      (run-table-plan m t w vs g.bytes h f message_limit g.short)
  back-plan (Refused r) h =
      let e = read_as c ∙ read-refused m w t (opens m w t g) r h in
      absurd (omega (arith, (wrong m w r h).0, ap (λ (o : Outcome). (run_count_told o.answer).number) e, z))

  pub run-back : {b : List ℕ} → length m ≤ length b → (x : RunWritten m (left c) (many c) w b) → writes x ≡ at_front m b
  run-back h = written-fits (back-plan (packed m w) refl) h

  pub run-back-short : {b : List ℕ} → length b < length m → (x : RunWritten m (left c) (many c) w b) → writes x ≡ record { answer = no_room m; buf = b }
  run-back-short h = written_none (back-plan (packed m w) refl) h

-- ---- COUNTING AND LOOKING AGREE WITH READING

-- the value at a number is there exactly below the count
numbered-there : (vs : List Value) (n : ℕ) → (n < length vs → (v : Value) × (numbered vs n ≡ value.Found v)) × (length vs ≤ n → numbered vs n ≡ value.Absent)
numbered-there [] n = (λ h. absurd (omega arith), λ h. refl)
numbered-there (v ∷ vs) zero = (λ h. (v, refl), λ h. absurd (omega arith))
numbered-there (v ∷ vs) (suc n) = (λ h. (numbered-there vs n).0 (omega arith), λ h. (numbered-there vs n).1 (omega arith))

module _ (m : List ℕ) (w : WireType) (t : List ℕ) (g : WholeRun m t) (c : RunRead m w t) where
  -- the count is what reading answers, refusals too
  pub run-count-same : (x : RunCounted m w) → x.answer ≡ c.answer
  run-count-same x =
      x.allowed ∙ rw (x.run, x.wire) (count-open m w (opens m w t g)) ∙ go (packed m w) refl ∙ sym (ap (λ (o : Outcome). o.answer) (read_as c))
    where
      go : (y : Packed) → packed m w ≡ y → count_of (packed m w) ≡ (read_run m w t).answer
      go (Values vs) h = rw (h, read_fits m w t (opens m w t g) vs h (fits m w t g vs h))
      go (Refused r) h = rw (h, read-refused m w t (opens m w t g) r h)

  module _ (z : told c ≡ 0) {n : ℕ} (x : RunLooked m w n) where
    values : (vs : List Value) × (packed m w ≡ Values vs) × (many c ≡ length vs) × (values_from (many c) (left c) 0 ≡ vs)
    values = go (packed m w) refl
      where
        go : (y : Packed) → packed m w ≡ y → (vs : List Value) × (packed m w ≡ Values vs) × (many c ≡ length vs) × (values_from (many c) (left c) 0 ≡ vs)
        go (Values vs) h =
            let e = read_as c ∙ read_fits m w t (opens m w t g) vs h (fits m w t g vs h) in
            let a : many c ≡ length vs = ap (λ (o : Outcome). (run_count_told o.answer).value) e in
            (vs, h, a, rw (a, ap (λ (o : Outcome). o.table) e) (values-records vs (drop (record_words * length vs) t)))
        go (Refused r) h =
            let e = read_as c ∙ read-refused m w t (opens m w t g) r h in
            absurd (omega (arith, (wrong m w r h).0, ap (λ (o : Outcome). (run_count_told o.answer).number) e, z))

    looked : x.answer ≡ numbered values.0 n
    looked =
        x.allowed ∙ rw (x.run, x.wire, x.number) (value-open m w n (opens m w t g))
        ∙ ap (λ (y : Packed). numbered_of y n) values.1

    -- the value at a number is that of the record there ..
    pub run-value-record : x.answer ≡ numbered (values_from (many c) (left c) 0) n
    run-value-record = looked ∙ ap (λ (vs : List Value). numbered vs n) (sym values.3)

    -- .. and there is one exactly below the count
    pub run-value-found : n < many c → (v : Value) × (x.answer ≡ value.Found v)
    run-value-found h = let y = (numbered-there values.0 n).0 (omega (arith, values.2)) in (y.0, looked ∙ y.1)

    pub run-value-absent : many c ≤ n → x.answer ≡ value.Absent
    run-value-absent h = looked ∙ (numbered-there values.0 n).1 (omega (arith, values.2))
