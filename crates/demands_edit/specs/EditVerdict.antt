-- The first demand for edits, over every outcome: which number is told, exactly, and that a refusal leaves room and table as they were.
use Rattle.std.specs.Prelude.{ℕ, zero, suc, ◌+◌, ◌^◌, ◌≤◌, ◌<◌, ◌≡◌, refl, Bool, true, false, not, List, [], ◌∷◌, ◌++◌, ltb, leb, eqb, length}
use Rattle.std.proofs.Common.{ap, ◌∙◌, sym, subst, arith, leb-true, leb-false, ltb-true, ltb-false, le-leb, eqb-true}
use Rattle.std.proofs.lemmas.Bool.{lt-leb, eqb-false}
use Rattle.wire.specs.Choose.{choose}
use Rattle.wire.specs.Limits.{message_limit}
use Rattle.wire.specs.Numbers.{number_of}
use Rattle.wire.specs.Table.{room, record_at}
use Rattle.wire.specs.declared.Record.{Record}
use Rattle.wire.specs.declared.Refusal.{Refusal}
use Rattle.wire.specs.declared.Refusal.TheVariants.{NoRoom, BadRecord}
use Rattle.wire.specs.declared.Inserted.{Inserted}
use Rattle.write_record.specs.Taken.{record_in, record-there}
use Rattle.write_record.specs.Records.{Verdict, AllFine, First, checked}
use Rattle.write_insertion.specs.Insertion.{Insertion}
use Rattle.entry_answer.specs.Told as told
use Rattle.entry_answer.specs.Told.{inserted_told}
use Rattle.edit_live.specs.Spans.{span_in, meets_any, first_where, keyed_at, total}
use Rattle.edit_live.specs.SpanLaws.{first_some, first-here, first_on, first-most}
use Rattle.edit.specs.Edits.{Edit, and_at, vetted, at_index, replaceable, insertable, removes, remove_record, replaces, replace_payload}
use Rattle.edit.specs.Edits.{insert_payload}
use Rattle.edit.proofs.EditLaws.{vetted-count, index-first, index-past, index-fine, replace-first, replace-other, replace-full, replace-fine, insert-first}
use Rattle.edit.proofs.EditLaws.{insert-full}
use Rattle.edit.specs.EditLaws.{remove_first, remove-done, replace-refused, replace-done, insert-refused}
use Rattle.edit.proofs.EditLaws.{insert-rows, inserted-fits}
use Rattle.edit.proofs.remove_record.Kinds as remove
use Rattle.edit.proofs.remove_record.Reads as remove-reads
use Rattle.edit.proofs.replace_payload.Kinds as replace
use Rattle.edit.proofs.replace_payload.Reads as replace-reads
use Rattle.edit.proofs.insert_payload.Kinds as insert
use Rattle.edit.proofs.insert_payload.Reads as insert-reads
use Rattle.c_words.specs.Words.{Lent, Copied, as_number}
use Rattle.capgauze_c.proofs.capgauze_remove_record.Kinds as c-remove
use Rattle.capgauze_c.proofs.capgauze_remove_record.Reads as c-remove-reads
use Rattle.capgauze_c.proofs.capgauze_replace_payload.Kinds as c-replace
use Rattle.capgauze_c.proofs.capgauze_replace_payload.Reads as c-replace-reads
use Rattle.capgauze_c.proofs.capgauze_insert_payload.Kinds as c-insert
use Rattle.capgauze_c.proofs.capgauze_insert_payload.Reads as c-insert-reads
use Rattle.demands_order.specs.Calls.{Every}
use Rattle.demands_order.specs.Order.{Rule, when, first_of, or_else, refused-first, Numbered}
use Rattle.demands_order.specs.RulesLaws.{behind, verdict_number}
use Rattle.demands_order.proofs.RulesLaws.{order-t}
use Rattle.demands_order.specs.Verdicts.{by_order}
use Rattle.demands_edit.specs.Copies.{Copy, vetted-copy}
use Rattle.demands_edit.specs.Edited.{total-fits}
use Rattle.demands_edit.specs.EditKeeps.{insert-outcome, insert-bad-tag}
use Rattle.demands_edit.specs.EditRules.{flagged, order_e, index_rule, full_rule, remove_record_order, replace_payload_order, insert_payload_order}

-- ---- tests at an index, flat

flag-told : (c : ℕ) (p : ℕ → Bool) → choose (leb c (first_where c p)) 0 (number_of BadRecord) ≡ first_of (flagged c p)
unfolding first_where
flag-told zero p = refl
flag-told (suc c) p = go (flag-told c p) (leb c (first_where c p)) refl (p c) refl
  where
    go : choose (leb c (first_where c p)) 0 (number_of BadRecord) ≡ first_of (flagged c p) → (a : Bool) → leb c (first_where c p) ≡ a → (b : Bool) → p c ≡ b
        → choose (leb (suc c) (first_where (suc c) p)) 0 (number_of BadRecord) ≡ first_of (flagged (suc c) p)
    go ih true a true b =
        let e : first_where c p ≡ c = omega (arith, leb-true c (first_where c p) a, first-most p c) in
        let n : first_where (suc c) p ≡ c = first-here p c e b in
        rw (n, lt-leb (suc c) c (omega arith)) (behind (flagged c p) (when (p c) BadRecord ∷ []) (rw a at ih) (rw b))
    go ih true a false b =
        let e : first_where c p ≡ c = omega (arith, leb-true c (first_where c p) a, first-most p c) in
        let n : first_where (suc c) p ≡ suc c = first_on p c e b in
        rw (n, le-leb (suc c) (suc c) (omega arith)) (behind (flagged c p) (when (p c) BadRecord ∷ []) (rw a at ih) (rw b))
    go ih false a b q =
        let l = leb-false c (first_where c p) a in
        let n : first_where (suc c) p ≡ first_where c p = first_some p c l in
        rw (n, lt-leb (suc c) (first_where c p) (omega arith)) (behind (flagged c p) (when (p c) BadRecord ∷ []) (rw a at ih) refl)

at-number : (v : Verdict) (b : Bool) (i : ℕ) → verdict_number (and_at v b i) ≡ or_else (verdict_number v) (choose b 0 (number_of BadRecord))
at-number AllFine true i = refl
at-number AllFine false i = refl
at-number (First why j) b i = sym (refused-first why _)

or_assoc : (v : Verdict) (m n : ℕ) → or_else (or_else (verdict_number v) m) n ≡ or_else (verdict_number v) (or_else m n)
or_assoc AllFine m n = refl
or_assoc (First why j) m n = rw (refused-first why m, refused-first why n, refused-first why (or_else m n))

-- the tests of every edit, and what comes behind them
order-e : (s t : List ℕ) (c : ℕ) (rest : List Rule) → or_else (verdict_number (vetted s t c)) (first_of rest) ≡ first_of (order_e s t c rest)
unfolding vetted
order-e s t c rest =
    let p : ℕ → Bool = λ j. meets_any j (span_in (length s) t c) (span_in (length s) t c j) in
    let v = checked message_limit s t c in
    let a = choose (leb c (first_where c p)) 0 (number_of BadRecord) in
    let b = choose (leb c (first_where c (keyed_at t))) 0 (number_of BadRecord) in
    let e : verdict_number (vetted s t c) ≡ or_else (verdict_number v) (or_else a b) =
    at-number (and_at v (leb c (first_where c p)) (first_where c p)) (leb c (first_where c (keyed_at t))) (first_where c (keyed_at t))
    ∙ ap (λ (x : ℕ). or_else x b) (at-number v (leb c (first_where c p)) (first_where c p)) ∙ or_assoc v a b in
    ap (λ (x : ℕ). or_else x (first_of rest)) e ∙ or_assoc v (or_else a b) (first_of rest) ∙ ap (or_else (verdict_number v))
    (flat (leb c (first_where c p)) b (first_of rest))
    ∙ order-t s t c (or_else a (or_else b (first_of rest))) (flagged c p ++ (flagged c (keyed_at t) ++ rest))
    (behind (flagged c p) (flagged c (keyed_at t) ++ rest) (flag-told c p) (behind (flagged c (keyed_at t)) rest (flag-told c (keyed_at t)) refl))
  where
    flat : (a : Bool) (b n : ℕ) → or_else (or_else (choose a 0 (number_of BadRecord)) b) n ≡ or_else (choose a 0 (number_of BadRecord)) (or_else b n)
    flat true b n = refl
    flat false b n = refl

-- ---- what each entry tells, by its definition

abbrev number_told : Inserted → ℕ
number_told o = (inserted_told o).number

first-number : (s t : List ℕ) (c : ℕ) (why : Refusal) (i : ℕ) (rest : List Rule) → vetted s t c ≡ First why i → number_of why ≡ first_of (order_e s t c rest)
first-number s t c why i rest e = sym (ap (λ (v : Verdict). or_else (verdict_number v) (first_of rest)) e ∙ refused-first why (first_of rest)) ∙ order-e s t c rest

fine-number : (s t : List ℕ) (c n : ℕ) (rest : List Rule) → vetted s t c ≡ AllFine → n ≡ first_of rest → n ≡ first_of (order_e s t c rest)
fine-number s t c n rest e h = h ∙ ap (λ (v : Verdict). or_else (verdict_number v) (first_of rest)) (sym e) ∙ order-e s t c rest

pub remove-order : (s t : List ℕ) (c i : ℕ) → number_told (remove_record s t c i).answer ≡ first_of (remove_record_order s t c i)
remove-order s t c i = go (vetted s t c) refl (ltb i c) refl
  where
    go : (v : Verdict) → vetted s t c ≡ v → (b : Bool) → ltb i c ≡ b → number_told (remove_record s t c i).answer ≡ first_of (remove_record_order s t c i)
    go (First why j) v b q =
        ap (λ (o : Insertion). number_told o.answer) (sym (remove_first s t c i why j (index-first s t c i why j v))) ∙ first-number s t c why j
        (index_rule c i ∷ []) v
    go AllFine v true b =
        let h = ltb-true i c b in
        ap (λ (o : Insertion). number_told o.answer) (sym (remove-done s t c i (index-fine s t c i v h) refl))
        ∙ fine-number s t c 0 (index_rule c i ∷ []) v (rw (lt-leb c i h))
    go AllFine v false b =
        let h = ltb-false i c b in
        ap (λ (o : Insertion). number_told o.answer) (sym (remove_first s t c i BadRecord i (index-past s t c i v h)))
        ∙ fine-number s t c (number_of BadRecord) (index_rule c i ∷ []) v (rw (le-leb c i h))

module _ (s t : List ℕ) (c i : ℕ) (b : List ℕ) where
  abbrev rest : List Rule
  rest = index_rule c i ∷ when (not (eqb (record_at t i).kind 1)) BadRecord ∷ full_rule s t c i (length b) ∷ []

  refused-number : (why : Refusal) (j : ℕ) → replaceable s t c i (length b) ≡ First why j → number_told (replace_payload s t c i b).answer ≡ number_of why
  refused-number why j e = ap (λ (o : Edit). number_told o.answer) (sym (replace-refused s t c i b why j e))

  pub replace-order : number_told (replace_payload s t c i b).answer ≡ first_of (replace_payload_order s t c i (length b))
  replace-order = go (vetted s t c) refl (ltb i c) refl
    where
      kinds : vetted s t c ≡ AllFine → i < c → (k : Bool) → eqb (record_at t i).kind 1 ≡ k → (f : Bool)
          → ltb (length s) (total c (span_in (length s) t i) + length b) ≡ f → number_told (replace_payload s t c i b).answer ≡ first_of (order_e s t c rest)
      kinds v h k e f d = case k e f d
        where
          a : at_index s t c i ≡ AllFine
          a = index-fine s t c i v h

          same : (record_in t i).kind ≡ (record_at t i).kind
          same = ap (λ (r : Record). r.kind) (record-there t i (omega (arith, vetted-count s t c v)))

          under : total c (span_in (length s) t i) ≤ length s
          under = total-fits (vetted-copy s t c v) i

          case : (k : Bool) → eqb (record_at t i).kind 1 ≡ k → (f : Bool) → ltb (length s) (total c (span_in (length s) t i) + length b) ≡ f
              → number_told (replace_payload s t c i b).answer ≡ first_of (order_e s t c rest)
          case false e f d =
              refused-number BadRecord i (replace-other s t c i (length b) a (λ z. eqb-false (record_at t i).kind 1 e (sym same ∙ z)))
              ∙ fine-number s t c (number_of BadRecord) rest v (rw (lt-leb c i h, e))
          case true e true d =
              let g = ltb-true (length s) (total c (span_in (length s) t i) + length b) d in
              refused-number NoRoom 0 (replace-full s t c i (length b) a (same ∙ eqb-true (record_at t i).kind 1 e) (omega (arith, under)))
              ∙ fine-number s t c (number_of NoRoom) rest v (rw (lt-leb c i h, e, d))
          case true e false d =
              let g = ltb-false (length s) (total c (span_in (length s) t i) + length b) d in
              let q = replace-fine s t c i (length b) a (same ∙ eqb-true (record_at t i).kind 1 e) (omega (arith, under)) in
              ap (λ (o : Edit). number_told o.answer) (sym (replace-done s t c i b q refl refl)) ∙ fine-number s t c 0 rest v (rw (lt-leb c i h, e, d))

      go : (v : Verdict) → vetted s t c ≡ v → (k : Bool) → ltb i c ≡ k → number_told (replace_payload s t c i b).answer ≡ first_of (order_e s t c rest)
      go (First why j) v k q = refused-number why j (replace-first s t c i (length b) why j (index-first s t c i why j v)) ∙ first-number s t c why j rest v
      go AllFine v false k =
          let h = ltb-false i c k in
          refused-number BadRecord i (replace-first s t c i (length b) BadRecord i (index-past s t c i v h))
          ∙ fine-number s t c (number_of BadRecord) rest v (rw (le-leb c i h))
      go AllFine v true k =
          kinds v (ltb-true i c k) (eqb (record_at t i).kind 1) refl (ltb (length s) (total c (span_in (length s) t i) + length b)) refl

module _ (s t : List ℕ) (c tag : ℕ) (b : List ℕ) where
  abbrev put : List Rule
  put = full_rule s t c c (length b) ∷ when (leb (room t) c) NoRoom ∷ when (leb (2 ^ 32) tag) BadRecord ∷ []

  no_number : insertable s t c (length b) ≡ First NoRoom 0 → number_told (insert_payload s t c tag b).answer ≡ number_of NoRoom
  no_number e = ap (λ (o : Edit). number_told o.answer) (sym (insert-refused s t c tag b NoRoom 0 e))

  pub insert-order : number_told (insert_payload s t c tag b).answer ≡ first_of (insert_payload_order s t c tag (length b))
  insert-order = go (vetted s t c) refl
    where
      fits : (v : vetted s t c ≡ AllFine) → (f : Bool) → ltb (length s) (total c (span_in (length s) t c) + length b) ≡ f → (g : Bool) → leb (room t) c ≡ g
          → (h : Bool) → leb (2 ^ 32) tag ≡ h → number_told (insert_payload s t c tag b).answer ≡ first_of (order_e s t c put)
      fits v f d g e h q = case f d g e h q
        where
          w : Copy s t c
          w = vetted-copy s t c v

          under : total c (span_in (length s) t c) ≤ length s
          under = total-fits w c

          case : (f : Bool) → ltb (length s) (total c (span_in (length s) t c) + length b) ≡ f → (g : Bool) → leb (room t) c ≡ g
              → (h : Bool) → leb (2 ^ 32) tag ≡ h → number_told (insert_payload s t c tag b).answer ≡ first_of (order_e s t c put)
          case true d g e h q =
              let x = ltb-true (length s) (total c (span_in (length s) t c) + length b) d in
              no_number (insert-full s t c (length b) v (omega (arith, under))) ∙ fine-number s t c (number_of NoRoom) put v (rw d)
          case false d true e h q =
              let x = ltb-false (length s) (total c (span_in (length s) t c) + length b) d in
              no_number (insert-rows s t c (length b) v (omega (arith, under)) (leb-true (room t) c e)) ∙ fine-number s t c (number_of NoRoom) put v (rw (d, e))
          case false d false e true q =
              let x = ltb-false (length s) (total c (span_in (length s) t c) + length b) d in
              ap (λ (o : Edit). number_told o.answer) (insert-bad-tag w tag b (omega (arith, under)) (leb-false (room t) c e) (leb-true (2 ^ 32) tag q))
              ∙ fine-number s t c (number_of BadRecord) put v (rw (d, e, q))
          case false d false e false q =
              let x = ltb-false (length s) (total c (span_in (length s) t c) + length b) d in
              ap (λ (o : Edit). number_told o.answer) (insert-outcome w tag b (omega (arith, under)) (leb-false (room t) c e) (leb-false (2 ^ 32) tag q))
              ∙ fine-number s t c 0 put v (rw (d, e, q))

      go : (v : Verdict) → vetted s t c ≡ v → number_told (insert_payload s t c tag b).answer ≡ first_of (order_e s t c put)
      go (First why j) v =
          ap (λ (o : Edit). number_told o.answer) (sym (insert-refused s t c tag b why j (insert-first s t c (length b) why j v)))
          ∙ first-number s t c why j put v
      go AllFine v = fits v (ltb (length s) (total c (span_in (length s) t c) + length b)) refl (leb (room t) c) refl (leb (2 ^ 32) tag) refl

-- ---- OVER EVERY OUTCOME: the number

pub remove-record-number : Numbered 2 remove.ps remove.r remove-reads.Post (λ κs x. (inserted_told x).number)
    (λ κs a. remove_record_order a.0.now a.1.0.now a.1.1.0 a.1.1.1.0)
remove-record-number κs a x s p =
    by_order (λ (o : Insertion). (inserted_told o.answer).number) p (remove-order a.0.now a.1.0.now a.1.1.0 a.1.1.1.0)

pub replace-payload-number : Numbered 3 replace.ps replace.r replace-reads.Post (λ κs x. (inserted_told x).number)
    (λ κs a. replace_payload_order a.0.now a.1.0.now a.1.1.0 a.1.1.1.0 (length a.1.1.1.1.0.now))
replace-payload-number κs a x s p =
    by_order (λ (o : Edit). (inserted_told o.answer).number) p
    (replace-order a.0.now a.1.0.now a.1.1.0 a.1.1.1.0 a.1.1.1.1.0.now)

pub insert-payload-number : Numbered 3 insert.ps insert.r insert-reads.Post (λ κs x. (inserted_told x).number)
    (λ κs a. insert_payload_order a.0.now a.1.0.now a.1.1.0 a.1.1.1.0 (length a.1.1.1.1.0.now))
insert-payload-number κs a x s p =
    by_order (λ (o : Edit). (inserted_told o.answer).number) p
    (insert-order a.0.now a.1.0.now a.1.1.0 a.1.1.1.0 a.1.1.1.1.0.now)

-- ---- A REFUSAL LEAVES ROOM AND TABLE

-- what was lent, where the number is not 0
abbrev pub Left : ℕ → List ℕ → List ℕ → Type 0
Left n l k = (n ≡ 0 → ⊥) → k ≡ l

abbrev pub Leaves : List ℕ → List ℕ → Edit → Type 0
Leaves s t o = Left (number_told o.answer) s o.room × Left (number_told o.answer) t o.table

remove-leaves : (s t : List ℕ) (c i : ℕ) → Left (number_told (remove_record s t c i).answer) t (remove_record s t c i).table
unfolding remove_record
remove-leaves s t c i = go (at_index s t c i)
  where
    go : (v : Verdict) → Left (number_told (removes t c i v).answer) t (removes t c i v).table
    go AllFine z = absurd (z refl)
    go (First why j) z = refl

replace-leaves : (s t : List ℕ) (c i : ℕ) (b : List ℕ) → Leaves s t (replace_payload s t c i b)
unfolding replace_payload
replace-leaves s t c i b = go (replaceable s t c i (length b))
  where
    go : (v : Verdict) → Leaves s t (replaces s t c i b v)
    go AllFine = (λ z. absurd (z refl), λ z. absurd (z refl))
    go (First why j) = (λ z. refl, λ z. refl)

insert-leaves : (s t : List ℕ) (c tag : ℕ) (b : List ℕ) → tag < 2 ^ 32 → Leaves s t (insert_payload s t c tag b)
insert-leaves s t c tag b small = go (insertable s t c (length b)) refl
  where
    go : (v : Verdict) → insertable s t c (length b) ≡ v → Leaves s t (insert_payload s t c tag b)
    go (First why j) v = rw (← insert-refused s t c tag b why j v) (λ z. refl, λ z. refl)
    go AllFine v =
        let y = inserted-fits s t c (length b) v in
        let e : number_told (insert_payload s t c tag b).answer ≡ 0 =
        ap (λ (o : Edit). number_told o.answer) (insert-outcome (vetted-copy s t c y.fine) tag b y.bytes y.row small) in
        (λ z. absurd (z e), λ z. absurd (z e))

pub remove-record-frame : Every 2 remove.ps remove.r remove-reads.Post (λ κs a x s. Left (inserted_told x).number a.1.0.now s.1.0.now)
remove-record-frame κs a x s p =
    subst (λ (o : Insertion). Left (number_told o.answer) a.1.0.now o.table) (sym p)
    (remove-leaves a.0.now a.1.0.now a.1.1.0 a.1.1.1.0)

pub replace-payload-frame : Every 3 replace.ps replace.r replace-reads.Post
    (λ κs a x s. Leaves a.0.now a.1.0.now (record { answer = x; room = s.0.now; table = s.1.0.now }))
replace-payload-frame κs a x s p =
    subst (Leaves a.0.now a.1.0.now) (sym p)
    (replace-leaves a.0.now a.1.0.now a.1.1.0 a.1.1.1.0 a.1.1.1.1.0.now)

pub insert-payload-frame : Every 3 insert.ps insert.r insert-reads.Post
    (λ κs a x s. a.1.1.1.0 < 2 ^ 32 → Leaves a.0.now a.1.0.now (record { answer = x; room = s.0.now; table = s.1.0.now }))
insert-payload-frame κs a x s p small =
    subst (Leaves a.0.now a.1.0.now) (sym p)
    (insert-leaves a.0.now a.1.0.now a.1.1.0 a.1.1.1.0 a.1.1.1.1.0.now small)

-- ---- THE SAME FOR C

pub c-remove-record-number : Numbered 2 c-remove.ps c-remove.r c-remove-reads.Post (λ κs x. x.number)
    (λ κs a. remove_record_order a.0.now a.1.0.now a.1.1.0 a.1.1.1.0)
c-remove-record-number κs a x s p =
    by_order (λ (o : Lent told.Number). o.told.number) p (remove-order a.0.now a.1.0.now a.1.1.0 a.1.1.1.0)

pub c-replace-payload-number : Numbered 3 c-replace.ps c-replace.r c-replace-reads.Post (λ κs x. x.number)
    (λ κs a. replace_payload_order a.0.now a.1.0.now a.1.1.0 a.1.1.1.0 (length a.1.1.1.1.0.now))
c-replace-payload-number κs a x s p =
    by_order (λ (o : Copied). o.told.number) p
    (replace-order a.0.now a.1.0.now a.1.1.0 a.1.1.1.0 a.1.1.1.1.0.now)

pub c-insert-payload-number : Numbered 3 c-insert.ps c-insert.r c-insert-reads.Post (λ κs x. x.number)
    (λ κs a. insert_payload_order a.0.now a.1.0.now a.1.1.0 a.1.1.1.0 (length a.1.1.1.1.0.now))
c-insert-payload-number κs a x s p =
    by_order (λ (o : Copied). o.told.number) p
    (insert-order a.0.now a.1.0.now a.1.1.0 a.1.1.1.0 a.1.1.1.1.0.now)

-- what is lent to C
abbrev pub LeavesC : List ℕ → List ℕ → Copied → Type 0
LeavesC s t o = Left o.told.number s o.room × Left o.told.number t o.table

pub c-remove-record-frame : Every 2 c-remove.ps c-remove.r c-remove-reads.Post (λ κs a x s. Left x.number a.1.0.now s.1.0.now)
c-remove-record-frame κs a x s p =
    subst (λ (o : Lent told.Number). Left o.told.number a.1.0.now o.lent) (sym p)
    (remove-leaves a.0.now a.1.0.now a.1.1.0 a.1.1.1.0)

pub c-replace-payload-frame : Every 3 c-replace.ps c-replace.r c-replace-reads.Post
    (λ κs a x s. LeavesC a.0.now a.1.0.now (record { told = as_number x; room = s.0.now; table = s.1.0.now }))
c-replace-payload-frame κs a x s p =
    subst (LeavesC a.0.now a.1.0.now) (sym p)
    (replace-leaves a.0.now a.1.0.now a.1.1.0 a.1.1.1.0 a.1.1.1.1.0.now)

pub c-insert-payload-frame : Every 3 c-insert.ps c-insert.r c-insert-reads.Post
    (λ κs a x s. a.1.1.1.0 < 2 ^ 32 → LeavesC a.0.now a.1.0.now (record { told = as_number x; room = s.0.now; table = s.1.0.now }))
c-insert-payload-frame κs a x s p small =
    subst (LeavesC a.0.now a.1.0.now) (sym p)
    (insert-leaves a.0.now a.1.0.now a.1.1.0 a.1.1.1.0 a.1.1.1.1.0.now small)
