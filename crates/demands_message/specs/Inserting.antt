-- Insertion as a list of fields (rules I1 and I2): the new field stands behind all of an equal or lower tag and before all of a higher one, the others
-- are as they were, and a table that passed every test passes every test again. Over the definition that the contract of `insert` cites.
use Rattle.std.specs.Prelude.{ℕ, zero, suc, ◌+◌, ◌-◌, ◌*◌, ◌≤◌, ◌<◌, ◌≡◌, refl, Bool, true, false, List, [], ◌∷◌, ◌++◌, leb, length, take, drop, set}
use Rattle.std.proofs.Math.Path.{ap}
use Rattle.std.proofs.Common.{◌∙◌, sym, add-zero, leb-true, leb-false, length-set, length-append, get_or-set_same, get_or-set_other, get_or-append-add, get_or-take, get_or-drop}
use native.Mathlib.Omega.{arith}
use Rattle.std.proofs.Math.ListN.{get_or}
use Rattle.std.proofs.lemmas.List.Edits.{sets, sets-eq}
use contract.Lifetimes.{Lfts}
use borrow.Fn.Kinds.{Dens, res_t, ended_of}
use denote.Triple.Clauses.{AtExit}
use Rattle.wire.specs.Limits.{message_limit, record_words}
use Rattle.wire.specs.Places.{part}
use Rattle.wire.specs.Table.{stamped, words, room, record_at, field_in, fields_from, good}
use Rattle.write_record.specs.Records.{tag_before, judge, Fine, AllFine, tested, checked}
use Rattle.write_record.specs.RecordLaws.{judge-good, judge-fine, fine-at}
use Rattle.write_insertion.specs.Insertion.{spot, aim, Insertion, inserted, inserts}
use Rattle.write_insertion.specs.InsertionLaws.{spot-inside, aim-puts, inserts-puts}
use Rattle.write_message.specs.WritingLaws.{checked-fine}
use Rattle.wire.specs.declared.NewRecord.{NewRecord}
use Rattle.wire.specs.declared.Record.{Record}
use Rattle.wire.specs.declared.Inserted.TheVariants.{Count}
use Rattle.place.specs.Place.{length_part}
use Rattle.entry_answer.specs.Told.{inserted_told}
use Rattle.entry_write.proofs.insert.Kinds as insert
use Rattle.entry_write.proofs.insert.Reads as insert-reads

-- ---- what a run of stores leaves: before it, and in it

pub stays : (t : List ℕ) (q : ℕ) (xs : List ℕ) (p : ℕ) → p < q → get_or (sets t q xs) p 0 ≡ get_or t p 0
stays t q [] p h = refl
stays t q (x ∷ xs) p h = stays (set t q x) (suc q) xs p (omega arith) ∙ get_or-set_other t q p x 0 (λ e. omega arith)

pub holds : (t : List ℕ) (q : ℕ) (xs : List ℕ) (j : ℕ) → j < length xs → q + j < length t → get_or (sets t q xs) (q + j) 0 ≡ get_or xs j 0
holds t q [] j h g = absurd (omega arith)
holds t q (x ∷ xs) zero h g =
    rw (add-zero q) (stays (set t q x) (suc q) xs q (omega arith) ∙ get_or-set_same t q x 0 (omega arith))
holds t q (x ∷ xs) (suc j) h g =
    let e : q + suc j ≡ suc q + j = omega arith in
    rw e (holds (set t q x) (suc q) xs j (omega arith) (rw (length-set t q x) (omega arith)))

pub same-record : (t u : List ℕ) (i j : ℕ) → ((k : ℕ) → k < record_words → get_or t (record_words * i + k) 0 ≡ get_or u (record_words * j + k) 0)
    → record_at t i ≡ record_at u j
unfolding record_at
same-record t u i j h =
    let a : record_words * i ≡ record_words * i + 0 = omega arith in
    let b : record_words * j + 0 ≡ record_words * j = omega arith in
    let e : get_or t (record_words * i) 0 ≡ get_or u (record_words * j) 0 = ap (λ (n : ℕ). get_or t n 0) a ∙ h 0 (omega arith) ∙ ap (λ (n : ℕ). get_or u n 0) b in
    rw (e, h 1 (omega arith), h 2 (omega arith), h 3 (omega arith), h 4 (omega arith))

-- ---- the records after an insertion at p

module _ (t : List ℕ) (c : ℕ) (r : Record) (p : ℕ) (inside : p ≤ c) (fits : record_words * c + record_words ≤ length t) where
  abbrev moved : List ℕ
  moved = words r ++ part t (record_words * p) (record_words * c)

  sized : length moved ≡ record_words + (record_words * c - record_words * p)
  sized =
      length-append (words r) (part t (record_words * p) (record_words * c))
      ∙ ap (λ (n : ℕ). record_words + n) (length_part t (record_words * p) (record_words * c - record_words * p) (omega arith))

  pub stored : inserted t c r p ≡ sets t (record_words * p) moved
  stored =
      let e : record_words * p + length moved ≡ record_words * (c + 1) = omega (arith, sized) in
      sym (sets-eq moved t (record_words * p) (omega (arith, sized)) ∙ ap (λ (n : ℕ). take (record_words * p) t ++ moved ++ drop n t) e)

  pub before-spot : (i : ℕ) → i < p → record_at (inserted t c r p) i ≡ record_at t i
  before-spot i h = rw stored (same-record (sets t (record_words * p) moved) t i i (λ k g. stays t (record_words * p) moved (record_words * i + k) (omega arith)))

  pub behind-spot : (i : ℕ) → p ≤ i → i < c → record_at (inserted t c r p) (suc i) ≡ record_at t i
  behind-spot i h g = rw stored (same-record (sets t (record_words * p) moved) t (suc i) i (λ k l. word k l))
    where
      word : (k : ℕ) → k < record_words → get_or (sets t (record_words * p) moved) (record_words * suc i + k) 0 ≡ get_or t (record_words * i + k) 0
      word k l =
          let a : record_words * suc i + k ≡ record_words * p + (record_words + (record_words * i - record_words * p + k)) = omega arith in
          let b : record_words * p + (record_words * i - record_words * p + k) ≡ record_words * i + k = omega arith in
          rw a
          (holds t (record_words * p) moved (record_words + (record_words * i - record_words * p + k)) (omega (arith, sized)) (omega arith)
          ∙ get_or-append-add (words r) (part t (record_words * p) (record_words * c)) (record_words * i - record_words * p + k) 0
          ∙ get_or-take (record_words * c - record_words * p) (drop (record_words * p) t) (record_words * i - record_words * p + k) 0 (omega arith)
          ∙ get_or-drop (record_words * p) t (record_words * i - record_words * p + k) 0
          ∙ ap (λ (n : ℕ). get_or t n 0) b)

  pub at-spot : record_at (inserted t c r p) p ≡ r
  unfolding record_at
  at-spot =
      let h : (k : ℕ) → k < record_words → get_or (sets t (record_words * p) moved) (record_words * p + k) 0 ≡ get_or moved k 0 =
      λ k l. holds t (record_words * p) moved k (omega (arith, sized)) (omega arith) in
      let z : record_words * p ≡ record_words * p + 0 = omega arith in
      let e : get_or (sets t (record_words * p) moved) (record_words * p) 0 ≡ r.tag =
      ap (λ (n : ℕ). get_or (sets t (record_words * p) moved) n 0) z ∙ h 0 (omega arith) in
      rw (stored, e, h 1 (omega arith), h 2 (omega arith), h 3 (omega arith), h 4 (omega arith))

  -- THE FIELDS: those before, the new one, those behind
  fields-same : (u : List ℕ) (k i j : ℕ) → ((x : ℕ) → x < k → record_at u (i + x) ≡ record_at t (j + x)) → fields_from k u i ≡ fields_from k t j
  fields-same u zero i j h = refl
  fields-same u (suc k) i j h =
      let a : i + 0 ≡ i = omega arith in
      let b : j + 0 ≡ j = omega arith in
      let e : record_at u i ≡ record_at t j = ap (record_at u) (sym a) ∙ h 0 (omega arith) ∙ ap (record_at t) b in
      let ih = fields-same u k (suc i) (suc j)
      (λ x g.
      let m : suc i + x ≡ i + suc x = omega arith in
      let n : j + suc x ≡ suc j + x = omega arith in
      ap (record_at u) m ∙ h (suc x) (omega arith) ∙ ap (record_at t) n) in
      rw (e, ih)

  fields_split : (u : List ℕ) (k m i : ℕ) → fields_from (k + m) u i ≡ fields_from k u i ++ fields_from m u (k + i)
  fields_split u zero m i =
      let e : 0 + m ≡ m = omega arith in
      let f : 0 + i ≡ i = omega arith in
      rw (e, f)
  fields_split u (suc k) m i =
      let a : suc k + m ≡ suc (k + m) = omega arith in
      let e : k + suc i ≡ suc k + i = omega arith in
      rw (a, fields_split u k m (suc i), e)

  pub inserted-fields : fields_from (suc c) (inserted t c r p) 0 ≡ fields_from p t 0 ++ field_in r ∷ fields_from (c - p) t p
  inserted-fields =
      let u = inserted t c r p in
      let n : suc c ≡ p + suc (c - p) = omega arith in
      let z : p + 0 ≡ p = omega arith in
      let front = fields-same u p 0 0 (λ x g. let y : 0 + x ≡ x = omega arith in rw y (before-spot x g)) in
      let behind = fields-same u (c - p) (suc p) p
      (λ x g. let y : suc p + x ≡ suc (p + x) = omega arith in rw y (behind-spot (p + x) (omega arith) (omega arith))) in
      ap (λ (k : ℕ). fields_from k u 0) n ∙ fields_split u p (suc (c - p)) 0 ∙ rw (z, front, at-spot, behind)

-- ---- WHICH STAND BEFORE AND WHICH BEHIND

-- the tags of a table that passed its tests do not fall
rises : (c n : ℕ) (t : List ℕ) → tested c n t ≡ AllFine → (i d : ℕ) → i + d < c → (record_at t i).tag ≤ (record_at t (i + d)).tag
rises c n t f i zero h = let e : i + 0 ≡ i = omega arith in rw e (omega arith)
rises c n t f i (suc d) h =
    let e : i + suc d ≡ suc (i + d) = omega arith in
    let a = rises c n t f i d (omega arith) in
    let b = (judge-fine n (record_at t (i + d)).tag (record_at t (suc (i + d))) (fine-at n t c (suc (i + d)) (omega arith) f)).1 in
    rw e (omega (arith, a, b))

pub lower-before : (c n : ℕ) (t : List ℕ) (tag : ℕ) → tested c n t ≡ AllFine → (i : ℕ) → i < spot c t tag → (record_at t i).tag ≤ tag
lower-before c n t tag f i h = go c (omega arith) h
  where
    go : (k : ℕ) → k ≤ c → i < spot k t tag → (record_at t i).tag ≤ tag
    go zero g j = absurd (omega arith)
    go (suc k) g j = step (go k (omega arith)) (leb (record_at t k).tag tag) refl
      where
        step : (i < spot k t tag → (record_at t i).tag ≤ tag) → (b : Bool) → leb (record_at t k).tag tag ≡ b → (record_at t i).tag ≤ tag
        step ih true b =
            let x : i < suc k = rw b at j in
            let e : i + (k - i) ≡ k = omega arith in
            let y = rises c n t f i (k - i) (omega arith) in
            omega (arith, leb-true (record_at t k).tag tag b, ap (λ (x : ℕ). (record_at t x).tag) e, y)
        step ih false b = ih (rw b at j)

pub higher-behind : (c : ℕ) (t : List ℕ) (tag : ℕ) (i : ℕ) → spot c t tag ≤ i → i < c → tag < (record_at t i).tag
higher-behind zero t tag i h g = absurd (omega arith)
higher-behind (suc c) t tag i h g = step (higher-behind c t tag i) (leb (record_at t c).tag tag) refl
  where
    step : (spot c t tag ≤ i → i < c → tag < (record_at t i).tag) → (b : Bool) → leb (record_at t c).tag tag ≡ b → tag < (record_at t i).tag
    step ih true b = let x : suc c ≤ i = rw b at h in absurd (omega arith)
    step ih false b = last ih (leb c i) refl
      where
        last : (spot c t tag ≤ i → i < c → tag < (record_at t i).tag) → (d : Bool) → leb c i ≡ d → tag < (record_at t i).tag
        last ih true d =
            let e : i ≡ c = omega (arith, leb-true c i d) in
            rw e (leb-false (record_at t c).tag tag b)
        last ih false d = ih (rw b at h) (leb-false c i d)

-- ---- A GOOD TABLE STAYS GOOD: all its records, one more, pass every test

module _ (n : ℕ) (t : List ℕ) (c : ℕ) (r : Record) (f : tested c n t ≡ AllFine) (g : good n r ≡ true) (fits : record_words * c + record_words ≤ length t) where
  abbrev p : ℕ
  p = spot c t r.tag

  abbrev u : List ℕ
  u = inserted t c r p

  inside : p ≤ c
  inside = spot-inside c t r.tag

  of-table : (i : ℕ) → i < c → judge n (tag_before t i) (record_at t i) ≡ Fine
  of-table i h = fine-at n t c i h f

  -- the tag before the new record is no higher
  new-order : (q : ℕ) → q ≡ p → tag_before u q ≤ r.tag
  new-order zero e = omega arith
  new-order (suc q) e =
      let x : (record_at u q).tag ≡ (record_at t q).tag = ap (λ (y : Record). y.tag) (before-spot t c r p inside fits q (omega arith)) in
      let y : tag_before u (suc q) ≡ (record_at t q).tag = x in
      omega (arith, y, lower-before c n t r.tag f q (omega arith))

  -- and a record behind it stands behind it, or behind the one that it stood behind
  behind-order : (i : ℕ) → p ≤ i → i < c → (record_at u i).tag ≤ (record_at t i).tag
  behind-order i h k = go (leb i p) refl
    where
      go : (b : Bool) → leb i p ≡ b → (record_at u i).tag ≤ (record_at t i).tag
      go true b =
          let e : i ≡ p = omega (arith, leb-true i p b) in
          let x : (record_at u i).tag ≡ r.tag = ap (λ (j : ℕ). (record_at u j).tag) e ∙ ap (λ (y : Record). y.tag) (at-spot t c r p inside fits) in
          omega (arith, x, higher-behind c t r.tag i h k)
      go false b =
          let e : suc (i - 1) ≡ i = omega (arith, leb-false i p b) in
          let x : (record_at u i).tag ≡ (record_at t (i - 1)).tag =
          ap (λ (j : ℕ). (record_at u j).tag) (sym e)
          ∙ ap (λ (y : Record). y.tag) (behind-spot t c r p inside fits (i - 1) (omega (arith, leb-false i p b)) (omega arith)) in
          let d : i - 1 + 1 ≡ i = omega (arith, leb-false i p b) in
          let y = rises c n t f (i - 1) 1 (omega arith) in
          omega (arith, x, y, ap (λ (j : ℕ). (record_at t j).tag) d)

  each-fine : (i : ℕ) → i < suc c → judge n (tag_before u i) (record_at u i) ≡ Fine
  each-fine i h = go (leb i p) refl
    where
      front : (j : ℕ) → j < p → tag_before u j ≡ tag_before t j
      front zero k = refl
      front (suc j) k = ap (λ (y : Record). y.tag) (before-spot t c r p inside fits j (omega arith))

      at : i ≡ p → judge n (tag_before u i) (record_at u i) ≡ Fine
      at e =
          let x : record_at u i ≡ r = ap (record_at u) e ∙ at-spot t c r p inside fits in
          rw x (judge-good n (tag_before u i) r g (new-order i e))

      later : (j : ℕ) → i ≡ suc j → p ≤ j → judge n (tag_before u i) (record_at u i) ≡ Fine
      later j e k =
          let x : record_at u i ≡ record_at t j = ap (record_at u) e ∙ behind-spot t c r p inside fits j k (omega arith) in
          let y : tag_before u i ≡ (record_at u j).tag = ap (tag_before u) e in
          let z = judge-fine n (tag_before t j) (record_at t j) (of-table j (omega arith)) in
          rw (x, y) (judge-good n (record_at u j).tag (record_at t j) z.0 (behind-order j k (omega arith)))

      go : (b : Bool) → leb i p ≡ b → judge n (tag_before u i) (record_at u i) ≡ Fine
      go true b = near (leb p i) refl
        where
          near : (d : Bool) → leb p i ≡ d → judge n (tag_before u i) (record_at u i) ≡ Fine
          near true d = at (omega (arith, leb-true i p b, leb-true p i d))
          near false d =
              let l = leb-false p i d in
              ap (judge n (tag_before u i)) (before-spot t c r p inside fits i l) ∙ ap (λ (x : ℕ). judge n x (record_at t i)) (front i l)
              ∙ of-table i (omega (arith, inside))
      go false b = let l = leb-false i p b in later (i - 1) (omega arith) (omega arith)

  all_of : (k : ℕ) → k ≤ suc c → tested k n u ≡ AllFine
  all_of zero h = refl
  all_of (suc k) h = rw (all_of k (omega arith), each-fine k (omega arith))

  pub stays-good : tested (suc c) n (inserted t c r (spot c t r.tag)) ≡ AllFine
  stays-good = all_of (suc c) (omega arith)

-- ---- OVER EVERY OUTCOME THAT THE CONTRACT OF `insert` ALLOWS

pub record Inserting (s t : List ℕ) (c : ℕ) (r : NewRecord) : Type 0 where
  pub lifetimes : Lfts 2
  pub arguments : Dens lifetimes insert.ps
  pub answer : (res_t insert.r lifetimes).Denot
  pub exit : AtExit (ended_of 2 insert.ps insert.r) lifetimes
  pub allowed : insert-reads.Post lifetimes arguments answer exit
  pub source : arguments.0.now ≡ s
  pub records : arguments.1.0.now ≡ t
  pub count : arguments.1.1.0 ≡ c
  pub new : arguments.1.1.1.0 ≡ r

module _ {s t : List ℕ} {c : ℕ} {r : NewRecord} (w : Inserting s t c r) where
  abbrev pub left : List ℕ
  left = w.exit.1.0.now

  pub outcome : ◌≡◌ {A = Insertion} (record { answer = w.answer; table = left }) (inserts t c (stamped r) (aim message_limit s t c (stamped r)))
  outcome = w.allowed ∙ rw (w.source, w.records, w.count, w.new) refl

  -- a record that passes its tests is in its place, with no key, and the table is good again
  module _ (fine : checked message_limit s t c ≡ AllFine) (g : good (length s) (stamped r) ≡ true) (room-left : c < room t) where
    abbrev pub at : ℕ
    at = spot c t r.tag

    pub placed : ◌≡◌ {A = Insertion} (record { answer = w.answer; table = left }) (record { answer = Count (c + 1); table = inserted t c (stamped r) at })
    placed = outcome ∙ sym (inserts-puts t c (stamped r) at (aim-puts message_limit s t c (stamped r) fine g (λ e. omega arith)) refl)

    pub told : inserted_told w.answer ≡ record { number = 0; value = c + 1 }
    told = ap (λ (o : Insertion). inserted_told o.answer) placed

    pub fields : fields_from (suc c) left 0 ≡ fields_from at t 0 ++ field_in (stamped r) ∷ fields_from (c - at) t at
    fields = ap (λ (o : Insertion). fields_from (suc c) o.table 0) placed ∙ inserted-fields t c (stamped r) at (spot-inside c t r.tag) (omega arith)

    pub good-again : tested (suc c) (length s) left ≡ AllFine
    good-again =
        ap (λ (o : Insertion). tested (suc c) (length s) o.table) placed
        ∙ stays-good (length s) t c (stamped r) (checked-fine message_limit s t c fine).1.fine g (omega arith)
