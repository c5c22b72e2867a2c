-- The first demand for the index's entries, over every outcome: which number is told, exactly, and that a refusal leaves index and line as they were.
use Rattle.std.specs.Prelude.{ℕ, zero, suc, ◌+◌, ◌-◌, ◌*◌, ◌^◌, ◌≡◌, refl, Bool, true, false, not, List, [], ◌∷◌, ◌++◌, ltb, leb, eqb, length}
use Rattle.std.proofs.Common.{ap, ◌∙◌, sym, subst, arith, leb-true, leb-false, lt-ltb, le-ltb}
use Rattle.wire.specs.Numbers.{number_of}
use Rattle.wire.specs.Reading.{key_at, value_at, field_at, Message, Fields, read_message}
use Rattle.wire.specs.Reading as reading
use Rattle.wire.specs.declared.Refusal.TheVariants.{NoRoom, Repeated, BadIndex}
use Rattle.wire.specs.declared.Value.{Value}
use Rattle.wire.specs.declared.KeyFound.{KeyFound}
use Rattle.wire.specs.declared.KeyFound.TheVariants as key_found
use Rattle.wire.specs.declared.ValueFound.{ValueFound}
use Rattle.wire.specs.declared.ValueFound.TheVariants as value_found
use Rattle.wire.specs.declared.FieldFound.{FieldFound}
use Rattle.wire.specs.declared.FieldFound.TheVariants as field_found
use Rattle.entry_answer.specs.Gate.{gated, through}
use Rattle.entry_answer.specs.declared.Gated.{Gated}
use Rattle.entry_answer.specs.declared.Gated.TheVariants.{Open, Shut}
use Rattle.entry_answer.specs.Stores.{Stored, at_front}
use Rattle.entry_answer.specs.Told as told
use Rattle.entry_answer.specs.Told.{put_told, picked_told, indexed_told}
use Rattle.entry_answer.specs.declared.Indexed.TheVariants as indexed_as
use Rattle.entry_answer.specs.declared.Picked.TheVariants as picked_as
use Rattle.index.specs.Index.{Entry, index_words, entry_words, length-words, room, entries_from, sound_index, Outcome, outcome, landed}
use Rattle.index_make.specs.Made.{Made, Entries, Refused, made, taken, make_index}
use Rattle.index_make.specs.Meaning.{Listed, unlisted, listed, entry_of}
use Rattle.index_pick.specs.declared.Followed.{Followed}
use Rattle.index_pick.specs.declared.Followed.TheVariants as followed
use Rattle.index_pick.specs.Looked.{valued, keyed, follow_from, only_one, looked, look_at, lookup, pick_indexed}
use Rattle.index_line.specs.Line.{head_digits, width, line_of, write_line, accepted_either, entries_either, read_either}
use Rattle.index_line.specs.Lines.{length-written}
use Rattle.c_words.specs.Words.{Lent, as_number, index_told, stored_told}
use Rattle.demands_order.specs.Calls.{Every}
use Rattle.demands_order.specs.Order.{Rule, when, first_of, or_else, refused-first, Numbered}
use Rattle.demands_order.specs.Rules.{key_rules, value_rules, field_rules, behind_field, message_rules}
use Rattle.demands_order.specs.RulesLaws.{above, behind, key_number, value_number, field_number, message_number, key-told, value-told, field_told, message-told}
use Rattle.demands_order.specs.Entries.{order-r}
use Rattle.demands_order.specs.Verdicts.{by_order}
use Rattle.demands_order.specs.Refusals.{Framed, AtFront, kept, put_front, stored-front}
use Rattle.demands_index.specs.Indexing.{index_in}
use Rattle.demands_index.specs.IndexLaws.{of_listed, lookup-listed}
use Rattle.demands_index.specs.IndexRules.{make_index_order, behind_value, behind_key_of, follow_rules, look_rules, listed_rules, pick_indexed_order}
use Rattle.demands_index.specs.IndexRules.{write_line_order, read_line_order}
use Rattle.index_make.proofs.make_index.Kinds as make-index
use Rattle.index_make.proofs.make_index.Reads as make-index-reads
use Rattle.index_pick.proofs.pick_indexed.Kinds as pick-indexed
use Rattle.index_pick.proofs.pick_indexed.Reads as pick-indexed-reads
use Rattle.index_line.proofs.write_line.Kinds as write-line
use Rattle.index_line.proofs.write_line.Reads as write-line-reads
use Rattle.index_line.proofs.read_line.Kinds as read-line
use Rattle.index_line.proofs.read_line.Reads as read-line-reads
use Rattle.capgauze_c.proofs.capgauze_make_index.Kinds as c-make-index
use Rattle.capgauze_c.proofs.capgauze_make_index.Reads as c-make-index-reads
use Rattle.capgauze_c.proofs.capgauze_pick_indexed.Kinds as c-pick-indexed
use Rattle.capgauze_c.proofs.capgauze_pick_indexed.Reads as c-pick-indexed-reads
use Rattle.capgauze_c.proofs.capgauze_write_line.Kinds as c-write-line
use Rattle.capgauze_c.proofs.capgauze_write_line.Reads as c-write-line-reads
use Rattle.capgauze_c.proofs.capgauze_read_line.Kinds as c-read-line
use Rattle.capgauze_c.proofs.capgauze_read_line.Reads as c-read-line-reads

-- ---- an index that is made

abbrev outcome_number : Outcome → ℕ
outcome_number o = (indexed_told o.answer).number

landed-told : (t : List ℕ) (es : List Entry) → outcome_number (landed t es) ≡ first_of (when (ltb (room t) (length es)) NoRoom ∷ [])
landed-told t es = go (leb (length es) (room t)) refl
  where
    go : (b : Bool) → leb (length es) (room t) ≡ b → outcome_number (landed t es) ≡ first_of (when (ltb (room t) (length es)) NoRoom ∷ [])
    go true b = rw (above (length es) (room t), b)
    go false b = rw (above (length es) (room t), b)

taken-told : (s t : List ℕ) → outcome_number (taken t (made s))
    ≡ first_of (message_rules s 0 (length s) ++ (when (ltb (room t) (length (index_in s))) NoRoom ∷ []))
unfolding made
taken-told s t =
    go (read_message s 0 (length s)) refl
    ∙ behind (message_rules s 0 (length s)) (when (ltb (room t) (length (index_in s))) NoRoom ∷ []) (message-told s 0 (length s)) refl
  where
    go : (m : Message) → read_message s 0 (length s) ≡ m
        → outcome_number (taken t (made s))
        ≡ or_else (message_number (read_message s 0 (length s))) (first_of (when (ltb (room t) (length (index_in s))) NoRoom ∷ []))
    go (reading.Refused r p) h = rw h (sym (refused-first r _))
    go (Fields fs) h = rw h (landed-told t (index_in s))

pub make-index-order : (s t : List ℕ) → outcome_number (make_index s t) ≡ first_of (make_index_order s t)
unfolding make_index
make-index-order s t =
    order-r outcome_number (λ r. outcome (indexed_as.Refused r) t) (λ r. refl) s 0 (length s) (taken t (made s))
    (message_rules s 0 (length s) ++ (when (ltb (room t) (length (index_in s))) NoRoom ∷ [])) (taken-told s t)

-- ---- a lookup through an index

abbrev follow_number : Followed → ℕ
follow_number followed.All = 0
follow_number (followed.Refused r) = number_of r

follow-told : (n : ℕ) (s : List ℕ) (t p : ℕ) → follow_number (follow_from n s t p) ≡ first_of (follow_rules n s t p)
unfolding follow_from
follow-told zero s t p = refl
follow-told (suc n) s t p = go (ltb p (length s)) refl (λ i. follow-told n s t i)
  where
    value_of : (x : ValueFound) → ((i : ℕ) → follow_number (follow_from n s t i) ≡ first_of (follow_rules n s t i))
        → follow_number (valued x (λ i. follow_from n s t i)) ≡ or_else (value_number x) (first_of (behind_value x (λ i. follow_rules n s t i)))
    value_of (value_found.Got v i) ih = ih i
    value_of (value_found.Refused r) ih = sym (refused-first r _)

    key_more : KeyFound → List Rule
    key_more x =
        behind_key_of x (λ k q.
        when (not (eqb k.tag t)) BadIndex
        ∷ (value_rules s (length s) q k.wire ++ behind_value (value_at s (length s) q k.wire) (λ i. follow_rules n s t i)))

    key-of : (x : KeyFound) → ((i : ℕ) → follow_number (follow_from n s t i) ≡ first_of (follow_rules n s t i))
        → follow_number (keyed t x (λ w q. valued (value_at s (length s) q w) (λ i. follow_from n s t i))) ≡ or_else (key_number x) (first_of (key_more x))
    key-of (key_found.Refused r) ih = sym (refused-first r _)
    key-of (key_found.Got k q) ih = at (eqb k.tag t) refl
      where
        at : (b : Bool) → eqb k.tag t ≡ b
            → follow_number (keyed t (key_found.Got k q) (λ w j. valued (value_at s (length s) j w) (λ i. follow_from n s t i)))
            ≡ first_of (when (not (eqb k.tag t)) BadIndex
            ∷ (value_rules s (length s) q k.wire ++ behind_value (value_at s (length s) q k.wire) (λ i. follow_rules n s t i)))
        at false b = rw b
        at true b =
            rw b
            (value_of (value_at s (length s) q k.wire) ih
            ∙ behind (value_rules s (length s) q k.wire) (behind_value (value_at s (length s) q k.wire) (λ i. follow_rules n s t i))
            (value-told s (length s) q k.wire) refl)

    go : (b : Bool) → ltb p (length s) ≡ b → ((i : ℕ) → follow_number (follow_from n s t i) ≡ first_of (follow_rules n s t i))
        → follow_number (follow_from (suc n) s t p) ≡ first_of (follow_rules (suc n) s t p)
    go false b ih = rw b
    go true b ih =
        let x = key_at s (length s) p t in
        rw b (key-of x ih ∙ behind (key_rules s (length s) p t) (key_more x) (key-told s (length s) p t) refl)

only-told : (t c : ℕ) (v : Value) (x : Followed) → (picked_told (only_one t c v x)).number
    ≡ or_else (follow_number x) (first_of (when (not (eqb c 1)) Repeated ∷ []))
only-told t c v (followed.Refused r) = sym (refused-first r _)
only-told t c v followed.All = go (eqb c 1) refl
  where
    go : (b : Bool) → eqb c 1 ≡ b → (picked_told (only_one t c v followed.All)).number ≡ first_of (when (not (eqb c 1)) Repeated ∷ [])
    go true b = rw b
    go false b = rw b

look-told : (s : List ℕ) (t : ℕ) (e : Entry) → (picked_told (look_at s t e)).number ≡ first_of (look_rules s e)
unfolding look_at
look-told s t e =
    go (field_at s (length s) e.place 0)
    ∙ behind (field_rules s (length s) e.place 0) (further (field_at s (length s) e.place 0)) (field_told s (length s) e.place 0) refl
  where
    further : FieldFound → List Rule
    further x = behind_field x (λ f q. follow_rules (e.count - 1) s f.tag q ++ (when (not (eqb e.count 1)) Repeated ∷ []))

    go : (x : FieldFound) → (picked_told (looked s t e.count x)).number ≡ or_else (field_number x) (first_of (further x))
    go (field_found.Got f q) =
        only-told t e.count f.value (follow_from (e.count - 1) s f.tag q)
        ∙ behind (follow_rules (e.count - 1) s f.tag q) (when (not (eqb e.count 1)) Repeated ∷ []) (follow-told (e.count - 1) s f.tag q) refl
    go (field_found.Refused r) = sym (refused-first r _)

listed-told : (s : List ℕ) (t : ℕ) (l : Listed) → (picked_told (of_listed s t l)).number ≡ first_of (listed_rules s l)
listed-told s t unlisted = refl
listed-told s t (listed e) = look-told s t e

pub pick-indexed-order : (s u : List ℕ) (n tag : ℕ) → (picked_told (pick_indexed s u n tag)).number ≡ first_of (pick_indexed_order s u n tag)
unfolding pick_indexed
pick-indexed-order s u n tag = go (sound_index u n (length s) (2 ^ 64 - 1)) refl
  where
    go : (b : Bool) → sound_index u n (length s) (2 ^ 64 - 1) ≡ b → (picked_told (pick_indexed s u n tag)).number ≡ first_of (pick_indexed_order s u n tag)
    go false b = rw b
    go true b =
        rw b
        (order-r (λ y. (picked_told y).number) picked_as.Refused (λ r. refl) s 0 (length s) (lookup s tag (entries_from n u 0))
        (listed_rules s (entry_of tag (entries_from n u 0)))
        (ap (λ y. (picked_told y).number) (lookup-listed s tag (entries_from n u 0)) ∙ listed-told s tag (entry_of tag (entries_from n u 0))))

-- ---- lines

pub write-line-order : (edition w : ℕ) (u : List ℕ) (n : ℕ) (b : List ℕ)
    → (put_told (write_line edition w u n b).answer).number ≡ first_of (write_line_order w u n b)
unfolding write_line at_front
write-line-order edition w u n b = go (sound_index u n (16 ^ w) (16 ^ w - 1)) refl (leb (length (line_of edition w (entries_from n u 0))) (length b)) refl
  where
    l : length (line_of edition w (entries_from n u 0)) ≡ head_digits + width w * n
    l = length-written edition w u n

    go : (x : Bool) → sound_index u n (16 ^ w) (16 ^ w - 1) ≡ x → (y : Bool) → leb (length (line_of edition w (entries_from n u 0))) (length b) ≡ y
        → (put_told (write_line edition w u n b).answer).number ≡ first_of (write_line_order w u n b)
    go false x y z = rw x
    go true x true z =
        let h = leb-true (length (line_of edition w (entries_from n u 0))) (length b) z in
        rw (x, z, le-ltb (length b) (head_digits + width w * n) (omega (arith, l, h)))
    go true x false z =
        let h = leb-false (length (line_of edition w (entries_from n u 0))) (length b) z in
        rw (x, z, lt-ltb (length b) (head_digits + width w * n) (omega (arith, l, h)))

pub read-line-order : (m : ℕ) (l t : List ℕ) → outcome_number (read_either m l t) ≡ first_of (read_line_order m l t)
unfolding read_either
read-line-order m l t = go (accepted_either m l) refl
  where
    go : (b : Bool) → accepted_either m l ≡ b → outcome_number (read_either m l t) ≡ first_of (read_line_order m l t)
    go false b = rw b
    go true b = rw b (landed-told t (entries_either l))

-- ---- WHICH NUMBER IS TOLD

pub make-index-number : Numbered 2 make-index.ps make-index.r make-index-reads.Post (λ κs x. (indexed_told x).number)
    (λ κs a. make_index_order a.0.now a.1.0.now)
make-index-number κs a x s p = by_order outcome_number p (make-index-order a.0.now a.1.0.now)

pub pick-indexed-number : Numbered 2 pick-indexed.ps pick-indexed.r pick-indexed-reads.Post (λ κs x. (picked_told x).number)
    (λ κs a. pick_indexed_order a.0.now a.1.0.now a.1.1.0 a.1.1.1.0)
pick-indexed-number κs a x s p =
    by_order (λ y. (picked_told y).number) p (pick-indexed-order a.0.now a.1.0.now a.1.1.0 a.1.1.1.0)

pub write-line-number : Numbered 2 write-line.ps write-line.r write-line-reads.Post (λ κs x. (put_told x).number)
    (λ κs a. write_line_order 6 a.0.now a.1.0 a.1.1.0.now)
write-line-number κs a x s p = by_order (λ (o : Stored). (put_told o.answer).number) p (write-line-order 2 6 a.0.now a.1.0 a.1.1.0.now)

pub read-line-number : Numbered 2 read-line.ps read-line.r read-line-reads.Post (λ κs x. (indexed_told x).number)
    (λ κs a. read_line_order a.1.0 a.0.now a.1.1.0.now)
read-line-number κs a x s p = by_order outcome_number p (read-line-order a.1.0 a.0.now a.1.1.0.now)

pub c-make-index-number : Numbered 2 c-make-index.ps c-make-index.r c-make-index-reads.Post (λ κs x. x.number)
    (λ κs a. make_index_order a.0.now a.1.0.now)
c-make-index-number κs a x s p = by_order (λ (o : Lent told.Number). o.told.number) p (make-index-order a.0.now a.1.0.now)

pub c-pick-indexed-number : Numbered 2 c-pick-indexed.ps c-pick-indexed.r c-pick-indexed-reads.Post (λ κs x. x.number)
    (λ κs a. pick_indexed_order a.0.now a.1.0.now a.1.1.0 a.1.1.1.0)
c-pick-indexed-number κs a x s p = by_order (λ w. w.number) p (pick-indexed-order a.0.now a.1.0.now a.1.1.0 a.1.1.1.0)

pub c-write-line-number : Numbered 2 c-write-line.ps c-write-line.r c-write-line-reads.Post (λ κs x. x.number)
    (λ κs a. write_line_order 6 a.0.now a.1.0 a.1.1.0.now)
c-write-line-number κs a x s p = by_order (λ (o : Lent told.Number). o.told.number) p (write-line-order 2 6 a.0.now a.1.0 a.1.1.0.now)

pub c-read-line-number : Numbered 2 c-read-line.ps c-read-line.r c-read-line-reads.Post (λ κs x. x.number)
    (λ κs a. read_line_order a.1.0 a.0.now a.1.1.0.now)
c-read-line-number κs a x s p = by_order (λ (o : Lent told.Number). o.told.number) p (read-line-order a.1.0 a.0.now a.1.1.0.now)

-- ---- A REFUSAL LEAVES INDEX AND LINE; what is accepted leaves all behind the entries, or behind the line

abbrev pub InIndex : List ℕ → Lent told.Number → Type 0
InIndex t o = Framed o.told.number 0 (index_words * o.told.value) t o.lent

landed-in : (t : List ℕ) (es : List Entry) → InIndex t (index_told (landed t es))
landed-in t es = go (leb (length es) (room t)) refl
  where
    go : (b : Bool) → leb (length es) (room t) ≡ b → InIndex t (index_told (landed t es))
    go true b =
        let h = leb-true (length es) (room t) b in
        rw b (put_front t (entry_words es) (index_words * length es) (length-words es) (omega (arith, h)))
    go false b = rw b (kept _ _ _ t)

taken_in : (t : List ℕ) (m : Made) → InIndex t (index_told (taken t m))
taken_in t (Entries es) = landed-in t es
taken_in t (Refused r) = kept _ _ _ t

made_in : (s t : List ℕ) → InIndex t (index_told (make_index s t))
unfolding make_index
made_in s t = go (gated (length s) 0 (length s))
  where
    go : (g : Gated) → InIndex t (index_told (through g (λ r. outcome (indexed_as.Refused r) t) (taken t (made s))))
    go Open = taken_in t (made s)
    go (Shut r) = kept _ _ _ t

read-in : (m : ℕ) (l t : List ℕ) → InIndex t (index_told (read_either m l t))
unfolding read_either
read-in m l t = go (accepted_either m l) refl
  where
    go : (b : Bool) → accepted_either m l ≡ b → InIndex t (index_told (read_either m l t))
    go true b = rw b (landed-in t (entries_either l))
    go false b = rw b (kept _ _ _ t)

written_in : (edition w : ℕ) (u : List ℕ) (n : ℕ) (b : List ℕ) → AtFront b (stored_told (write_line edition w u n b))
unfolding write_line
written_in edition w u n b = go (sound_index u n (16 ^ w) (16 ^ w - 1)) refl
  where
    go : (x : Bool) → sound_index u n (16 ^ w) (16 ^ w - 1) ≡ x → AtFront b (stored_told (write_line edition w u n b))
    go true x = rw x (stored-front b (line_of edition w (entries_from n u 0)))
    go false x = rw x (kept _ _ _ b)

pub make-index-frame : Every 2 make-index.ps make-index.r make-index-reads.Post
    (λ κs a x s. InIndex a.1.0.now (record { told = indexed_told x; lent = s.1.0.now }))
make-index-frame κs a x s p = subst (InIndex a.1.0.now) (sym (ap index_told p)) (made_in a.0.now a.1.0.now)

pub read-line-frame : Every 2 read-line.ps read-line.r read-line-reads.Post
    (λ κs a x s. InIndex a.1.1.0.now (record { told = indexed_told x; lent = s.1.1.0.now }))
read-line-frame κs a x s p = subst (InIndex a.1.1.0.now) (sym (ap index_told p)) (read-in a.1.0 a.0.now a.1.1.0.now)

pub write-line-frame : Every 2 write-line.ps write-line.r write-line-reads.Post
    (λ κs a x s. AtFront a.1.1.0.now (record { told = put_told x; lent = s.1.1.0.now }))
write-line-frame κs a x s p = subst (AtFront a.1.1.0.now) (sym (ap stored_told p)) (written_in 2 6 a.0.now a.1.0 a.1.1.0.now)

pub c-make-index-frame : Every 2 c-make-index.ps c-make-index.r c-make-index-reads.Post
    (λ κs a x s. InIndex a.1.0.now (record { told = as_number x; lent = s.1.0.now }))
c-make-index-frame κs a x s p = subst (InIndex a.1.0.now) (sym p) (made_in a.0.now a.1.0.now)

pub c-read-line-frame : Every 2 c-read-line.ps c-read-line.r c-read-line-reads.Post
    (λ κs a x s. InIndex a.1.1.0.now (record { told = as_number x; lent = s.1.1.0.now }))
c-read-line-frame κs a x s p = subst (InIndex a.1.1.0.now) (sym p) (read-in a.1.0 a.0.now a.1.1.0.now)

pub c-write-line-frame : Every 2 c-write-line.ps c-write-line.r c-write-line-reads.Post
    (λ κs a x s. AtFront a.1.1.0.now (record { told = as_number x; lent = s.1.1.0.now }))
c-write-line-frame κs a x s p = subst (AtFront a.1.1.0.now) (sym p) (written_in 2 6 a.0.now a.1.0 a.1.1.0.now)
