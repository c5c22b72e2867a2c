-- Groups go on, and the index by groups is the index of the fields with their keys' places.
use Rattle.std.specs.Prelude.{ℕ, zero, suc, ◌+◌, ◌-◌, ◌*◌, ◌≤◌, ◌<◌, ◌≡◌, refl, Bool, true, false, List, [], ◌∷◌, eqb, length}
use Rattle.std.proofs.Common.{ap, ◌∙◌, arith, eq-eqb, ne_eqb, eqb-true}
use Rattle.std.proofs.Math.Path.{sym}
use Rattle.std.proofs.lemmas.Bool.{eqb-false}
use Rattle.wire.specs.Reading.{field_at, step_at, Message, Fields, in_front, reads_from, read_message}
use Rattle.wire.specs.Reading as reading
use Rattle.wire.proofs.ReadingLaws.{field-moves}
use Rattle.wire.specs.StepBack.{Steps, field, refused, end, past, steps, step_field}
use Rattle.wire.specs.Theorem.{turn-field, turn-refused, turn_end, turn-past}
use Rattle.wire.specs.Marks.{Mark, marks_from, marks, marks-turn, marks-end}
use Rattle.wire.specs.declared.Refusal.{Refusal}
use Rattle.wire.specs.declared.Refusal.TheVariants.{Truncated}
use Rattle.wire.specs.declared.Field.{Field}
use Rattle.wire.specs.declared.FieldFound.TheVariants as field_found
use Rattle.wire.specs.declared.Stepped.{Stepped}
use Rattle.wire.specs.declared.Stepped.TheVariants as stepped
use Rattle.index.specs.Index.{Entry, entry}
use Rattle.index_make.specs.declared.Run.{Run}
use Rattle.index_make.specs.declared.Group.TheVariants as group
use Rattle.index_make.specs.Made.{joined, index_of, Made, made_of, made}
use Rattle.index_make.specs.Groups.{steps_in, run_from, group_at, made_from, before}
use Rattle.index_make.specs.Groups.{run_end, run-refused, run-other, run-same, group-end, group-refused, group-field, made-end, made-refused, made-of}

-- ---- entries that are joined

pub joined_same : (t p c q d : ℕ) (es : List Entry) → joined (entry t p c) (joined (entry t q d) es) ≡ joined (entry t p (c + d)) es
joined_same t p c q d [] = rw (eq-eqb t t refl)
joined_same t p c q d (e ∷ es) = go (eqb e.tag t) refl
  where
    go : (b : Bool) → eqb e.tag t ≡ b → joined (entry t p c) (joined (entry t q d) (e ∷ es)) ≡ joined (entry t p (c + d)) (e ∷ es)
    go true b = let z : c + (d + e.count) ≡ c + d + e.count = omega arith in rw (b, eq-eqb t t refl, z)
    go false b = rw (b, eq-eqb t t refl)

pub joined-other : (o : Entry) (t q d : ℕ) (es : List Entry) → (t ≡ o.tag → ⊥) → joined o (joined (entry t q d) es) ≡ o ∷ joined (entry t q d) es
joined-other o t q d [] n = rw (ne_eqb t o.tag n)
joined-other o t q d (e ∷ es) n = go (eqb e.tag t) refl
  where
    go : (b : Bool) → eqb e.tag t ≡ b → joined o (joined (entry t q d) (e ∷ es)) ≡ o ∷ joined (entry t q d) (e ∷ es)
    go true b = rw (b, ne_eqb t o.tag n)
    go false b = rw (b, ne_eqb t o.tag n)

-- ---- what was made of a message, with an entry ahead

made_more : (f : Field) (m : Message) (es : List Entry) → made_of (in_front f m) es ≡ made_of m es
made_more f (Fields fs) es = refl
made_more f (reading.Refused r p) es = refl

before-made : (o : Entry) (m : Message) (es : List Entry) → made_of m (o ∷ es) ≡ before o (made_of m es)
before-made o (Fields fs) es = refl
before-made o (reading.Refused r p) es = refl

shut-made : (o : Entry) (m : Message) (r : Refusal) (at : ℕ) (ds es : List Entry) → m ≡ reading.Refused r at → made_of m ds ≡ before o (made_of m es)
shut-made o m r at ds es h = rw h

-- ---- how far a run goes

pub record Ran (n c p : ℕ) (r : Run) : Type 0 where
  pub onward : p ≤ r.next
  pub inside : r.next ≤ n
  pub least : c ≤ r.count
  pub most : 2 * r.count + p ≤ 2 * c + r.next

ran_over : (n c p : ℕ) → p ≤ n → Ran n c p (record { count = c; next = p })
ran_over n c p h = record { onward = omega arith; inside = h; least = omega arith; most = omega arith }

pub run-moves : (k : ℕ) (s : List ℕ) (t c p : ℕ) → p ≤ length s → Ran (length s) c p (run_from k s t c p)
unfolding run_from
run-moves zero s t c p h = ran_over (length s) c p h
run-moves (suc k) s t c p h = go (step_at s (length s) p t) refl (λ q. run-moves k s t (c + 1) q)
  where
    at_field : (f : Field) (q : ℕ) (b : Bool) → eqb f.tag t ≡ b → step_at s (length s) p t ≡ stepped.Field f q
        → ((i : ℕ) → i ≤ length s → Ran (length s) (c + 1) i (run_from k s t (c + 1) i)) → Ran (length s) c p (run_from (suc k) s t c p)
    at_field f q true b x ih =
        let m = field-moves s (length s) p t f q (step_field s (length s) p t f q x).1 in
        let i = ih q m.1 in
        rw (run-same s t c p k f q x (eqb-true f.tag t b))
        (record {
          onward = omega (arith, m.0, i.onward);
          inside = i.inside;
          least = omega (arith, i.least);
          most = omega (arith, m.0, i.most);
        })
    at_field f q false b x ih = rw (run-other s t c p k f q x (eqb-false f.tag t b)) (ran_over (length s) c p h)

    go : (r : Stepped) → step_at s (length s) p t ≡ r → ((i : ℕ) → i ≤ length s → Ran (length s) (c + 1) i (run_from k s t (c + 1) i))
        → Ran (length s) c p (run_from (suc k) s t c p)
    go stepped.End x ih = rw (run_end s t c p k x) (ran_over (length s) c p h)
    go (stepped.Refused r) x ih = rw (run-refused s t c p k r x) (ran_over (length s) c p h)
    go (stepped.Field f q) x ih = at_field f q (eqb f.tag t) refl x ih

-- a group takes two bytes at least for each of its fields, and stays in the slice
pub record Moved (n p c q : ℕ) : Type 0 where
  pub inside : q ≤ n
  pub least : 1 ≤ c
  pub bytes : p + 2 * c ≤ q

pub group-moves : (s : List ℕ) (p last t c q : ℕ) → group_at s p last ≡ group.Of t c q → Moved (length s) p c q
group-moves s p last t c q h = go (step_at s (length s) p last) refl
  where
    go : (r : Stepped) → step_at s (length s) p last ≡ r → Moved (length s) p c q
    go stepped.End x = let y : group.End ≡ group.Of t c q = sym (group-end s p last x) ∙ h in let z : ◌≡◌ {A = ℕ} 0 1 = cc in absurd (omega arith)
    go (stepped.Refused r) x =
        let y : group.Refused r ≡ group.Of t c q = sym (group-refused s p last r x) ∙ h in let z : ◌≡◌ {A = ℕ} 0 1 = cc in absurd (omega arith)
    go (stepped.Field f n) x =
        let r = run_from (steps_in s) s f.tag 1 n in
        let y : group.Of f.tag r.count r.next ≡ group.Of t c q = sym (group-field s p last f n x) ∙ h in
        let a : r.count ≡ c = cc in
        let b : r.next ≡ q = cc in
        let v = field-moves s (length s) p last f n (step_field s (length s) p last f n x).1 in
        let w = run-moves (steps_in s) s f.tag 1 n v.1 in
        record {
          inside = omega (arith, w.inside, b);
          least = omega (arith, w.least, a);
          bytes = omega (arith, v.0, w.most, a, b);
        }

-- ---- the index by groups

-- what is made of the rest of a message, from place p behind a field of a tag
abbrev left : ℕ → List ℕ → ℕ → ℕ → ℕ → Made
left k s m p last = made_of (reads_from k s (length s) m p last) (index_of (marks_from k s (length s) p last))

-- a step whose field is read: what is left, with its entry ahead
module _ (s : List ℕ) (m p last : ℕ) (f : Field) (q : ℕ) (a : p < length s) (h : field_at s (length s) p last ≡ field_found.Got f q) where
  pub left-field : (k : ℕ) → left (suc k) s m p last
      ≡ made_of (reads_from k s (length s) p q f.tag) (joined (entry f.tag p 1) (index_of (marks_from k s (length s) q f.tag)))
  left-field k =
      ap (λ (x : Message). made_of x (index_of (marks_from (suc k) s (length s) p last))) (turn-field s (length s) m p last k f q a h)
      ∙ ap (λ (ms : List Mark). made_of (in_front f (reads_from k s (length s) p q f.tag)) (index_of ms)) (marks-turn s (length s) p last k f q a h)
      ∙ made_more f (reads_from k s (length s) p q f.tag) (joined (entry f.tag p 1) (index_of (marks_from k s (length s) q f.tag)))

-- what is made is an entry of so many fields, then what is left behind them
pub record Follows (s : List ℕ) (t p : ℕ) (r : Run) (x : Made) : Type 0 where
  pub k : ℕ
  pub m : ℕ
  pub fuel : length s - r.next ≤ k
  pub same : x ≡ before (entry t p r.count) (left k s m r.next t)

-- c fields of a tag, the first of them at p, ahead of what is left from q on
abbrev opened : ℕ → List ℕ → ℕ → ℕ → ℕ → ℕ → ℕ → Made
opened k s m t p c q = made_of (reads_from k s (length s) m q t) (joined (entry t p c) (index_of (marks_from k s (length s) q t)))

module _ (s : List ℕ) (t p : ℕ) where
  abbrev Runs : ℕ → Type 0
  Runs i = (k m c q : ℕ) → length s - q < i → length s - q ≤ k → Follows s t p (run_from i s t c q) (opened k s m t p c q)

  module _ (k m c q : ℕ) where
    -- the run is over: the next field is of another tag, or there is none, or none that can be read
    over : (r : Run) → length s - q ≤ k → r ≡ record { count = c; next = q } → opened k s m t p c q ≡ before (entry t p c) (left k s m q t)
        → Follows s t p r (opened k s m t p c q)
    over r l e h = rw e (record { k = k; m = m; fuel = l; same = h })

    opened-end : q ≡ length s → opened k s m t p c q ≡ before (entry t p c) (left k s m q t)
    opened-end a = rw (turn_end s (length s) m q t k a, marks-end s (length s) q t k (omega arith))

    opened-past : length s < q → opened k s m t p c q ≡ before (entry t p c) (left k s m q t)
    opened-past a = shut-made _ _ Truncated m _ _ (turn-past s (length s) m q t k a)

  module _ (k m c q : ℕ) (a : q < length s) where
    opened-refused : (r : Refusal) → field_at s (length s) q t ≡ field_found.Refused r → opened (suc k) s m t p c q ≡ before (entry t p c) (left (suc k) s m q t)
    opened-refused r y = shut-made _ _ r q _ _ (turn-refused s (length s) m q t k r a y)

    opened-field : (g : Field) (n : ℕ) → field_at s (length s) q t ≡ field_found.Got g n → opened (suc k) s m t p c q
        ≡ made_of (reads_from k s (length s) q n g.tag) (joined (entry t p c) (joined (entry g.tag q 1) (index_of (marks_from k s (length s) n g.tag))))
    opened-field g n y =
        ap (λ (x : Message). made_of x (joined (entry t p c) (index_of (marks_from (suc k) s (length s) q t)))) (turn-field s (length s) m q t k g n a y)
        ∙ ap (λ (ms : List Mark). made_of (in_front g (reads_from k s (length s) q n g.tag)) (joined (entry t p c) (index_of ms)))
        (marks-turn s (length s) q t k g n a y)
        ∙ made_more g (reads_from k s (length s) q n g.tag) _

    opened-other : (g : Field) (n : ℕ) → field_at s (length s) q t ≡ field_found.Got g n → (g.tag ≡ t → ⊥)
        → opened (suc k) s m t p c q ≡ before (entry t p c) (left (suc k) s m q t)
    opened-other g n y x =
        opened-field g n y
        ∙ ap (made_of (reads_from k s (length s) q n g.tag)) (joined-other (entry t p c) g.tag q 1 (index_of (marks_from k s (length s) n g.tag)) x)
        ∙ before-made (entry t p c) (reads_from k s (length s) q n g.tag) (joined (entry g.tag q 1) (index_of (marks_from k s (length s) n g.tag)))
        ∙ sym (ap (before (entry t p c)) (left-field s m q t g n a y k))

    opened-same : (g : Field) (n : ℕ) → field_at s (length s) q t ≡ field_found.Got g n → g.tag ≡ t → opened (suc k) s m t p c q ≡ opened k s q t p (c + 1) n
    opened-same g n y x =
        opened-field g n y
        ∙ ap (λ (u : ℕ). made_of (reads_from k s (length s) q n u) (joined (entry t p c) (joined (entry u q 1) (index_of (marks_from k s (length s) n u))))) x
        ∙ ap (made_of (reads_from k s (length s) q n t)) (joined_same t p c q 1 (index_of (marks_from k s (length s) n t)))

  runs-more : (i : ℕ) → Runs i → Runs (suc i)
  runs-more i on zero m c q l f = go (steps s (length s) q t)
    where
      go : Steps s (length s) q t (step_at s (length s) q t) → Follows s t p (run_from (suc i) s t c q) (opened zero s m t p c q)
      go (field g n a y z) = absurd (omega arith)
      go (refused r a y z) = absurd (omega arith)
      go (end a z) = over zero m c q (run_from (suc i) s t c q) f (run_end s t c q i z) (opened-end zero m c q a)
      go (past a z) = over zero m c q (run_from (suc i) s t c q) f (run-refused s t c q i Truncated z) (opened-past zero m c q a)
  runs-more i on (suc k) m c q l f = go (steps s (length s) q t)
    where
      at_field : (g : Field) (n : ℕ) → q < length s → field_at s (length s) q t ≡ field_found.Got g n → step_at s (length s) q t ≡ stepped.Field g n
          → (b : Bool) → eqb g.tag t ≡ b → Follows s t p (run_from (suc i) s t c q) (opened (suc k) s m t p c q)
      at_field g n a y z false b =
          let x = eqb-false g.tag t b in
          over (suc k) m c q (run_from (suc i) s t c q) f (run-other s t c q i g n z x) (opened-other k m c q a g n y x)
      at_field g n a y z true b =
          let x = eqb-true g.tag t b in
          let v = field-moves s (length s) q t g n y in
          rw (run-same s t c q i g n z x, opened-same k m c q a g n y x) (on k q (c + 1) n (omega (arith, v.0, v.1)) (omega (arith, v.0)))

      go : Steps s (length s) q t (step_at s (length s) q t) → Follows s t p (run_from (suc i) s t c q) (opened (suc k) s m t p c q)
      go (field g n a y z) = at_field g n a y z (eqb g.tag t) refl
      go (refused r a y z) = over (suc k) m c q (run_from (suc i) s t c q) f (run-refused s t c q i r z) (opened-refused k m c q a r y)
      go (end a z) = over (suc k) m c q (run_from (suc i) s t c q) f (run_end s t c q i z) (opened-end (suc k) m c q a)
      go (past a z) = over (suc k) m c q (run_from (suc i) s t c q) f (run-refused s t c q i Truncated z) (opened-past (suc k) m c q a)

  runs : (i : ℕ) → Runs i
  runs zero k m c q l f = absurd (omega (arith, l))
  runs (suc i) k m c q l f = runs-more i (runs i) k m c q l f

-- THE LAW: the groups, one behind the other, are the index of the fields
module _ (s : List ℕ) where
  abbrev Groups : ℕ → Type 0
  Groups j = (k m p last : ℕ) → length s - p < j → length s - p ≤ k → made_from j s p last ≡ left k s m p last

  groups-more : (j : ℕ) → Groups j → Groups (suc j)
  groups-more j on k m p last l f = go (steps s (length s) p last)
    where
      at_field : (g : Field) (n : ℕ) → p < length s → field_at s (length s) p last ≡ field_found.Got g n → step_at s (length s) p last ≡ stepped.Field g n
          → made_from (suc j) s p last ≡ left (suc (k - 1)) s m p last
      at_field g n a y z =
          let v = field-moves s (length s) p last g n y in
          let r = run_from (steps_in s) s g.tag 1 n in
          let w = run-moves (steps_in s) s g.tag 1 n v.1 in
          let o = runs s g.tag p (steps_in s) (k - 1) p 1 n (omega arith) (omega (arith, v.0)) in
          made-of j s p last g.tag r.count r.next (group-field s p last g n z)
          ∙ ap (before (entry g.tag p r.count)) (on o.k o.m r.next g.tag (omega (arith, v.0, w.onward, w.inside)) o.fuel)
          ∙ sym o.same
          ∙ sym (left-field s m p last g n a y (k - 1))

      at-refused : (r : Refusal) → p < length s → field_at s (length s) p last ≡ field_found.Refused r → step_at s (length s) p last ≡ stepped.Refused r
          → made_from (suc j) s p last ≡ left (suc (k - 1)) s m p last
      at-refused r a y z =
          made-refused j s p last r (group-refused s p last r z)
          ∙ sym (ap (λ (x : Message). made_of x (index_of (marks_from (suc (k - 1)) s (length s) p last))) (turn-refused s (length s) m p last (k - 1) r a y))

      go : Steps s (length s) p last (step_at s (length s) p last) → made_from (suc j) s p last ≡ left k s m p last
      go (field g n a y z) = let e : suc (k - 1) ≡ k = omega arith in at_field g n a y z ∙ ap (λ (i : ℕ). left i s m p last) e
      go (refused r a y z) = let e : suc (k - 1) ≡ k = omega arith in at-refused r a y z ∙ ap (λ (i : ℕ). left i s m p last) e
      go (end a z) =
          made-end j s p last (group-end s p last z) ∙ sym (rw (turn_end s (length s) m p last k a, marks-end s (length s) p last k (omega arith)))
      go (past a z) =
          made-refused j s p last Truncated (group-refused s p last Truncated z)
          ∙ sym (ap (λ (x : Message). made_of x (index_of (marks_from k s (length s) p last))) (turn-past s (length s) m p last k a))

  groups : (j : ℕ) → Groups j
  groups zero k m p last l f = absurd (omega (arith, l))
  groups (suc j) k m p last l f = groups-more j (groups j) k m p last l f

  pub made-groups : made s ≡ made_from (steps_in s) s 0 0
  unfolding made read_message marks
  made-groups = sym (groups (steps_in s) (length s - 0) 0 0 0 (omega arith) (omega arith))
