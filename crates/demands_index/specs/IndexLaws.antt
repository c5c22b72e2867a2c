-- A lookup through the index that was made of a message, and the full pick: one answer.
use Rattle.std.specs.Prelude.{ℕ, zero, suc, ◌+◌, ◌-◌, ◌/◌, ◌^◌, ◌<◌, ◌≡◌, refl, Bool, true, false, List, [], ◌∷◌, eqb, length}
use Rattle.std.proofs.Common.{ap, ◌∙◌, sym, arith, lt-ltb, ne_eqb, eqb-true}
use Rattle.std.proofs.lemmas.Bool.{eqb-false}
use Rattle.wire.specs.Reading.{key_at, field_at, Fields, read_message}
use Rattle.wire.specs.ReadingLaws.{Keyed}
use Rattle.wire.proofs.ReadingLaws.{field_found_lem, field-moves}
use Rattle.wire.specs.StepLaws.{field-keyed}
use Rattle.wire.specs.Marks.{Mark, marks_from, marks, fields_of}
use Rattle.wire.proofs.Marks.{marks-fields}
use Rattle.wire.specs.MarkLaws.{Marked, none, some, marked, Rising}
use Rattle.wire.proofs.MarkLaws.{marks-rise}
use Rattle.wire.specs.declared.Key.{Key}
use Rattle.wire.specs.declared.Field.{Field}
use Rattle.wire.specs.declared.KeyFound.TheVariants as key_found
use Rattle.wire.specs.declared.FieldFound.TheVariants as field_found
use Rattle.message.specs.Tags.{of_tag}
use Rattle.entry_answer.specs.declared.Picked.{Picked}
use Rattle.entry_answer.specs.declared.Picked.TheVariants as picked_as
use Rattle.entry_message.specs.Messages.{picked_of}
use Rattle.index.specs.Index.{Entry, entry}
use Rattle.index_make.specs.Made.{index_of}
use Rattle.index_make.specs.Meaning.{Listed, unlisted, listed, entry_of, marks_of, meant}
use Rattle.index_make.specs.Meaning.{index-means, fields-marks}
use Rattle.index_pick.specs.declared.Followed.TheVariants as followed
use Rattle.index_pick.specs.Looked.{follow_from, follow-on, only_one, look_at, look-field, lookup, lookup-none, lookup-here, lookup-on}

-- ---- a key behind another tag: the same difference of tags, wire type and place after it

key-again : (s : List ℕ) (e p last l : ℕ) (k : Key) (q : ℕ) (h : Keyed s p last k q) → l + h.key / 4 < 2 ^ 32
    → key_at s e p l ≡ key_found.Got (record { tag = l + h.key / 4; wire = k.wire }) q
key-again s e p last l k q h g = rw (h.read, lt-ltb (l + h.key / 4) (2 ^ 32) g, h.wire)

-- a field read behind tag 0: its value, and the place after it
pub record Alone (s : List ℕ) (e p : ℕ) (f : Field) (q : ℕ) : Type 0 where
  pub tag : ℕ
  pub small : tag < 2 ^ 32
  pub read : field_at s e p 0 ≡ field_found.Got (record { tag = tag; value = f.value }) q

alone : (s : List ℕ) (e p last : ℕ) (f : Field) (q : ℕ) → field_at s e p last ≡ field_found.Got f q → Alone s e p f q
alone s e p last f q h =
    let x = field_found_lem s e p last f q h in
    let d = x.key.key / 4 in
    let z : 0 + d ≡ d = omega arith in
    let l : 0 + d < 2 ^ 32 = omega (arith, x.key.tag, x.key.small) in
    record {
      tag = 0 + d;
      small = l;
      read = field-keyed s e p 0 (key-again s e p last 0 (record { tag = f.tag; wire = x.wire }) x.middle x.key l) ∙ rw x.value;
    }

-- ---- the fields of the tag behind a first one are followed, behind whatever tag

module _ (s : List ℕ) (t d : ℕ) (small : d < 2 ^ 32) where
  abbrev Followable : ℕ → ℕ → Type 0
  Followable k q = follow_from (length (marks_of t (marks_from k s (length s) q t))) s d q ≡ followed.All

  none_left : (n p : ℕ) → n ≡ 0 → follow_from n s d p ≡ followed.All
  unfolding follow_from
  none_left n p h = rw h

  -- tags that rise above t have no more of it
  beyond : (e l : ℕ) (ms : List Mark) → t < l → Rising e l ms → marks_of t ms ≡ []
  beyond e l [] h r = refl
  beyond e l (m ∷ ms) h r = rw (ne_eqb m.field.tag t (λ x. omega (arith, x, h, r.0))) (beyond e m.field.tag ms (omega (arith, h, r.0)) r.3)

  follow-all : (k q : ℕ) → Followable k q
  follow-all zero q = none_left 0 q refl
  follow-all (suc k) q = go (marked k s (length s) q t) (λ i. follow-all k i)
    where
      at_field : (f : Field) (i : ℕ) → q < length s → field_at s (length s) q t ≡ field_found.Got f i
          → marks_from (suc k) s (length s) q t ≡ record { key = q; field = f } ∷ marks_from k s (length s) i f.tag
          → (b : Bool) → eqb f.tag t ≡ b → Followable k i → Followable (suc k) q
      at_field f i a x y true b ih =
          let z = eqb-true f.tag t b in
          let w = field_found_lem s (length s) q t f i x in
          let n : w.key.key / 4 ≡ 0 = omega (arith, w.key.tag, z) in
          let m : d + w.key.key / 4 ≡ d = omega (arith, n) in
          let j = key-again s (length s) q t d (record { tag = f.tag; wire = w.wire }) w.middle w.key (omega (arith, m, small)) in
          let o : Key = record { tag = d + w.key.key / 4; wire = w.wire } in
          rw (y, b, z) (follow-on (length (marks_of t (marks_from k s (length s) i t))) s d q a o w.middle j m f.value i w.value ∙ ih)
      at_field f i a x y false b ih =
          let v = field-moves s (length s) q t f i x in
          let l : t < f.tag = omega (arith, v.2, eqb-false f.tag t b) in
          let z = beyond (length s) f.tag (marks_from k s (length s) i f.tag) l (marks-rise k s (length s) i f.tag) in
          none_left _ q (ap (λ (ms : List Mark). length (marks_of t ms)) y ∙ rw (b, z))

      go : Marked k s (length s) q t → ((i : ℕ) → Followable k i) → Followable (suc k) q
      go (none x) ih = none_left _ q (ap (λ (ms : List Mark). length (marks_of t ms)) x)
      go (some f i a x y) ih = at_field f i a x y (eqb f.tag t) refl (ih i)

-- ---- the first field of the tag, and where those behind it are

pub record First (s : List ℕ) (e t : ℕ) (m : Mark) (ms : List Mark) : Type 0 where
  pub k : ℕ
  pub last : ℕ
  pub next : ℕ
  pub before : m.key < e
  pub same : m.field.tag ≡ t
  pub read : field_at s e m.key last ≡ field_found.Got m.field next
  pub rest : ms ≡ marks_of t (marks_from k s e next t)

first : (k : ℕ) (s : List ℕ) (e t p last : ℕ) (m : Mark) (ms : List Mark) → marks_of t (marks_from k s e p last) ≡ m ∷ ms → First s e t m ms
first zero s e t p last m ms h = let z : ◌≡◌ {A = ℕ} 0 1 = cc in absurd (omega arith)
first (suc k) s e t p last m ms h = go (marked k s e p last) (λ q l. first k s e t q l m ms)
  where
    at_field : (f : Field) (q : ℕ) → p < e → field_at s e p last ≡ field_found.Got f q
        → marks_from (suc k) s e p last ≡ record { key = p; field = f } ∷ marks_from k s e q f.tag
        → (b : Bool) → eqb f.tag t ≡ b → (marks_of t (marks_from k s e q f.tag) ≡ m ∷ ms → First s e t m ms) → First s e t m ms
    at_field f q a x y true b ih =
        let z = eqb-true f.tag t b in
        let w : record { key = p; field = f } ∷ marks_of t (marks_from k s e q f.tag) ≡ m ∷ ms = rw (y, b) at h in
        let i : record { key = p; field = f } ≡ m = cc in
        let j : marks_of t (marks_from k s e q f.tag) ≡ ms = cc in
        rw (← i) (record { k = k; last = last; next = q; before = a; same = z; read = x; rest = sym j ∙ ap (λ (l : ℕ). marks_of t (marks_from k s e q l)) z })
    at_field f q a x y false b ih = ih (rw (y, b) at h)

    go : Marked k s e p last → ((q l : ℕ) → marks_of t (marks_from k s e q l) ≡ m ∷ ms → First s e t m ms) → First s e t m ms
    go (none x) ih =
        let w : [] ≡ m ∷ ms = sym (ap (marks_of t) x) ∙ h in
        let z : ◌≡◌ {A = ℕ} 0 1 = cc in absurd (omega arith)
    go (some f q a x y) ih = at_field f q a x y (eqb f.tag t) refl (ih q f.tag)

-- ---- what the entry of the tag leads to

only-picked : (t : ℕ) (f : Field) (ms : List Mark) → f.tag ≡ t → only_one t (suc (length ms)) f.value followed.All ≡ picked_of (f ∷ fields_of ms)
only-picked t f [] h = rw (← h)
only-picked t f (m ∷ ms) h = rw (ne_eqb (suc (suc (length ms))) 1 (λ x. omega arith))

look-first : (s : List ℕ) (t : ℕ) (m : Mark) (ms : List Mark) → First s (length s) t m ms
    → look_at s t (entry t m.key (suc (length ms))) ≡ picked_of (m.field ∷ fields_of ms)
look-first s t m ms f =
    let a = alone s (length s) m.key f.last m.field f.next f.read in
    let z : suc (length ms) - 1 ≡ length (marks_of t (marks_from f.k s (length s) f.next t)) = omega (arith, ap length f.rest) in
    look-field s t (entry t m.key (suc (length ms))) (record { tag = a.tag; value = m.field.value }) f.next a.read
    ∙ ap (only_one t (suc (length ms)) m.field.value)
    (ap (λ (n : ℕ). follow_from n s a.tag f.next) z ∙ follow-all s t a.tag a.small f.k f.next)
    ∙ only-picked t m.field ms f.same

abbrev pub of_listed : List ℕ → ℕ → Listed → Picked
of_listed s t unlisted = picked_as.Absent
of_listed s t (listed e) = look_at s t e

pub lookup-listed : (s : List ℕ) (t : ℕ) (es : List Entry) → lookup s t es ≡ of_listed s t (entry_of t es)
lookup-listed s t [] = lookup-none s t
lookup-listed s t (e ∷ es) = go (eqb e.tag t) refl (lookup-listed s t es)
  where
    go : (b : Bool) → eqb e.tag t ≡ b → lookup s t es ≡ of_listed s t (entry_of t es) → lookup s t (e ∷ es) ≡ of_listed s t (entry_of t (e ∷ es))
    go true b ih = lookup-here s t e es (eqb-true e.tag t b) ∙ rw b
    go false b ih = lookup-on s t e es (eqb-false e.tag t b) ∙ ih ∙ rw b

-- THE LAW
pub lookup-pick : (s : List ℕ) (t : ℕ) (fs : List Field) → read_message s 0 (length s) ≡ Fields fs
    → lookup s t (index_of (marks s 0 (length s))) ≡ picked_of (of_tag t fs)
unfolding marks
lookup-pick s t fs r =
    lookup-listed s t (index_of (marks s 0 (length s)))
    ∙ ap (of_listed s t) (index-means (length s) 0 t (marks s 0 (length s)) (marks-rise (length s - 0) s (length s) 0 0))
    ∙ go (marks_of t (marks s 0 (length s))) refl
    ∙ ap picked_of (sym (fields-marks t (marks s 0 (length s))))
    ∙ ap (λ (l : List Field). picked_of (of_tag t l)) (marks-fields s 0 (length s) fs r)
  where
    go : (ms : List Mark) → marks_of t (marks s 0 (length s)) ≡ ms → of_listed s t (meant t ms) ≡ picked_of (fields_of ms)
    go [] h = refl
    go (m ∷ ms) h = look-first s t m ms (first (length s - 0) s (length s) t 0 0 m ms h)
