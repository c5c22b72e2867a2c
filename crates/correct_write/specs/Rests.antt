-- The rest of a message that is accepted, from a place on: its items, and what is read there.
use Rattle.std.specs.Prelude.{ℕ, zero, suc, ◌-◌, ◌≤◌, ◌<◌, ◌≡◌, refl, Bool, true, false, List, [], ◌∷◌, ltb, length}
use Rattle.std.proofs.Math.Path.{ap}
use Rattle.std.proofs.Common.{◌∙◌, sym, arith, ltb-true, ltb-false}
use Rattle.wire.specs.VarintLaws.{Bytes}
use Rattle.wire.specs.Written.{Item, written_from, GoodFrom}
use Rattle.wire.specs.Places.{part, shown, item_of, items}
use Rattle.wire.specs.Reading.{key_at, value_at, tagged, field_at, Fields, reads_from, read_message}
use Rattle.wire.proofs.ReadingLaws.{field-moves}
use Rattle.wire.specs.StepLaws.{field-keyed, field-keyless}
use Rattle.wire.specs.Theorem.{turn-field, turn-refused, turn-past, refused-fields, in-front-fields}
use Rattle.wire.proofs.Theorem.{message-took}
use Rattle.wire.specs.Marks.{Mark, marks_from, fields_of, marks-turn, marks-end}
use Rattle.wire.proofs.Marks.{marks-read}
use Rattle.message.proofs.Walking.{positive}
use Rattle.wire.specs.declared.Refusal.{Refusal}
use Rattle.wire.specs.declared.Refusal.TheVariants.{Truncated}
use Rattle.wire.specs.declared.Value.{Value}
use Rattle.wire.specs.declared.Key.{Key}
use Rattle.wire.specs.declared.Field.{Field}
use Rattle.wire.specs.declared.KeyFound.TheVariants as key_found
use Rattle.wire.specs.declared.ValueFound.{ValueFound}
use Rattle.wire.specs.declared.ValueFound.TheVariants as value_found
use Rattle.wire.specs.declared.FieldFound.{FieldFound}
use Rattle.wire.specs.declared.FieldFound.TheVariants as field_found

-- the items from a place on, behind a field of a tag
unfoldable pub items_from : List ℕ → ℕ → ℕ → List Item
items_from s p last = items s (fields_of (marks_from (length s) s (length s) p last))

-- the rest is accepted
pub record Rest (s : List ℕ) (p last : ℕ) : Type 0 where
  pub k : ℕ
  pub m : ℕ
  pub fields : List Field
  pub fuel : length s - p ≤ k
  pub read : reads_from k s (length s) m p last ≡ Fields fields

-- ---- any number of turns that is enough gives the same fields

module _ (s : List ℕ) (e p last : ℕ) where
  marks-stop : (r : Refusal) → field_at s e p last ≡ field_found.Refused r → (k : ℕ) → marks_from k s e p last ≡ []
  marks-stop r x zero = refl
  marks-stop r x (suc k) = go (ltb p e) refl
    where
      go : (b : Bool) → ltb p e ≡ b → marks_from (suc k) s e p last ≡ []
      go true b = rw (b, x)
      go false b = rw b

  marks-one : (f : Field) (q : ℕ) → p < e → field_at s e p last ≡ field_found.Got f q → (k : ℕ) → 0 < k
      → marks_from k s e p last ≡ record { key = p; field = f } ∷ marks_from (k - 1) s e q f.tag
  marks-one f q a x k h = ap (λ (j : ℕ). marks_from j s e p last) (positive k h) ∙ marks-turn s e p last (k - 1) f q a x

marks-fuel : (j k : ℕ) (s : List ℕ) (e p last : ℕ) → e - p ≤ j → e - p ≤ k → marks_from j s e p last ≡ marks_from k s e p last
marks-fuel zero k s e p last h g = sym (marks-end s e p last k (omega arith))
marks-fuel (suc j) k s e p last h g = go (ltb p e) refl (field_at s e p last) refl (λ i q u. marks-fuel j i s e q u)
  where
    go : (b : Bool) → ltb p e ≡ b → (o : FieldFound) → field_at s e p last ≡ o
        → ((i q u : ℕ) → e - q ≤ j → e - q ≤ i → marks_from j s e q u ≡ marks_from i s e q u) → marks_from (suc j) s e p last ≡ marks_from k s e p last
    go false b o x ih =
        let l = ltb-false p e b in
        marks-end s e p last (suc j) l ∙ sym (marks-end s e p last k l)
    go true b (field_found.Refused r) x ih = marks-stop s e p last r x (suc j) ∙ sym (marks-stop s e p last r x k)
    go true b (field_found.Got f q) x ih =
        let l = ltb-true p e b in
        let v = field-moves s e p last f q x in
        marks-turn s e p last j f q l x
        ∙ ap (λ (ms : List Mark). record { key = p; field = f } ∷ ms) (ih (k - 1) q f.tag (omega (arith, h, v.0)) (omega (arith, g, v.0)))
        ∙ sym (marks-one s e p last f q l x k (omega (arith, l, g)))

-- ---- the items, one by one

pub items-end : (s : List ℕ) (p last : ℕ) → length s ≤ p → items_from s p last ≡ []
unfolding items_from
items-end s p last h = ap (λ (ms : List Mark). items s (fields_of ms)) (marks-end s (length s) p last (length s) h)

pub items-field : (s : List ℕ) (p last : ℕ) (f : Field) (q : ℕ) → p < length s → field_at s (length s) p last ≡ field_found.Got f q
    → items_from s p last ≡ item_of s f ∷ items_from s q f.tag
unfolding items_from
items-field s p last f q a h =
    let v = field-moves s (length s) p last f q h in
    ap (λ (ms : List Mark). items s (fields_of ms))
    (marks-one s (length s) p last f q a h (length s) (omega (arith, a))
    ∙ ap (λ (ms : List Mark). record { key = p; field = f } ∷ ms)
    (marks-fuel (length s - 1) (length s) s (length s) q f.tag (omega (arith, v.0)) (omega arith)))

-- ---- what is read there

unfoldable pub rest-start : (s : List ℕ) (fs : List Field) → read_message s 0 (length s) ≡ Fields fs → Rest s 0 0
unfolding read_message
rest-start s fs h = record { k = length s - 0; m = 0; fields = fs; fuel = omega arith; read = h }

module _ {s : List ℕ} {p last : ℕ} (w : Rest s p last) where
  pub rest-items : items_from s p last ≡ items s w.fields
  unfolding items_from
  rest-items =
      ap (items s)
      (ap fields_of (marks-fuel (length s) w.k s (length s) p last (omega arith) w.fuel)
      ∙ marks-read w.k s (length s) w.m p last w.fields w.fuel w.read)

  pub rest-inside : p ≤ length s
  rest-inside = go (ltb (length s) p) refl
    where
      go : (b : Bool) → ltb (length s) p ≡ b → p ≤ length s
      go true b = refused-fields Truncated w.m w.fields (sym (turn-past s (length s) w.m p last w.k (ltb-true (length s) p b)) ∙ w.read)
      go false b = ltb-false (length s) p b

  -- they are written as the bytes there
  pub rest-bytes : Bytes s → (part s p (length s) ≡ written_from last (items_from s p last)) × GoodFrom last (items_from s p last)
  rest-bytes b =
      let x = message-took w.k s (length s) w.m p last w.fields b w.fuel w.read in
      rw rest-items (x.0, x.1)

  module _ (a : p < length s) where
    unwound : reads_from (suc (w.k - 1)) s (length s) w.m p last ≡ Fields w.fields
    unwound = ap (λ (j : ℕ). reads_from j s (length s) w.m p last) (sym (positive w.k (omega (arith, w.fuel, a)))) ∙ w.read

    no-refusal : {A : Type 0} (r : Refusal) → field_at s (length s) p last ≡ field_found.Refused r → A
    no-refusal r h = refused-fields r p w.fields (sym (turn-refused s (length s) w.m p last (w.k - 1) r a h) ∙ unwound)

    rest-field : (f : Field) (q : ℕ) → field_at s (length s) p last ≡ field_found.Got f q → Rest s q f.tag
    rest-field f q h =
        let x = in-front-fields f (reads_from (w.k - 1) s (length s) p q f.tag) w.fields
        (sym (turn-field s (length s) w.m p last (w.k - 1) f q a h) ∙ unwound) in
        let v = field-moves s (length s) p last f q h in
        record { k = w.k - 1; m = p; fields = x.0; fuel = omega (arith, w.fuel, v.0); read = x.1 }

    pub rest-keyless : {A : Type 0} (r : Refusal) → key_at s (length s) p last ≡ key_found.Refused r → A
    rest-keyless r h = no-refusal r (field-keyless s (length s) p last h)

    module _ (k : Key) (q : ℕ) (h : key_at s (length s) p last ≡ key_found.Got k q) where
      pub rest-valueless : {A : Type 0} (r : Refusal) → value_at s (length s) q k.wire ≡ value_found.Refused r → A
      rest-valueless r v = no-refusal r (field-keyed s (length s) p last h ∙ ap (tagged k.tag) v)

      module _ (v : Value) (n : ℕ) (x : value_at s (length s) q k.wire ≡ value_found.Got v n) where
        pub rest_read : field_at s (length s) p last ≡ field_found.Got (record { tag = k.tag; value = v }) n
        rest_read = field-keyed s (length s) p last h ∙ ap (tagged k.tag) x

        pub rest-next : Rest s n k.tag
        rest-next = rest-field (record { tag = k.tag; value = v }) n rest_read

        pub rest-first : items_from s p last ≡ record { tag = k.tag; content = shown s v } ∷ items_from s n k.tag
        rest-first = items-field s p last (record { tag = k.tag; value = v }) n a rest_read

      -- a key that is read has its value
      pub rest-value : (v : Value) × (n : ℕ) × (value_at s (length s) q k.wire ≡ value_found.Got v n)
      rest-value = go (value_at s (length s) q k.wire) refl
        where
          go : (o : ValueFound) → value_at s (length s) q k.wire ≡ o → (v : Value) × (n : ℕ) × (value_at s (length s) q k.wire ≡ value_found.Got v n)
          go (value_found.Got v n) x = (v, n, x)
          go (value_found.Refused r) x = rest-valueless r x

pub start-items : (s : List ℕ) (fs : List Field) (h : read_message s 0 (length s) ≡ Fields fs) → items_from s 0 0 ≡ items s fs
unfolding rest-start
start-items s fs h = rest-items (rest-start s fs h)

-- the tag of the first item, which is there
pub record Heads (s : List ℕ) (p last tag : ℕ) : Type 0 where
  pub first : Item
  pub others : List Item
  pub is : items_from s p last ≡ first ∷ others
  pub same : first.tag ≡ tag

pub heads : {s : List ℕ} {p last : ℕ} (w : Rest s p last) → p < length s → (k : Key) (q : ℕ) → key_at s (length s) p last ≡ key_found.Got k q
    → Heads s p last k.tag
heads {s} w a k q h =
    let x = rest-value w a k q h in
    record {
      first = record { tag = k.tag; content = shown s x.0 };
      others = items_from s x.1 k.tag;
      is = rest-first w a k q h x.0 x.1 x.2;
      same = refl;
    }
