-- Whole messages (rule M7): what is accepted is exactly what some good list of items is written as, and there is one such list.
use Rattle.std.specs.Prelude.{ℕ, zero, suc, ◌+◌, ◌-◌, ◌*◌, ◌≤◌, ◌<◌, ◌≡◌, refl, Bool, true, false, ltb, eqb}
use Rattle.std.proofs.Math.Path.{ap, sym}
use Rattle.std.proofs.Common.{◌∙◌, arith, lt-ltb, le-ltb, ltb-true, ltb-false, eq-eqb, ne_eqb, eqb-true, length-append, take-append-drop}
use mathlib.Core.List.{List, [], ◌∷◌, ◌++◌, append_assoc}
use Rattle.std.proofs.Math.ListN.{length, drop, length-drop}
use Rattle.std.proofs.Math.Seq.{length-take-le}
use Rattle.wire.specs.VarintLaws.{Bytes}
use Rattle.wire.specs.Written.{Item, written_item, written_from, written, GoodFrom, Good}
use Rattle.wire.specs.Places.{part, items, join, behind}
use Rattle.wire.specs.Reading.{field_at, Message, Fields, Refused, in_front, ended, reads_from, read_message}
use Rattle.wire.proofs.ReadingLaws.{field-moves, field-took, field_back, item-pos}
use Rattle.wire.specs.declared.Refusal.{Refusal}
use Rattle.wire.specs.declared.Refusal.TheVariants.{Truncated}
use Rattle.wire.specs.declared.Field.{Field}
use Rattle.wire.specs.declared.FieldFound.{FieldFound}
use Rattle.wire.specs.declared.FieldFound.TheVariants as field_found
use Rattle.wire.specs.Theorem.{Stands, Took, Written, ended-fields, in-front-fields, none, refused-fields, some, took-none, turn-ended, turn-field, turn-refused, turn_end}

pub stands : (k : ℕ) (s : List ℕ) (e m p last : ℕ) (fs : List Field) → reads_from (suc k) s e m p last ≡ Fields fs → Stands k s e p last fs
stands k s e m p last fs h = go (ltb p e) refl (field_at s e p last) refl
  where
    go : (b : Bool) → ltb p e ≡ b → (o : FieldFound) → field_at s e p last ≡ o → Stands k s e p last fs
    go true b (field_found.Got f q) o =
        let x = in-front-fields f (reads_from k s e p q f.tag) fs (sym (turn-field s e m p last k f q (ltb-true p e b) o) ∙ h) in
        some f q x.0 (ltb-true p e b) o x.1 x.2
    go true b (field_found.Refused r) o = refused-fields r p fs (sym (turn-refused s e m p last k r (ltb-true p e b) o) ∙ h)
    go false b o q = ended-fields k s e m p last fs (sym (turn-ended s e m p last (suc k) (ltb-false p e b)) ∙ h)

pub message-took : (k : ℕ) (s : List ℕ) (e m p last : ℕ) (fs : List Field) → Bytes s → e - p ≤ k → reads_from k s e m p last ≡ Fields fs → Took s e p last fs
message-took zero s e m p last fs h g r = go (ended-fields zero s e m p last fs r)
  where
    go : Stands zero s e p last fs → Took s e p last fs
    go (none a b) = took-none zero s e p last fs a b
    go (some f q gs a b c d) = let z : ◌≡◌ {A = ℕ} 0 1 = omega arith in absurd (omega arith)
message-took (suc k) s e m p last fs h g r = go (λ f q gs. message-took k s e p q f.tag gs h) (stands k s e m p last fs r)
  where
    go : ((f : Field) (q : ℕ) (gs : List Field) → e - q ≤ k → reads_from k s e p q f.tag ≡ Fields gs → Took s e q f.tag gs)
        → Stands k s e p last fs → Took s e p last fs
    go ih (none a b) = took-none k s e p last fs a b
    go ih (some f q gs a b c d) =
        let v = field-moves s e p last f q b in
        let x = field-took s e p last f q h b in
        let y = ih f q gs (omega (arith, v.0)) c in
        rw d (
          sym (join s p q e (omega (arith, v.0)) (omega (arith, y.2))) ∙ rw (x.0, y.0),
          (x.1, y.1),
          omega (arith, v.0, y.2),
        )

pub message-back : (k : ℕ) (s : List ℕ) (e m p last : ℕ) (is : List Item) (t : List ℕ) → drop p s ≡ written_from last is ++ t → GoodFrom last is
    → e ≡ p + length (written_from last is) → e - p ≤ k → (fs : List Field) × (reads_from k s e m p last ≡ Fields fs) × (items s fs ≡ is)
message-back k s e m p last [] t d g h j = ([], turn_end s e m p last k (omega arith), refl)
message-back zero s e m p last (i ∷ is) t d g h j =
    let z : ◌≡◌ {A = ℕ} 0 1 = omega (arith, item-pos last i, length-append (written_item last i) (written_from i.tag is)) in
    absurd (omega arith)
message-back (suc k) s e m p last (i ∷ is) t d g h j =
    let a = written_item last i in
    let b = written_from i.tag is in
    let len = length-append a b in
    let pos = item-pos last i in
    let c : drop p s ≡ a ++ (b ++ t) = d ∙ append_assoc a b t in
    let x = field_back s e p last i (b ++ t) c g.0 (omega (arith, len)) in
    let tag : x.0.tag ≡ i.tag = ap (λ (y : Item). y.tag) x.2 in
    let y = message-back k s e p (p + length a) i.tag is t (behind s p a (b ++ t) c) g.1 (omega (arith, len)) (omega (arith, len, pos)) in (
      x.0 ∷ y.0,
      turn-field s e m p last k x.0 (p + length a) (omega (arith, len, pos)) x.1
          ∙ ap (λ (l : ℕ). in_front x.0 (reads_from k s e p (p + length a) l)) tag ∙ ap (in_front x.0) y.1,
      rw (x.2, y.2),
    )

module _ (s : List ℕ) (start e : ℕ) where
  -- what is accepted is a good list, written as those bytes (rule M7); each field takes two bytes (rule M8)
  pub accepted : Bytes s → (fs : List Field) → read_message s start e ≡ Fields fs → Written s start e (items s fs) × (start + 2 * length fs ≤ e)
  unfolding read_message
  accepted h fs r =
      let x = message-took (e - start) s e start start 0 fs h (omega arith) r in
      (record { good = x.1; bytes = x.0 }, x.2)

  -- a good list that is written so is read back
  pub complete : start ≤ e → e ≤ length s → (is : List Item) → Written s start e is
      → (fs : List Field) × (read_message s start e ≡ Fields fs) × (items s fs ≡ is)
  unfolding read_message
  complete a b is w =
      let n = e - start in
      let len : length (part s start e) ≡ n = length-take-le n (drop start s) (omega (arith, length-drop start s)) in
      let j : n ≡ length (written is) = sym len ∙ ap length w.bytes in
      let c : drop start s ≡ written is ++ drop n (drop start s) =
      sym (take-append-drop n (drop start s)) ∙ ap (λ (l : List ℕ). l ++ drop n (drop start s)) w.bytes in
      message-back n s e start start 0 is (drop n (drop start s)) c w.good (omega (arith, j)) (omega arith)

  -- there is no other
  pub unique : start ≤ e → e ≤ length s → (is js : List Item) → Written s start e is → Written s start e js → is ≡ js
  unique a b is js v w =
      let x = complete a b is v in
      let y = complete a b js w in
      let z : Fields x.0 ≡ Fields y.0 = sym x.1 ∙ y.1 in
      let f : x.0 ≡ y.0 = cc in
      sym x.2 ∙ ap (items s) f ∙ y.2

  -- what is refused is written by none
  pub refused : start ≤ e → e ≤ length s → (r : Refusal) (p : ℕ) (is : List Item) → read_message s start e ≡ Refused r p → Written s start e is → ⊥
  refused a b r p is h w = let x = complete a b is w in refused-fields r p x.0 (sym h ∙ x.1)
