-- A CAP IS AS GOOD AS A CUT: a message read from a start up to an end in a longer slice, beside the bytes between cut out and read whole.
use Rattle.std.specs.Prelude.{ℕ, zero, suc, ◌+◌, ◌-◌, ◌≤◌, ◌<◌, ◌≡◌, refl, Bool, true, false, List, [], ◌∷◌, ltb, length, take, drop}
use Rattle.std.proofs.Common.{ap, ◌∙◌, subst, ltb-true, ltb-false}
use native.Mathlib.Omega.{arith}
use Rattle.wire.specs.Numbers.{number_of}
use Rattle.wire.specs.Places.{part, items}
use Rattle.wire.specs.Reading.{field_at, Message, Fields, Refused, in_front, reads_from, read_message}
use Rattle.wire.proofs.ReadingLaws.{field-moves}
use Rattle.wire.specs.Theorem.{turn-field, turn-refused, turn_end, turn-past}
use Rattle.wire.specs.Marks.{Mark, marks_from, marks, fields_of, marks-turn, marks-end}
use Rattle.wire.specs.declared.Refusal.{Refusal}
use Rattle.wire.specs.declared.Refusal.TheVariants.{Truncated}
use Rattle.wire.specs.declared.Field.{Field}
use Rattle.wire.specs.declared.FieldFound.TheVariants as field_found
use Rattle.relay.specs.Pairs.{moved_field, Pair, truncated, Founds, same, refuse, passes}
use Rattle.relay.proofs.Pairs.{fields, item-moved}
use Rattle.relay.specs.Cap.{Alike, accepts, refuses}

module _ (s : List ℕ) (a c : ℕ) (inside : a + c ≤ length s) where
  abbrev b : List ℕ
  b = take c (drop a s)

  -- from a field on, in at most k fields; the field read last began at place m
  abbrev Onward : ℕ → ℕ → ℕ → ℕ → Type 0
  Onward k m p last =
      Alike s b a (reads_from k s (a + c) (a + m) (a + p) last) (reads_from k b c m p last) (marks_from k s (a + c) (a + p) last) (marks_from k b c p last)

  at-end : (k m p last : ℕ) → p ≡ c → Onward k m p last
  at-end k m p last h =
      accepts [] (turn_end s (a + c) (a + m) (a + p) last k (omega arith)) (turn_end b c m p last k h)
      (marks-end s (a + c) (a + p) last k (omega arith)) (marks-end b c p last k (omega arith)) refl

  -- a field that both read, in front of what follows it
  module _ (k m p last : ℕ) (f : Field) (q : ℕ) (l : p < c) (x : field_at s (a + c) (a + p) last ≡ field_found.Got (moved_field a f) (a + q))
      (y : field_at b c p last ≡ field_found.Got f q) where
    read-cap : reads_from (suc k) s (a + c) (a + m) (a + p) last ≡ in_front (moved_field a f) (reads_from k s (a + c) (a + p) (a + q) f.tag)
    read-cap = turn-field s (a + c) (a + m) (a + p) last k (moved_field a f) (a + q) (omega arith) x

    read-cut : reads_from (suc k) b c m p last ≡ in_front f (reads_from k b c p q f.tag)
    read-cut = turn-field b c m p last k f q l y

    behind : Onward k p q f.tag → Onward (suc k) m p last
    behind (accepts ms i j g h w) =
        accepts (record { key = p; field = f } ∷ ms) (read-cap ∙ ap (in_front (moved_field a f)) i) (read-cut ∙ ap (in_front f) j)
        (marks-turn s (a + c) (a + p) last k (moved_field a f) (a + q) (omega arith) x
        ∙ ap (λ (n : List Mark). record { key = a + p; field = moved_field a f } ∷ n) g)
        (marks-turn b c p last k f q l y ∙ ap (λ (n : List Mark). record { key = p; field = f } ∷ n) h)
        (rw (item-moved s a c inside p last f q y, w))
    behind (refuses r t i g h w) = refuses r t i (read-cap ∙ ap (in_front (moved_field a f)) g) (read-cut ∙ ap (in_front f) h) w

  alike : (k m p last : ℕ) → p ≤ c → c - p ≤ k → Onward k m p last
  alike zero m p last h l = at-end zero m p last (omega arith)
  alike (suc k) m p last h l = go (ltb p c) refl (fields s a c inside p last) (alike k)
    where
      go : (t : Bool) → ltb p c ≡ t → Founds a c (field_at s (a + c) (a + p) last) (field_at b c p last)
          → ((n q tag : ℕ) → q ≤ c → c - q ≤ k → Onward k n q tag) → Onward (suc k) m p last
      go false t o ih = at-end (suc k) m p last (omega (arith, ltb-false p c t))
      go true t (same f q x y i) ih =
          let n : p < c = ltb-true p c t in
          behind k m p last f q n x y (ih p q f.tag i (omega (arith, (field-moves b c p last f q y).0)))
      go true t (refuse r u x y w) ih =
          let n : p < c = ltb-true p c t in
          refuses r u p (turn-refused s (a + c) (a + m) (a + p) last k r (omega arith) x) (turn-refused b c m p last k u n y) w
      go true t (passes f q x y i) ih =
          let n : p < c = ltb-true p c t in
          refuses Truncated Truncated p
          (turn-field s (a + c) (a + m) (a + p) last k f q (omega arith) x ∙ ap (in_front f) (turn-past s (a + c) (a + p) q f.tag k i))
          (turn-refused b c m p last k Truncated n y) (truncated refl refl)

  whole : Alike s b a (read_message s a (a + c)) (read_message b 0 c) (marks s a (a + c)) (marks b 0 c)
  unfolding read_message marks
  whole =
      let i : a + c - a ≡ c = omega arith in
      let j : c - 0 ≡ c = omega arith in
      let z : a + 0 ≡ a = omega arith in
      rw (i, j) (rw z at (alike c 0 0 0 (omega arith) (omega arith)))

-- THE LAW, of every slice, start and end, where the start is not past the end
pub cap-and-cut : (s : List ℕ) (a e : ℕ) → a ≤ e → e ≤ length s
    → Alike s (part s a e) a (read_message s a e) (read_message (part s a e) 0 (e - a)) (marks s a e) (marks (part s a e) 0 (e - a))
cap-and-cut s a e order inside =
    let z : a + (e - a) ≡ e = omega arith in
    let b = part s a e in
    subst (λ (x : ℕ). Alike s b a (read_message s a x) (read_message b 0 (e - a)) (marks s a x) (marks b 0 (e - a))) z (whole s a (e - a) (omega arith))
