-- A message sought through for a tag: what was found, ahead of what is left to look at, is what there is.
use Prim.Native.Nat.{ℕ, zero, suc, ◌+◌, ◌-◌, ◌*◌, ◌≤◌, ◌<◌}
use mathlib.Core.Path.{◌≡◌, refl, ap, ◌∙◌, sym}
use mathlib.Core.List.{List, ◌∷◌}
use native.Mathlib.Omega.{arith}
use native.Mathlib.Nat.{add-zero}
use lib.Dec.{eqb}
use lib.ListN.{length}
use borrow.Author.Tests.{ne_eqb}
use Rattle.wire.specs.Choose.{choose}
use Rattle.wire.specs.Reading.{key_at, value_at, tagged, field_at, Message, reads_from, read_message}
use Rattle.wire.proofs.ReadingLaws.{field-moves}
use Rattle.wire.specs.StepLaws.{field-keyed, field-keyless}
use Rattle.wire.specs.Theorem.{turn-field, turn-refused, turn_end}
use Rattle.wire.specs.Marks.{Mark, marks_from, marks, marks-turn, marks-end}
use Rattle.wire.specs.declared.Refusal.{Refusal}
use Rattle.wire.specs.declared.Value.{Value}
use Rattle.wire.specs.declared.Key.{Key}
use Rattle.wire.specs.declared.Field.{Field}
use Rattle.wire.specs.declared.KeyFound.TheVariants as key_found
use Rattle.wire.specs.declared.ValueFound.TheVariants as value_found
use Rattle.wire.specs.declared.FieldFound.TheVariants as field_found
use Rattle.message.proofs.Walking.{positive}
use Rattle.message_payload.specs.declared.Span.{Span}
use Rattle.correct_supply.specs.declared.Held.{Held}
use Rattle.correct_supply.specs.declared.Held.TheVariants as held_as
use Rattle.correct_supply.specs.Supplying.{nowhere, bare_at, bare_of, between, ahead, held_in, accepting}
use Rattle.correct_supply.specs.SupplyLaws.{held_same, held-other, ahead_none, ahead-one, accepting-front, accepting-ahead, key-after, bare-between}

-- what a message that passed the gate has of a tag
abbrev pub whole : List ℕ → ℕ → Held
whole s t = accepting (read_message s 0 (length s)) (held_in s t (marks s 0 (length s)))

-- what is left of it from a place on
abbrev left : ℕ → List ℕ → ℕ → ℕ → ℕ → ℕ → Held
left k s t m p last = accepting (reads_from k s (length s) m p last) (held_in s t (marks_from k s (length s) p last))

-- nothing is left
ahead-last : (n : ℕ) (f : Span) → (n ≡ 0 → f ≡ nowhere) → ahead n f (held_as.Fields 0 nowhere) ≡ held_as.Fields n f
ahead-last zero f h = ap (held_as.Fields 0) (sym (h refl))
ahead-last (suc n) f h = rw (ne_eqb (suc n) 0 (λ z. omega arith), add-zero (suc n))

pub record Seeking (s : List ℕ) (t p last count : ℕ) (found : Span) : Type 0 where
  pub k : ℕ
  pub m : ℕ
  pub fuel : length s - p ≤ k
  pub inside : p ≤ length s
  pub few : 2 * count ≤ p
  pub none : count ≡ 0 → found ≡ nowhere
  pub same : whole s t ≡ ahead count found (left k s t m p last)

pub seek-start : (s : List ℕ) (t : ℕ) → Seeking s t 0 0 0 nowhere
unfolding read_message marks
seek-start s t =
    record {
      k = length s - 0;
      m = 0;
      fuel = omega arith;
      inside = omega arith;
      few = omega arith;
      none = λ e. refl;
      same = ahead_none (whole s t);
    }

module _ {s : List ℕ} {t p last count : ℕ} {found : Span} (w : Seeking s t p last count found) where
  pub seek-end : length s ≤ p → held_as.Fields count found ≡ whole s t
  unfolding held_in
  seek-end h =
      let e : p ≡ length s = omega (arith, w.inside) in
      let l : left w.k s t w.m p last ≡ held_as.Fields 0 nowhere =
      rw (turn_end s (length s) w.m p last w.k e, marks-end s (length s) p last w.k h) in
      sym (w.same ∙ ap (ahead count found) l ∙ ahead-last count found w.none)

  module _ (a : p < length s) where
    unwound : whole s t ≡ ahead count found (left (suc (w.k - 1)) s t w.m p last)
    unwound = w.same ∙ ap (λ (j : ℕ). ahead count found (left j s t w.m p last)) (positive w.k (omega (arith, w.fuel)))

    refused : (r : Refusal) → field_at s (length s) p last ≡ field_found.Refused r → held_as.Refused r ≡ whole s t
    refused r h =
        sym
        (unwound
        ∙ ap (λ (x : Message). ahead count found (accepting x (held_in s t (marks_from (suc (w.k - 1)) s (length s) p last))))
        (turn-refused s (length s) w.m p last (w.k - 1) r a h))

    pub seek-keyless : (r : Refusal) → key_at s (length s) p last ≡ key_found.Refused r → held_as.Refused r ≡ whole s t
    seek-keyless r h = refused r (field-keyless s (length s) p last h)

    module _ (k : Key) (q : ℕ) (h : key_at s (length s) p last ≡ key_found.Got k q) where
      pub seek-valueless : (r : Refusal) → value_at s (length s) q k.wire ≡ value_found.Refused r → held_as.Refused r ≡ whole s t
      seek-valueless r v = refused r (field-keyed s (length s) p last h ∙ ap (tagged k.tag) v)

      module _ (v : Value) (n : ℕ) (x : value_at s (length s) q k.wire ≡ value_found.Got v n) where
        abbrev field : Field
        field = record { tag = k.tag; value = v }

        abbrev mark : Mark
        mark = record { key = p; field = field }

        read : field_at s (length s) p last ≡ field_found.Got field n
        read = field-keyed s (length s) p last h ∙ ap (tagged k.tag) x

        pub seek-moves : (p + 2 ≤ n) × (n ≤ length s)
        seek-moves = let v = field-moves s (length s) p last field n read in (v.0, v.1)

        turned : whole s t
            ≡ ahead count found (accepting (reads_from (w.k - 1) s (length s) p n k.tag) (held_in s t (mark ∷ marks_from (w.k - 1) s (length s) n k.tag)))
        turned =
            unwound
            ∙ ap (λ (y : Message). ahead count found (accepting y (held_in s t (marks_from (suc (w.k - 1)) s (length s) p last))))
            (turn-field s (length s) w.m p last (w.k - 1) field n a read)
            ∙ ap (ahead count found) (accepting-front field (reads_from (w.k - 1) s (length s) p n k.tag) _)
            ∙ ap (λ (ms : List Mark). ahead count found (accepting (reads_from (w.k - 1) s (length s) p n k.tag) (held_in s t ms)))
            (marks-turn s (length s) p last (w.k - 1) field n a read)

        pub seek-other : (k.tag ≡ t → ⊥) → Seeking s t n k.tag count found
        seek-other e =
            record {
              k = w.k - 1;
              m = p;
              fuel = omega (arith, w.fuel, seek-moves.0);
              inside = seek-moves.1;
              few = omega (arith, w.few, seek-moves.0);
              none = w.none;
              same = turned ∙ ap (λ (y : Held). ahead count found (accepting (reads_from (w.k - 1) s (length s) p n k.tag) y))
                  (held-other s t mark (marks_from (w.k - 1) s (length s) n k.tag) e);
            }

        pub seek-same : k.tag ≡ t → (f : Span) → f ≡ choose (eqb count 0) (between v q n) found → Seeking s t n k.tag (count + 1) f
        seek-same e f g =
            let ms = marks_from (w.k - 1) s (length s) n k.tag in
            let y = reads_from (w.k - 1) s (length s) p n k.tag in
            let b : bare_of s mark ≡ between v q n =
            ap (λ (i : ℕ). bare_at s i v) (key-after s (length s) p last k q h) ∙ sym (bare-between s (length s) q k.wire v n x) in
            record {
              k = w.k - 1;
              m = p;
              fuel = omega (arith, w.fuel, seek-moves.0);
              inside = seek-moves.1;
              few = omega (arith, w.few, seek-moves.0);
              none = λ z. absurd (omega arith);
              same = turned
                  ∙ ap (λ (z : Held). ahead count found (accepting y z)) (held_same s t mark ms e)
                  ∙ ap (ahead count found) (accepting-ahead 1 (bare_of s mark) y (held_in s t ms))
                  ∙ ahead-one count found (bare_of s mark) (accepting y (held_in s t ms))
                  ∙ ap (λ (z : Span). ahead (count + 1) z (accepting y (held_in s t ms))) (ap (λ (z : Span). choose (eqb count 0) z found) b ∙ sym g);
            }
