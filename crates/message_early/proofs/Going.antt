-- A search that goes on: the fields passed so far, and what a field, a key above, a refusal and the end make of that.
use Prim.Native.Nat.{ℕ, zero, suc, ◌-◌, ◌*◌, ◌≤◌, ◌<◌}
use mathlib.Core.Path.{◌≡◌, refl, ap, ◌∙◌, sym}
use mathlib.Core.List.{List, [], ◌∷◌, ◌++◌, append_assoc, append-nil}
use native.Mathlib.Omega.{arith}
use borrow.Author.Tests.{lt-ltb, le-ltb, eq-eqb, ne_eqb}
use lib.ListN.{length, length-append, drop}
use Rattle.wire.proofs.ReadingLaws.{field-moves}
use Rattle.wire.specs.declared.Refusal.{Refusal}
use Rattle.wire.specs.declared.Field.{Field}
use Rattle.message.specs.Tags.{of_tag}
use Rattle.message.proofs.Walking.{positive}
use Rattle.message.proofs.Seen.{Seen}
use Rattle.message_early.specs.Early.{sight_at, Stop, Ends, Above, Refused, also, stops_from, stop, only, told_of}
use Rattle.message_early.specs.Laws.{sight-field}
use Rattle.message_early.specs.declared.Sight.TheVariants as sight

abbrev ahead : List Field → Stop → Stop
ahead fs (Ends gs) = Ends (fs ++ gs)
ahead fs (Above gs p) = Above (fs ++ gs) p
ahead fs (Refused r) = Refused r

ahead_none : (x : Stop) → x ≡ ahead [] x
ahead_none (Ends gs) = refl
ahead_none (Above gs p) = refl
ahead_none (Refused r) = refl

ahead-also : (fs : List Field) (f : Field) (x : Stop) → ahead fs (also f x) ≡ ahead (fs ++ f ∷ []) x
ahead-also fs f (Ends gs) = ap Ends (sym (append_assoc fs (f ∷ []) gs))
ahead-also fs f (Above gs p) = ap (λ (hs : List Field). Above hs p) (sym (append_assoc fs (f ∷ []) gs))
ahead-also fs f (Refused r) = refl

-- fs was read; the last of them has the tag last; the next place is p
pub record Going (t : ℕ) (s : List ℕ) (p last : ℕ) (fs : List Field) : Type 0 where
  pub k : ℕ
  pub fuel : length s - p ≤ k
  pub counted : 2 * length fs ≤ p
  pub same : stop t s ≡ ahead fs (stops_from k t s p last)

pub going_start : (t : ℕ) (s : List ℕ) → Going t s 0 0 []
unfolding stop
going_start t s = record { k = length s; fuel = omega arith; counted = omega arith; same = ahead_none (stop t s) }

module _ {t : ℕ} {s : List ℕ} {p last : ℕ} {fs : List Field} (w : Going t s p last fs) where
  unwound : p < length s → stop t s ≡ ahead fs (stops_from (suc (w.k - 1)) t s p last)
  unwound a = w.same ∙ ap (λ (j : ℕ). ahead fs (stops_from j t s p last)) (positive w.k (omega (arith, w.fuel)))

  pub going-field : p < length s → (f : Field) (q : ℕ) → sight_at t s p last ≡ sight.Field f q → Going t s q f.tag (fs ++ f ∷ [])
  going-field a f q h =
      let v = field-moves s (length s) p last f q (sight-field t s p last f q h) in
      record {
        k = w.k - 1;
        fuel = omega (arith, w.fuel, v.0);
        counted = omega (arith, w.counted, v.0, length-append fs (f ∷ []));
        same = unwound a ∙ rw (lt-ltb p (length s) a, h) (ahead-also fs f (stops_from (w.k - 1) t s q f.tag));
      }

  pub going-above : p < length s → sight_at t s p last ≡ sight.Above → stop t s ≡ Above fs p
  going-above a h = unwound a ∙ rw (lt-ltb p (length s) a, h) (ap (λ (hs : List Field). Above hs p) (append-nil fs))

  pub going-refused : p < length s → (r : Refusal) → sight_at t s p last ≡ sight.Refused r → stop t s ≡ Refused r
  going-refused a r h = unwound a ∙ rw (lt-ltb p (length s) a, h)

  ends : (k : ℕ) → length s ≤ p → stops_from k t s p last ≡ Ends []
  ends zero a = refl
  ends (suc k) a = rw (le-ltb p (length s) a)

  pub going_end : length s ≤ p → stop t s ≡ Ends fs
  going_end a = w.same ∙ ap (ahead fs) (ends w.k a) ∙ ap Ends (append-nil fs)

-- what was seen of the tag is what is told
pub seen-told : (t : ℕ) (fs : List Field) (many : ℕ) (found : Field) (n : ℕ) → Seen t 0 fs many found → only n (of_tag t fs) ≡ told_of found many n
seen-told t fs many found n w = go (of_tag t fs) w.counted w.there
  where
    go : (gs : List Field) → many ≡ length gs → (0 < many → (hs : List Field) × (drop 0 gs ≡ found ∷ hs)) → only n gs ≡ told_of found many n
    go [] c h = rw (eq-eqb many 0 c)
    go (f ∷ []) c h = let y = (h (omega arith)).1 in let x : f ≡ found = cc in rw (ne_eqb many 0 (λ z. omega arith), eq-eqb many 1 c, x)
    go (f ∷ g ∷ gs) c h = rw (ne_eqb many 0 (λ z. omega arith), ne_eqb many 1 (λ z. omega arith))
