-- The walks over a table's records: where each stands, and what a turn does.
use Prim.Native.Nat.{ℕ, ◌+◌, ◌^◌, ◌≤◌, ◌<◌}
use mathlib.Core.Path.{◌≡◌, refl, ap, ◌∙◌, sym}
use mathlib.Core.List.{List}
use mathlib.Core.Logic.{inl, inr}
use native.Mathlib.Omega.{arith}
use native.Mathlib.Numerals.{add-one}
use Rattle.wire.specs.Limits.{no_key}
use Rattle.write_record.specs.Taken.{record_in}
use Rattle.wire.specs.declared.Record.{Record}
use Rattle.edit_live.specs.declared.Span.{Span}
use Rattle.edit_live.specs.Spans.{end, no_span, span_in, meets_any, first_where, first_overlap, keyed_at, first_keyed}
use Rattle.edit_live.specs.Spans.{Nearest, seek, next_live}
use Rattle.edit_live.specs.SpanLaws.{span-inside, apart-any, keyed-not, keyed-is, first_on, first_found}
use Rattle.edit_live.specs.Gaps.{Clear, Inside, Gap, inside-apart, clear_none, clear-passed, clear-skipped}

-- no span's end wraps
pub span_fits : (n : ℕ) (t : List ℕ) (k i : ℕ) {s : Span} → s ≡ span_in n t k i → n < 2 ^ 64 → end s < 2 ^ 64
span_fits n t k i e h = let z = ap end e in omega (arith, span-inside n t k i)

-- ---- a number that each record moves

-- ---- the next in order of place

pub seek-done : (n c : ℕ) (f : ℕ → Span) (from : ℕ) {next low i : ℕ} → record { index = next; start = low } ≡ seek n c i f from → i ≡ c
    → next ≡ next_live n c f from
unfolding next_live
seek-done n c f from w e = ap (λ (x : Nearest). x.index) (w ∙ ap (λ (x : ℕ). seek n c x f from) e)

-- ---- overlaps

pub record Clearing (f : ℕ → Span) (low high i : ℕ) : Type 0 where
  pub none : first_overlap i f ≡ i
  pub clear : Clear i f low high

pub clear-start : (f : ℕ → Span) (low high : ℕ) → Clearing f low high 0
unfolding first_where
clear-start f low high = record { none = refl; clear = clear_none f low high }

module _ {f : ℕ → Span} {low high i : ℕ} (w : Clearing f low high i) where
  pub clear-done : {c : ℕ} → i ≡ c → c ≤ first_overlap c f
  clear-done {c} e = let z : first_overlap c f ≡ c = rw e at w.none in omega arith

  module _ {s : Span} (e : s ≡ f i) where
    pub clear-found : {c r : ℕ} → i < c → 0 < s.len → Gap i f s r → r ≡ 0 → i ≡ first_overlap c f
    clear-found {c} {r} h b g z = go g
      where
        go : Gap i f s r → i ≡ first_overlap c f
        go (inl x) = sym (first_found (λ j. meets_any j f (f j)) c i h w.none (rw e at x.meet))
        go (inr x) = absurd (omega (arith, x.over))

    pub clear-more : {r l m : ℕ} → Gap i f s r → (r ≡ 0 → ⊥) → l ≡ end s → m ≡ r → Clearing f l m (i + 1)
    clear-more {r} {l} {m} g z x y = go g
      where
        go : Gap i f s r → Clearing f l m (i + 1)
        go (inl u) = absurd (z u.none)
        go (inr u) =
            let v : Inside i f (f i) r = rw e at u in
            record {
              none = rw (add-one i) (first_on (λ j. meets_any j f (f j)) i w.none (inside-apart v));
              clear = rw (add-one i, x, y, e) (clear-passed v);
            }

    pub clear-none-there : {l m : ℕ} → f i ≡ no_span → l ≡ low → m ≡ high → Clearing f l m (i + 1)
    clear-none-there {l} {m} z x y =
        let k = clear-skipped i f low high w.clear z in
        record {
          none = rw (add-one i) (first_on (λ j. meets_any j f (f j)) i w.none (rw z (apart-any i f no_span (λ j g. inr (omega arith)))));
          clear = rw (add-one i, x, y) k;
        }

-- ---- key words

pub record Keying (t : List ℕ) (i : ℕ) : Type 0 where
  pub none : first_keyed i t ≡ i

pub key-start : (t : List ℕ) → Keying t 0
unfolding first_where
key-start t = record { none = refl }

pub key-done : {t : List ℕ} {i c : ℕ} → Keying t i → i ≡ c → c ≤ first_keyed c t
key-done {t} {i} {c} w e = let z : first_keyed c t ≡ c = rw e at w.none in omega arith

module _ {t : List ℕ} {i : ℕ} (w : Keying t i) {r : Record} (e : r ≡ record_in t i) where
  pub key_more : r.key ≡ no_key → Keying t (i + 1)
  key_more k =
      record { none = rw (add-one i) (first_on (keyed_at t) i w.none (keyed-not t i (ap (λ (x : Record). x.key) (sym e) ∙ k))) }

  pub key-found : {c : ℕ} → i < c → (r.key ≡ no_key → ⊥) → i ≡ first_keyed c t
  key-found {c} h k = sym (first_found (keyed_at t) c i h w.none (keyed-is t i (λ z. k (ap (λ (x : Record). x.key) e ∙ z))))
