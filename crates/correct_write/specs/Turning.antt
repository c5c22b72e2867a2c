-- One tag of a correction over the rest of an original: which fields are moved, and what is left to be written.
use Rattle.std.specs.Prelude.{ℕ, suc, ◌+◌, ◌*◌, ◌≤◌, ◌<◌, ◌≡◌, Bool, true, false, ltb, length}
use Rattle.std.proofs.Math.Path.{refl, ap, sym}
use Rattle.std.proofs.Common.{◌∙◌, arith, add-one, ltb-true, ltb-false, length-append}
use mathlib.Core.List.{List, [], ◌∷◌, ◌++◌, append_assoc, append-nil}
use Rattle.wire.specs.Choose.{choose}
use Rattle.wire.specs.Limits.{message_limit}
use Rattle.wire.specs.VarintLaws.{Bytes}
use Rattle.wire.specs.Written.{Item, written_from, GoodFrom}
use Rattle.place.specs.Spans.{Spans, spans-length, spans-none, spans-behind}
use Rattle.correct_write.specs.declared.Turn.{Turn}
use Rattle.correct_write.specs.Corrected.{corrected}
use Rattle.correct_write.specs.TagByTag.{Under, Over, ordered-over, good-ordered, over-wider, over-parts, tag-turn}
use Rattle.correct_write.specs.Rests.{items_from, Rest, items-end, rest-inside, rest-bytes, Heads}
use Rattle.correct_write.specs.Moving.{moved, Run, moved-few, last_tag, written_both, Stretch, stretch-some, stretch-run, stretch-moved}
use Rattle.correct_write.specs.Moving.{stretch-last, stretch-all, Passing, passing-stretch}

-- what is still to be written: the original from place p on, under the correction from place q on, behind a tag
unfoldable pub left : List ℕ → ℕ → ℕ → List ℕ → ℕ → ℕ → List ℕ
left o p last c q tag = written_from tag (corrected (items_from c q tag) (items_from o p last))

-- the whole result
abbrev pub result_bytes : List ℕ → List ℕ → List ℕ
result_bytes o c = left o 0 0 c 0 0

-- a tag of the correction: the original's fields of lower tags are moved, then the correction's of the tag; the original's of the tag are passed over
pub record Turned (o : List ℕ) (p last : ℕ) (c : List ℕ) (q prior : ℕ) (t : Turn) : Type 0 where
  pub low : Run o p last t.low
  pub group : Run c q prior t.group
  pub original : Rest o t.next t.last
  pub correction : Rest c t.group t.tag
  pub onward : p ≤ t.low
  pub over : t.low ≤ t.next
  pub further : q < t.group
  pub bytes : left o p last c q prior
      ≡ moved o p last t.low prior ++ (moved c q prior t.group t.out ++ left o t.next t.last c t.group t.tag)

heads-over : {s : List ℕ} {p last t : ℕ} → Bytes s → Rest s p last → Heads s p last t → Over t (items_from s p last)
heads-over {s} {p} {last} {t} b w h =
    let g : GoodFrom last (h.first ∷ h.others) = rw h.is at (rest-bytes w b).1 in
    let e : t ≤ h.first.tag = omega (arith, h.same) in
    rw h.is (e, over-wider h.first.tag t h.others e (ordered-over h.first.tag h.others (good-ordered h.first.tag h.others g.1)))

-- the tag behind the original's fields of lower tags
pub later-tag : (s : List ℕ) → Bytes s → (p last limit q tag prior : ℕ) (w : Passing s p last limit q tag)
    → last_tag prior w.passed ≡ choose (ltb p q) tag prior
later-tag s b p last limit q tag prior w = go (ltb p q) refl
  where
    go : (x : Bool) → ltb p q ≡ x → last_tag prior w.passed ≡ choose (ltb p q) tag prior
    go true x = (stretch-last s b p last q w.passed (passing-stretch w) prior).0 (ltb-true p q x) ∙ sym w.ends ∙ rw x
    go false x = (stretch-last s b p last q w.passed (passing-stretch w) prior).1 (ltb-false p q x) ∙ rw x

module _ (o : List ℕ) (p last : ℕ) (c : List ℕ) (q prior : ℕ) (b : Bytes o) (d : Bytes c) (t : ℕ) (h : Heads c q prior t)
    (i k j l u v : ℕ)
    (low : Passing o p last t i k) (lows : Over t (items_from o i k))
    (high : Passing o i k (t + 1) j l) (highs : Over (t + 1) (items_from o j l))
    (group : Passing c q prior (t + 1) u v) (groups : Over (t + 1) (items_from c u v)) where
  -- the correction has the tag
  some-group : (gs : List Item) → group.passed ≡ gs → (g : Item) × (hs : List Item) × (group.passed ≡ g ∷ hs)
  some-group [] e =
      let x : items_from c u v ≡ h.first ∷ h.others = sym (group.whole ∙ ap (λ (z : List Item). z ++ items_from c u v) e) ∙ h.is in
      let y : Over (t + 1) (h.first ∷ h.others) = rw x at groups in
      absurd (omega (arith, y.0, h.same))
  some-group (g ∷ hs) e = (g, hs, e)

  merged : (g : Item) (hs : List Item) → group.passed ≡ g ∷ hs
      → corrected (items_from c q prior) (items_from o p last) ≡ low.passed ++ g ∷ (hs ++ corrected (items_from c u v) (items_from o j l))
  merged g hs e =
      let xs = low.passed in
      let ys = high.passed in
      let one = add-one t in
      let ws : items_from c q prior ≡ g ∷ (hs ++ items_from c u v) = group.whole ∙ ap (λ (z : List Item). z ++ items_from c u v) e in
      let vs : items_from o p last ≡ xs ++ (ys ++ items_from o j l) = low.whole ∙ ap (λ (z : List Item). xs ++ z) high.whole in
      let a : Over t (g ∷ hs) = (over-parts t (g ∷ hs) (items_from c u v) (rw ws at (heads-over d group.start h))).0 in
      let f : Under (suc t) (g ∷ hs) = rw (one, e) at group.under in
      let m : Over t (ys ++ items_from o j l) = rw high.whole at lows in
      let n : Under (suc t) ys = rw one at high.under in
      let r : Over (suc t) (items_from o j l) = rw one at highs in
      rw (ws, vs) (tag-turn t g hs (items_from c u v) xs ys (items_from o j l) a f low.under m n r)

  pub turned : (out : ℕ) → out ≡ choose (ltb p i) k prior
      → Turned o p last c q prior (record { low = i; out = out; group = u; tag = v; next = j; last = l })
  unfolding left
  turned out e =
      let x = some-group group.passed refl in
      let g = x.0 in
      let hs = x.1 in
      let xs = low.passed in
      let rest = corrected (items_from c u v) (items_from o j l) in
      let f : last_tag prior xs ≡ out = later-tag o b p last t i k prior low ∙ sym e in
      let y : Stretch c q prior u (g ∷ hs) = rw x.2 at (passing-stretch group) in
      let n : last_tag g.tag hs ≡ v = sym (group.ends ∙ ap (last_tag prior) x.2) in
      record {
        low = stretch-run o b p last i xs (passing-stretch low);
        group = stretch-run c d q prior u (g ∷ hs) y;
        original = high.rest;
        correction = group.rest;
        onward = low.onward;
        over = high.onward;
        further = stretch-some c d q prior u g hs y;
        bytes = ap (written_from prior) (merged g hs x.2)
            ∙ written_both prior xs (g ∷ (hs ++ rest))
            ∙ rw (f, written_both out (g ∷ hs) rest, n, stretch-moved o b p last i xs (passing-stretch low) prior, stretch-moved c d q prior u (g ∷ hs) y out);
      }

-- ---- the correction is at its end: the rest of the original is moved

module _ (o : List ℕ) (p last : ℕ) (b : Bytes o) (w : Rest o p last) where
  pub run_end : Run o p last (length o)
  run_end = stretch-run o b p last (length o) (items_from o p last) (stretch-all o p last b w)

  pub left_end : (c : List ℕ) (q tag : ℕ) → length c ≤ q → left o p last c q tag ≡ moved o p last (length o) tag
  unfolding left
  left_end c q tag h =
      ap (λ (cs : List Item). written_from tag (corrected cs (items_from o p last))) (items-end c q tag h)
      ∙ sym (stretch-moved o b p last (length o) (items_from o p last) (stretch-all o p last b w) tag)

-- both messages are accepted, and none is too long
pub record Both (o c : List ℕ) : Type 0 where
  pub original : Rest o 0 0
  pub correction : Rest c 0 0
  pub short : length o ≤ message_limit
  pub brief : length c ≤ message_limit

-- ---- measured

pub record Measuring (o c : List ℕ) (p last q tag n : ℕ) : Type 0 where
  pub original : Rest o p last
  pub correction : Rest c q tag
  pub few : n ≤ 9 * (p + q)
  pub same : length (result_bytes o c) ≡ n + length (left o p last c q tag)

pub measure-start : (o c : List ℕ) → Both o c → Measuring o c 0 0 0 0 0
measure-start o c w = record { original = w.original; correction = w.correction; few = omega arith; same = omega arith }

module _ {o c : List ℕ} {p last q tag n : ℕ} (y : Both o c) (w : Measuring o c p last q tag n) where
  module _ {t : Turn} (x : Turned o p last c q tag t) where
    -- none of the sums wraps
    pub measure-first : n + length (moved o p last t.low tag) ≤ 18 * message_limit
    measure-first =
        omega (arith, w.few, moved-few x.low tag, x.low.inside, x.onward, rest-inside w.correction, y.short, y.brief)

    pub measure-second : n + length (moved o p last t.low tag) + length (moved c q tag t.group t.out) ≤ 18 * message_limit
    measure-second =
        let a = moved-few x.low tag in
        let b = moved-few x.group t.out in
        omega (arith, w.few, a, b, x.low.inside, x.group.inside, x.onward, x.further, y.short, y.brief)

    pub measure-more : Measuring o c t.next t.last t.group t.tag
        (n + length (moved o p last t.low tag) + length (moved c q tag t.group t.out))
    measure-more =
        let a = moved o p last t.low tag in
        let b = moved c q tag t.group t.out in
        let r = left o t.next t.last c t.group t.tag in
        record {
          original = x.original;
          correction = x.correction;
          few = omega (arith, w.few, moved-few x.low tag, moved-few x.group t.out, x.onward, x.over, x.further);
          same = w.same ∙ omega (arith, ap length x.bytes, length-append a (b ++ r), length-append b r);
        }

    -- the same with the counts as they were answered
    pub measure-on : {a b : ℕ} → a ≡ length (moved o p last t.low tag) → b ≡ length (moved c q tag t.group t.out)
        → Measuring o c t.next t.last t.group t.tag (n + a + b)
    measure-on e f = rw (e, f) measure-more

  module _ (b : Bytes o) (h : length c ≤ q) where
    pub measure-last : n + length (moved o p last (length o) tag) ≤ 18 * message_limit
    measure-last =
        omega
        (arith, w.few, moved-few (run_end o p last b w.original) tag, rest-inside w.original, rest-inside w.correction, y.short, y.brief)

    pub measure-done : n + length (moved o p last (length o) tag) ≡ length (result_bytes o c)
    measure-done = sym (w.same ∙ ap (λ (l : List ℕ). n + length l) (left_end o p last b w.original c q tag h))

-- ---- put

pub record Putting (b o c buf : List ℕ) (at p last q tag : ℕ) : Type 0 where
  pub original : Rest o p last
  pub correction : Rest c q tag
  pub done : List ℕ
  pub put : Spans b 0 at done buf
  pub same : result_bytes o c ≡ done ++ left o p last c q tag

pub put-start : (b o c : List ℕ) → Both o c → Putting b o c b 0 0 0 0 0
put-start b o c w = record { original = w.original; correction = w.correction; done = []; put = spans-none b 0; same = refl }

module _ {b o c buf : List ℕ} {at p last q tag : ℕ} (y : length (result_bytes o c) ≤ length b) (w : Putting b o c buf at p last q tag) where
  -- there is room for what comes first of what is left
  room : (xs ys : List ℕ) → left o p last c q tag ≡ xs ++ ys → at + length xs ≤ length buf
  room xs ys e =
      omega
      (arith, y, ap length w.same, length-append w.done (left o p last c q tag), ap length e, length-append xs ys, w.put.reach, spans-length w.put)

  module _ {t : Turn} (x : Turned o p last c q tag t) where
    pub put_first : at + length (moved o p last t.low tag) ≤ length buf
    put_first = room (moved o p last t.low tag) _ x.bytes

    module _ {n : ℕ} {d : List ℕ} (e : Spans buf at n (moved o p last t.low tag) d) where
      pub put_second : n + length (moved c q tag t.group t.out) ≤ length d
      put_second =
          let a = moved o p last t.low tag in
          let g = moved c q tag t.group t.out in
          let r = left o t.next t.last c t.group t.tag in
          omega (arith, room (a ++ g) r (x.bytes ∙ sym (append_assoc a g r)), length-append a g, e.reach, spans-length e)

      pub put-more : {m : ℕ} {f : List ℕ} → Spans d n m (moved c q tag t.group t.out) f → Putting b o c f m t.next t.last t.group t.tag
      put-more {m} {f} z =
          let a = moved o p last t.low tag in
          let g = moved c q tag t.group t.out in
          let r = left o t.next t.last c t.group t.tag in
          record {
            original = x.original;
            correction = x.correction;
            done = w.done ++ (a ++ g);
            put = spans-behind w.put (spans-behind e z);
            same = w.same ∙ ap (λ (l : List ℕ). w.done ++ l) (x.bytes ∙ sym (append_assoc a g r)) ∙ sym (append_assoc w.done (a ++ g) r);
          }

  module _ (h : Bytes o) (l : length c ≤ q) where
    pub put_last : at + length (moved o p last (length o) tag) ≤ length buf
    put_last = room (moved o p last (length o) tag) [] (left_end o p last h w.original c q tag l ∙ sym (append-nil (moved o p last (length o) tag)))

    pub put-done : {n : ℕ} {d : List ℕ} → Spans buf at n (moved o p last (length o) tag) d → Spans b 0 n (result_bytes o c) d
    put-done {n} {d} e =
        rw (w.same ∙ ap (λ (z : List ℕ). w.done ++ z) (left_end o p last h w.original c q tag l)) (spans-behind w.put e)
