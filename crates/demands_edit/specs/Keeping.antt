-- New bytes laid into a working copy (rules H4 and H5): every other record shows what it showed, and none overlaps another or the new bytes.
use Rattle.std.specs.Prelude.{ℕ, zero, suc, ◌+◌, ◌-◌, ◌≤◌, ◌<◌, ◌≡◌, Bool, List, ◌⊎◌, eqb, take, drop}
use Rattle.std.proofs.Math.Path.{refl}
use Rattle.std.proofs.Common.{ap, ◌∙◌, sym, inl, inr, arith, leb-true, le-leb, eqb-true, eq-eqb}
use Rattle.std.proofs.Math.Bool.{true, false}
use Rattle.std.proofs.lemmas.Bool.{eqb-false}
use Rattle.std.proofs.Math.Dec.{leb}
use Rattle.std.proofs.Math.ListN.{length}
use Rattle.std.proofs.lemmas.List.Edits.{sets}
use Rattle.std.proofs.Math.Seq.{length-sets}
use Rattle.wire.specs.Written.{Content, Payload}
use Rattle.wire.specs.Places.{shown, item_of}
use Rattle.wire.specs.Table.{room, record_at, value_of, field_in, good_head, good_value, good}
use Rattle.write_record.specs.RecordLaws.{good-sound}
use Rattle.write_record.specs.Taken.{record_in, record-there}
use Rattle.place.specs.Place.{put-roomy}
use Rattle.edit_live.specs.Spans.{end, no_span, span_of, span_in, last_end, total}
use Rattle.edit_live.specs.SpanLaws.{same_or_not, Live, span-live, span-other, span-empty, span-there, span-skip, Apart, end-most, span-inside}
use Rattle.edit_live.specs.declared.Span.{Span}
use Rattle.edit_pack.specs.Packing.{bytes_of, Packed, packed, before}
use Rattle.edit_pack.specs.Sums.{before-apart}
use Rattle.edit_pack.specs.Stretches.{put-there, put-below}
use Rattle.edit_pack.specs.Amending.{with_value}
use Rattle.edit_pack.specs.PackTable.{Packs, Neat, neat, empty-skip, empty-other, empty-length}
use Rattle.edit.specs.Edits.{Laid, laid}
use Rattle.wire.specs.declared.Record.{Record}
use Rattle.demands_edit.specs.Copies.{Copy, copy-rows, rows-there}

-- ---- WHAT A RECORD SHOWS

-- no payload: whatever the room holds
shown-other : (k v l : ℕ) (s u : List ℕ) → (k ≡ 1 → ⊥) → shown u (value_of k v l) ≡ shown s (value_of k v l)
shown-other zero v l s u o = refl
shown-other (suc zero) v l s u o = absurd (o refl)
shown-other (suc (suc zero)) v l s u o = refl
shown-other (suc (suc (suc k))) v l s u o = refl

shown-payload : (k v w l : ℕ) (s u : List ℕ) → k ≡ 1 → take l (drop w u) ≡ take l (drop v s) → shown u (value_of k w l) ≡ shown s (value_of k v l)
shown-payload k v w l s u e h = rw e (ap Payload h)

module _ (s u : List ℕ) (r : Record) where
  pub item-other : (r.kind ≡ 1 → ⊥) → item_of u (field_in r) ≡ item_of s (field_in r)
  item-other o = ap (λ (x : Content). record { tag = r.tag; content = x }) (shown-other r.kind r.value r.length s u o)

  pub item-payload : (v : ℕ) → r.kind ≡ 1 → take r.length (drop v u) ≡ take r.length (drop r.value s)
      → item_of u (field_in (with_value r v)) ≡ item_of s (field_in r)
  item-payload v e h = ap (λ (x : Content). record { tag = r.tag; content = x }) (shown-payload r.kind r.value v r.length s u e h)

-- a payload at another place is as good, if it is inside
pub good-moved : (n : ℕ) (r : Record) (v : ℕ) → good n r ≡ true → r.kind ≡ 1 → v + r.length ≤ n → good n (with_value r v) ≡ true
unfolding good good_value
good-moved n r v g e h = go (good_head n r.tag r.key) refl
  where
    go : (b : Bool) → good_head n r.tag r.key ≡ b → good n (with_value r v) ≡ true
    go true b = rw (b, e, le-leb (v + r.length) n h)
    go false b = let z : false ≡ true = rw b at g in absurd (let y : ◌≡◌ {A = ℕ} 0 1 = cc in omega arith)

-- a good record is no payload, or an empty one, or a live one
pub data Kinds (n : ℕ) (r : Record) : Type 0 where
  other : (r.kind ≡ 1 → ⊥) → Kinds n r
  empty : r.kind ≡ 1 → r.length ≡ 0 → Kinds n r
  live : Live n r → Kinds n r

pub kinds-of : (n : ℕ) (r : Record) → good n r ≡ true → Kinds n r
kinds-of n r g = go (eqb r.kind 1) refl (eqb r.length 0) refl
  where
    go : (a : Bool) → eqb r.kind 1 ≡ a → (b : Bool) → eqb r.length 0 ≡ b → Kinds n r
    go false a b q = other (eqb-false r.kind 1 a)
    go true a true b = empty (eqb-true r.kind 1 a) (eqb-true r.length 0 b)
    go true a false b =
        let k = eqb-true r.kind 1 a in
        let o = eqb-false r.length 0 b in
        let i = (good-sound n r g).payload k in
        live (record { payload = k; bytes = omega arith; inside = i; span = span-live n r k o i })

-- ---- A RECORD STAYS: r over the room s as q over the room u, with no byte from a place on

pub record Stays (n : ℕ) (s u : List ℕ) (r q : Record) (low : ℕ) : Type 0 where
  pub words : q ≡ with_value r q.value
  pub fine : good n q ≡ true
  pub under : end (span_of n q) ≤ low
  pub item : item_of u (field_in q) ≡ item_of s (field_in r)

-- bytes put from that place on do not show in it
pub stays_put : {n : ℕ} {s u : List ℕ} {r q : Record} {low : ℕ} (b : List ℕ) → n ≡ length u → low + length b ≤ length u
    → Stays n s u r q low → Stays n s (sets u low b) r q low
stays_put {n} {s} {u} {r} {q} {low} b e h w =
    record { words = w.words; fine = w.fine; under = w.under; item = same (kinds-of n q w.fine) ∙ w.item }
  where
    same : Kinds n q → item_of (sets u low b) (field_in q) ≡ item_of u (field_in q)
    same (other o) = item-other u (sets u low b) q o
    same (empty k l) = item-payload u (sets u low b) q q.value k (rw l)
    same (live x) =
        let y : end (span_of n q) ≡ q.value + q.length = ap end x.span in
        item-payload u (sets u low b) q q.value x.payload (put-below u low b h q.value q.length (omega (arith, w.under)))

-- ---- ALL BUT RECORD k STAY

pub record Over (s t : List ℕ) (c k : ℕ) (u v : List ℕ) (low : ℕ) : Type 0 where
  pub size : length u ≡ length s
  pub rows : room v ≡ room t
  pub inside : low ≤ length s
  pub stays : (i : ℕ) → i < c → (i ≡ k → ⊥) → Stays (length s) s u (record_at t i) (record_at v i) low
  pub apart : (i j : ℕ) → i < j → j < c → (i ≡ k → ⊥) → (j ≡ k → ⊥) → Apart (span_of (length s) (record_at v i)) (span_of (length s) (record_at v j))
  pub self : k < c → record_at v k ≡ record_at t k

module _ {s t : List ℕ} {c : ℕ} (w : Copy s t c) (k : ℕ) where
  abbrev n : ℕ
  n = length s

  abbrev f : ℕ → Span
  f = span_in (length s) t k

  at : (i : ℕ) → i < c → record_in t i ≡ record_at t i
  at i h = record-there t i (omega (arith, rows-there w))

  f-at : (i : ℕ) → i < c → (i ≡ k → ⊥) → f i ≡ span_of (length s) (record_at t i)
  f-at i h o = span-there (length s) t k i o ∙ ap (span_of (length s)) (at i h)

  -- all spans, record k left out, are apart
  pub skip-apart : (i j : ℕ) → i < j → j < c → Apart (span_in (length s) t k i) (span_in (length s) t k j)
  skip-apart i j h g = go (same_or_not i k) (same_or_not j k)
    where
      go : (i ≡ k) ⊎ (i ≡ k → ⊥) → (j ≡ k) ⊎ (j ≡ k → ⊥) → Apart (span_in (length s) t k i) (span_in (length s) t k j)
      go (inl e) q = rw (span-skip (length s) t k i e) (inl (omega arith))
      go (inr o) (inl e) = rw (span-skip (length s) t k j e) (inr (omega arith))
      go (inr o) (inr p) = rw (f-at i (omega arith) o, f-at j g p) ((copy-rows w).apart i j h g)

  -- as they are, up to the last end
  last-inside : (i : ℕ) → i ≤ c → last_end i f ≤ length s
  last-inside zero h = omega arith
  last-inside (suc i) h = omega (arith, last-inside i (omega arith), span-inside (length s) t k i)

  pub as-they-are : Over s t c k s t (last_end c (span_in (length s) t k))
  as-they-are =
      record {
        size = refl;
        rows = refl;
        inside = last-inside c (omega arith);
        stays = λ i h o.
            record {
              words = refl;
              fine = (copy-rows w).fine i h;
              under = omega (arith, ap end (f-at i h o), end-most c f i h);
              item = refl;
            };
        apart = λ i j h g o p. (copy-rows w).apart i j h g;
        self = λ h. refl;
      }

  -- ---- packed
  abbrev p : Packed
  p = packed c k s t

  y : Neat c k s t (packed c k s t)
  y = neat c k s t skip-apart

  at_new : (i : ℕ) → i < c → record_in p.table i ≡ record_at p.table i
  at_new i h = record-there p.table i (omega (arith, rows-there w, y.rows))

  module _ (i : ℕ) (h : i < c) (o : i ≡ k → ⊥) where
    abbrev r : Record
    r = record_at t i

    -- a record that is no payload is as it was
    kept-other : (r.kind ≡ 1 → ⊥) → record_at p.table i ≡ r
    kept-other z =
        let a : (record_in t i).kind ≡ 1 → ⊥ = λ e. z (ap (λ (x : Record). x.kind) (sym (at i h)) ∙ e) in
        let l : (f i).len ≡ 0 = ap (λ (x : Span). x.len) (f-at i h o ∙ span-other (length s) r z) in
        sym (at_new i h) ∙ y.others i (inr (l, empty-other t k i o a)) ∙ at i h

    -- an empty one starts at 0
    kept-empty : r.kind ≡ 1 → r.length ≡ 0 → record_at p.table i ≡ with_value r 0
    kept-empty z l =
        let a : (record_in t i).kind ≡ 1 = ap (λ (x : Record). x.kind) (at i h) ∙ z in
        let b : (record_in t i).length ≡ 0 = ap (λ (x : Record). x.length) (at i h) ∙ l in
        sym (at_new i h) ∙ y.empty i h (empty-length t k i o a ∙ eq-eqb (record_in t i).length 0 b) ∙ ap (λ (x : Record). with_value x 0) (at i h)

    -- a live one starts behind the bytes of all that started before it
    span-of : Live (length s) r → f i ≡ record { start = r.value; len = r.length }
    span-of x = f-at i h o ∙ x.span

    is-packed : Live (length s) r → Packs c k s t p i
    is-packed x = y.live i h (let z = ap (λ (q : Span). q.len) (span-of x) in omega (arith, x.bytes))

    abbrev new : ℕ
    new = before c (span_in (length s) t k) (span_in (length s) t k i).start

    kept-live : Live (length s) r → record_at p.table i ≡ with_value r new
    kept-live x = sym (at_new i h) ∙ (is-packed x).row ∙ ap (λ (z : Record). with_value z new) (at i h)

    new-inside : Live (length s) r → new + r.length ≤ p.total
    new-inside x = let z = ap (λ (q : Span). q.len) (span-of x) in omega (arith, (is-packed x).inside)

    new-bytes : (x : Live (length s) r) → take r.length (drop new p.room) ≡ take r.length (drop r.value s)
    new-bytes x =
        let z : (f i).len ≡ r.length = ap (λ (q : Span). q.len) (span-of x) in
        ap (λ (m : ℕ). take m (drop new p.room)) (sym z) ∙ (is-packed x).bytes ∙ ap (λ (q : Span). bytes_of s q) (span-of x)

    new-span : (x : Live (length s) r) → span_of (length s) (record_at p.table i) ≡ record { start = new; len = r.length }
    new-span x =
        ap (span_of (length s)) (kept-live x)
        ∙ span-live (length s) (with_value r new) x.payload (λ e. omega (arith, x.bytes)) (omega (arith, new-inside x, y.low))

    stays-packed : Kinds (length s) r → Stays (length s) s p.room r (record_at p.table i) p.total
    stays-packed (other z) =
        rw (kept-other z)
        (record {
          words = refl;
          fine = (copy-rows w).fine i h;
          under = rw (span-other (length s) r z) (omega arith);
          item = item-other s p.room r z;
        })
    stays-packed (empty z l) =
        rw (kept-empty z l)
        (record {
          words = refl;
          fine = good-moved (length s) r 0 ((copy-rows w).fine i h) z (omega arith);
          under = rw (span-empty (length s) (with_value r 0) z l) (omega arith);
          item = item-payload s p.room r 0 z (rw l);
        })
    stays-packed (live x) =
        let e = ap end (new-span x) in
        record {
          words = kept-live x ∙ ap (with_value r) (sym (ap (λ (q : Record). q.value) (kept-live x)));
          fine = rw (kept-live x) (good-moved (length s) r new ((copy-rows w).fine i h) x.payload (omega (arith, new-inside x, y.low)));
          under = omega (arith, new-inside x);
          item = ap (λ (q : Record). item_of p.room (field_in q)) (kept-live x) ∙ item-payload s p.room r new x.payload (new-bytes x);
        }

    no_span_lem : (r.kind ≡ 1 → ⊥) ⊎ ((r.kind ≡ 1) × (r.length ≡ 0)) → span_of (length s) (record_at p.table i) ≡ no_span
    no_span_lem (inl z) = rw (kept-other z) (span-other (length s) r z)
    no_span_lem (inr z) = rw (kept-empty z.0 z.1) (span-empty (length s) (with_value r 0) z.0 z.1)

  packed-apart : (i j : ℕ) → i < j → j < c → (i ≡ k → ⊥) → (j ≡ k → ⊥)
      → Apart (span_of (length s) (record_at p.table i)) (span_of (length s) (record_at p.table j))
  packed-apart i j h g o q =
      go (kinds-of (length s) (record_at t i) ((copy-rows w).fine i (omega arith))) (kinds-of (length s) (record_at t j) ((copy-rows w).fine j g))
    where
      l : i < c
      l = omega arith

      go : Kinds (length s) (record_at t i) → Kinds (length s) (record_at t j)
          → Apart (span_of (length s) (record_at p.table i)) (span_of (length s) (record_at p.table j))
      go (other z) x = rw (no_span_lem i l o (inl z)) (inl (omega arith))
      go (empty z e) x = rw (no_span_lem i l o (inr (z, e))) (inl (omega arith))
      go (live z) (other x) = rw (no_span_lem j g q (inl x)) (inr (omega arith))
      go (live z) (empty x e) = rw (no_span_lem j g q (inr (x, e))) (inr (omega arith))
      go (live z) (live x) =
          let a : (f i).len ≡ (record_at t i).length = ap (λ (m : Span). m.len) (span-of i l o z) in
          let b : (f j).len ≡ (record_at t j).length = ap (λ (m : Span). m.len) (span-of j g q x) in
          let d = before-apart c f skip-apart i j l g (omega (arith, z.bytes)) (omega (arith, x.bytes)) (skip-apart i j h g) in
          rw (new-span i l o z, new-span j g q x, ← a, ← b) d

  pub as-packed : Over s t c k (packed c k s t).room (packed c k s t).table (packed c k s t).total
  as-packed =
      record {
        size = y.size;
        rows = y.rows;
        inside = y.low;
        stays = λ i h o. stays-packed i h o (kinds-of (length s) (record_at t i) ((copy-rows w).fine i h));
        apart = packed-apart;
        self = λ h.
            let l : (f k).len ≡ 0 = ap (λ (m : Span). m.len) (span-skip (length s) t k k refl) in
            sym (at_new k h) ∙ y.others k (inr (l, empty-skip t k k refl)) ∙ at k h;
      }

  -- ---- LAID

  pub record Lays (b : List ℕ) (l : Laid) : Type 0 where
    pub over : Over s t c k l.room l.table l.start
    pub fits : l.start + length b ≤ length s
    pub there : take (length b) (drop l.start l.room) ≡ b

  put-over : (u v : List ℕ) (low : ℕ) (b : List ℕ) → Over s t c k u v low → low + length b ≤ length s → Over s t c k (sets u low b) v low
  put-over u v low b x h =
      record {
        size = length-sets u low b ∙ x.size;
        rows = x.rows;
        inside = x.inside;
        stays = λ i g o. stays_put b (sym x.size) (omega (arith, x.size)) (x.stays i g o);
        apart = x.apart;
        self = x.self;
      }

  lay : (u v : List ℕ) (low : ℕ) (b : List ℕ) → Over s t c k u v low → low + length b ≤ length s
      → Lays b (record { start = low; room = sets u low b; table = v })
  lay u v low b x h =
      record { over = put-over u v low b x h; fits = h; there = put-there u low b (omega (arith, x.size)) }

  pub laid-over : (b : List ℕ) → length b ≤ length s - total c (span_in (length s) t k) → Lays b (laid c k s t b)
  unfolding laid
  laid-over b h = go (leb (last_end c (span_in (length s) t k) + length b) (length s)) refl
    where
      go : (a : Bool) → leb (last_end c (span_in (length s) t k) + length b) (length s) ≡ a → Lays b (laid c k s t b)
      go true a = rw a (lay s t (last_end c (span_in (length s) t k)) b as-they-are (leb-true (last_end c (span_in (length s) t k) + length b) (length s) a))
      go false a =
          let q : p.total + length b ≤ length s = omega (arith, y.whole, y.low) in
          rw (a, put-roomy p.room p.total b (omega (arith, y.size))) (lay p.room p.table p.total b as-packed q)
