-- The loops of packing: where each stands, and what a turn does.
use Prim.Native.Nat.{ℕ, zero, suc, ◌+◌, ◌-◌, ◌*◌, ◌≤◌, ◌<◌}
use mathlib.Core.Path.{◌≡◌, refl, ap, ◌∙◌, sym}
use mathlib.Core.Bool.{Bool, true, false}
use mathlib.Core.List.{List}
use mathlib.Core.Logic.{◌⊎◌, inl, inr}
use native.Mathlib.Omega.{arith}
use native.Mathlib.Numerals.{add-one}
use lib.Dec.{eqb}
use lib.ListN.{length, take, drop, length-set, length-drop}
use lib.Seq.{sets, length-sets, length-take-le}
use Rattle.std.specs.List.{copy_within}
use Rattle.std.specs.Prelude.{None}
use Rattle.std.proofs.lemmas.List.Edits.{sets-eq}
use Rattle.wire.specs.Limits.{record_words}
use Rattle.wire.specs.Table.{room}
use Rattle.write_record.specs.Taken.{record_in}
use Rattle.wire.specs.declared.Record.{Record}
use Rattle.edit_live.specs.Spans.{found, span_in, nearer, next_live}
use Rattle.edit_live.specs.SpanLaws.{found-nowhere, span-inside, Held, is_held, Least, Nothing, next-case}
use Rattle.edit_live.specs.declared.Span.{Span}
use Rattle.edit_pack.specs.Packing.{amended, pack_from, empty_at, cleared, cleared_of, packed}
use Rattle.edit_pack.specs.Fence.{first_between, Fenced, First, first-is, first-yes, next-fenced, fence-on, fence-more}
use Rattle.edit_pack.specs.Amending.{amend-span, amend-spans}
use Rattle.edit_pack.specs.PackTable.{pack-turn, pack-stop, empty-other, empty-length, empty-row}

-- ---- moving down

-- std's `copy_within` of n elements to a place before them, as a put
pub moved-down : (s : List ℕ) (from end to n : ℕ) → end ≡ from + n → to ≤ from → end ≤ length s → copy_within s from end to ≡ sets s to (take n (drop from s))
moved-down s from end to n d h g =
    let k : end - from ≡ n = omega arith in
    let e : length (take n (drop from s)) ≡ n = length-take-le n (drop from s) (omega (arith, length-drop from s)) in
    rw k (sym (sets-eq (take n (drop from s)) s to (omega (arith, e)) ∙ rw e))

-- ---- the next by index between two places: no record from `at` up to i is

pub record Passing (f : ℕ → Span) (c from fence at i : ℕ) : Type 0 where
  pub same : first_between (c - at) f from fence at ≡ first_between (c - i) f from fence i

pub pass-start : (f : ℕ → Span) (c from fence at : ℕ) → Passing f c from fence at at
pass-start f c from fence at = record { same = refl }

module _ {f : ℕ → Span} {c from fence at i : ℕ} (w : Passing f c from fence at i) where
  pub pass-done : c ≤ i → i ≡ first_between (c - at) f from fence at
  pass-done h = let e : c - i ≡ 0 = omega arith in sym (w.same ∙ rw e)

  pub pass-none : c ≤ i → None ≡ found c (first_between (c - at) f from fence at)
  pass-none h = found-nowhere c (omega (arith, pass-done h))

  module _ (h : i < c) {s : Span} (d : s ≡ f i) {b : Bool} (q : b ≡ nearer s from fence) where
    one : c - i ≡ suc (c - (i + 1))
    one = omega arith

    is : b ≡ nearer (f i) from fence
    is = q ∙ ap (λ (x : Span). nearer x from fence) d

    pub pass-here : b ≡ true → i ≡ first_between (c - at) f from fence at
    pass-here z = let l : nearer (f i) from fence ≡ true = sym is ∙ z in sym (w.same ∙ rw (one, l))

    pub pass-more : b ≡ false → Passing f c from fence at (i + 1)
    pass-more z =
        let l : nearer (f i) from fence ≡ false = sym is ∙ z in
        record { same = w.same ∙ rw (one, l, add-one i) }

-- ---- those with no bytes: the first i are cleared

module _ (t : List ℕ) (k i : ℕ) {r : Record} (e : r ≡ record_in t i) (o : i ≡ k → ⊥) where
  pub empty-told : r.kind ≡ 1 → eqb r.length 0 ≡ empty_at t k i
  empty-told h =
      ap (λ (x : Record). eqb x.length 0) e ∙ sym (empty-length t k i o (ap (λ (x : Record). x.kind) (sym e) ∙ h))

  pub empty-not : (r.kind ≡ 1 → ⊥) → false ≡ empty_at t k i
  empty-not h = sym (empty-other t k i o (λ z. h (ap (λ (x : Record). x.kind) e ∙ z)))

pub clear-length : (i k : ℕ) (t : List ℕ) → length (cleared i k t) ≡ length t
clear-length zero k t = refl
clear-length (suc i) k t = go (clear-length i k t) (empty_at (cleared i k t) k i) refl
  where
    go : length (cleared i k t) ≡ length t → (b : Bool) → empty_at (cleared i k t) k i ≡ b → length (cleared (suc i) k t) ≡ length t
    go ih true b = rw b (length-set (cleared i k t) (record_words * i + 2) 0 ∙ ih)
    go ih false b = rw b ih

-- one that is cleared lies in the table
pub clear-row : (u : List ℕ) (k i : ℕ) {b : Bool} → b ≡ empty_at u k i → b ≡ true → i < room u
clear-row u k i e z = empty-row u k i (sym e ∙ z)

-- ---- packing: what is left to pack is what was to be packed

pub record Turning (c k : ℕ) (s₀ t₀ s t : List ℕ) (from to next fence : ℕ) : Type 0 where
  pub fuel : ℕ
  pub enough : length s₀ - from ≤ fuel
  pub size : length s ≡ length s₀
  pub words : length t ≡ length t₀
  pub low : to ≤ from
  pub high : from ≤ length s₀
  pub same : pack_from (length s₀) c k s₀ t₀ 0 0 ≡ pack_from fuel c k s t from to
  pub is : next ≡ next_live (length s₀) c (span_in (length s₀) t k) from
  pub fenced : Fenced c (span_in (length s₀) t k) from next fence

-- the next by index is the next in order of place
pub next-found : (n : ℕ) (t : List ℕ) (k c from at fence : ℕ) {j : ℕ} → at ≤ c → Fenced c (span_in n t k) from at fence
    → j ≡ first_between (c - at) (span_in n t k) from fence at → j < c
    → (j ≡ next_live n c (span_in n t k) from) × Fenced c (span_in n t k) from j fence
next-found n t k c from at fence {j} h w e g =
    let f = span_in n t k in
    let i = first_between (c - at) f from fence at in
    let x : First f from fence at j = rw e (first-is (c - at) f from fence at) in
    let y : nearer (f j) from fence ≡ true = rw e (first-yes (c - at) f from fence at (omega (arith, e))) in
    (next-fenced n w (λ m l. span-inside n t k m) x g y, fence-on n w (λ m l. span-inside n t k m) x g y)

pub turn-start : (c k : ℕ) (s t : List ℕ) {next fence : ℕ} → next ≡ next_live (length s) c (span_in (length s) t k) 0
    → Fenced c (span_in (length s) t k) 0 next fence → Turning c k s t s t 0 0 next fence
turn-start c k s t d e =
    record {
      fuel = length s;
      enough = omega arith;
      size = refl;
      words = refl;
      low = omega arith;
      high = omega arith;
      same = refl;
      is = d;
      fenced = e;
    }

module _ {c k : ℕ} {s₀ t₀ s t : List ℕ} {from to next fence : ℕ} (w : Turning c k s₀ t₀ s t from to next fence) where
  abbrev f : ℕ → Span
  f = span_in (length s₀) t k

  nearest : ((next_live (length s₀) c (span_in (length s₀) t k) from ≡ c) × Nothing c (span_in (length s₀) t k) from)
      ⊎ Least c (span_in (length s₀) t k) from (next_live (length s₀) c (span_in (length s₀) t k) from)
  nearest = next-case (length s₀) c (span_in (length s₀) t k) from (λ i g. span-inside (length s₀) t k i)

  -- at the end: the room and the table are as packing leaves them, but for what is cleared
  pub turn-done : c ≤ next → {v : List ℕ} → v ≡ cleared c k t → record { total = to; room = s; table = v } ≡ packed c k s₀ t₀
  unfolding packed
  turn-done h {v} e =
      let n : c ≤ next_live (length s) c (span_in (length s) t k) from = rw w.size (omega (arith, w.is)) in
      ap (λ (l : List ℕ). record { total = to; room = s; table = l }) e
      ∙ sym (ap (cleared_of c k) (w.same ∙ pack-stop c k s t from to w.fuel n))

  module _ (h : next < c) {a : Span} (e : a ≡ span_in (length s₀) t k next) where
    pub least : Least c (span_in (length s₀) t k) from next
    least = go nearest
      where
        go : ((next_live (length s₀) c (span_in (length s₀) t k) from ≡ c) × Nothing c (span_in (length s₀) t k) from)
            ⊎ Least c (span_in (length s₀) t k) from (next_live (length s₀) c (span_in (length s₀) t k) from)
            → Least c (span_in (length s₀) t k) from next
        go (inl x) = absurd (omega (arith, w.is, x.0))
        go (inr x) = rw w.is x

    bytes : a.len ≡ (f next).len
    bytes = ap (λ (x : Span). x.len) e

    starts : a.start ≡ (f next).start
    starts = ap (λ (x : Span). x.start) e

    pub held : Held (length s₀) t k next
    held = is_held (length s₀) t k next least.bytes

    -- nothing goes out of range
    pub turn_low : to ≤ a.start
    turn_low = omega (arith, starts, least.behind, w.low)

    pub turn_inside : a.start + a.len ≤ length s
    turn_inside = omega (arith, starts, bytes, w.size, span-inside (length s₀) t k next)

    pub turn_up : from < a.start + a.len
    turn_up = omega (arith, starts, bytes, least.behind, least.bytes)

    pub turn-fenced : {v : List ℕ} → v ≡ amended t next to → Fenced c (span_in (length s₀) v k) (a.start + a.len) next fence
    turn-fenced {v} d =
        let q = amend-span t next to (length s₀) k held (omega (arith, w.low, least.behind, span-inside (length s₀) t k next)) in
        rw (d, e) (fence-more w.fenced least (span_in (length s₀) (amended t next to) k) q w.low (λ i g o. amend-spans t next to (length s₀) k i o))

    pub turn_more : {u v : List ℕ} {p q n l : ℕ} → u ≡ sets s to (take a.len (drop a.start s)) → v ≡ amended t next to → p ≡ a.start + a.len
        → q ≡ to + a.len → n ≡ next_live (length s₀) c (span_in (length s₀) v k) p → Fenced c (span_in (length s₀) v k) p n l
        → Turning c k s₀ t₀ u v p q n l
    turn_more {u} {v} {p} {q} {n} {l} x y z m g b =
        record {
          fuel = w.fuel - 1;
          enough = omega (arith, turn_up, w.enough, z);
          size = ap length x ∙ length-sets s to (take a.len (drop a.start s)) ∙ w.size;
          words = ap length y ∙ length-set t (record_words * next + 2) to ∙ w.words;
          low = omega (arith, turn_low);
          high = omega (arith, z, turn_inside, w.size);
          same = w.same ∙ turned;
          is = g;
          fenced = b;
        }
      where
        full : w.fuel ≡ suc (w.fuel - 1)
        full = omega (arith, turn_up, turn_inside, w.enough, w.size)

        turned : pack_from w.fuel c k s t from to ≡ pack_from (w.fuel - 1) c k u v p q
        turned =
            let i : next_live (length s) c (span_in (length s) t k) from ≡ next = rw w.size (sym w.is) in
            let j : next_live (length s) c (span_in (length s) t k) from < c = omega (arith, i) in
            ap (λ (l : ℕ). pack_from l c k s t from to) full
            ∙ pack-turn c k s t from to (w.fuel - 1) j
            ∙ rw (i, w.size, ← e, x, y, z, m)
